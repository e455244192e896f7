-- `gatekeeper::Monitor::righted` meets its contract. Assumes nothing.
use mathlib.Core.Path.{◌≡◌, refl, subst}
use mathlib.Core.List.{List}
use Rattle.model.specs.Tables.{Tables, empty, with_freeze, with_numbers, with_kin, clean}
use Rattle.model.specs.Invariant.{Wf}
use Rattle.tables.specs.declared.Object.{Object}
use Rattle.tables.specs.Records.{tables_of}
use Rattle.tables.specs.Needs.{Needed}
use Rattle.groups.specs.Groups.{kin_of}
use Rattle.gatekeeper.specs.View.{used_slots, once}
use Rattle.gatekeeper.proofs.Owned.{owned_long}
use Rattle.gatekeeper.proofs.Numbered.{once_long}
use Rattle.gatekeeper.proofs.Keeping.{read_wf, right_anew}
use Rattle.gatekeeper.proofs.Monitor.righted.Goals as goal

pub returns : goal.returns
returns c =
    let m = c.args.self in
    let g = owned_long m c.well_formed.0 in
    let o = c.single-single.ensures in
    record {
      same = refl;
      right = right_anew (once m) (read_wf (once m) (once_long m g))
          c.cleaned-counted.result c.figures-needs.result
          (subst (λ (os : List Object). tables_of (with_kin (with_numbers (with_freeze empty m.freeze) (used_slots os)) (kin_of m.subjects m.groups)) m.subjects os c.cleaned-counted.result ≡ clean (tables_of (with_kin (with_numbers (with_freeze empty m.freeze) (used_slots os)) (kin_of m.subjects m.groups)) m.subjects os m.handles)) o
          (c.cleaned-counted.ensures (with_kin (with_numbers (with_freeze empty m.freeze) (used_slots c.single-single.result)) (kin_of m.subjects m.groups))))
          (subst (λ (os : List Object). (rest : Tables) → rest.kin ≡ kin_of m.subjects m.groups → Wf (tables_of rest m.subjects os c.cleaned-counted.result) → Needed (tables_of rest m.subjects os c.cleaned-counted.result) c.figures-needs.result) o c.figures-needs.ensures);
    }
