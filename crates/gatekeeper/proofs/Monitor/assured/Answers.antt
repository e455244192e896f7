-- `gatekeeper::Monitor::assured` meets its contract. Assumes nothing.
use mathlib.Core.Path.{◌≡◌, sym, subst}
use mathlib.Core.Bool.{not}
use mathlib.Core.List.{List}
use Rattle.model.specs.Tables.{Tables, empty, with_freeze, with_numbers, with_kin, clean, safe}
use Rattle.model.specs.Invariant.{Wf}
use Rattle.model.specs.Figures.{Ready}
use Rattle.tables.specs.declared.Object.{Object}
use Rattle.tables.specs.declared.Handle.{Handle}
use Rattle.tables.specs.Records.{tables_of}
use Rattle.tables.specs.Needs.{figure_of, Needed}
use Rattle.groups.specs.Groups.{kin_of}
use Rattle.gatekeeper.specs.View.{used_slots, once, Assured}
use Rattle.gatekeeper.proofs.Owned.{owned_long}
use Rattle.gatekeeper.proofs.Numbered.{once_long}
use Rattle.gatekeeper.proofs.Keeping.{read_wf, right_anew, short_anew}
use Rattle.gatekeeper.proofs.Telling.{assured_is}
use Rattle.gatekeeper.proofs.Monitor.assured.Goals as goal

pub returns : goal.returns
returns c =
    let m = c.args.self in
    let g = owned_long m c.well_formed.0 in
    let w = read_wf (once m) (once_long m g) in
    let o = c.single-single.ensures in
    let hs = c.cleaned-emptied.result in
    let ns = c.figures-needs.result in
    let q = subst (λ (os : List Object). tables_of (with_kin (with_numbers (with_freeze empty m.freeze) (used_slots os)) (kin_of m.subjects m.groups)) m.subjects os hs
    ≡ clean (tables_of (with_kin (with_numbers (with_freeze empty m.freeze) (used_slots os)) (kin_of m.subjects m.groups)) m.subjects os m.handles)) o
    (c.cleaned-emptied.ensures (with_kin (with_numbers (with_freeze empty m.freeze) (used_slots c.single-single.result)) (kin_of m.subjects m.groups))) in
    let r = right_anew (once m) w hs ns q
    (subst (λ (os : List Object). (rest : Tables) → rest.kin ≡ kin_of m.subjects m.groups → Wf (tables_of rest m.subjects os hs) → Needed (tables_of rest m.subjects os hs) ns) o c.figures-needs.ensures) in
    let t = short_anew (once m) w hs ns c.is_short-short.result q r
    (subst (λ (os : List Object). (rest : Tables) (l : List Handle) → Wf (tables_of rest m.subjects os l) → Ready (tables_of rest m.subjects os l) (figure_of ns)
    → c.is_short-short.result ≡ not (safe (tables_of rest m.subjects os l))) o c.is_short-short.ensures) in
    subst (λ (os : List Object). Assured m (record { numbers = m.numbers; subjects = m.subjects; objects = os; handles = hs; freeze = m.freeze; needs = ns; groups = m.groups; sure = c.earned.result })) (sym o)
    (assured_is m g.objects w hs ns c.is_short-short.result c.earned.result q r t c.earned.ensures)
