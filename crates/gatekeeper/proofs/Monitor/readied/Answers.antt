-- `gatekeeper::Monitor::readied` meets its contract. Assumes nothing.
use mathlib.Core.Path.{refl, sym, ◌∙◌, ap}
use mathlib.Core.List.{List}
use Rattle.model.specs.Tables.{empty, with_freeze, with_numbers, with_kin, clean}
use Rattle.model.proofs.Invariant.Laws.{clean_same}
use Rattle.tables.specs.declared.Object.{Object}
use Rattle.tables.specs.Records.{tables_of}
use Rattle.gatekeeper.specs.declared.Monitor.{Monitor}
use Rattle.groups.specs.Groups.{kin_of}
use Rattle.gatekeeper.specs.View.{used_slots, slots}
use Rattle.gatekeeper.proofs.Owned.{owned_long}
use Rattle.gatekeeper.proofs.Numbered.{single_same, once_same}
use Rattle.gatekeeper.proofs.Monitor.readied.Goals as goal

pub returns-then-self-eq-SURE : goal.returns-then-self-eq-SURE
returns-then-self-eq-SURE c =
    let m = c.args.self in
    let g = owned_long m c.well_formed.0 in record {
      tables = λ h. let x = h c.if-self-eq-SURE.true in sym (ap (λ (n : Monitor). clean (slots n)) (once_same m g.objects x.0) ∙ clean_same (slots m) x.1);
      needs = refl;
      sure = refl;
      numbers = refl;
      objects = λ h. sym (single_same m g.objects (h c.if-self-eq-SURE.true).0);
    }

pub returns : goal.returns
returns c =
    let m = c.args.self in
    let o = c.single-single.ensures in record {
      tables = λ h. c.cleaned-kept.ensures (with_kin (with_numbers (with_freeze empty m.freeze) (used_slots c.single-single.result)) (kin_of m.subjects m.groups))
          ∙ ap (λ (os : List Object). clean (tables_of (with_kin (with_numbers (with_freeze empty m.freeze) (used_slots os)) (kin_of m.subjects m.groups)) m.subjects os m.handles)) o;
      needs = refl;
      sure = refl;
      numbers = refl;
      objects = λ h. o;
    }
