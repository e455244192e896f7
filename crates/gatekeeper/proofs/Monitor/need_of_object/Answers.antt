-- `gatekeeper::Monitor::need_of_object` meets its contract. Assumes nothing.
use mathlib.Core.Path.{refl, subst}
use mathlib.Core.Logic.{inl, inr}
use mathlib.Core.List.{List}
use native.Mathlib.Omega.{arith}
use Rattle.tables.specs.declared.Object.{Object}
use Rattle.tables.specs.Slots.{Found}
use Rattle.gatekeeper.specs.View.{once}
use Rattle.gatekeeper.proofs.Owned.{owned_long}
use Rattle.gatekeeper.proofs.Numbered.{once_long}
use Rattle.gatekeeper.proofs.Keeping.{read_wf}
use Rattle.gatekeeper.proofs.Telling.{told_need}
use Rattle.gatekeeper.proofs.Monitor.need_of_object.Goals as goal

pub returns-then-i-ge-OBJECT_NUMBERS : goal.returns-then-i-ge-OBJECT_NUMBERS
returns-then-i-ge-OBJECT_NUMBERS c =
    let m = c.args.self in
    let g = owned_long m c.well_formed.0 in
    let f = subst (λ (l : List Object). Found l m.numbers c.args.o c.slot_of-i.result) c.single-single.ensures c.slot_of-i.ensures in
    let z = told_need m g.objects (read_wf (once m) (once_long m g))
    c.args.o c.slot_of-i.result 0 f (inr (omega (arith, c.if-i-ge-OBJECT_NUMBERS.true), refl)) in
    record { kept = z.0; right = z.1 }

pub returns : goal.returns
returns c =
    let m = c.args.self in
    let g = owned_long m c.well_formed.0 in
    let f = subst (λ (l : List Object). Found l m.numbers c.args.o c.slot_of-i.result) c.single-single.ensures c.slot_of-i.ensures in
    let z = told_need m g.objects (read_wf (once m) (once_long m g))
    c.args.o c.slot_of-i.result c.need.result f (inl (omega (arith, c.if-i-ge-OBJECT_NUMBERS.false), c.need.ensures)) in
    record { kept = z.0; right = z.1 }
