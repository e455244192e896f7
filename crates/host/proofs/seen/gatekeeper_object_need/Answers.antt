-- `host::seen::gatekeeper_object_need` meets its contract. Assumes nothing.
use Rattle.std.proofs.Common.{◌∙◌, ◌<◌, refl, inl, inr, subst₂, List, ℕ, arith}
use Rattle.tables.specs.declared.Object.{Object}
use Rattle.tables.specs.Slots.{Found}
use Rattle.gatekeeper.proofs.Telling.{told_need}
use Rattle.stored.specs.State.{monitor_of, needs_of}
use Rattle.host.proofs.Sizing.{array_sized}
use Rattle.host.proofs.Seeing.{need_seen, objects_long, state_wf, object_kept, object_right}
use Rattle.host.proofs.seen.gatekeeper_object_need.Goals as goal

pub returns-then-i-ge-OBJECT_NUMBERS : goal.returns-then-i-ge-OBJECT_NUMBERS
returns-then-i-ge-OBJECT_NUMBERS c =
    let k = c.in-Some.ensures.cases in
    let t = c.in-Some.state.now in
    let size = array_sized k in
    let l = c.slots_in.ensures in
    let found = subst₂ (λ (os : List Object) (ns : List ℕ). Found os ns c.args.o c.slot_of-i.result) l.objects l.numbers c.slot_of-i.ensures in
    let told = told_need (monitor_of t) (objects_long t size) (state_wf t size) c.args.o c.slot_of-i.result 0 found (inr (c.if-i-ge-OBJECT_NUMBERS.true, refl)) in
    record {
      kept = object_kept k told.0 refl;
      right = λ h. object_right k 0 _ (λ r. told.1 r);
    }

pub returns : goal.returns
unfolding needs_of
returns c =
    let k = c.in-Some.ensures.cases in
    let t = c.in-Some.state.now in
    let size = array_sized k in
    let l = c.slots_in.ensures in
    let n = c.one_in.result in
    let small : n < 65536 = omega arith in
    let found = subst₂ (λ (os : List Object) (ns : List ℕ). Found os ns c.args.o c.slot_of-i.result) l.objects l.numbers c.slot_of-i.ensures in
    let told = told_need (monitor_of t) (objects_long t size) (state_wf t size) c.args.o c.slot_of-i.result n found (inl (c.if-i-ge-OBJECT_NUMBERS.false, c.one_in.ensures 0)) in
    record {
      kept = object_kept k told.0 c.number_of.ensures;
      right = λ h. object_right k _ _ (λ r. need_seen n _ small c.number_of.ensures ∙ told.1 r);
    }
