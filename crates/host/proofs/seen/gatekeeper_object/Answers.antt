-- `host::seen::gatekeeper_object` meets its contract. Assumes nothing.
use Rattle.std.proofs.Common.{◌∙◌, arith}
use Rattle.model.specs.Flow.{object}
use Rattle.stored.specs.State.{state_view}
use Rattle.host.specs.Numbers.{seen_entry}
use Rattle.host.proofs.Sizing.{array_sized, sized_by}
use Rattle.host.proofs.Seeing.{object_free, object_file, object_pipe}
use Rattle.host.proofs.seen.gatekeeper_object.Goals as goal

pub returns-in-0 : goal.returns-in-0
returns-in-0 c =
    let k = c.in-Some.ensures.cases in
    let l = c.slots_in.ensures in
    sized_by (λ u. seen_entry ((state_view u).at (object c.args.o))) 0 k (object_free _ (array_sized k) c.args.o _ l.objects l.numbers c.slot_of.ensures c.object_of-y.ensures c.in-0.is)

pub returns-in-1 : goal.returns-in-1
returns-in-1 c =
    let k = c.in-Some.ensures.cases in
    let l = c.slots_in.ensures in
    sized_by (λ u. seen_entry ((state_view u).at (object c.args.o))) 0 k
    (c.packed.ensures ∙ object_file _ (array_sized k) c.args.o _ l.objects l.numbers c.slot_of.ensures c.object_of-y.ensures c.in-1.is)

pub returns-in_default-kind : goal.returns-in_default-kind
returns-in_default-kind c =
    let k = c.in-Some.ensures.cases in
    let l = c.slots_in.ensures in
    sized_by (λ u. seen_entry ((state_view u).at (object c.args.o))) 0 k
    (c.packed-in_default-kind.ensures ∙ object_pipe _ (array_sized k) c.args.o _ l.objects l.numbers c.slot_of.ensures c.object_of-y.ensures (omega arith) (omega arith))
