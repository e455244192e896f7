-- `host::seen::gatekeeper_object_from` meets its contract. Assumes nothing.
use Rattle.std.proofs.Common.{subst₂, List, ℕ}
use Rattle.model.specs.Lists.{from_on}
use Rattle.tables.specs.declared.Object.{Object}
use Rattle.tables.specs.Slots.{First}
use Rattle.gatekeeper.proofs.Telling.{told_from}
use Rattle.stored.specs.State.{monitor_of, state_view}
use Rattle.host.proofs.Sizing.{array_sized, sized_by}
use Rattle.host.proofs.Seeing.{objects_long}
use Rattle.host.proofs.seen.gatekeeper_object_from.Goals as goal

pub returns : goal.returns
returns c =
    let k = c.in-Some.ensures.cases in
    let t = c.in-Some.state.now in
    let o = c.args.o in
    let l = c.slots_in.ensures in
    sized_by (λ u. from_on o (state_view u).numbers) 0 k (told_from (monitor_of t) (objects_long t (array_sized k)) o c.from_on.result
    (subst₂ (λ (os : List Object) (ns : List ℕ). First os ns o c.from_on.result) l.objects l.numbers c.from_on.ensures))
