-- `host::seen::slots_in` meets its contract. Assumes nothing.
use Rattle.std.proofs.Common.{ap₂, ◌∙◌}
use Rattle.tables.specs.Slots.{single}
use Rattle.stored.specs.State.{objects_at, numbers_at, objects_of, numbers_of}
use Rattle.stored.proofs.Loading.{in_part}
use Rattle.host.proofs.seen.slots_in.Goals as goal

pub returns-clause-objects : goal.returns-clause-objects
unfolding objects_of numbers_of
returns-clause-objects c =
    let s = c.args.state.now in
    c.single.ensures ∙ ap₂ single (c.load_part-objects.ensures ∙ in_part _ _ _ objects_at 2481 s c.told-state) (c.load_part-numbers.ensures ∙ in_part _ _ _ numbers_at 544 s c.told-state)

pub returns-clause-numbers : goal.returns-clause-numbers
unfolding numbers_of
returns-clause-numbers c = c.load_part-numbers.ensures ∙ in_part _ _ _ numbers_at 544 c.args.state.now c.told-state
