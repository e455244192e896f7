-- `tables::slots::seat_of` meets its contract. Assumes nothing.
use Rattle.tables.proofs.Seating.{seated_here, seated_free}
use Rattle.tables.proofs.slots.seat_of.Goals as goal

pub returns-then-at-lt-OBJECT_NUMBERS : goal.returns-then-at-lt-OBJECT_NUMBERS
returns-then-at-lt-OBJECT_NUMBERS c = seated_here _ _ _ _ _ c.slot_of-at.ensures c.if-at-lt-OBJECT_NUMBERS.true

pub returns : goal.returns
returns c = seated_free _ _ _ _ _ _ c.slot_of-at.ensures c.if-at-lt-OBJECT_NUMBERS.false c.free_slot.ensures
