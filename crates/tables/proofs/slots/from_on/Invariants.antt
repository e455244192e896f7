-- `tables::slots::from_on` meets its contract. Assumes nothing.
use Rattle.tables.proofs.Seating.{Sought}
use Rattle.tables.proofs.slots.from_on.Given as goal

abbrev pub invariant-loop-i : goal.invariant-loop-i
invariant-loop-i l = Sought l.objects l.numbers l.o l.i l.nearest
