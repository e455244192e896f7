-- `stored::store_part` meets its contract. Assumes nothing.
use Rattle.stored.proofs.Storing.{Laid}
use Rattle.stored.proofs.store_part.Given as goal

abbrev pub invariant-loop-i : goal.invariant-loop-i
invariant-loop-i g l = Laid g.T.Kept.to g.row.W 0 g.row.N l.x-items l.initial.to l.to l.i
