-- `ways::nearer` meets its contract. Assumes nothing.
use Rattle.passes.specs.Listing.{start_at, end_at}
use Rattle.ways.specs.Near.{Neared}
use Rattle.ways.proofs.nearer.Given as goal

abbrev pub invariant-loop-e : goal.invariant-loop-e
invariant-loop-e l = Neared (start_at l.fn.arcs) (end_at l.fn.arcs) l.initial.dist l.dist l.e-index l.fell
