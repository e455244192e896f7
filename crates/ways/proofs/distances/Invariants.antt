-- `ways::distances` meets its contract. Assumes nothing.
use Rattle.passes.specs.Listing.{start_at, end_at}
use Rattle.ways.specs.Near.{Falls, sum}
use Rattle.ways.proofs.distances.Given as goal

abbrev pub invariant-loop : goal.invariant-loop
invariant-loop l = Falls (start_at l.fn.arcs) (end_at l.fn.arcs) l.initial.dist l.dist

abbrev pub decreases-loop : goal.decreases-loop
decreases-loop l = sum l.dist
