-- `ways::step` meets its contract. Assumes nothing.
use Rattle.passes.specs.Listing.{start_at, end_at}
use Rattle.ways.specs.Near.{figure, NoneBelow}
use Rattle.ways.proofs.step.Given as goal

abbrev pub invariant-loop-i : goal.invariant-loop-i
invariant-loop-i l = NoneBelow (start_at l.fn.arcs) (end_at l.fn.arcs) (figure l.fn.dist) l.fn.a l.i
