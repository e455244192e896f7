-- `passes::pass` meets its contract. Assumes nothing.
use lib.ListN.{length}
use Rattle.passes.specs.Least.{Passed, Before}
use Rattle.passes.specs.Listing.{start_at, end_at}
use Rattle.passes.proofs.pass.Given as goal

abbrev pub invariant-loop-e : goal.invariant-loop-e
invariant-loop-e l = Passed (length l.fn.edges) (start_at l.fn.edges) (end_at l.fn.edges) l.initial.figures l.figures (Before l.e-index) l.grew
