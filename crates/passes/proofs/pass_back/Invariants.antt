-- `passes::pass_back` meets its contract. Assumes nothing.
use mathlib.Core.Path.{◌≡◌}
use mathlib.Core.List.{List, ◌++◌}
use lib.ListN.{length}
use Rattle.passes.specs.declared.edge.Edge.{Edge}
use Rattle.passes.specs.Least.{Passed, Behind}
use Rattle.passes.specs.Listing.{start_at, end_at}
use Rattle.passes.proofs.pass_back.Given as goal

abbrev pub invariant-loop-e : goal.invariant-loop-e
invariant-loop-e l = record {
  done : List Edge;
  whole : l.fn.edges ≡ l.left ++ done;
  passed : Passed (length l.fn.edges) (start_at l.fn.edges) (end_at l.fn.edges) l.initial.figures l.figures (Behind (length l.fn.edges) (length l.left)) l.moved;
}

abbrev pub decreases-loop-e : goal.decreases-loop-e
decreases-loop-e l = length l.left
