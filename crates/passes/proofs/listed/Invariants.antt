-- `passes::listed` meets its contract. Assumes nothing.
use Rattle.passes.specs.Listing.{Listed}
use Rattle.passes.proofs.listed.Given as goal

abbrev pub invariant-loop-i : goal.invariant-loop-i
invariant-loop-i l = Listed l.fn.leads l.fn.handles l.edges.items l.i
