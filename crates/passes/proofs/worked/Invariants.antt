-- `passes::worked` meets its contract. Assumes nothing.
use Prim.Native.Nat.{◌-◌}
use lib.ListN.{length}
use Rattle.passes.specs.Least.{Between, sum}
use Rattle.passes.specs.Listing.{start_at, end_at}
use Rattle.passes.proofs.worked.Given as goal

abbrev pub invariant-loop-target : goal.invariant-loop-target
invariant-loop-target l = Between (length l.fn.edges) (start_at l.fn.edges) (end_at l.fn.edges) l.initial.figures l.figures

abbrev pub decreases-loop-target : goal.decreases-loop-target
decreases-loop-target l = 6291360 - sum l.figures
