-- `lines::read_pipeline` meets its contract. Assumes nothing.
use Rattle.std.proofs.Common.{◌+◌, ◌≤◌, length}
use Rattle.lines.proofs.Counting.{Taken}
use Rattle.lines.proofs.read_pipeline.Given as goal

abbrev pub invariant-loop-end : goal.invariant-loop-end
invariant-loop-end l = Taken l.line l.stages l.rest × (l.stages + length l.rest ≤ length l.line)

abbrev pub decreases-loop-end : goal.decreases-loop-end
decreases-loop-end l = length l.rest
