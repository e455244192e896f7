-- `lines::verdict` meets its contract. Assumes nothing.
use Rattle.std.proofs.Common.{length}
use Rattle.lines.proofs.Judging.{Judged}
use Rattle.lines.proofs.verdict.Given as goal

abbrev pub invariant-loop-stages : goal.invariant-loop-stages
invariant-loop-stages l = Judged l.line l.long l.rest

abbrev pub decreases-loop-stages : goal.decreases-loop-stages
decreases-loop-stages l = length l.rest
