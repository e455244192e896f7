-- `lines::verdict` meets its contract. Assumes nothing.
use Rattle.lines.proofs.Judging.{judged_long, judged_short}
use Rattle.lines.proofs.verdict.Goals as goal

pub returns-then-long : goal.returns-then-long
returns-then-long c = let w = rw c.in-None.is at c.in-Some.ensures.read in judged_long _ _ _ c.loop-stages.invariant _ w.0 w.2 w.1 c.if-long.true

pub returns : goal.returns
returns c = let w = rw c.in-None.is at c.in-Some.ensures.read in judged_short _ _ _ c.loop-stages.invariant _ w.0 w.2 w.1 c.if-long.false
