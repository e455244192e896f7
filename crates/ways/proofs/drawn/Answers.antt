-- `ways::drawn` meets its contract. Assumes nothing.
use native.Mathlib.Omega.{arith}
use Rattle.ways.proofs.Drawing.{one_drawn}
use Rattle.ways.proofs.drawn.Goals as goal

pub loop-i-preserved : goal.loop-i-preserved
loop-i-preserved c = one_drawn _ _ _ _ _ c.loop-i.invariant c.loop-i-test.true (grind arith) (grind arith)
