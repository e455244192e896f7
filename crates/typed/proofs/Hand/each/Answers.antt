-- `typed::Hand::each` meets its contract. Assumes nothing.
use Rattle.std.proofs.Common.{arith}
use Rattle.typed.specs.Working.Laws.{works_none, works_more}
use Rattle.typed.proofs.Hand.each.Goals as goal

pub loop-i-init : goal.loop-i-init
loop-i-init g c = λ f w. works_none c.args.self

pub loop-i-preserved : goal.loop-i-preserved
loop-i-preserved g c = λ f w. works_more f (c.loop-i.invariant f w) (w _ _ _ (omega arith) c.make-h.ensures)
