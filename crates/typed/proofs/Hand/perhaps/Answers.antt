-- `typed::Hand::perhaps` meets its contract. Assumes nothing.
use Rattle.typed.specs.Working.Laws.{works_none}
use Rattle.typed.proofs.Hand.perhaps.Goals as goal

pub returns-in-None : goal.returns-in-None
returns-in-None c = rw c.in-None.is (works_none c.args.self)
