-- `keeping::is_spare` meets its contract. Assumes nothing.
use borrow.Author.Tests.{eq-eqb, ne_eqb, lt-ltb, le-ltb}
use Rattle.keeping.proofs.Closing.{spare_coded}
use Rattle.keeping.proofs.is_spare.Goals as goal

pub returns-then-lower : goal.returns-then-lower
returns-then-lower c = rw (spare_coded c.args.end c.args.source c.args.own, eq-eqb _ _ c.if-within.true, lt-ltb _ _ c.if-lower.true)

pub returns-else-lower : goal.returns-else-lower
returns-else-lower c = rw (spare_coded c.args.end c.args.source c.args.own, eq-eqb _ _ c.if-within.true, le-ltb _ _ c.if-lower.false)

pub returns-else-within : goal.returns-else-within
returns-else-within c = rw (spare_coded c.args.end c.args.source c.args.own, ne_eqb _ _ c.if-within.false)
