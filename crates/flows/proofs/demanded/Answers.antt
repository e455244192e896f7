-- `flows::demanded` meets its contract. Assumes nothing.
use borrow.Author.Tests.{eq-eqb, ne_eqb}
use Rattle.labels.specs.Codes.Laws.{coded_zero}
use Rattle.flows.proofs.demanded.Goals as goal

pub returns-then-x-eq-FILE : goal.returns-then-x-eq-FILE
returns-then-x-eq-FILE c = rw (eq-eqb _ _ c.if-x-eq-FILE.true) c.object_label.ensures

pub returns : goal.returns
returns c = rw (ne_eqb _ _ c.if-x-eq-FILE.false) coded_zero
