-- `labels::is_at_most` meets its contract. Assumes nothing.
use Rattle.std.proofs.Common.{sym, ◌∙◌, arith, eq-eqb, rules}
use Rattle.std.proofs.lemmas.Bool.{lt-leb}
use Rattle.labels.specs.Codes.Laws.{below_digits, below_no, below_set}
use Rattle.labels.proofs.is_at_most.Goals as goal

pub returns-then-a-b : goal.returns-then-a-b
returns-then-a-b c = eq-eqb _ _ c.if-a-b.true ∙ sym (below_digits _ _ c.if-a-b.true)

pub returns-then-a-b-2 : goal.returns-then-a-b-2
returns-then-a-b-2 c = rw (below_set c.args.a c.args.b c.if-a-b-2.true) (search rules)

pub returns-else-a-b-2 : goal.returns-else-a-b-2
returns-else-a-b-2 c = lt-leb _ _ (omega arith) ∙ sym (below_no _ _ (omega arith))
