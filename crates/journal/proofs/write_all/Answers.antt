-- `journal::write_all` meets its contract: the size is compared before a byte is written. Assumes nothing.
use Rattle.std.proofs.Common.{ap, ◌∙◌, arith}
use Rattle.journal.specs.Answers.{answers}
use Rattle.journal.proofs.Writer.{all_refused, all_fit}
use Rattle.journal.proofs.write_all.Goals as goal

pub returns-then-out-numbers_len-clause-answer : goal.returns-then-out-numbers_len-clause-answer
returns-then-out-numbers_len-clause-answer c = (all_refused _ c.args.out.now (omega (arith, c.numbers_len.ensures))).0

pub returns-then-out-numbers_len-clause-buffer : goal.returns-then-out-numbers_len-clause-buffer
returns-then-out-numbers_len-clause-buffer c = (all_refused _ c.args.out.now (omega (arith, c.numbers_len.ensures))).1

pub returns-clause-answer : goal.returns-clause-answer
returns-clause-answer c =
    ap answers c.write_numbers.ensures.count ∙ all_fit _ _ (omega (arith, c.numbers_len.ensures, c.if-out-numbers_len.false))
