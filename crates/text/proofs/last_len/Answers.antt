-- `text::last_len` meets its contract: one byte after the value's digits and, where the letter is L, one after those of the marks lost.
-- Assumes nothing.
use Rattle.std.proofs.Common.{[], ◌∷◌, length, ap, ◌∙◌, arith, length-append}
use Rattle.text.specs.Decimal.{decimal}
use Rattle.text.specs.Reply.{newline}
use Rattle.text.specs.Reply.Laws.{last_lowered, last_other, lowered_length}
use Rattle.text.proofs.last_len.Goals as goal

pub returns-then-letter-eq-LOWERED-clause-count : goal.returns-then-letter-eq-LOWERED-clause-count
returns-then-letter-eq-LOWERED-clause-count c =
    let a = c.args in
    let is = ap length (last_lowered a.letter a.value a.lost c.if-letter-eq-LOWERED.true) ∙ lowered_length a.value a.lost in
    omega (arith, is, c.decimal_len-size.ensures.count, c.decimal_len.ensures.count)

pub returns-else-letter-eq-LOWERED-clause-count : goal.returns-else-letter-eq-LOWERED-clause-count
returns-else-letter-eq-LOWERED-clause-count c =
    let a = c.args in
    let is =
    ap length (last_other a.letter a.value a.lost c.if-letter-eq-LOWERED.false) ∙ length-append (decimal a.value) (newline ∷ []) in
    omega (arith, is, c.decimal_len-size.ensures.count)
