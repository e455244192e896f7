-- `text::write_end` meets its contract. The four parts of the line are written one after the other: the word and three numbers.
-- Assumes nothing.
use Rattle.std.proofs.Common.{◌≤◌, length, arith}
use Rattle.text.specs.Reply.{space, newline, end_word, field, ending, longest_end}
use Rattle.text.specs.Reply.Laws.{ending_length, ending_bytes}
use Rattle.text.proofs.Writer.{fit, copied, four_written, no_room, all_written}
use Rattle.text.proofs.write_end.Goals as goal

-- ---- where it does not fit

pub returns-then-out-size-clause-answer : goal.returns-then-out-size-clause-answer
returns-then-out-size-clause-answer c =
    let a = c.args in
    (no_room (ending a.made a.gone a.held) a.out.now longest_end (ending_bytes a.made a.gone a.held (omega arith) (omega arith) (omega arith))
    (omega (arith, ending_length a.made a.gone a.held, c.decimal_len.ensures.count, c.decimal_len-2.ensures.count, c.decimal_len-3.ensures.count, c.if-out-size.true))).0

pub returns-then-out-size-clause-buffer : goal.returns-then-out-size-clause-buffer
returns-then-out-size-clause-buffer c =
    let a = c.args in
    (no_room (ending a.made a.gone a.held) a.out.now longest_end (ending_bytes a.made a.gone a.held (omega arith) (omega arith) (omega arith))
    (omega (arith, ending_length a.made a.gone a.held, c.decimal_len.ensures.count, c.decimal_len-2.ensures.count, c.decimal_len-3.ensures.count, c.if-out-size.true))).1.0

pub returns-then-out-size-clause-short : goal.returns-then-out-size-clause-short
returns-then-out-size-clause-short c =
    let a = c.args in
    ending_bytes a.made a.gone a.held (omega arith) (omega arith) (omega arith)

-- ---- where it does

pub returns-clause-buffer : goal.returns-clause-buffer
unfolding ending
returns-clause-buffer c =
    let a = c.args in
    let room : length (ending a.made a.gone a.held) ≤ length a.out.now = omega (arith, ending_length a.made a.gone a.held, c.decimal_len.ensures.count, c.decimal_len-2.ensures.count, c.decimal_len-3.ensures.count, c.if-out-size.false) in
    let parts = fit end_word (field a.made space) (field a.gone space) (field a.held newline) a.out.now room in
    let all =
    four_written parts c.copy-at.ensures.count (copied _ _ _ c.copy-at.ensures.buffer c.copy-at.auto.to)
    c.write_field.ensures.count c.write_field.ensures.buffer
    c.write_field-2.ensures.count c.write_field-2.ensures.buffer
    c.write_field-3.ensures.count c.write_field-3.ensures.buffer in
    (all_written (ending a.made a.gone a.held) a.out.now longest_end (ending_bytes a.made a.gone a.held (omega arith) (omega arith) (omega arith)) _ _ all).1.0

pub returns-clause-answer : goal.returns-clause-answer
unfolding ending
returns-clause-answer c =
    let a = c.args in
    let room : length (ending a.made a.gone a.held) ≤ length a.out.now = omega (arith, ending_length a.made a.gone a.held, c.decimal_len.ensures.count, c.decimal_len-2.ensures.count, c.decimal_len-3.ensures.count, c.if-out-size.false) in
    let parts = fit end_word (field a.made space) (field a.gone space) (field a.held newline) a.out.now room in
    let all =
    four_written parts c.copy-at.ensures.count (copied _ _ _ c.copy-at.ensures.buffer c.copy-at.auto.to)
    c.write_field.ensures.count c.write_field.ensures.buffer
    c.write_field-2.ensures.count c.write_field-2.ensures.buffer
    c.write_field-3.ensures.count c.write_field-3.ensures.buffer in
    (all_written (ending a.made a.gone a.held) a.out.now longest_end (ending_bytes a.made a.gone a.held (omega arith) (omega arith) (omega arith)) _ _ all).0

pub returns-clause-short : goal.returns-clause-short
returns-clause-short c =
    let a = c.args in
    ending_bytes a.made a.gone a.held (omega arith) (omega arith) (omega arith)
