-- `text::write_line` meets its contract. The four parts of the line are written one after the other: a number, a number, the letter, the last fields.
-- Assumes nothing.
use Rattle.std.proofs.Common.{◌≤◌, [], ◌∷◌, length, arith}
use Rattle.text.specs.Reply.{space, field, last_fields, line, longest_line}
use Rattle.text.specs.Reply.Laws.{line_length, line_bytes}
use Rattle.text.proofs.Writer.{fit, copied, four_written, no_room, all_written}
use Rattle.text.proofs.write_line.Goals as goal

-- ---- where it does not fit

pub returns-then-out-size-clause-answer : goal.returns-then-out-size-clause-answer
returns-then-out-size-clause-answer c =
    let a = c.args in
    (no_room (line a.position a.code a.letter a.value a.lost) a.out.now longest_line (line_bytes a.position a.code a.letter a.value a.lost (omega arith) (omega arith) (omega arith) (omega arith))
    (omega (arith, line_length a.position a.code a.letter a.value a.lost, c.decimal_len.ensures.count, c.decimal_len-2.ensures.count, c.last_len.ensures.count, c.if-out-size.true))).0

pub returns-then-out-size-clause-buffer : goal.returns-then-out-size-clause-buffer
returns-then-out-size-clause-buffer c =
    let a = c.args in
    (no_room (line a.position a.code a.letter a.value a.lost) a.out.now longest_line (line_bytes a.position a.code a.letter a.value a.lost (omega arith) (omega arith) (omega arith) (omega arith))
    (omega (arith, line_length a.position a.code a.letter a.value a.lost, c.decimal_len.ensures.count, c.decimal_len-2.ensures.count, c.last_len.ensures.count, c.if-out-size.true))).1.0

pub returns-then-out-size-clause-short : goal.returns-then-out-size-clause-short
returns-then-out-size-clause-short c =
    let a = c.args in
    line_bytes a.position a.code a.letter a.value a.lost (omega arith) (omega arith) (omega arith) (omega arith)

-- ---- where it does

pub returns-clause-answer : goal.returns-clause-answer
unfolding line
returns-clause-answer c =
    let a = c.args in
    let room : length (line a.position a.code a.letter a.value a.lost) ≤ length a.out.now = omega (arith, line_length a.position a.code a.letter a.value a.lost, c.decimal_len.ensures.count, c.decimal_len-2.ensures.count, c.last_len.ensures.count, c.if-out-size.false) in
    let parts = fit (field a.position space) (field a.code space) (a.letter ∷ space ∷ []) (last_fields a.letter a.value a.lost) a.out.now room in
    let all =
    four_written parts c.write_field-at.ensures.count c.write_field-at.ensures.buffer
    c.write_field.ensures.count c.write_field.ensures.buffer
    c.copy.ensures.count (copied _ _ _ c.copy.ensures.buffer c.copy.auto.to)
    c.write_last.ensures.count c.write_last.ensures.buffer in
    (all_written (line a.position a.code a.letter a.value a.lost) a.out.now longest_line (line_bytes a.position a.code a.letter a.value a.lost (omega arith) (omega arith) (omega arith) (omega arith)) _ _ all).0

pub returns-clause-buffer : goal.returns-clause-buffer
unfolding line
returns-clause-buffer c =
    let a = c.args in
    let room : length (line a.position a.code a.letter a.value a.lost) ≤ length a.out.now = omega (arith, line_length a.position a.code a.letter a.value a.lost, c.decimal_len.ensures.count, c.decimal_len-2.ensures.count, c.last_len.ensures.count, c.if-out-size.false) in
    let parts = fit (field a.position space) (field a.code space) (a.letter ∷ space ∷ []) (last_fields a.letter a.value a.lost) a.out.now room in
    let all =
    four_written parts c.write_field-at.ensures.count c.write_field-at.ensures.buffer
    c.write_field.ensures.count c.write_field.ensures.buffer
    c.copy.ensures.count (copied _ _ _ c.copy.ensures.buffer c.copy.auto.to)
    c.write_last.ensures.count c.write_last.ensures.buffer in
    (all_written (line a.position a.code a.letter a.value a.lost) a.out.now longest_line (line_bytes a.position a.code a.letter a.value a.lost (omega arith) (omega arith) (omega arith) (omega arith)) _ _ all).1.0

pub returns-clause-short : goal.returns-clause-short
returns-clause-short c =
    let a = c.args in
    line_bytes a.position a.code a.letter a.value a.lost (omega arith) (omega arith) (omega arith) (omega arith)
