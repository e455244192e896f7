-- `number::write_number` meets its contract: each way through it is a law of `Writer`. Assumes nothing.
use Rattle.std.proofs.Common.{◌+◌, ◌/◌, ◌%◌, ◌∙◌, arith}
use Rattle.number.specs.Leb.{encode}
use Rattle.number.specs.Leb.Laws.{encode_one, encode_more, encode_some}
use Rattle.number.proofs.Writer.{no_room, one_byte, Lent, lent_none, lent_fits, lent_wrote}
use Rattle.number.proofs.+write_number.Goals as goal

pub returns-then-out-eq0-clause-answer : goal.returns-then-out-eq0-clause-answer
returns-then-out-eq0-clause-answer t c = (no_room (encode c.args.n) c.args.out.now (omega (arith, encode_some c.args.n))).0

pub returns-then-out-eq0-clause-buffer : goal.returns-then-out-eq0-clause-buffer
returns-then-out-eq0-clause-buffer t c = (no_room (encode c.args.n) c.args.out.now (omega (arith, encode_some c.args.n))).1

pub returns-then-n-lt128-clause-answer : goal.returns-then-n-lt128-clause-answer
returns-then-n-lt128-clause-answer t c =
    rw (encode_one c.args.n c.if-n-lt128.true) ((one_byte c.args.n c.args.out.now (omega arith)).0)

pub returns-then-n-lt128-clause-buffer : goal.returns-then-n-lt128-clause-buffer
returns-then-n-lt128-clause-buffer t c =
    rw (encode_one c.args.n c.if-n-lt128.true) ((one_byte c.args.n c.args.out.now (omega arith)).1)

pub returns-clause-buffer : goal.returns-clause-buffer
returns-clause-buffer t c =
    let l : Lent (encode (c.args.n / 128)) c.args.out.now c.write_number.new.out = record { full = omega arith; wrote = c.write_number.ensures.buffer } in
    rw (encode_more c.args.n c.if-n-lt128.false) ((lent_wrote l _ c.in_ok-rest.ensures.answer (c.args.n % 128 + 128)).1)

pub returns-clause-answer : goal.returns-clause-answer
returns-clause-answer t c =
    let l : Lent (encode (c.args.n / 128)) c.args.out.now c.write_number.new.out = record { full = omega arith; wrote = c.write_number.ensures.buffer } in
    rw (encode_more c.args.n c.if-n-lt128.false) ((lent_wrote l _ c.in_ok-rest.ensures.answer (c.args.n % 128 + 128)).0)

pub returns-in_err-rest-clause-answer : goal.returns-in_err-rest-clause-answer
returns-in_err-rest-clause-answer t c =
    let l : Lent (encode (c.args.n / 128)) c.args.out.now c.write_number.new.out = record { full = omega arith; wrote = c.write_number.ensures.buffer } in
    rw (encode_more c.args.n c.if-n-lt128.false) (c.from_residual.ensures ∙ (lent_none l c.in_err-rest.ensures.answer (c.args.n % 128 + 128)).0)

pub returns-in_err-rest-clause-buffer : goal.returns-in_err-rest-clause-buffer
returns-in_err-rest-clause-buffer t c =
    let l : Lent (encode (c.args.n / 128)) c.args.out.now c.write_number.new.out = record { full = omega arith; wrote = c.write_number.ensures.buffer } in
    rw (encode_more c.args.n c.if-n-lt128.false) ((lent_none l c.in_err-rest.ensures.answer (c.args.n % 128 + 128)).1)

pub overflow_add-result : goal.overflow_add-result
overflow_add-result t c =
    let l : Lent (encode (c.args.n / 128)) c.args.out.now c.write_number.new.out = record { full = omega arith; wrote = c.write_number.ensures.buffer } in
    omega (arith, lent_fits l _ c.in_ok-rest.ensures.answer, c.well_formed)
