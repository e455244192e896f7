-- `number::number_len` meets its contract: the first group is one byte more than the rest takes. Assumes nothing.
use Rattle.std.proofs.Common.{◌≡◌, ℕ, ◌+◌, ◌/◌, ◌≤◌, length, sym, ap, arith}
use Rattle.number.specs.Leb.{encode}
use Rattle.number.specs.Leb.Laws.{encode_one, encode_more, encode_bytes}
use Rattle.number.proofs.+number_len.Goals as goal

-- one byte more than the rest takes
longer : (n k : ℕ) → 128 ≤ n → k ≡ length (encode (n / 128)) → k + 1 ≡ length (encode n)
longer n k h e = omega (arith, e, ap length (encode_more n h))

pub overflow_add-result : goal.overflow_add-result
overflow_add-result t c =
    let whole = longer c.args.n c.number_len.result c.if-n-lt128.false c.number_len.ensures in
    omega (arith, whole, encode_bytes c.args.n (omega arith))

pub returns-then-n-lt128 : goal.returns-then-n-lt128
returns-then-n-lt128 t c = sym (ap length (encode_one c.args.n c.if-n-lt128.true))

pub returns-else-n-lt128 : goal.returns-else-n-lt128
returns-else-n-lt128 t c = longer c.args.n c.number_len.result c.if-n-lt128.false c.number_len.ensures
