-- `text::decimal_len` meets its contract: the digits of a number by the last one. Assumes nothing.
use Rattle.std.proofs.Common.{◌≡◌, ℕ, ◌+◌, ◌/◌, ◌≤◌, length, sym, ap, ◌∙◌, arith}
use Rattle.text.specs.Decimal.{decimal, most_digits}
use Rattle.text.specs.Decimal.Laws.{decimal_one, length_more, decimal_length}
use Rattle.text.proofs.+decimal_len.Goals as goal

-- one digit more than the rest has
longer : (n k : ℕ) → 10 ≤ n → k ≡ length (decimal (n / 10)) → k + 1 ≡ length (decimal n)
longer n k h e = ap (λ (j : ℕ). j + 1) e ∙ sym (length_more n h)

pub returns-then-n-ge10-clause-count : goal.returns-then-n-ge10-clause-count
returns-then-n-ge10-clause-count t c = longer c.args.n _ c.if-n-ge10.true c.decimal_len.ensures.count

pub returns-then-n-ge10-clause-few : goal.returns-then-n-ge10-clause-few
returns-then-n-ge10-clause-few t c =
    let whole = longer c.args.n _ c.if-n-ge10.true c.decimal_len.ensures.count in
    omega (arith, whole, decimal_length most_digits c.args.n (omega arith) (omega arith))

pub returns-else-n-ge10-clause-count : goal.returns-else-n-ge10-clause-count
returns-else-n-ge10-clause-count t c = sym (ap length (decimal_one c.args.n c.if-n-ge10.false))
