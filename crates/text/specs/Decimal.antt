-- A number in decimal, as the lines of the reply have it (RULES P11): its digits as ASCII bytes, the
-- highest first, with no zero in front; 0 is one digit. The laws are in Decimal/Laws. Assumes nothing.
use Rattle.std.specs.Prelude.{ℕ, zero, suc, ◌+◌, ◌/◌, ◌%◌, cond, List, [], ◌∷◌, ◌++◌, ltb}
pub mod Laws

-- the byte of a digit: 48 is '0'
abbrev pub digit : ℕ → List ℕ
digit d = (d + 48) ∷ []

-- the last digit after those of the rest. The fuel bounds how many digits stand before the last.
unfoldable pub digits : ℕ → ℕ → List ℕ
digits zero n = digit n
digits (suc fuel) n =
    let longer = digits fuel (n / 10) ++ digit (n % 10) in
    cond (ltb n 10) (digit n) longer

-- the digits of n, which has no more of them than its value, or one
unfoldable pub decimal : ℕ → List ℕ
decimal n = digits n n

-- a number of 64 bits has at most 20
abbrev pub most_digits : ℕ
most_digits = 20
