-- Sets of marks as numbers (RULES T49): mark i is in the set where binary digit i is 1. The order, and how many marks one set has that another has not, as RULES T50 and C119
-- have it. Assumes nothing.
use Rattle.std.specs.Prelude.{Bool, ℕ, eqb}
use Rattle.std.specs.Int.Bits.{bit_and, bit_xor}
use Rattle.std.specs.Int.Count.{ones}
pub mod Laws

-- every mark of a is in b
abbrev pub within : ℕ → ℕ → Bool
within a b = eqb (bit_and a b) a

-- how many marks of a are not in b
abbrev pub lost : ℕ → ℕ → ℕ
lost a b = ones (bit_xor a (bit_and a b))
