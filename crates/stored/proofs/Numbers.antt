-- The bytes of a number as std has them are those that State says. Assumes nothing.
use Rattle.std.specs.Prelude.{◌≡◌, List, ℕ, zero, suc, ◌/◌, ◌%◌, ◌*◌, ◌^◌, ◌∷◌, length, refl}
use Rattle.std.proofs.Common.{sym, ap, ap₂, ◌∙◌, arith}
use Rattle.std.proofs.Math.Nat.{div-div-eq-div-mul, pow-suc}
use Rattle.std.specs.Int.{w16, w64, to_le_bytes, from_le_bytes, bytes_low_first, byte_at}
use Rattle.stored.specs.State.{whole, digits}
use Rattle.stored.proofs.Loading.{bytes_at, bytes_taken}
use lib.Seq.{take_all}

same_bytes : (k : ℕ) (bs : List ℕ) → length bs ≡ k → bytes_at k 0 bs ≡ bs
same_bytes k bs l = sym (bytes_taken k 0 bs (omega arith)) ∙ take_all k bs (omega arith)

pub whole_2 : (bs : List ℕ) → length bs ≡ 2 → from_le_bytes w16 bs ≡ whole bs
unfolding whole
whole_2 bs l = omega (arith, ap whole (same_bytes 2 bs l))

pub whole_8 : (bs : List ℕ) → length bs ≡ 8 → from_le_bytes w64 bs ≡ whole bs
unfolding whole
whole_8 bs l = omega (arith, ap whole (same_bytes 8 bs l))

over_next : (n i : ℕ) → n / 256 ^ suc i ≡ n / 256 ^ i / 256
over_next n i = let e : 256 ^ suc i ≡ 256 ^ i * 256 = pow-suc 256 i in ap (λ k. n / k) e ∙ sym (div-div-eq-div-mul n (256 ^ i) 256)

byte_is : (i n : ℕ) → byte_at i n ≡ n / 256 ^ i % 256
byte_is zero n = omega arith
byte_is (suc i) n = refl

from_low : (i k n : ℕ) → bytes_low_first i k n ≡ digits k (n / 256 ^ i)
unfolding digits
from_low i zero n = refl
from_low i (suc k) n = ap₂ (λ b t. b ∷ t) (byte_is i n) (from_low (suc i) k n ∙ ap (digits k) (over_next n i))

pub digits_2 : (n : ℕ) → to_le_bytes w16 n ≡ digits 2 n
digits_2 n = from_low 0 2 n ∙ ap (digits 2) (omega arith)

pub digits_8 : (n : ℕ) → to_le_bytes w64 n ≡ digits 8 n
digits_8 n = from_low 0 8 n ∙ ap (digits 8) (omega arith)
