-- How long what is stored is, as `Kept` in the code asks. Assumes nothing.
use Rattle.std.specs.Prelude.{◌≡◌, ℕ, zero, suc, ◌/◌, length, refl}
use Rattle.std.proofs.Common.{ap}
use Rattle.stored.specs.State.{digits}

pub length_digits : (k n : ℕ) → length (digits k n) ≡ k
unfolding digits
length_digits zero n = refl
length_digits (suc k) n = ap suc (length_digits k (n / 256))
