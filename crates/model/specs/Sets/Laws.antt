-- Sets as numbers are a distributive lattice: what `Label.Laws` needs of them. Assumes nothing.
use Rattle.std.specs.Prelude.{◌≡◌, ℕ, zero, ◌+◌, ◌*◌, ◌/◌, ◌%◌, ◌≤◌, ◌<◌, min, max, T, eqb}
use Rattle.std.proofs.Common.{sym, ap, ap₂, ◌∙◌, subst, le_trans, le_of_eq, mod-eq_of_lt, arith, eqb→eq}
use Rattle.std.proofs.Math.Arith.{bin_ind}
use Rattle.std.specs.Int.Bits.{bit_and, bit_or, bit_xor, and_step, or_step, and_self, and_zero_l}
use Rattle.std.proofs.lemmas.Nat.{and_comm, and_le_l, and_mask, xor_lt, ones-le}
use Rattle.std.proofs.Math.Dec.{eqb_refl}
use Rattle.model.specs.Sets.{within, lost}

-- the digits of a sum of digits
half : (q d : ℕ) → d ≤ 1 → (q * 2 + d) / 2 ≡ q
half q d h = omega arith

unit : (q d : ℕ) → d ≤ 1 → (q * 2 + d) % 2 ≡ d
unit q d h = omega arith

and_half : (a b : ℕ) → bit_and a b / 2 ≡ bit_and (a / 2) (b / 2)
and_half a b = omega (arith, and_step a b)

and_unit : (a b : ℕ) → bit_and a b % 2 ≡ min (a % 2) (b % 2)
and_unit a b = omega (arith, and_step a b)

or_half : (a b : ℕ) → bit_or a b / 2 ≡ bit_or (a / 2) (b / 2)
or_half a b = omega (arith, or_step a b)

or_unit : (a b : ℕ) → bit_or a b % 2 ≡ max (a % 2) (b % 2)
or_unit a b = omega (arith, or_step a b)

-- two numbers are equal where their halves and their units are
same_digits : (a b : ℕ) → a / 2 ≡ b / 2 → a % 2 ≡ b % 2 → a ≡ b
same_digits a b p q = omega (arith, p, q)

pub and_assoc : (a b c : ℕ) → bit_and (bit_and a b) c ≡ bit_and a (bit_and b c)
and_assoc a = bin_ind (λ (n : ℕ). (b c : ℕ) → bit_and (bit_and n b) c ≡ bit_and n (bit_and b c))
    (λ b c. ap (λ (x : ℕ). bit_and x c) (and_zero_l b) ∙ and_zero_l c ∙ sym (and_zero_l (bit_and b c)))
    (λ n ih b c. same_digits (bit_and (bit_and n b) c) (bit_and n (bit_and b c))
    (and_half (bit_and n b) c ∙ ap (λ (x : ℕ). bit_and x (c / 2)) (and_half n b) ∙ ih (b / 2) (c / 2)
    ∙ ap (bit_and (n / 2)) (sym (and_half b c)) ∙ sym (and_half n (bit_and b c)))
    (omega (arith, and_unit (bit_and n b) c, and_unit n b, and_unit n (bit_and b c), and_unit b c)))
    a

pub absorb : (a b : ℕ) → bit_and a (bit_or a b) ≡ a
absorb a = bin_ind (λ (n : ℕ). (b : ℕ) → bit_and n (bit_or n b) ≡ n) (λ b. and_zero_l (bit_or zero b))
    (λ n ih b. same_digits (bit_and n (bit_or n b)) n
    (and_half n (bit_or n b) ∙ ap (bit_and (n / 2)) (or_half n b) ∙ ih (b / 2))
    (omega (arith, and_unit n (bit_or n b), or_unit n b)))
    a

pub distrib : (a b c : ℕ) → bit_and (bit_or a b) c ≡ bit_or (bit_and a c) (bit_and b c)
distrib a b c = bin_ind (λ (n : ℕ). (a b : ℕ) → bit_and (bit_or a b) n ≡ bit_or (bit_and a n) (bit_and b n))
    (λ a b. zeros a b)
    (λ n ih a b. same_digits (bit_and (bit_or a b) n) (bit_or (bit_and a n) (bit_and b n))
    (and_half (bit_or a b) n ∙ ap (λ (x : ℕ). bit_and x (n / 2)) (or_half a b) ∙ ih (a / 2) (b / 2)
    ∙ ap₂ bit_or (sym (and_half a n)) (sym (and_half b n)) ∙ sym (or_half (bit_and a n) (bit_and b n)))
    (omega (arith, and_unit (bit_or a b) n, or_unit a b, or_unit (bit_and a n) (bit_and b n), and_unit a n, and_unit b n)))
    c a b
  where
    zeros : (a b : ℕ) → bit_and (bit_or a b) zero ≡ bit_or (bit_and a zero) (bit_and b zero)
    zeros a b = and_comm (bit_or a b) zero ∙ and_zero_l (bit_or a b) ∙ sym (ap₂ bit_or (and_comm a zero ∙ and_zero_l a) (and_comm b zero ∙ and_zero_l b))

-- ── the order ──
pub within_of : (a b : ℕ) → bit_and a b ≡ a → T (within a b)
within_of a b q = subst (λ (x : ℕ). T (eqb x a)) (sym q) (eqb_refl a)

pub of_within : (a b : ℕ) → T (within a b) → bit_and a b ≡ a
of_within a b t = eqb→eq (bit_and a b) a t

pub within_refl : (a : ℕ) → T (within a a)
within_refl a = within_of a a (and_self a)

pub within_trans : (a b c : ℕ) → T (within a b) → T (within b c) → T (within a c)
within_trans a b c p q = within_of a c (ap (λ (x : ℕ). bit_and x c) (sym (of_within a b p)) ∙ and_assoc a b c ∙ ap (bit_and a) (of_within b c q) ∙ of_within a b p)

pub within_antisym : (a b : ℕ) → T (within a b) → T (within b a) → a ≡ b
within_antisym a b p q = sym (of_within a b p) ∙ and_comm a b ∙ of_within b a q

-- ── the common set ──
pub common_left : (a b : ℕ) → T (within (bit_and a b) a)
common_left a b = within_of (bit_and a b) a (and_comm (bit_and a b) a ∙ sym (and_assoc a a b) ∙ ap (λ (x : ℕ). bit_and x b) (and_self a))

pub common_right : (a b : ℕ) → T (within (bit_and a b) b)
common_right a b = within_of (bit_and a b) b (and_assoc a b b ∙ ap (bit_and a) (and_self b))

pub common_most : (a b c : ℕ) → T (within c a) → T (within c b) → T (within c (bit_and a b))
common_most a b c p q = within_of c (bit_and a b) (sym (and_assoc c a b) ∙ ap (λ (x : ℕ). bit_and x b) (of_within c a p) ∙ of_within c b q)

-- ── all marks of both ──
pub all_left : (a b : ℕ) → T (within a (bit_or a b))
all_left a b = within_of a (bit_or a b) (absorb a b)

pub all_least : (a b c : ℕ) → T (within a c) → T (within b c) → T (within (bit_or a b) c)
all_least a b c p q = within_of (bit_or a b) c (distrib a b c ∙ ap₂ bit_or (of_within a c p) (of_within b c q))

pub none_least : (a : ℕ) → T (within 0 a)
none_least a = within_of 0 a (and_zero_l a)

-- ── as numbers ──
-- what is within is no larger: a set that is within one of eight marks is one, and a set that grows is a larger number
pub within_le : (a b : ℕ) → T (within a b) → a ≤ b
within_le a b t = le_trans (le_of_eq (sym (of_within a b t) ∙ and_comm a b)) (and_le_l b a)

-- every set of eight marks is within 255
pub within_all : (a : ℕ) → a ≤ 255 → T (within a 255)
within_all a h = within_of a 255 (and_mask a 8 ∙ mod-eq_of_lt (omega (arith, h)))

-- at most eight marks are lost
pub lost_few : (a b : ℕ) → a < 256 → lost a b ≤ 8
lost_few a b h = ones-le 8 (bit_xor a (bit_and a b)) (xor_lt 8 a (bit_and a b) h (omega (arith, h, and_le_l a b)))
