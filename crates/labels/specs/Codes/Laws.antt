-- Every label of two bytes is one number, a label that is at most another is no larger a number, and what is taken in makes a number larger. Assumes nothing.
use Rattle.std.specs.Prelude.{◌≡◌, refl, true, false, ℕ, ◌+◌, ◌*◌, ◌/◌, ◌%◌, ◌≤◌, ◌<◌, max, T}
use Rattle.std.proofs.Common.{sym, ◌∙◌, ap, ap₂, subst, subst₂, arith, le-leb}
use Rattle.std.proofs.lemmas.Bool.{lt-leb}
use Rattle.std.specs.Int.Bits.{bit_and, bit_or}
use Rattle.std.proofs.lemmas.Nat.{and_comm, and_mask, or_lt}
use Rattle.model.specs.Bools.{is_true}
use Rattle.model.specs.Sets.{within}
use Rattle.model.specs.Sets.Laws.{and_assoc, within_of, within_le}
use Rattle.model.specs.Label.{Label, label, level, shops, leq, ◌⊑◌, join, bot}
use Rattle.model.proofs.Label.Laws.{level_label, shops_label, leq_labels, join_parts, label_zero, ⊑→le, ⊑→within, ⊑_refl, join_left, join_right}
use Rattle.labels.specs.Codes.{coded}

pub coded_is : (l m : ℕ) → m < 256 → coded (l * 256 + m) ≡ label l m
coded_is l m h = ap₂' (omega (arith, h)) (omega (arith, h))
  where
    ap₂' : {a b c d : ℕ} → a ≡ b → c ≡ d → label a c ≡ label b d
    ap₂' {a} {b} {c} {d} p q = ap (λ (x : ℕ). label x c) p ∙ ap (label b) q

pub coded_zero : coded 0 ≡ bot
coded_zero = label_zero

level_coded : (a : ℕ) → level (coded a) ≡ a / 256
level_coded a = level_label (a / 256) (a % 256)

shops_coded : (a : ℕ) → shops (coded a) ≡ a % 256
shops_coded a = shops_label (a / 256) (a % 256)

-- a label that is at most another is no larger a number
pub coded_le : (a b : ℕ) → coded a ⊑ coded b → a ≤ b
coded_le a b h = omega (
  arith,
  subst₂ ◌≤◌ (level_coded a) (level_coded b) (⊑→le (coded a) (coded b) h),
  within_le (a % 256) (b % 256) (subst₂ (λ (x y : ℕ). T (within x y)) (shops_coded a) (shops_coded b) (⊑→within (coded a) (coded b) h)),
)

-- two numbers are two labels
pub coded_same : (a b : ℕ) → coded a ≡ coded b → a ≡ b
coded_same a b e = omega (arith, coded_le a b (subst (λ (x : Label). coded a ⊑ x) e ⊑_refl), coded_le b a (subst (λ (x : Label). x ⊑ coded a) e ⊑_refl))

-- where b is not at most a, what takes both in is a larger number than a
pub coded_grows : (a b c : ℕ) → (coded b ⊑ coded a → ⊥) → coded c ≡ join (coded a) (coded b) → a < c
coded_grows a b c n e = omega (arith, coded_le a c (subst (λ (x : Label). coded a ⊑ x) (sym e) (join_left (coded a) (coded b))), ne)
  where
    ne : a ≡ c → ⊥
    ne q = n (subst (λ (x : ℕ). coded b ⊑ coded x) (sym q) (subst (λ (x : Label). coded b ⊑ x) (sym e) (join_right (coded a) (coded b))))

-- the join of two, as a number
small : (a b : ℕ) → bit_or (a % 256) (b % 256) < 256
small a b = or_lt 8 (a % 256) (b % 256) (omega arith) (omega arith)

pub join_fits : (a b l : ℕ) → l < 256 → l * 256 + bit_or (a % 256) (b % 256) < 65536
join_fits a b l h = omega (arith, small a b)

pub join_is : (a b l : ℕ) → l ≡ max (a / 256) (b / 256) → coded (l * 256 + bit_or (a % 256) (b % 256)) ≡ join (coded a) (coded b)
join_is a b l e = coded_is l (bit_or (a % 256) (b % 256)) (small a b) ∙ ap (λ (x : ℕ). label x (bit_or (a % 256) (b % 256))) e
    ∙ sym (join_parts (coded a) (coded b)
    ∙ subst₂ (λ (x y : ℕ). label (max (level (coded a)) (level (coded b))) (bit_or (shops (coded a)) (shops (coded b))) ≡ label (max x y) (bit_or (shops (coded a)) (shops (coded b)))) (level_coded a) (level_coded b) refl
    ∙ subst₂ (λ (x y : ℕ). label (max (a / 256) (b / 256)) (bit_or (shops (coded a)) (shops (coded b))) ≡ label (max (a / 256) (b / 256)) (bit_or x y)) (shops_coded a) (shops_coded b) refl)

-- the test: all digits at once, then the level, then the set
rest_within : (a b : ℕ) → bit_and a b ≡ a → bit_and (a % 256) (b % 256) ≡ a % 256
rest_within a b e = ap₂ bit_and (sym (and_mask a 8)) (sym (and_mask b 8)) ∙ and_assoc a 255 (bit_and b 255)
    ∙ ap (bit_and a) (and_comm 255 (bit_and b 255) ∙ and_assoc b 255 255) ∙ sym (and_assoc a b 255) ∙ ap (λ (x : ℕ). bit_and x 255) e ∙ and_mask a 8

pub below_digits : (a b : ℕ) → bit_and a b ≡ a → leq (coded a) (coded b) ≡ true
below_digits a b e = leq_labels (a / 256) (a % 256) (b / 256) (b % 256)
    ∙ rw (le-leb (a / 256) (b / 256) (omega (arith, within_le a b (within_of a b e)))) (is_true (within (a % 256) (b % 256)) (within_of (a % 256) (b % 256) (rest_within a b e)))

pub below_no : (a b : ℕ) → b / 256 < a / 256 → leq (coded a) (coded b) ≡ false
below_no a b h = leq_labels (a / 256) (a % 256) (b / 256) (b % 256) ∙ rw (lt-leb (a / 256) (b / 256) h) refl

pub below_set : (a b : ℕ) → a / 256 ≤ b / 256 → leq (coded a) (coded b) ≡ within (a % 256) (b % 256)
below_set a b h = leq_labels (a / 256) (a % 256) (b / 256) (b % 256) ∙ rw (le-leb (a / 256) (b / 256) h) refl
