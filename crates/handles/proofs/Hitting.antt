-- A loop that marks in an array of tests the number that each record gives, if it gives one. Assumes nothing.
use Rattle.std.proofs.Common.{◌≡◌, refl, sym, ◌∙◌, ap, ℕ, ◌+◌, ◌<◌, List, Bool, true, false, get_or, arith, add-one, eq-eqb, ne_eqb}
use mathlib.Core.Bool.{◌||◌}
use native.Mathlib.Decide.{ℕ_discrete}
use lib.ListN.{set, length-set, replicate, length-replicate, get_or-replicate}
use lib.Seq.{get_or-set_same, get_or-set_other}
use lib.Dec.{eqb}
use Rattle.tables.specs.Working.{some_below}
use Rattle.handles.specs.Working.{Hits}

pub hits_none : (f : ℕ → ℕ → Bool) (n : ℕ) → Hits f n (replicate n false) 0
hits_none f n = record { long = length-replicate n false; at = λ x l. get_or-replicate n x false false l }

or_none : (a b : Bool) → b ≡ false → a ≡ (a || b)
or_none true b q = refl
or_none false b q = sym q

-- record i gives no number
pub hits_pass : (f : ℕ → ℕ → Bool) (n : ℕ) (r : List Bool) (i : ℕ) → ((x : ℕ) → x < n → f i x ≡ false) → Hits f n r i → Hits f n r (i + 1)
hits_pass f n r i e p = record { long = p.long; at = λ x l. rw add-one (p.at x l ∙ or_none (some_below i (λ j. f j x)) (f i x) (e x l)) }

-- record i gives y
pub hits_more : (f : ℕ → ℕ → Bool) (n : ℕ) (r : List Bool) (i y : ℕ) → ((x : ℕ) → x < n → f i x ≡ eqb y x) → Hits f n r i → Hits f n (set r y true) (i + 1)
hits_more f n r i y e p = record { long = simp length-set p.long; at = λ x l. rw add-one (at x l (ℕ_discrete x y)) }
  where
    or_same : (a b : Bool) → b ≡ true → true ≡ (a || b)
    or_same true b q = refl
    or_same false b q = sym q

    at : (x : ℕ) → x < n → Dec (x ≡ y) → get_or (set r y true) x false ≡ (some_below i (λ j. f j x) || f i x)
    at x l (yes q) = ap (λ (z : ℕ). get_or (set r y true) z false) q ∙ get_or-set_same r y true false (omega (arith, p.long))
        ∙ or_same (some_below i (λ j. f j x)) (f i x) (e x l ∙ eq-eqb y x (sym q))
    at x l (no ne) = get_or-set_other r y x true false ne ∙ p.at x l
        ∙ or_none (some_below i (λ j. f j x)) (f i x) (e x l ∙ ne_eqb y x (λ z. ne (sym z)))
