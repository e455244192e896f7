-- Laws of the calls' arities. In order: no call takes more numbers than the most; a known code is one with an arity, and
-- stands in the table; a call's numbers filled up with 0. Assumes nothing.
use Rattle.std.specs.Prelude.{◌≡◌, refl, ℕ, zero, suc, ◌≤◌, ◌<◌, Bool, true, false, ◌&&◌, List, [], ◌∷◌, leb, length, take, get_or}
use Rattle.std.proofs.Common.{sym, ap, ⊎_elim, arith, ltb-true, leb-true, lt-ltb, le-ltb}
use Rattle.std.proofs.Math.Bool.{and-eq-true_iff}
use Rattle.std.proofs.Math.ListN.{get_or-eq_default}
use Rattle.number.specs.Leb.Laws.{split}
use Rattle.journal.specs.Calls.{arities, most_numbers, arity_of, known, filled}

-- ---- the table, tested once

abbrev every : (ℕ → Bool) → List ℕ → Bool
every f [] = true
every f (x ∷ xs) = f x && every f xs

every_at : (f : ℕ → Bool) (xs : List ℕ) → every f xs ≡ true → (i : ℕ) → i < length xs → f (get_or xs i 0) ≡ true
every_at f [] e i h = absurd (omega arith)
every_at f (x ∷ xs) e zero h = ((and-eq-true_iff (f x) (every f xs)).0 e).0
every_at f (x ∷ xs) e (suc i) h = every_at f xs ((and-eq-true_iff (f x) (every f xs)).0 e).1 i (omega arith)

pub arity_over : (code : ℕ) → length arities < code → arity_of code ≡ 0
unfolding arity_of
arity_over code h = get_or-eq_default (0 ∷ arities) 0 h

pub arity_most : (code : ℕ) → arity_of code ≤ most_numbers
unfolding arity_of
arity_most code = ⊎_elim inside (λ h. omega (arith, get_or-eq_default (0 ∷ arities) 0 {n = code} h)) (split code (length (0 ∷ arities)))
  where
    inside : code < length (0 ∷ arities) → get_or (0 ∷ arities) code 0 ≤ most_numbers
    inside h = leb-true (get_or (0 ∷ arities) code 0) most_numbers (every_at (λ n. leb n most_numbers) (0 ∷ arities) refl code h)

-- ---- a known code is one with an arity

pub arity_none : (code : ℕ) → arity_of code ≡ 0 → known code ≡ false
unfolding known
arity_none code z = le-ltb 0 (arity_of code) (omega arith)

pub arity_some : (code : ℕ) → (arity_of code ≡ 0 → ⊥) → known code ≡ true
unfolding known
arity_some code n = lt-ltb 0 (arity_of code) (⊎_elim (λ h. absurd (n (omega arith))) (λ h. omega arith) (split (arity_of code) 1))

pub known_code : (code : ℕ) → known code ≡ true → (code ≤ length arities) × (0 < arity_of code)
unfolding known
known_code code k = (
  ⊎_elim (λ h. omega arith) (λ h. absurd (omega (arith, arity_over code (omega arith), ltb-true 0 (arity_of code) k)))
      (split code (length (0 ∷ arities))),
  ltb-true 0 (arity_of code) k,
)

-- ---- a call's numbers, filled up with 0

take_filled : (m : ℕ) (ns : List ℕ) → take m (filled (suc m) ns) ≡ filled m ns
unfolding filled
take_filled zero ns = refl
take_filled (suc m) [] = ap (λ (t : List ℕ). 0 ∷ t) (take_filled m [])
take_filled (suc m) (n ∷ ns) = ap (λ (t : List ℕ). n ∷ t) (take_filled m ns)

-- one number more in front
pub filled_next : (m n : ℕ) (ns : List ℕ) → filled m (n ∷ ns) ≡ take m (n ∷ filled m ns)
unfolding filled
filled_next zero n ns = refl
filled_next (suc m) n ns = ap (λ (t : List ℕ). n ∷ t) (sym (take_filled m ns))

-- the numbers given come first
pub filled_front : (m : ℕ) (ns : List ℕ) → length ns ≤ m → take (length ns) (filled m ns) ≡ ns
unfolding filled
filled_front m [] h = refl
filled_front zero (n ∷ ns) h = absurd (omega arith)
filled_front (suc m) (n ∷ ns) h = ap (λ (t : List ℕ). n ∷ t) (filled_front m ns (omega arith))
