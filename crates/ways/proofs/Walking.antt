-- The scan for the lowest arc that leads nearer, and the walk, step by step. Assumes nothing.
use mathlib.Core.Path.{◌≡◌, refl, sym, ap, subst, ◌∙◌}
use mathlib.Core.List.{List, [], ◌∷◌, ◌++◌}
use Prim.Native.Nat.{ℕ, ◌+◌, ◌≤◌, ◌<◌}
use native.Mathlib.Omega.{arith}
use native.Mathlib.Numerals.{add-one}
use native.Mathlib.Decide.{ℕ_discrete}
use native.Mathlib.Nat.{le_refl}
use lib.ListN.{length, set, take, length-set}
use lib.Seq.{get_or-set_same, take-suc, take-set-le}
use Rattle.ways.specs.Near.{NoneBelow, Step, First, Walk, there, along}

-- ── the scan ──
pub scan_more : (from to d : ℕ → ℕ) (a i : ℕ) → NoneBelow from to d a i → (from i ≡ a → d a ≤ d (to i)) → NoneBelow from to d a (i + 1)
scan_more from to d a i f h j l = go (ℕ_discrete j i)
  where
    go : Dec (j ≡ i) → from j ≡ a → d a ≤ d (to j)
    go (yes e) = subst (λ (z : ℕ). from z ≡ a → d a ≤ d (to z)) (sym e) h
    go (no n) = f j (omega arith)

-- where some arc leads nearer, the scan finds one
pub scan_none : {X : Type 0} (from to d : ℕ → ℕ) (a i : ℕ) → NoneBelow from to d a i → 512 ≤ i → Step from to d a → X
scan_none from to d a i f l s = absurd (omega (arith, f s.arc (omega (arith, s.low)) s.leaves, s.nearer))

-- ── the walk ──
walk_on : (from to d : ℕ → ℕ) {x y : ℕ} {l : List ℕ} (i : ℕ) → Walk from to d x l y → First from to d y i → Walk from to d x (l ++ (i ∷ [])) (to i)
walk_on from to d i (there e) f = along i (subst (λ (z : ℕ). First from to d z i) (sym e) f) (there refl)
walk_on from to d i (along j g w) f = along j g (walk_on from to d i w f)

take_put : (l : List ℕ) (k i : ℕ) → k < length l → take (k + 1) (set l k i) ≡ take k l ++ (i ∷ [])
take_put l k i h = ap (λ (n : ℕ). take n (set l k i)) (add-one k) ∙ take-suc (set l k i) k 0 (simp length-set h)
    ∙ ap (λ (v : ℕ). take k (set l k i) ++ (v ∷ [])) (get_or-set_same l k i 0 h) ∙ ap (λ (m : List ℕ). m ++ (i ∷ [])) (take-set-le k l k i (le_refl k))

pub walk_more : (from to d : ℕ → ℕ) (l : List ℕ) (x y k i : ℕ) → Walk from to d x (take k l) y → k < length l → First from to d y i
    → Walk from to d x (take (k + 1) (set l k i)) (to i)
walk_more from to d l x y k i w h f = subst (λ (m : List ℕ). Walk from to d x m (to i)) (sym (take_put l k i h)) (walk_on from to d i w f)
