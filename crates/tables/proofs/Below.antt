-- A test that holds of some of the first n numbers, or of none. Assumes nothing.
use mathlib.Core.Path.{◌≡◌, refl, sym, ◌∙◌, ap, ap₂, subst}
use mathlib.Core.Bool.{Bool, true, false, ◌||◌}
use mathlib.Core.Logic.{◌⊎◌, inl, inr}
use Prim.Native.Nat.{ℕ, zero, suc, ◌+◌, ◌<◌}
use native.Mathlib.Omega.{arith}
use native.Mathlib.Decide.{ℕ_discrete}
use lib.Dec.{T, not_T}
use Rattle.std.specs.List.{list_any, range_with_len}
use Rattle.model.specs.Bools.{or_cases, or_left, or_right, is_true, is_false}
use Rattle.tables.specs.Working.{some_below}

pub some_of_below : (n : ℕ) (f : ℕ → Bool) → T (some_below n f) → (i : ℕ) × (i < n) × T (f i)
some_of_below zero f h = absurd h
some_of_below (suc n) f h = go (some_of_below n f) (or_cases (some_below n f) (f n) h)
  where
    go : (T (some_below n f) → (i : ℕ) × (i < n) × T (f i)) → T (some_below n f) ⊎ T (f n) → (i : ℕ) × (i < suc n) × T (f i)
    go ih (inl a) = let r = ih a in (r.0, omega (arith, r.1), r.2)
    go ih (inr a) = (n, omega arith, a)

pub below_some : (n : ℕ) (f : ℕ → Bool) (i : ℕ) → i < n → T (f i) → T (some_below n f)
below_some zero f i l h = absurd (omega arith)
below_some (suc n) f i l h = go (ℕ_discrete i n) (below_some n f i)
  where
    go : Dec (i ≡ n) → (i < n → T (f i) → T (some_below n f)) → T (some_below n f || f n)
    go (yes q) ih = or_right (some_below n f) (f n) (subst (λ (z : ℕ). T (f z)) q h)
    go (no nq) ih = or_left (some_below n f) (f n) (ih (omega arith) h)

pub some_at : (n : ℕ) (f : ℕ → Bool) (i : ℕ) → i < n → f i ≡ true → some_below n f ≡ true
some_at n f i l e = is_true (some_below n f) (below_some n f i l (subst T (sym e) tt))

pub none_below : (n : ℕ) (f : ℕ → Bool) → ((i : ℕ) → i < n → f i ≡ false) → some_below n f ≡ false
none_below n f h = is_false (some_below n f) (not_T (some_below n f) (λ t. let r = some_of_below n f t in subst T (h r.0 r.1) r.2))

pub below_same : (n : ℕ) (f g : ℕ → Bool) → ((i : ℕ) → i < n → f i ≡ g i) → some_below n f ≡ some_below n g
below_same zero f g h = refl
below_same (suc n) f g h = ap₂ (λ (a b : Bool). a || b) (below_same n f g (λ i l. h i (omega arith))) (h n (omega arith))

-- two tests that hold together
pub same_test : (a b : Bool) → (T a → T b) → (T b → T a) → a ≡ b
same_test true true f g = refl
same_test true false f g = absurd (f tt)
same_test false true f g = absurd (g tt)
same_test false false f g = refl

-- the first number is tested first
front : (n : ℕ) (f : ℕ → Bool) → some_below (suc n) f ≡ (f 0 || some_below n (λ j. f (suc j)))
front zero f = go (f 0)
  where
    go : (b : Bool) → (false || b) ≡ (b || false)
    go true = refl
    go false = refl
front (suc n) f = ap (λ (b : Bool). b || f (suc n)) (front n f) ∙ go (f 0) (some_below n (λ j. f (suc j))) (f (suc n))
  where
    go : (a b d : Bool) → ((a || b) || d) ≡ (a || (b || d))
    go true b d = refl
    go false b d = refl

any_from : (a n : ℕ) (f : ℕ → Bool) → list_any f (range_with_len a n) ≡ some_below n (λ j. f (a + j))
any_from a zero f = refl
any_from a (suc n) f = ap₂ (λ (x y : Bool). x || y) (let e : a ≡ a + 0 = omega arith in ap f e) (any_from (a + 1) n f ∙ below_same n (λ j. f (a + 1 + j)) (λ j. f (a + suc j)) (λ j l. let e : a + 1 + j ≡ a + suc j = omega arith in ap f e))
    ∙ sym (front n (λ j. f (a + j)))

pub any_below : (n : ℕ) (f : ℕ → Bool) → list_any f (range_with_len 0 n) ≡ some_below n f
any_below n f = any_from 0 n f ∙ below_same n (λ j. f (0 + j)) f (λ j l. let e : 0 + j ≡ j = omega arith in ap f e)
