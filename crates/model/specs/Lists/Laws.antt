-- The laws of `Lists`. Assumes nothing.
use Rattle.std.specs.Prelude.{◌≡◌, refl, Bool, true, false, not, ◌⊎◌, List, [], ◌∷◌, ◌++◌, ℕ, zero, suc, ◌<◌, T, eqb}
use Rattle.std.proofs.Common.{sym, subst, inl, inr, arith, eqb→eq, T_not}
use Rattle.std.proofs.Math.Dec.{eqb_refl}
use Rattle.model.specs.Bools.{test, or_cases, or_left, or_right}
use Rattle.model.specs.Lists.{In, each, keep, any}

module _ {A : Type 0} where
  -- ── In ──
  pub in_left : (x : A) (l m : List A) → In x l → In x (l ++ m)
  in_left x [] m h = absurd h
  in_left x (y ∷ l) m (inl e) = inl e
  in_left x (y ∷ l) m (inr h) = inr (in_left x l m h)

  pub in_right : (x : A) (l m : List A) → In x m → In x (l ++ m)
  in_right x [] m h = h
  in_right x (y ∷ l) m h = inr (in_right x l m h)

  pub in_cases : (x : A) (l m : List A) → In x (l ++ m) → In x l ⊎ In x m
  in_cases x [] m h = inr h
  in_cases x (y ∷ l) m (inl e) = inl (inl e)
  in_cases x (y ∷ l) m (inr h) = go (in_cases x l m h)
    where
      go : In x l ⊎ In x m → In x (y ∷ l) ⊎ In x m
      go (inl k) = inl (inr k)
      go (inr k) = inr k

  -- ── keep ──
  pub keep_here : (b : Bool) (y : A) (l : List A) → T b → In y (keep b y l)
  keep_here true y l t = inl refl
  keep_here false y l t = absurd t

  pub keep_there : (b : Bool) (y : A) (l : List A) (x : A) → In x l → In x (keep b y l)
  keep_there true y l x h = inr h
  keep_there false y l x h = h

  pub keep_cases : (b : Bool) (y : A) (l : List A) (x : A) → In x (keep b y l) → (T b × (y ≡ x)) ⊎ In x l
  keep_cases true y l x (inl e) = inl (tt, e)
  keep_cases true y l x (inr h) = inr h
  keep_cases false y l x h = inr h

  -- ── any ──
  pub any_of : (f : A → Bool) (l : List A) (x : A) → In x l → T (f x) → T (any f l)
  any_of f [] x i t = absurd i
  any_of f (y ∷ l) x (inl e) t = or_left (f y) (any f l) (subst (λ (z : A). T (f z)) (sym e) t)
  any_of f (y ∷ l) x (inr i) t = or_right (f y) (any f l) (any_of f l x i t)

  pub any_at : (f : A → Bool) (l : List A) → T (any f l) → (x : A) × In x l × T (f x)
  any_at f [] t = absurd t
  any_at f (y ∷ l) t = go (any_at f l) (or_cases (f y) (any f l) t)
    where
      go : (T (any f l) → (x : A) × In x l × T (f x)) → T (f y) ⊎ T (any f l) → (x : A) × In x (y ∷ l) × T (f x)
      go ih (inl h) = (y, inl refl, h)
      go ih (inr h) = let r = ih h in (r.0, inr r.1, r.2)

  -- ── each ──
  pub in_each : (n : ℕ) (f : ℕ → List A) (x : A) (i : ℕ) → i < n → In x (f i) → In x (each n f)
  in_each zero f x i lt h = absurd (omega arith)
  in_each (suc n) f x i lt h = go (in_each n f x i) (test (eqb i n))
    where
      go : (i < n → In x (f i) → In x (each n f)) → T (eqb i n) ⊎ T (not (eqb i n)) → In x (each n f ++ f n)
      go ih (inl q) = in_right x (each n f) (f n) (subst (λ (z : ℕ). In x (f z)) (eqb→eq i n q) h)
      go ih (inr q) = in_left x (each n f) (f n) (ih (let apart : (i ≡ n → ⊥) =
          (λ e. T_not (eqb i n) q (subst (λ (z : ℕ). T (eqb i z)) e (eqb_refl i))) in omega (arith, apart)) h)

  pub each_in : (n : ℕ) (f : ℕ → List A) (x : A) → In x (each n f) → (i : ℕ) × (i < n) × In x (f i)
  each_in zero f x h = absurd h
  each_in (suc n) f x h = go (each_in n f x) (in_cases x (each n f) (f n) h)
    where
      go : (In x (each n f) → (i : ℕ) × (i < n) × In x (f i)) → In x (each n f) ⊎ In x (f n) → (i : ℕ) × (i < suc n) × In x (f i)
      go ih (inl k) = let r = ih k in (r.0, omega (arith, r.1), r.2)
      go ih (inr k) = (n, omega arith, k)
