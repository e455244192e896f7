-- Facts about tests: what a disjunction, a conjunction, a negation and a choice by a test say. Assumes nothing.
use Rattle.std.specs.Prelude.{◌≡◌, refl, Bool, true, false, not, ◌||◌, ◌&&◌, cond, ◌⊎◌, T}
use Rattle.std.proofs.Common.{inl, inr}

pub test : (b : Bool) → T b ⊎ T (not b)
test true = inl tt
test false = inr tt

-- ── or ──
pub or_cases : (a b : Bool) → T (a || b) → T a ⊎ T b
or_cases true b t = inl tt
or_cases false b t = inr t

pub or_left : (a b : Bool) → T a → T (a || b)
or_left true b t = tt
or_left false b t = absurd t

pub or_right : (a b : Bool) → T b → T (a || b)
or_right true b t = tt
or_right false b t = t

pub neither : (a b : Bool) → T (not (a || b)) → T (not a) × T (not b)
neither true b t = absurd t
neither false b t = (tt, t)

pub nor : (a b : Bool) → T (not a) → T (not b) → T (not (a || b))
nor true b s t = s
nor false b s t = t

-- ── and ──
pub both : (a b : Bool) → T a → T b → T (a && b)
both true b s t = t
both false b s t = s

pub both_of : (a b : Bool) → T (a && b) → T a × T b
both_of true b t = (tt, t)
both_of false b t = absurd t

-- ── not ──
pub not_not : (a : Bool) → T (not (not a)) → T a
not_not true t = tt
not_not false t = t

pub yes_not_not : (a : Bool) → T a → T (not (not a))
yes_not_not true t = tt
yes_not_not false t = t

pub is_true : (b : Bool) → T b → b ≡ true
is_true true t = refl
is_true false t = absurd t

pub is_false : (b : Bool) → T (not b) → b ≡ false
is_false true t = absurd t
is_false false t = refl

-- ── cond ──
module _ {A : Type 0} where
  pub cond_yes : (b : Bool) (x y : A) → T b → cond b x y ≡ x
  cond_yes true x y t = refl
  cond_yes false x y t = absurd t

  pub cond_no : (b : Bool) (x y : A) → T (not b) → cond b x y ≡ y
  cond_no true x y t = absurd t
  cond_no false x y t = refl

  pub cond_cases : (b : Bool) (x y z : A) → cond b x y ≡ z → (T b × (x ≡ z)) ⊎ (T (not b) × (y ≡ z))
  cond_cases true x y z q = inl (tt, q)
  cond_cases false x y z q = inr (tt, q)
