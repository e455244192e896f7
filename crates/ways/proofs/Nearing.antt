-- How distances come about: arc by arc (`keep`, `shrink`), then pass by pass (`falls_on`), until nothing falls; what figures at rest say of chains.
-- Assumes nothing.
use mathlib.Core.Path.{◌≡◌, refl, sym, subst, ◌∙◌}
use mathlib.Core.Bool.{Bool, true, false}
use mathlib.Core.Logic.{◌⊎◌, inl, inr}
use mathlib.Core.List.{List, [], ◌∷◌}
use Prim.Native.Nat.{ℕ, zero, suc, ◌+◌, ◌≤◌, ◌<◌}
use native.Mathlib.Omega.{arith}
use native.Mathlib.Decide.{ℕ_discrete}
use native.Mathlib.Nat.{le_refl, le_trans}
use lib.ListN.{length, get_or, set, length-set}
use lib.Seq.{get_or-set_same, get_or-set_other}
use Rattle.ways.specs.Near.{figure, Step, Falls, sum, Neared}

sum_set : (l : List ℕ) (i v : ℕ) → i < length l → sum (set l i v) + get_or l i 0 ≡ sum l + v
sum_set [] i v h = omega arith
sum_set (x ∷ l) zero v h = omega arith
sum_set (x ∷ l) (suc i) v h = let q : sum (set l i v) + get_or l i 0 ≡ sum l + v = sum_set l i v (omega arith) in omega arith

pub true_false : {X : Type 0} → ◌≡◌ {A = Bool} true false → X
true_false e = let z : ◌≡◌ {A = ℕ} 0 1 = cc in absurd (omega arith)

-- what holds at i after a store at i, and what held elsewhere, holds everywhere
set_cases : (P : ℕ → ℕ → Type 0) (l : List ℕ) (i v x : ℕ) → i < length l → P i v → P x (get_or l x 0) → P x (get_or (set l i v) x 0)
set_cases P l i v x h p q = go (ℕ_discrete x i)
  where
    go : Dec (x ≡ i) → P x (get_or (set l i v) x 0)
    go (yes e) = subst (λ (y : ℕ). P y (get_or (set l i v) y 0)) (sym e) (subst (λ (w : ℕ). P i w) (sym (get_or-set_same l i v 0 h)) p)
    go (no ne) = subst (λ (w : ℕ). P x w) (sym (get_or-set_other l i x v 0 ne)) q

-- ── one pass ──
pub none_fell : (from to : ℕ → ℕ) (v : List ℕ) → Falls from to v v
none_fell from to v = record { long = refl; lower = λ x. le_refl _; stepped = λ x. inl refl }

pub start : (from to : ℕ → ℕ) (v : List ℕ) → Neared from to v v 0 false
start from to v = record { falls = none_fell from to v; total = le_refl _; fell = λ e. true_false (sym e); still = λ e i h. absurd (omega arith) }

-- an arc that leads nearer still does where figures fall, but for that of its start
step_on : (from to d c : ℕ → ℕ) (x : ℕ) → ((y : ℕ) → c y ≤ d y) → c x ≡ d x → Step from to d x → Step from to c x
step_on from to d c x h e s = record { arc = s.arc; low = s.low; leaves = s.leaves; nearer = omega (arith, h (to s.arc), s.nearer) }

module _ (from to : ℕ → ℕ) (v m : List ℕ) (k : ℕ) (b : Bool) (p : Neared from to v m k b) where
  -- arc k brings nothing nearer
  keep : figure m (from k) ≤ figure m (to k) + 1 → Neared from to v m (k + 1) b
  keep h = record { falls = p.falls; total = p.total; fell = p.fell; still = λ e i l. at e i l (ℕ_discrete i k) }
    where
      at : b ≡ false → (i : ℕ) → i < k + 1 → Dec (i ≡ k) → figure m (from i) ≤ figure m (to i) + 1
      at e i l (yes q) = subst (λ (j : ℕ). figure m (from j) ≤ figure m (to j) + 1) (sym q) h
      at e i l (no n) = p.still e i (omega arith)

  -- arc k brings its start nearer
  shrink : (more : ℕ) → k < 512 → from k < length m → figure m (to k) + 1 < figure m (from k) → Neared from to v (set m (from k) (figure m (to k) + 1)) more true
  shrink more hk ha h = record {
    falls = record {
      long = simp length-set p.falls.long;
      lower = λ x. le_trans (less x) (p.falls.lower x);
      stepped = steps;
    };
    total = omega (arith, sum_set m (from k) w ha, p.total);
    fell = λ e. omega (arith, sum_set m (from k) w ha, p.total);
    still = λ e. true_false e;
  }
    where
      w : ℕ
      w = figure m (to k) + 1

      less : (x : ℕ) → figure (set m (from k) w) x ≤ figure m x
      less x = set_cases (λ y z. z ≤ figure m y) m (from k) w x ha (omega arith) (le_refl _)

      steps : (x : ℕ) → (figure (set m (from k) w) x ≡ figure v x) ⊎ Step from to (figure (set m (from k) w)) x
      steps x = go (ℕ_discrete x (from k))
        where
          here : figure (set m (from k) w) (from k) ≡ w
          here = get_or-set_same m (from k) w 0 ha

          other : (x ≡ from k → ⊥) → figure (set m (from k) w) x ≡ figure m x
          other ne = get_or-set_other m (from k) x w 0 ne

          go : Dec (x ≡ from k) → (figure (set m (from k) w) x ≡ figure v x) ⊎ Step from to (figure (set m (from k) w)) x
          go (yes e) = inr (record {
            arc = k;
            low = hk;
            leaves = sym e;
            nearer = subst (λ (y : ℕ). figure (set m (from k) w) (to k) < figure (set m (from k) w) y) (sym e) (omega (arith, here, less (to k)));
          })
          go (no ne) = elim (p.falls.stepped x) [
            | inl q ↦ inl (other ne ∙ q)
            | inr s ↦ inr (step_on from to (figure m) (figure (set m (from k) w)) x less (other ne) s)
          ]

  -- by the two things that the code has in hand
  pub keep_at : (a c : ℕ) → a ≡ from k → c ≡ to k → figure m a ≤ figure m c + 1 → Neared from to v m (k + 1) b
  keep_at a c ea ec h = keep (rw (sym ea, sym ec) h)

  pub shrink_at : (a c : ℕ) → a ≡ from k → c ≡ to k → k < 512 → a < length m → figure m c + 1 < figure m a → Neared from to v (set m a (figure m c + 1)) (k + 1) true
  shrink_at a c ea ec hk ha h = rw (ea, ec) (shrink (k + 1) hk (rw (sym ea) ha) (rw (sym ea, sym ec) h))

-- the code's variables are these
pub neared_as : {from to : ℕ → ℕ} {v m m' : List ℕ} {k : ℕ} {b b' : Bool} → m' ≡ m → b' ≡ b → Neared from to v m k b → Neared from to v m' k b'
neared_as e f p = rw (e, f) p

-- ── pass after pass ──
pub falls_on : (from to : ℕ → ℕ) (g v m : List ℕ) → Falls from to g v → Falls from to v m → Falls from to g m
falls_on from to g v m s p = record {
  long = p.long ∙ s.long;
  lower = λ x. le_trans (p.lower x) (s.lower x);
  stepped = λ x. elim (p.stepped x) [
    | inr t ↦ inr t
    | inl e ↦ elim (s.stepped x) [ inl q ↦ inl (e ∙ q) | inr t ↦ inr (step_on from to (figure v) (figure m) x p.lower e t) ]
  ];
}
