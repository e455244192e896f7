-- How the figures come to be the least ones. `Passed` edge by edge: `start`, `keep` (nothing to take), `grow` (the start takes its end's
-- figure). Then pass by pass: `Between` composes, the sum rises until a pass finds nothing to take. Assumes nothing.
use mathlib.Core.Path.{◌≡◌, refl, sym, subst, subst₂, ◌∙◌}
use mathlib.Core.Bool.{Bool, true, false, ◌||◌}
use mathlib.Core.Logic.{◌⊎◌, inl, inr}
use mathlib.Core.List.{List, [], ◌∷◌}
use Prim.Native.Nat.{ℕ, zero, suc, ◌+◌, ◌*◌, ◌-◌, ◌/◌, ◌%◌, ◌≤◌, ◌<◌}
use native.Mathlib.Omega.{arith}
use native.Mathlib.Decide.{ℕ_discrete}
use native.Mathlib.Nat.{le_refl}
use lib.ListN.{length, get_or, set, length-set}
use lib.Seq.{get_or-set_same, get_or-set_other}
use lib.Dec.{T}
use Rattle.model.specs.Sets.Laws.{within_all}
use Rattle.model.specs.Sets.{within}
use Rattle.model.specs.Label.{Label, leq, ◌⊑◌, join}
use Rattle.model.proofs.Label.Laws.{level_label, shops_label, ⊑-of, ⊑_refl, ⊑_trans, join_left, join_lub}
use Rattle.labels.specs.Codes.{coded}
use Rattle.labels.specs.Codes.Laws.{coded_le, coded_grows}
use Rattle.passes.specs.Least.{figure, Before, Behind, Between, Least, sum, Passed}
use Rattle.passes.specs.Working.{Taken}

sum_set : (l : List ℕ) (i v : ℕ) → i < length l → sum (set l i v) + get_or l i 0 ≡ sum l + v
sum_set [] i v h = omega arith
sum_set (x ∷ l) zero v h = omega arith
sum_set (x ∷ l) (suc i) v h = let q : sum (set l i v) + get_or l i 0 ≡ sum l + v = sum_set l i v (omega arith) in omega arith

sum_low : (l : List ℕ) → ((x : ℕ) → get_or l x 0 ≤ 65535) → sum l ≤ 65535 * length l
sum_low [] h = omega arith
sum_low (x ∷ l) h = omega (arith, h 0, sum_low l (λ i. h (suc i)))

-- every number of 16 bits is at most the largest, as labels
under_all : (a : ℕ) → a ≤ 65535 → coded a ⊑ coded 65535
under_all a h = ⊑-of (coded a) (coded 65535)
    (subst₂ ◌≤◌ (sym (level_label (a / 256) (a % 256))) (sym (level_label (65535 / 256) (65535 % 256))) (omega (arith, h)))
    (subst₂ (λ (x y : ℕ). T (within x y)) (sym (shops_label (a / 256) (a % 256))) (sym (shops_label (65535 / 256) (65535 % 256))) (within_all (a % 256) (omega arith)))

pub true_false : {X : Type 0} → ◌≡◌ {A = Bool} true false → X
true_false e = let z : ◌≡◌ {A = ℕ} 0 1 = cc in absurd (omega arith)

-- what holds at i after a store at i, and what held elsewhere, holds everywhere
set_cases : (P : ℕ → ℕ → Type 0) (l : List ℕ) (i v x : ℕ) → i < length l → P i v → P x (get_or l x 0) → P x (get_or (set l i v) x 0)
set_cases P l i v x h p q = go (ℕ_discrete x i)
  where
    go : Dec (x ≡ i) → P x (get_or (set l i v) x 0)
    go (yes e) = subst (λ (y : ℕ). P y (get_or (set l i v) y 0)) (sym e) (subst (λ (w : ℕ). P i w) (sym (get_or-set_same l i v 0 h)) p)
    go (no ne) = subst (λ (w : ℕ). P x w) (sym (get_or-set_other l i x v 0 ne)) q

or_true : (b : Bool) → (b || true) ≡ true
or_true true = refl
or_true false = refl

or_false : (b : Bool) → (b || false) ≡ b
or_false true = refl
or_false false = refl

-- ── one pass ──
pub start : (w : ℕ) (from to : ℕ → ℕ) (n : List ℕ) (done : ℕ → Type 0) → ((i : ℕ) → done i → ⊥) → Passed w from to n n done false
start w from to n done z = record {
  between = record { long = refl; above = λ x. ⊑_refl; under = λ ψ p x. p.above x };
  total = le_refl _;
  grew = λ e. true_false (sym e);
  still = λ e. (refl, λ i h. absurd (z i h));
}

-- edge k is done after those before it
module _ (w : ℕ) (from to : ℕ → ℕ) (n m : List ℕ) (k : ℕ) (done more : ℕ → Type 0) (b : Bool) (p : Passed w from to n m done b) (f : (i : ℕ) → more i → done i ⊎ (i ≡ k)) where
  keep : figure m (to k) ⊑ figure m (from k) → Passed w from to n m more b
  keep h = record {
    between = p.between;
    total = p.total;
    grew = p.grew;
    still = λ e. (
      (p.still e).0,
      λ i d. elim (f i d) [
        | inl c ↦ (p.still e).1 i c
        | inr q ↦ subst (λ (j : ℕ). figure m (to j) ⊑ figure m (from j)) (sym q) h
      ],
    );
  }

  -- v takes both figures in
  grow : (v : ℕ) → coded v ≡ join (figure m (from k)) (figure m (to k)) → k < w → from k < length m → (figure m (to k) ⊑ figure m (from k) → ⊥) → Passed w from to n
      (set m (from k) v) more true
  grow v e hk ha h = record {
    between = record {
      long = simp length-set p.between.long;
      above = λ x. set_cases (λ y w. figure n y ⊑ coded w) m (from k) v x ha
          (subst (λ (l : Label). figure n (from k) ⊑ l) (sym e) (⊑_trans (p.between.above (from k)) (join_left (figure m (from k)) (figure m (to k))))) (p.between.above x);
      under = λ ψ q x. set_cases (λ y w. coded w ⊑ ψ y) m (from k) v x ha
          (subst (λ (l : Label). l ⊑ ψ (from k)) (sym e) (join_lub (p.between.under ψ q (from k)) (⊑_trans (p.between.under ψ q (to k)) (q.settled k hk)))) (p.between.under ψ q x);
    };
    total = omega (arith, sum_set m (from k) v ha, p.total, larger);
    grew = λ _. omega (arith, sum_set m (from k) v ha, p.total, larger);
    still = λ z. true_false z;
  }
    where
      larger : get_or m (from k) 0 < v
      larger = coded_grows (get_or m (from k) 0) (get_or m (to k) 0) v h e

  -- its start takes its end's figure in
  taken : (m' : List ℕ) (g : Bool) → Taken (from k) (to k) m m' g → k < w → from k < length m → Passed w from to n m' more (b || g)
  taken m' true h hk ha = let g = h.grew refl in rw (g.1, or_true b) (grow g.0 g.2 hk ha g.3)
  taken m' false h hk ha = let s = h.still refl in rw (s.0, or_false b) (keep s.1)

  -- by the two things that the code has in hand
  pub taken_at : (a c : ℕ) (m' : List ℕ) (g : Bool) → a ≡ from k → c ≡ to k → Taken a c m m' g → k < w → a < length m → Passed w from to n m' more (b || g)
  taken_at a c m' g ea ec h hk ha = taken m' g (subst₂ (λ (x y : ℕ). Taken x y m m' g) ea ec h) hk (subst (λ (x : ℕ). x < length m) ea ha)

-- where the code notes in a test that a figure grew
pub noted : {w : ℕ} {from to : ℕ → ℕ} {n m : List ℕ} {done : ℕ → Type 0} (b : Bool) {c g : Bool} → g ≡ true → c ≡ true → Passed w from to n m done (b || g) → Passed w from to n m done c
noted b e q p = rw q (rw (e, or_true b) at p)

pub unnoted : {w : ℕ} {from to : ℕ → ℕ} {n m : List ℕ} {done : ℕ → Type 0} (b : Bool) {c g : Bool} → g ≡ false → c ≡ b → Passed w from to n m done (b || g) → Passed w from to n m done c
unnoted b e q p = rw q (rw (e, or_false b) at p)

-- what the code's test says
pub holds : {b : Bool} {l v : Label} → b ≡ leq l v → b ≡ true → l ⊑ v
holds q e = record { tested = subst T (sym e ∙ q) tt }

pub fails : {b : Bool} {l v : Label} → b ≡ leq l v → b ≡ false → l ⊑ v → ⊥
fails q e h = subst T (sym q ∙ e) h.tested

-- ── the two orders ──
pub next_before : (k i : ℕ) → Before (k + 1) i → Before k i ⊎ (i ≡ k)
next_before k i h = go (ℕ_discrete i k)
  where
    go : Dec (i ≡ k) → Before k i ⊎ (i ≡ k)
    go (yes e) = inr e
    go (no n) = inl (omega arith)

pub next_behind : (w k l i : ℕ) → l ≡ k + 1 → Behind w k i → Behind w l i ⊎ (i ≡ k)
next_behind w k l i e h = go (ℕ_discrete i k)
  where
    go : Dec (i ≡ k) → Behind w l i ⊎ (i ≡ k)
    go (yes q) = inr q
    go (no n) = inl (omega (arith, h.0), h.1)

-- all edges are done, in whichever order
pub all_done : {w : ℕ} {from to : ℕ → ℕ} {n m : List ℕ} {done : ℕ → Type 0} {b : Bool} → ((i : ℕ) → i < w → done i) → Passed w from to n m done b
    → Passed w from to n m (Before w) b
all_done f p = record { between = p.between; total = p.total; grew = p.grew; still = λ e. ((p.still e).0, λ i h. (p.still e).1 i (f i h)) }

-- ── pass after pass ──
module _ (w : ℕ) (from to : ℕ → ℕ) (n : List ℕ) where
  pub none_yet : Between w from to n n
  none_yet = record { long = refl; above = λ x. ⊑_refl; under = λ ψ p x. p.above x }

  -- figures between those that are between are between
  pub one_more : (m m' : List ℕ) → Between w from to n m → Between w from to m m' → Between w from to n m'
  one_more m m' s p = record {
    long = p.long ∙ s.long;
    above = λ x. ⊑_trans (s.above x) (p.above x);
    under = λ ψ q x. p.under ψ (record { above = s.under ψ q; settled = q.settled }) x;
  }

  -- every figure is a number of 16 bits: each is at most the largest of them, which is a potential everywhere
  low_still : (m : List ℕ) → Between w from to n m → ((x : ℕ) → get_or n x 0 ≤ 65535) → (x : ℕ) → get_or m x 0 ≤ 65535
  low_still m s h x = omega (arith, coded_le (get_or m x 0) 65535 (s.under (λ y. coded 65535) (record { above = λ y. under_all (get_or n y 0) (h y); settled = λ i l. ⊑_refl }) x))

module _ (w : ℕ) (from to : ℕ → ℕ) (n m m' : List ℕ) (b : Bool) (s : Between w from to n m) (p : Passed w from to m m' (Before w) b) where
  pub then : Between w from to n m'
  then = one_more w from to n m m' s p.between

  pub stop : b ≡ false → Least w from to n m'
  stop e = record { between = then; settled = (p.still e).1 }

-- a pass that grew, and one more
pub falls : (w : ℕ) (from to : ℕ → ℕ) (n m m' m'' : List ℕ) (b c : Bool) → Between w from to n m → Passed w from to m m' (Before w) b → Passed w from to m' m'' (Before w) c
    → length n ≡ 96 → ((x : ℕ) → get_or n x 0 ≤ 65535) → b ≡ true → 6291360 - sum m'' < 6291360 - sum m
falls w from to n m m' m'' b c s p q l h e =
    let t : Between w from to n m'' = then w from to n m' m'' c (then w from to n m m' b s p) q in
    omega (arith, p.grew e, q.total, sum_low m'' (low_still w from to n m'' t h), t.long)

-- passes without a target end where nothing grew
pub never_stopped : (b : Bool) → (b ≡ false → ⊥) → b ≡ true
never_stopped true f = refl
never_stopped false f = absurd (f refl)
