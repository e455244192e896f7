-- A loop that stores into an array at each index from 0 on (`Mapped`), or at some indexes from a base on (`Rowed`); and how long an array of
-- structs is. Assumes nothing.
use mathlib.Core.Path.{◌≡◌, refl, sym, ◌∙◌, ap}
use mathlib.Core.Logic.{◌⊎◌, inl, inr, ⊎_elim}
use mathlib.Core.List.{List, map}
use Prim.Native.Nat.{ℕ, ◌+◌, ◌≤◌, ◌<◌}
use native.Mathlib.Omega.{arith}
use native.Mathlib.Decide.{ℕ_discrete}
use lib.ListN.{length, get_or, set, length-set, length-map}
use lib.Seq.{get_or-set_same, get_or-set_other}

-- l' is l with each of its first i elements x made f j x
pub record Mapped {A : Type 0} (d : A) (f : ℕ → A → A) (l l' : List A) (i : ℕ) : Type 0 where
  pub long : length l' ≡ length l
  pub done : (j : ℕ) → j < i → get_or l' j d ≡ f j (get_or l j d)
  pub ahead : (j : ℕ) → i ≤ j → get_or l' j d ≡ get_or l j d

-- l' is l with the i elements from index b on made g 0, g 1, ..
pub record Rowed {A : Type 0} (d : A) (g : ℕ → A) (l l' : List A) (b i : ℕ) : Type 0 where
  pub long : length l' ≡ length l
  pub inside : (q : ℕ) → q < i → get_or l' (b + q) d ≡ g q
  pub outside : (j : ℕ) → (j < b) ⊎ (b + i ≤ j) → get_or l' j d ≡ get_or l j d

module _ {A : Type 0} (d : A) where
  pub mapped_none : (f : ℕ → A → A) (l : List A) → Mapped d f l l 0
  mapped_none f l = record { long = refl; done = λ j h. absurd (omega arith); ahead = λ j h. refl }

  pub mapped_more : (f : ℕ → A → A) (l l' : List A) (i : ℕ) (v : A) → Mapped d f l l' i → i < length l
      → v ≡ f i (get_or l' i d) → Mapped d f l (set l' i v) (i + 1)
  mapped_more f l l' i v p h e = record {
    long = simp length-set p.long;
    done = λ j lj. at j lj (ℕ_discrete j i);
    ahead = λ j lj. get_or-set_other l' i j v d (λ q. omega arith) ∙ p.ahead j (omega arith);
  }
    where
      at : (j : ℕ) → j < i + 1 → Dec (j ≡ i) → get_or (set l' i v) j d ≡ f j (get_or l j d)
      at j lj (yes q) = rw (q, get_or-set_same l' i v d (omega (arith, p.long))) (e ∙ ap (f i) (p.ahead i (omega arith)))
      at j lj (no nq) = get_or-set_other l' i j v d nq ∙ p.done j (omega arith)

  pub rowed_none : (g : ℕ → A) (l : List A) (b : ℕ) → Rowed d g l l b 0
  rowed_none g l b = record { long = refl; inside = λ q h. absurd (omega arith); outside = λ j h. refl }

  pub rowed_more : (g : ℕ → A) (l l' : List A) (b i : ℕ) (v : A) → Rowed d g l l' b i → b + i < length l → v ≡ g i
      → Rowed d g l (set l' (b + i) v) b (i + 1)
  rowed_more g l l' b i v p h e = record {
    long = simp length-set p.long;
    inside = λ q lq. at q lq (ℕ_discrete q i);
    outside = λ j o. get_or-set_other l' (b + i) j v d (λ z. ⊎_elim (λ w. omega arith) (λ w. omega arith) o)
        ∙ p.outside j (⊎_elim (λ w. inl w) (λ w. inr (omega arith)) o);
  }
    where
      at : (q : ℕ) → q < i + 1 → Dec (q ≡ i) → get_or (set l' (b + i) v) (b + q) d ≡ g q
      at q lq (yes z) = rw (z, get_or-set_same l' (b + i) v d (omega (arith, p.long))) e
      at q lq (no nz) = get_or-set_other l' (b + i) (b + q) v d (λ z. nz (omega arith)) ∙ p.inside q (omega arith)

  -- an array filled from the front
  pub stored : (f : ℕ → A) (r : List A) (i : ℕ) (v : A) → i < length r → ((j : ℕ) → j < i → get_or r j d ≡ f j) → v ≡ f i
      → (j : ℕ) → j < i + 1 → get_or (set r i v) j d ≡ f j
  stored f r i v l h e j lj = go (ℕ_discrete j i)
    where
      go : Dec (j ≡ i) → get_or (set r i v) j d ≡ f j
      go (yes q) = rw (q, get_or-set_same r i v d l) e
      go (no nq) = get_or-set_other r i j v d nq ∙ h j (omega arith)

-- the length of an array of structs, from what owning it tells
pub unmapped : (X Y : Type 0) (f : X → Y) (l : List X) (n : ℕ) → length (map f l) ≡ n → length l ≡ n
unmapped X Y f l n p = sym (length-map l f) ∙ p
