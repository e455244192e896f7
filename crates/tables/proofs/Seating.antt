-- What a test of one slot says of the slot of a number, and of the lowest number from another on. Assumes nothing.
use mathlib.Core.Path.{◌≡◌, refl, sym, ◌∙◌, ap, ap₂, subst}
use mathlib.Core.Bool.{Bool, true, false, ◌&&◌, cond}
use mathlib.Core.Logic.{inl, inr}
use mathlib.Core.List.{List, [], ◌∷◌}
use Prim.Native.Nat.{ℕ, zero, suc, ◌+◌, ◌%◌, ◌<◌, ◌≤◌}
use native.Mathlib.Omega.{arith}
use native.Mathlib.Decide.{ℕ_discrete}
use lib.ListN.{length, get_or}
use lib.Dec.{T, not_T, eqb, eqb→eq, eqb_refl}
use Rattle.std.proofs.Common.{Option, None, Some, unwrap_or}
use Rattle.model.specs.Bools.{both, both_of, cond_no}
use Rattle.tables.specs.declared.Object.{Object}
use Rattle.tables.specs.Slots.{slot_used, Here, Found, NoneFrom, Lowest, First, Free, Seated, Home, repeated, singled, single}
use Rattle.tables.specs.Records.{no_object}
use Rattle.tables.specs.Working.{some_below}
use Rattle.tables.proofs.Below.{some_of_below}

abbrev pub hit : List Object → List ℕ → ℕ → ℕ → Bool
hit os ns o i = slot_used os i && eqb (get_or ns i 0) o

-- (of a slot modulo how many there are, for crate `inplace`)
pub here : (os : List Object) (ns : List ℕ) (o i r : ℕ) (b : Bool) → b ≡ hit os ns o (i % 64) → b ≡ true → r ≡ i % 64 → Here os ns o r
here os ns o i r b e q z = let h = both_of (slot_used os (i % 64)) (eqb (get_or ns (i % 64) 0) o) (subst T (sym (sym e ∙ q)) tt) in
    subst (Here os ns o) (sym z) (omega arith, h.0, eqb→eq (get_or ns (i % 64) 0) o h.1)

pub missed : (os : List Object) (ns : List ℕ) (o i : ℕ) (b : Bool) → i < 64 → b ≡ hit os ns o (i % 64) → b ≡ false → T (slot_used os i) → get_or ns i 0 ≡ o → ⊥
missed os ns o i b l e q u z = let m : i % 64 ≡ i = omega arith in
    subst T (ap (hit os ns o) (sym m) ∙ sym e ∙ q) (both (slot_used os i) (eqb (get_or ns i 0) o) u (subst (λ (v : ℕ). T (eqb (get_or ns i 0) v)) z (eqb_refl (get_or ns i 0))))

-- one slot more
pub further : (P : ℕ → Type 0) (i : ℕ) → ((j : ℕ) → j < i → P j) → P i → (k : ℕ) → k < i + 1 → P k
further P i f p k l = go (ℕ_discrete k i)
  where
    go : Dec (k ≡ i) → P k
    go (yes e) = subst P (sym e) p
    go (no n) = f k (omega (arith, n))

pub seated_here : (os : List Object) (ns : List ℕ) (o but r : ℕ) → Found os ns o r → r < 64 → Seated os ns o but r
seated_here os ns o but r f l = record { is = elim f.is [ inl h ↦ inl h | inr h ↦ absurd (omega (arith, h.1)) ] }

pub seated_free : (os : List Object) (ns : List ℕ) (o but at r : ℕ) → Found os ns o at → 64 ≤ at → Free os but r → Seated os ns o but r
seated_free os ns o but at r f l z = record { is = elim f.is [ inl h ↦ absurd (omega (arith, h.0)) | inr h ↦ inr (h.0, z) ] }

-- ── the lowest number from o on ──
-- what is found in the slots below k: their lowest number from o on, or nothing
abbrev pub Sought : List Object → List ℕ → ℕ → ℕ → Option ℕ → Type 0
Sought os ns o k (Some r) = Lowest os ns o k r
Sought os ns o k None = NoneFrom os ns o k

-- slot k is tested: its number n becomes the lowest, or nothing changes
module _ (os : List Object) (ns : List ℕ) (o k n : ℕ) (e : n ≡ get_or ns k 0) (v : Option ℕ) (s : Sought os ns o k v) where
  abbrev Above : ℕ → Type 0
  Above j = T (slot_used os j) → o ≤ get_or ns j 0 → n ≤ get_or ns j 0

  pub nearer : T (slot_used os k) → o ≤ n → ((r : ℕ) → v ≡ Some r → n < r) → Sought os ns o (k + 1) (Some n)
  nearer u a l = ((k, omega arith, u, sym e), a, further Above k (below v refl s l) (λ _ _. omega (arith, e)))
    where
      below : (w : Option ℕ) → v ≡ w → Sought os ns o k w → ((r : ℕ) → w ≡ Some r → n < r) → (j : ℕ) → j < k → Above j
      below (Some r) q (i, z, f) l j lj x y = let h = f j lj x y in let g = l r refl in omega (arith, h, g)
      below None q f l j lj x y = absurd (f j lj x y)

  pub no_nearer : (T (slot_used os k) → o ≤ n → (v ≡ None → ⊥) × ((r : ℕ) → v ≡ Some r → r ≤ n)) → Sought os ns o (k + 1) v
  no_nearer h = go v refl s
    where
      go : (w : Option ℕ) → v ≡ w → Sought os ns o k w → Sought os ns o (k + 1) w
      go (Some r) q ((i, li, u, z), a, f) = (
        (i, omega arith, u, z),
        a,
        further (λ (j : ℕ). T (slot_used os j) → o ≤ get_or ns j 0 → r ≤ get_or ns j 0) k f (λ u b. let l = (h u (omega (arith, e, b))).1 r q in omega (arith, l, e)),
      )
      go None q f = further (λ (j : ℕ). T (slot_used os j) → o ≤ get_or ns j 0 → ⊥) k f (λ u b. (h u (omega (arith, e, b))).0 q)

-- all slots are tested
pub first_of : (os : List Object) (ns : List ℕ) (o : ℕ) (v : Option ℕ) → Sought os ns o 64 v → First os ns o (unwrap_or v 0)
first_of os ns o (Some r) s = record { is = inl s }
first_of os ns o None s = record { is = inr (s, refl) }

-- ── of slots that have one number only the first ──
pub singled_long : (f : ℕ → Bool) (i : ℕ) (l : List Object) → length (singled f i l) ≡ length l
singled_long f i [] = refl
singled_long f i (x ∷ l) = ap suc (singled_long f (suc i) l)

pub singled_at : (f : ℕ → Bool) (i : ℕ) (l : List Object) (j : ℕ) → get_or (singled f i l) j no_object ≡ cond (f (i + j)) no_object (get_or l j no_object)
singled_at f i [] j = go (f (i + j))
  where
    go : (b : Bool) → no_object ≡ cond b no_object no_object
    go true = refl
    go false = refl
singled_at f i (x ∷ l) zero = let e : i ≡ i + 0 = omega arith in ap (λ (k : ℕ). cond (f k) no_object x) e
singled_at f i (x ∷ l) (suc j) = let e : suc i + j ≡ i + suc j = omega arith in singled_at f (suc i) l j ∙ ap (λ (k : ℕ). cond (f k) no_object (get_or l j no_object)) e

pub same_lists : (a b : List Object) → length a ≡ length b → ((j : ℕ) → j < length a → get_or a j no_object ≡ get_or b j no_object) → a ≡ b
same_lists [] [] l f = refl
same_lists [] (y ∷ b) l f = absurd (let z : ◌≡◌ {A = ℕ} 0 (suc (length b)) = l in omega arith)
same_lists (x ∷ a) [] l f = absurd (let z : ◌≡◌ {A = ℕ} (suc (length a)) 0 = l in omega arith)
same_lists (x ∷ a) (y ∷ b) l f = ap₂ {C = List Object} (λ (z : Object) (k : List Object). z ∷ k) (f 0 (let z : 0 < suc (length a) = omega arith in z))
    (same_lists a b (let z : suc (length a) ≡ suc (length b) = l in omega arith) (λ j h. f (suc j) (let z : suc j < suc (length a) = omega arith in z)))

pub single_is : (os : List Object) (ns : List ℕ) (r : List Object) → length r ≡ length os
    → ((j : ℕ) → j < length os → get_or r j no_object ≡ cond (repeated os ns j) no_object (get_or os j no_object)) → r ≡ single os ns
single_is os ns r l m = same_lists r (single os ns) (l ∙ sym (singled_long (repeated os ns) 0 os))
    (λ j h. m j (omega (arith, l)) ∙ sym (singled_at (repeated os ns) 0 os j ∙ (let e : 0 + j ≡ j = omega arith in ap (λ (k : ℕ). cond (repeated os ns k) no_object (get_or os j no_object)) e)))

-- where no two slots in use have one number, all of them count
pub apart_single : (os : List Object) (ns : List ℕ) → length os ≡ 64
    → ((i j : ℕ) → i < j → j < 64 → T (slot_used os i) → T (slot_used os j) → get_or ns i 0 ≡ get_or ns j 0 → ⊥) → single os ns ≡ os
apart_single os ns lo d = same_lists (single os ns) os (singled_long (repeated os ns) 0 os) (λ j h. at j ∙ cond_no (repeated os ns j) no_object (get_or os j no_object)
    (not_T (repeated os ns j) (λ r. never j (omega (arith, h, lo, singled_long (repeated os ns) 0 os)) (both_of (slot_used os j) (some_below j (λ k. slot_used os k && eqb (get_or ns k 0) (get_or ns j 0))) r))))
  where
    at : (j : ℕ) → get_or (single os ns) j no_object ≡ cond (repeated os ns j) no_object (get_or os j no_object)
    at j = singled_at (repeated os ns) 0 os j ∙ (let e : 0 + j ≡ j = omega arith in ap (λ (k : ℕ). cond (repeated os ns k) no_object (get_or os j no_object)) e)

    never : (j : ℕ) → j < 64 → T (slot_used os j) × T (some_below j (λ k. slot_used os k && eqb (get_or ns k 0) (get_or ns j 0))) → ⊥
    never j l (u, s) = let (i, b, h) = some_of_below j (λ k. slot_used os k && eqb (get_or ns k 0) (get_or ns j 0)) s in
        let p = both_of (slot_used os i) (eqb (get_or ns i 0) (get_or ns j 0)) h in d i j b l p.0 u (eqb→eq (get_or ns i 0) (get_or ns j 0) p.1)

pub home_single : (os : List Object) (ns : List ℕ) → length os ≡ 64 → Home os ns → os ≡ single os ns
home_single os ns lo h = sym (apart_single os ns lo (λ i j b l u v e. let p = h i (omega (arith, b, l)) u in let q = h j l v in omega (arith, p, q, e, b)))
