-- Labels joined, one after the other, and what a subject needs by its own handles: the figures of what it writes, joined in a loop over its places, are `own_need`. Assumes nothing.
use mathlib.Core.Path.{◌≡◌, refl, sym, ◌∙◌, ap, ap₂, subst}
use mathlib.Core.Bool.{Bool, true, false, not, cond}
use mathlib.Core.Logic.{◌⊎◌, inl, inr}
use mathlib.Core.Option.{none, some}
use mathlib.Core.List.{List, [], ◌∷◌}
use Prim.Native.Nat.{ℕ, zero, suc, ◌+◌, ◌-◌, ◌*◌, ◌%◌, ◌<◌}
use native.Mathlib.Omega.{arith}
use native.Mathlib.Decide.{ℕ_discrete}
use native.Mathlib.Numerals.{add-one}
use borrow.Author.Tests.{lt-ltb}
use lib.ListN.{length, get_or, take, drop, length-take, length-drop}
use lib.Seq.{get_or-take, get_or-drop}
use lib.Dec.{T, eqb}
use Rattle.model.specs.Lists.{In, each}
use Rattle.model.specs.Lists.Laws.{in_each, each_in}
use Rattle.model.specs.Label.{Label, ◌⊑◌, join}
use Rattle.model.proofs.Label.Laws.{⊑_trans, ⊑-antisym, join_left, join_right, join_lub, bot_least}
use Rattle.labels.specs.Codes.{coded}
use Rattle.labels.specs.Codes.Laws.{coded_zero}
use Rattle.model.specs.Flow.{Thing, object}
use Rattle.model.proofs.Flow.Laws.{joins_upper, joins_least}
use Rattle.model.specs.Tables.{reading, writing, Tables, live, needs}
use Rattle.model.specs.Tables.{Handle as Held}
use Rattle.model.specs.Invariant.{Wf}
use Rattle.model.specs.Figures.{Ready}
use Rattle.model.proofs.Calls.Needs.{written_at, own_need}
use Rattle.tables.specs.declared.Subject.{Subject}
use Rattle.tables.specs.declared.Object.{Object}
use Rattle.tables.specs.declared.Handle.{Handle}
use Rattle.tables.specs.Records.{held, reads_by, no_handle, tables_of}
use Rattle.tables.specs.Records.Laws.{slot_low}
use Rattle.tables.specs.Needs.{figure_of}
use Rattle.tables.specs.Working.{writes_by}
use Rattle.passes.specs.Working.{all_below}

-- ── labels joined ──
pub below_upper : (n : ℕ) (f : ℕ → Label) (j : ℕ) → j < n → f j ⊑ all_below n f
below_upper zero f j l = absurd (omega arith)
below_upper (suc n) f j l = go (ℕ_discrete j n) (below_upper n f j)
  where
    go : Dec (j ≡ n) → (j < n → f j ⊑ all_below n f) → f j ⊑ join (all_below n f) (f n)
    go (yes e) h = subst (λ (i : ℕ). f i ⊑ join (all_below n f) (f n)) (sym e) (join_right (all_below n f) (f n))
    go (no d) h = ⊑_trans (h (omega arith)) (join_left (all_below n f) (f n))

pub below_least : (n : ℕ) (f : ℕ → Label) (v : Label) → ((j : ℕ) → j < n → f j ⊑ v) → all_below n f ⊑ v
below_least zero f v h = bot_least
below_least (suc n) f v h = join_lub (below_least n f v (λ j l. h j (omega arith))) (h n (omega arith))

-- one more is joined, as numbers
pub joined_more : (f : ℕ → Label) (v p w u : ℕ) → coded v ≡ all_below p f → coded w ≡ f p → coded u ≡ join (coded v) (coded w) → coded u ≡ all_below (p + 1) f
joined_more f v p w u h e q = q ∙ ap₂ join h e ∙ ap (λ (i : ℕ). all_below i f) (sym (add-one p))

-- ── the places of subject s ──
-- as a slice of the handles
abbrev pub places_of : List Handle → ℕ → List Handle
places_of hs s = take (s * 16 + 16 - s * 16) (drop (s * 16) hs)

pub places_long : (hs : List Handle) (s : ℕ) → length hs ≡ 512 → s < 32 → length (places_of hs s) ≡ 16
places_long hs s l h = simp (length-take, length-drop) (omega arith)

pub place_at : (hs : List Handle) (s p : ℕ) → length hs ≡ 512 → s < 32 → p < length (places_of hs s) → get_or (places_of hs s) p no_handle ≡ get_or hs (s * 16 + p) no_handle
place_at hs s p l h i = get_or-take _ (drop (s * 16) hs) p no_handle (omega (arith, places_long hs s l h)) ∙ get_or-drop (s * 16) hs p no_handle

-- ── what a subject writes ──
-- the figure of what the handle at place p of subject s writes
abbrev pub written_by : List ℕ → List Handle → ℕ → ℕ → ℕ
written_by n hs s p = let h = get_or hs (s * 16 + p) no_handle in cond (writes_by h.way) (get_or n (32 + h.object % 64) 0) 0

module _ (rest : Tables) (ss : List Subject) (os : List Object) (hs : List Handle) (n : List ℕ) (s : ℕ) (lo : length os ≡ 64) (w : Wf (tables_of rest ss os hs))
    (k : Ready (tables_of rest ss os hs) (figure_of n)) where
  abbrev t : Tables
  t = tables_of rest ss os hs

  -- a place has nothing that s writes, and the figure 0; or one thing, and its figure
  abbrev Place : ℕ → Type 0
  Place p = ((written_at (t.hand s p) ≡ []) × (written_by n hs s p ≡ 0))
      ⊎ ((o : Thing) × (written_at (t.hand s p) ≡ o ∷ []) × (coded (written_by n hs s p) ≡ needs t o))

  place : (p : ℕ) → p < 16 → Place p
  unfolding tables_of
  place p l = go (eqb h.way 0) (reads_by h.way) refl refl
    where
      h : Handle
      h = get_or hs (s * 16 + p) no_handle

      of : Bool → Held
      of r = record { dir = cond r reading writing; to = h.object; marked = not (eqb h.mark 0); mapped = eqb h.way 3 }

      there : (z r : Bool) → eqb h.way 0 ≡ z → reads_by h.way ≡ r → t.hand s p ≡ cond z none (some (of r))
      there z r a b = ap (λ (c : Bool). cond c (held h) none) (lt-ltb p 16 l) ∙ ap₂ (λ (c d : Bool). cond c none (some (of d))) a b

      figure : (z r : Bool) → eqb h.way 0 ≡ z → reads_by h.way ≡ r → written_by n hs s p ≡ cond (cond z false (not r)) (get_or n (32 + h.object % 64) 0) 0
      figure z r a b = ap₂ (λ (c d : Bool). cond (cond c false (not d)) (get_or n (32 + h.object % 64) 0) 0) a b

      its : T (live t (object h.object)) → coded (get_or n (32 + h.object % 64) 0) ≡ needs t (object h.object)
      its g = let e : h.object % 64 ≡ h.object = omega (arith, slot_low rest ss os hs lo t h.object refl g) in
          ap (λ (i : ℕ). coded (get_or n (32 + i) 0)) e ∙ k.need_is (object h.object) g

      go : (z r : Bool) → eqb h.way 0 ≡ z → reads_by h.way ≡ r → Place p
      go true r a b = inl (ap written_at (there true r a b), figure true r a b)
      go false true a b = inl (ap written_at (there false true a b), figure false true a b)
      go false false a b = inr (object h.object, ap written_at (there false false a b), ap coded (figure false false a b) ∙ its (w.ends s p (of false) (there false false a b)).to)

  pub own_is : all_below 16 (λ p. coded (written_by n hs s p)) ≡ own_need (tables_of rest ss os hs) s
  own_is = ⊑-antisym (below_least 16 _ (own_need t s) (λ p l. low p l (place p l))) high
    where
      written : List Thing
      written = each 16 (λ p. written_at (t.hand s p))

      all : Label
      all = all_below 16 (λ p. coded (written_by n hs s p))

      low : (p : ℕ) → p < 16 → Place p → coded (written_by n hs s p) ⊑ own_need t s
      low p l (inl c) = subst (λ (a : Label). a ⊑ own_need t s) (sym (ap coded c.1 ∙ coded_zero)) bot_least
      low p l (inr c) = subst (λ (a : Label). a ⊑ own_need t s) (sym c.2) (joins_upper (needs t) written c.0
          (in_each 16 (λ p. written_at (t.hand s p)) c.0 p l (subst (λ (l : List Thing). In c.0 l) (sym c.1) (inl refl))))

      at : (o : Thing) (p : ℕ) → p < 16 → Place p → In o (written_at (t.hand s p)) → needs t o ⊑ all
      at o p l (inl c) i = absurd (subst (λ (l : List Thing). In o l) c.0 i)
      at o p l (inr c) i = elim (subst (λ (l : List Thing). In o l) c.1 i) [
        | inl e ↦ subst (λ (x : Thing). needs t x ⊑ all) e (subst (λ (a : Label). a ⊑ all) c.2 (below_upper 16 (λ p. coded (written_by n hs s p)) p l))
        | inr b ↦ absurd b
      ]

      high : own_need t s ⊑ all
      high = joins_least (needs t) written all (λ o i. let r = each_in 16 (λ p. written_at (t.hand s p)) o i in at o r.0 r.1 (place r.0 r.1) r.2)
