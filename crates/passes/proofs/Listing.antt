-- Flows as a list of edges: how the list comes to have those of the handles, and that figures are raised along the list as along the handles. Assumes nothing.
use mathlib.Core.Path.{◌≡◌, sym, ◌∙◌, ap, subst, subst₂}
use mathlib.Core.Bool.{Bool, true, false, cond}
use mathlib.Core.Logic.{◌⊎◌, inl, inr}
use mathlib.Core.List.{List, [], ◌∷◌, ◌++◌, map}
use Prim.Native.Nat.{ℕ, ◌+◌, ◌%◌, ◌<◌}
use native.Mathlib.Omega.{arith}
use native.Mathlib.Decide.{ℕ_discrete}
use native.Mathlib.Nat.{le_refl}
use borrow.Author.Tests.{eq-eqb, ne_eqb}
use lib.ListN.{length, get_or, get_or-append, length-append, length-map}
use lib.Seq.{get_or-append_seam}
use Rattle.std.proofs.lemmas.List.{get_or-map}
use Rattle.std.proofs.lemmas.List.{map-append}
use Rattle.model.specs.Label.{Label, ◌⊑◌}
use Rattle.model.proofs.Label.Laws.{⊑_refl}
use Rattle.tables.specs.declared.Handle.{Handle}
use Rattle.passes.specs.declared.edge.Edge.{Edge}
use Rattle.tables.specs.Records.{reads_by, no_handle}
use Rattle.passes.specs.Least.{Before, Settled, Between}
use Rattle.passes.specs.Working.{alike, end_by, source, target}
use Rattle.passes.specs.Listing.{start_at, end_at, Flow, Listed}

-- ── one handle ──
pub empty_end : (h : Handle) (s : ℕ) (start : Bool) → h.way ≡ 0 → end_by h s start ≡ 0
empty_end h s start z = ap (λ (b : Bool). cond b 0 (cond (alike (reads_by h.way) start) (32 + h.object % 64) s)) (eq-eqb h.way 0 z)

pub open_end : (h : Handle) (s : ℕ) (start : Bool) {r : Bool} → (h.way ≡ 0 → ⊥) → r ≡ reads_by h.way → end_by h s start ≡ cond (alike r start) (32 + h.object % 64) s
open_end h s start ne q = ap (λ (b : Bool). cond b 0 (cond (alike (reads_by h.way) start) (32 + h.object % 64) s)) (ne_eqb h.way 0 ne)
    ∙ ap (λ (b : Bool). cond (alike b start) (32 + h.object % 64) s) (sym q)

pub nowhere : (ld : List ℕ) (hs : List Handle) (i : ℕ) → (get_or hs i no_handle).way ≡ 0 → source ld hs i ≡ target ld hs i
nowhere ld hs i z = let h = get_or hs i no_handle in empty_end h _ true z ∙ sym (empty_end h _ false z)

-- ── the list, handle by handle ──
pub none_listed : (ld : List ℕ) (hs : List Handle) → Listed ld hs [] 0
none_listed ld hs = record {
  few = le_refl _;
  has = λ i l. absurd (omega arith);
  only = λ k l. absurd (omega arith);
}

module _ (ld : List ℕ) (hs : List Handle) (es : List Edge) (i : ℕ) (p : Listed ld hs es i) where
  -- one that does not count
  pub leave : source ld hs i ≡ target ld hs i → Listed ld hs es (i + 1)
  leave f = record {
    few = omega (arith, p.few);
    has = λ j l. at j l (ℕ_discrete j i);
    only = λ k l. let r = p.only k l in (r.0, omega (arith, r.1), r.2);
  }
    where
      at : (j : ℕ) → j < i + 1 → Dec (j ≡ i) → (source ld hs j ≡ target ld hs j) ⊎ ((k : ℕ) × (k < length es) × Flow ld hs es j k)
      at j l (yes e) = inl (subst (λ (z : ℕ). source ld hs z ≡ target ld hs z) (sym e) f)
      at j l (no d) = p.has j (omega arith)

  -- one that does
  module _ (e : Edge) (ea : e.from ≡ source ld hs i) (eb : e.to ≡ target ld hs i) where
    abbrev more : List Edge
    more = es ++ e ∷ []

    long : length more ≡ length es + 1
    long = length-append es (e ∷ [])

    before : (f : Edge → ℕ) (k : ℕ) → k < length es → get_or (map f more) k 0 ≡ get_or (map f es) k 0
    before f k l = ap (λ (l : List ℕ). get_or l k 0) (map-append f es (e ∷ [])) ∙ get_or-append (map f es) (f e ∷ []) 0 k (omega (arith, length-map es f))

    last : (f : Edge → ℕ) → get_or (map f more) (length es) 0 ≡ f e
    last f = ap (λ (l : List ℕ). get_or l (length es) 0) (map-append f es (e ∷ []))
        ∙ ap (λ (k : ℕ). get_or (map f es ++ f e ∷ []) k 0) (sym (length-map es f)) ∙ get_or-append_seam (map f es) (f e) [] 0

    stays : (j k : ℕ) → k < length es → Flow ld hs es j k → Flow ld hs more j k
    stays j k h f = record { start = before (λ x. x.from) k h ∙ f.start; end = before (λ x. x.to) k h ∙ f.end }

    here : Flow ld hs more i (length es)
    here = record { start = last (λ x. x.from) ∙ ea; end = last (λ x. x.to) ∙ eb }

    pub put : Listed ld hs more (i + 1)
    put = record {
      few = omega (arith, p.few, long);
      has = λ j h. at j h (ℕ_discrete j i);
      only = λ k h. of k (omega (arith, long)) (ℕ_discrete k (length es));
    }
      where
        at : (j : ℕ) → j < i + 1 → Dec (j ≡ i) → (source ld hs j ≡ target ld hs j) ⊎ ((k : ℕ) × (k < length more) × Flow ld hs more j k)
        at j h (yes q) = inr (length es, omega (arith, long), subst (λ (y : ℕ). Flow ld hs more y (length es)) (sym q) here)
        at j h (no d) = elim (p.has j (omega arith)) [
          | inl c ↦ inl c
          | inr c ↦ inr (c.0, omega (arith, c.1, long), stays j c.0 c.1 c.2)
        ]

        of : (k : ℕ) → k < length es + 1 → Dec (k ≡ length es) → (j : ℕ) × (j < i + 1) × Flow ld hs more j k
        of k h (yes q) = (i, omega arith, subst (λ (y : ℕ). Flow ld hs more i y) (sym q) here)
        of k h (no d) = let r = p.only k (omega arith) in (r.0, omega (arith, r.1), stays r.0 k (omega arith) r.2)

-- the code's variables are these
pub put_as : {ld : List ℕ} {hs : List Handle} {es es' : List Edge} {i : ℕ} (e : Edge) → Listed ld hs es i → es' ≡ es ++ e ∷ [] → (e.from ≡ source ld hs i) × (e.to ≡ target ld hs i) → Listed ld hs es' (i + 1)
put_as e p q r = rw q (put _ _ _ _ p e r.0 r.1)

pub leave_as : {ld : List ℕ} {hs : List Handle} {es es' : List Edge} {i : ℕ} → Listed ld hs es i → es' ≡ es → source ld hs i ≡ target ld hs i → Listed ld hs es' (i + 1)
leave_as p q f = rw q (leave _ _ _ _ p f)

-- the list as a slice
pub sliced : {ld : List ℕ} {hs : List Handle} {es es' : List Edge} {done : ℕ} → Listed ld hs es done → es' ≡ es → Listed ld hs es' done
sliced p q = rw q p

-- ── an edge of the list ──
pub at_index : (f : Edge → ℕ) (es : List Edge) (i : ℕ) (e : Edge) → e ≡ get_or es i e → i < length es → f e ≡ get_or (map f es) i 0
at_index f es i e q l = ap f q ∙ sym (get_or-map f es i e 0 l)

pub at_seam : (f : Edge → ℕ) (es front behind : List Edge) (e : Edge) → es ≡ front ++ e ∷ behind → f e ≡ get_or (map f es) (length front) 0
at_seam f es front behind e q = at_index f es (length front) e (sym (get_or-append_seam front e behind e) ∙ ap (λ (l : List Edge). get_or l (length front) e) (sym q))
    (omega (arith, ap length q, length-append front (e ∷ behind)))

-- ── the list has been made ──
module _ {ld : List ℕ} {hs : List Handle} {es : List Edge} (p : Listed ld hs es 512) where
  -- what falls along every flow of the handles does along the list
  pub along_list : (ψ : ℕ → Label) → Settled (source ld hs) (target ld hs) ψ (Before 512) → Settled (start_at es) (end_at es) ψ (Before (length es))
  along_list ψ f k l = let r = p.only k l in subst₂ (λ x y. ψ x ⊑ ψ y) (sym r.2.end) (sym r.2.start) (f r.0 r.1)

  -- so that what is between on the list is between on the handles
  pub between_handles : (base r : List ℕ) → Between (length es) (start_at es) (end_at es) base r → Between 512 (source ld hs) (target ld hs) base r
  between_handles base r b = record {
    long = b.long;
    above = b.above;
    under = λ ψ q x. b.under ψ (record { above = q.above; settled = along_list ψ q.settled }) x;
  }

  -- and the other way round
  pub all_handles : (ψ : ℕ → Label) → Settled (start_at es) (end_at es) ψ (Before (length es)) → Settled (source ld hs) (target ld hs) ψ (Before 512)
  all_handles ψ f i l = elim (p.has i l) [
    | inl c ↦ subst (λ (z : ℕ). ψ z ⊑ ψ (source ld hs i)) c ⊑_refl
    | inr c ↦ subst₂ (λ x y. ψ x ⊑ ψ y) c.2.end c.2.start (f c.0 c.1)
  ]
