-- The arcs of the handles, slot by slot, and that each is between two of the 96 things. Assumes nothing.
use mathlib.Core.Path.{◌≡◌, sym, ◌∙◌, ap, subst}
use mathlib.Core.List.{List, map}
use Prim.Native.Nat.{ℕ, ◌+◌, ◌<◌}
use native.Mathlib.Omega.{arith}
use native.Mathlib.Decide.{ℕ_discrete}
use lib.ListN.{length, get_or, set, length-set}
use lib.Seq.{get_or-set_same, get_or-set_other}
use Rattle.std.proofs.lemmas.List.{get_or-map}
use Rattle.tables.specs.declared.Handle.{Handle}
use Rattle.passes.specs.declared.edge.Edge.{Edge}
use Rattle.passes.specs.Listing.{start_at, end_at}
use Rattle.passes.specs.Working.{source, target}
use Rattle.ways.specs.Working.{Drawn}

-- what a store at k leaves, where the first k are right
stored : (f : Edge → ℕ) (g : ℕ → ℕ) (l : List Edge) (k : ℕ) (e : Edge) → k < length l → ((i : ℕ) → i < k → get_or (map f l) i 0 ≡ g i) → f e ≡ g k
    → (i : ℕ) → i < k + 1 → get_or (map f (set l k e)) i 0 ≡ g i
stored f g l k e h p q i b = go (ℕ_discrete i k)
  where
    at : get_or (map f (set l k e)) i 0 ≡ f (get_or (set l k e) i e)
    at = get_or-map f (set l k e) i e 0 (simp length-set (omega arith))

    go : Dec (i ≡ k) → get_or (map f (set l k e)) i 0 ≡ g i
    go (yes z) = at ∙ ap (λ (j : ℕ). f (get_or (set l k e) j e)) z ∙ ap f (get_or-set_same l k e e h) ∙ q ∙ ap g (sym z)
    go (no n) = at ∙ ap f (get_or-set_other l k i e e n) ∙ sym (get_or-map f l i e 0 (omega arith)) ∙ p i (omega arith)

pub one_drawn : (ld : List ℕ) (hs : List Handle) (es : List Edge) (k : ℕ) (e : Edge) → Drawn ld hs es k → k < 512 → e.from ≡ source ld hs k → e.to ≡ target ld hs k
    → Drawn ld hs (set es k e) (k + 1)
one_drawn ld hs es k e p l ea eb = record {
  long = simp length-set p.long;
  starts = stored (λ x. x.from) (source ld hs) es k e (omega (arith, p.long)) p.starts ea;
  ends = stored (λ x. x.to) (target ld hs) es k e (omega (arith, p.long)) p.ends eb;
}

-- each arc is between two of the 96 things
pub start_low : (es : List Edge) (i : ℕ) → i < length es → start_at es i < 96
start_low es i l = subst (λ (v : ℕ). v < 96) (sym (get_or-map (λ x. x.from) es i none 0 l)) (get_or es i none).starts
  where
    none : Edge
    none = record { from = 0; to = 0; starts = omega arith; ends = omega arith }

pub end_low : (es : List Edge) (i : ℕ) → i < length es → end_at es i < 96
end_low es i l = subst (λ (v : ℕ). v < 96) (sym (get_or-map (λ x. x.to) es i none 0 l)) (get_or es i none).ends
  where
    none : Edge
    none = record { from = 0; to = 0; starts = omega arith; ends = omega arith }
