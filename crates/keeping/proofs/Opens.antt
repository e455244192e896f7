-- Figures that are kept when a handle comes: where its flow falls by them no need changes, and no label is below one that was not. Assumes nothing.
use mathlib.Core.Path.{◌≡◌, sym, ◌∙◌, ap, subst}
use mathlib.Core.Bool.{Bool, true, false, not, ◌&&◌, cond}
use mathlib.Core.Logic.{inl, inr}
use mathlib.Core.Option.{none, some}
use mathlib.Core.List.{List}
use Prim.Native.Nat.{ℕ, ◌+◌, ◌%◌, ◌<◌}
use lib.ListN.{get_or}
use lib.Dec.{T, ltb→lt}
use Rattle.model.specs.Bools.{is_true, both_of}
use Rattle.model.specs.Label.{Label, leq, ◌⊑◌}
use Rattle.labels.specs.Codes.{coded}
use Rattle.model.specs.Flow.{Thing, subject, object}
use Rattle.model.proofs.Flow.Changes.{Adds, add_quiet}
use Rattle.model.specs.Tables.{reading, writing, Tables, arc, flow, edges, demand, needs, safe}
use Rattle.model.proofs.Tables.Laws.{live_of}
use Rattle.model.specs.Steps.{hold, apply}
use Rattle.model.specs.Invariant.{Ends, Wf, Safe}
use Rattle.model.proofs.Invariant.Laws.{wf_hold}
use Rattle.model.proofs.Calls.Needs.{hold_adds}
use Rattle.model.proofs.Calls.Sound.{safe_complete}
use Rattle.model.specs.Figures.{Ready}
use Rattle.model.proofs.Figures.Laws.{step_lived, ready_same}
use Rattle.tables.specs.declared.Handle.{Handle}
use Rattle.tables.specs.Records.{joins, reads_by}
use Rattle.tables.specs.Needs.{figure_of}
use Rattle.passes.specs.Working.{falls_by}
use Rattle.keeping.proofs.Closing.{mine_is, its_is}

-- the tables with the handle
pub opened_wf : (t : Tables) (s p : ℕ) (h : Handle) → Wf t → Ends t s p (joins h) → Wf (apply (hold s p (some (joins h))) t)
opened_wf t s p h w e = wf_hold t s p (joins h) w e

module _ (n : List ℕ) (t : Tables) (s p : ℕ) (h : Handle) (w : Wf t) (e : Ends t s p (joins h)) (v : t.hand s p ≡ none) (k : Ready t (figure_of n)) (low : h.object < 64)
    (q : falls_by (reads_by h.way) (coded (get_or n (s % 32) 0)) (coded (get_or n (32 + h.object % 64) 0)) ≡ true) where
  u : Tables
  u = apply (hold s p (some (joins h))) t

  adds : Adds (flow (subject s) (joins h)) (edges t) (edges u)
  unfolding u
  adds = hold_adds t s p (joins h) w (ltb→lt s 32 (live_of t (subject s) e.from).0) e.place v

  at_most : (a b : Label) → leq a b ≡ true → a ⊑ b
  at_most a b z = record { tested = subst T (sym z) tt }

  down : needs t (flow (subject s) (joins h)).dst ⊑ needs t (flow (subject s) (joins h)).src
  down = go (reads_by h.way) q
    where
      go : (r : Bool) → falls_by r (coded (get_or n (s % 32) 0)) (coded (get_or n (32 + h.object % 64) 0)) ≡ true
          → needs t (arc (cond r reading writing) (subject s) (object h.object)).dst ⊑ needs t (arc (cond r reading writing) (subject s) (object h.object)).src
      go true z = rw (sym (mine_is n t s p h e k low), sym (its_is n t s p h e k low)) (at_most _ _ z)
      go false z = rw (sym (mine_is n t s p h e k low), sym (its_is n t s p h e k low)) (at_most _ _ z)

  same : (x : Thing) → needs u x ≡ needs t x
  unfolding u
  same = add_quiet (λ y. demand y (t.at y)) adds down

  pub quiet_ready : Ready (apply (hold s p (some (joins h))) t) (figure_of n)
  unfolding u
  quiet_ready = ready_same (λ x l. elim (step_lived (hold s p (some (joins h))) t x l) [ inl m ↦ (m, same x) | inr m ↦ absurd m ]) k

  pub quiet_safe : Safe t → false ≡ not (safe (apply (hold s p (some (joins h))) t))
  unfolding u
  quiet_safe f = ap not (sym (is_true (safe u) (safe_complete u (record { above = λ x d z. subst (λ (a : Label). a ⊑ d.label) (sym (same x)) (f.above x d z) }))))

-- the quick test's two parts
pub quiet_parts : (r a b : Bool) → r ≡ (a && b) → r ≡ true → (a ≡ true) × (b ≡ true)
quiet_parts r a b e z = let v = both_of a b (subst T (sym z ∙ e) tt) in (is_true a v.0, is_true b v.1)
