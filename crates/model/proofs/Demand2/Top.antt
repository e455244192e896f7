-- A file at the highest level that is only read can be left out of a run: its open for reading is never refused for flow (RULES R9), and a read of it lowers
-- nobody (RULES C7, C104). Of all tables to which calls lead from empty ones. Assumes nothing.
use Rattle.std.specs.Prelude.{◌≡◌, Bool, true, false, not, cond, ℕ, T}
use Rattle.std.proofs.Common.{sym, ◌∙◌, ap, subst, subst₂, inl, inr}
use Rattle.std.proofs.Math.Option.{Option, none, some, none-ne-some, some-injective}
use Rattle.model.specs.Label.{Label, ◌⊑◌, label, highest, every_shop, shops}
use Rattle.model.specs.Sets.Laws.{within_all}
use Rattle.model.proofs.Label.Laws.{⊑_refl, ⊑_trans, ⊑-of, level_label, shops_label, level_in_scale, shops_in_scale}
use Rattle.model.specs.Flow.{Thing, subject, object}
use Rattle.model.specs.Tables.{reading, Entry, Handle, Tables, live, is_file, cell, handles, needs}
use Rattle.model.proofs.Tables.Laws.{cell_entry, cell_self}
use Rattle.model.specs.Steps.{reads, mix, apply, ended}
use Rattle.model.proofs.Steps.Laws.{sink_cases, fell}
use Rattle.model.specs.Invariant.{Kept, Scaled}
use Rattle.model.specs.Calls.{opens, access, target, enough, broken, effect, lowers}
use Rattle.model.proofs.Demand2.Reads.{reads_above}
use Rattle.model.proofs.Calls.Moving.{NoneLower, lowers_none}

-- o is a file of the highest level
pub record Topmost (t : Tables) (o : ℕ) : Type 0 where
  pub its : Entry
  pub there : t.at (object o) ≡ some its
  pub a_file : T (is_file (object o) its.kind)
  pub top : its.label ≡ label highest every_shop

-- no label that a call may name is above it
under_top : {t : Tables} → Scaled t → (x : Thing) (e : Entry) → t.at x ≡ some e → e.label ⊑ label highest every_shop
under_top v x e q = ⊑-of e.label (label highest every_shop) (rw (level_label highest every_shop) (level_in_scale e.label (v.within x e q)))
    (rw (shops_label highest every_shop) (within_all (shops e.label) (shops_in_scale e.label (v.within x e q))))

module _ (t : Tables) (v : Kept t) where
  pub top_open_harmless : (s o p : ℕ) → T (live t (subject s)) → Topmost t o → T (not (broken t (enough (opens reading s o p))))
  top_open_harmless s o p l h = let own = cell_entry t s l in
      -- what s needs is at most its level, and that is at most the file's
      reads_above t v s o p h.its (record { there = h.there; a_file = h.a_file })
      (subst₂ (λ (x : Thing) (a : Label). needs t x ⊑ a) (cell_self t s) (sym h.top)
      (⊑_trans (v.safe.above (cell t s) own.0 own.1) (under_top v.scaled (cell t s) own.0 own.1)))

  pub top_read_harmless : (s p : ℕ) (k : Handle) → t.hand s p ≡ some k → Topmost t k.to → lowers t (effect t (access reading s p)) ≡ false
  unfolding effect
  top_read_harmless s p k q h = lowers_none t (effect t (access reading s p)) none_lower
    where
      x : Thing
      x = target (t.hand s p)

      there : t.at x ≡ some h.its
      there = ap (λ (o : Option Handle). t.at (target o)) q ∙ h.there

      w : Tables
      w = apply (mix reads (subject s) x (cell t s) x) t

      left_over : (b : Bool) (o : Option Entry) (d : Entry) → cond b none o ≡ some d → o ≡ some d
      left_over true o d z = absurd (none-ne-some d z)
      left_over false o d z = z

      same_label : (y : Thing) (e d : Entry) → t.at y ≡ some e → t.at y ≡ some d → e.label ⊑ d.label
      same_label y e d a b = subst (λ (z : Entry). e.label ⊑ z.label) (some-injective e d (sym a ∙ b)) ⊑_refl

      none_lower : NoneLower t (effect t (access reading s p))
      none_lower y e d a b = elim (sink_cases t (cell t s) (t.at x) y (some d) (left_over (ended (handles t) (handles w) y (w.at y)) (w.at y) d b)) [
        | inl c ↦ (let f = fell y (t.at y) (t.at x) h.its d there c.1 in
            f.over e.label (same_label y e f.was a f.was_is)
            (subst (λ (z : Label). e.label ⊑ z) (sym h.top) (under_top v.scaled y e a)))
        | inr c ↦ same_label y e d a c.1
      ]
