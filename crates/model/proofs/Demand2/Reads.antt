-- What a need says to a subject that asks: it may open a file for reading exactly where the file's level is at least its need (RULES F18). Of all tables to
-- which calls lead from empty ones. Assumes nothing.
use Rattle.std.specs.Prelude.{◌≡◌, not, ℕ, ◌<◌, T}
use Rattle.std.proofs.Common.{sym, ◌∙◌, ap, subst, ltb→lt}
use Rattle.std.proofs.Math.Option.{none, some, some-injective}
use Rattle.model.specs.Bools.{cond_yes, yes_not_not, not_not, both}
use Rattle.model.specs.Label.{Label, ◌⊑◌, bot}
use Rattle.model.proofs.Label.Laws.{⊑_trans}
use Rattle.model.specs.Flow.{Thing, subject, object}
use Rattle.model.proofs.Flow.Laws.{need_flow}
use Rattle.model.proofs.Flow.Changes.{Adds, need_more}
use Rattle.model.specs.Tables.{reading, Entry, handle, Tables, places, subjects, in_range, used, live, is_file, cell, flow, edges, demand, needs, safe}
use Rattle.model.proofs.Tables.Laws.{live_of, used_is, some_is, speaks_cell, cell_self}
use Rattle.model.specs.Invariant.{Kept}
use Rattle.model.proofs.Invariant.Laws.{needs_pot, pot_hold, pot_safe, wf_hold}
use Rattle.model.specs.Calls.{opens, enough, broken}
use Rattle.model.proofs.Calls.Needs.{hold_adds}
use Rattle.model.proofs.Calls.Sound.{safe_sound, safe_complete}
use Rattle.model.specs.Demand2.{opened}

-- o is a file, with this entry
pub record File (t : Tables) (o : ℕ) (e : Entry) : Type 0 where
  pub there : t.at (object o) ≡ some e
  pub a_file : T (is_file (object o) e.kind)

module _ (t : Tables) (v : Kept t) (s o p : ℕ) (e : Entry) (f : File t o e) where
  abbrev u : Tables
  u = opened t reading s o p

  -- RULES F18: the level of the file is at least the need of s: the flow rule has nothing against it
  pub reads_above : needs t (subject s) ⊑ e.label → T (not (broken t (enough (opens reading s o p))))
  reads_above h = yes_not_not (safe u) (safe_complete u
      (pot_safe (pot_hold t (needs t) s p (handle reading o) (needs_pot v.wf v.safe)
      (λ x z. subst (λ (y : Thing). needs t y ⊑ needs t (object o))
      (sym (cell_self t s) ∙ some-injective (cell t s) x (sym (speaks_cell t s) ∙ z)) falls))))
    where
      demands : demand (object o) (t.at (object o)) ≡ e.label
      demands = ap (demand (object o)) f.there ∙ cond_yes (is_file (object o) e.kind) e.label bot f.a_file

      falls : needs t (subject s) ⊑ needs t (object o)
      falls = ⊑_trans h (subst (λ (a : Label). a ⊑ needs t (object o)) demands ((needs_pot v.wf v.safe).low (object o)))

  -- RULES F18: and where it has nothing, the level is at least that
  pub reads_only : T (live t (subject s)) → p < places → t.hand s p ≡ none → T (not (broken t (enough (opens reading s o p)))) → needs t (subject s) ⊑ e.label
  reads_only l lp n h = ⊑_trans (need_more (λ y. demand y (t.at y)) adds.more (subject s))
      (⊑_trans (need_flow (edges u) (λ y. demand y (t.at y)) (flow (subject s) (handle reading o)) adds.new)
      ((safe_sound u (wf_hold t s p (handle reading o) v.wf (record { from = l; to = live_file; place = lp }))
      (not_not (safe u) h)).above (object o) e f.there))
    where
      adds : Adds (flow (subject s) (handle reading o)) (edges t) (edges u)
      adds = hold_adds t s p (handle reading o) v.wf (ltb→lt s subjects (live_of t (subject s) l).0) lp n

      live_file : T (live t (object o))
      live_file = both (in_range (object o)) (used t (object o)) (v.wf.ranged (object o) e f.there)
          (subst T (sym (used_is t (object o))) (some_is f.there))
