-- A chain behind a call that is refused with 9 is an attack. Proves RULES A2 to A8 of it. Assumes nothing.
use Rattle.std.specs.Prelude.{◌≡◌, refl, not, List, [], ◌∷◌, ℕ, suc, ◌≤◌, length, T}
use Rattle.std.proofs.Common.{sym, ◌∙◌, ap, subst, subst₂, inl, inr}
use Rattle.std.proofs.Math.Option.{some}
use Rattle.std.proofs.Math.Dec.{not_T}
use Rattle.model.specs.Bools.{cond_yes, cond_no}
use Rattle.model.specs.Flow.{Thing, subject, object, same, Edge, Reaches}
use Rattle.model.proofs.Flow.Changes.{Adds}
use Rattle.model.specs.Tables.{mapping, Tables, cell, whole, flow, edges}
use Rattle.model.proofs.Tables.Laws.{cell_self, whole_by, whole_self}
use Rattle.model.specs.Steps.{hold, apply, applies}
use Rattle.model.specs.Invariant.{Wf, Safe}
use Rattle.model.proofs.Invariant.Laws.{less_wf}
use Rattle.model.specs.Calls.{Call, maps, connect, sheds, steps, effect, alive, new, vacant, broken, InOrder, refusal}
use Rattle.model.proofs.Calls.Refusals.{refused_by}
use Rattle.model.proofs.Calls.Passed.{is_new, sheds_less}
use Rattle.model.specs.Book.{Contents, store, carries}
use Rattle.attack.specs.Attack.{copying, most, Attack, Chain, acts}
use Rattle.attack.proofs.Attack.Moving.{acts_held, acts_free, acts_carry}
use Rattle.attack.proofs.Attack.Ways.{whole_back, reaches_whole, way_reaches}
use Rattle.attack.proofs.Attack.Sought.{Seeks, an_open, a_map, an_exec, a_connect, seeks, sought_wf, map_edges, apart, from_end, not_reached, placed_adds}

-- a map reads at once, so the thing must be another than s and its group: these reach the file only by what they read
map_apart : (t : Tables) → Wf t → Safe t → (s o p : ℕ) → refusal t (maps s o p) ≡ some 9 → (low high : Thing) (l : List ℕ) → Chain t (maps s o p) low high l
    → T (whole t (subject s) low) → ⊥
map_apart t w v s o p q low high l k g = not_reached t v low high k.barred (elim (from_end adds chain) [ inl r ↦ r | inr r ↦ reaches_whole w low (subject s) (whole_back w (subject s) low g) r ])
  where
    m : InOrder t (maps s o p) 9
    m = (refused_by t (maps s o p) 9 q).1

    adds : Adds (flow (subject s) (mapping o)) (edges t) (edges (apply (hold s p (some (mapping o))) t))
    adds = placed_adds t w s p (mapping o) (m (alive s) (inl refl) tt) (m (vacant s p) (inr (inr (inr (inl refl)))) tt)

    chain : Reaches (edges (apply (hold s p (some (mapping o))) t)) low high
    chain = subst₂ (λ (es : List Edge) (x : Thing). Reaches es x high) (map_edges t s o p) (sym k.begins) (way_reaches (sought_wf t w (maps s o p) q) k.way)

-- RULES A8: once the call is let through, what the thing held stands where the chain begins
begun : (t : Tables) → Wf t → Safe t → {c : Call} → Seeks c → refusal t c ≡ some 9 → (low high : Thing) (l : List ℕ) (k : Chain t c low high l) (i o : ℕ) (held : Contents)
    → carries copying i o t (steps t c) held k.start ≡ held low
unfolding sheds
begun t w v (an_open d s o p) q low high l k i x held = ap held (sym k.begins)
begun t w v (a_map s o p) q low high l k i x held = ap after_read (sym k.begins) ∙ cond_no (whole u (cell t s) low) (held (object o)) (held low)
    (not_T (whole u (cell t s) low) (λ g. map_apart t w v s o p q low high l k (subst T (ap (λ (y : Thing). whole u y low) (cell_self t s) ∙ whole_by u t refl (subject s) low) g)))
  where
    u : Tables
    u = apply (hold s p (some (mapping o))) t

    after_read : Contents
    after_read = carries copying i x t (steps t (maps s o p)) held
begun t w v (an_exec s o) q low high l k i x held = cond_yes (whole u (cell t s) k.start) (held (object o)) (held k.start)
    (subst₂ (λ (y z : Thing). T (whole u y z)) (sym (cell_self t s)) k.begins.1 (whole_self u (subject s) (less_wf (sheds_less t s) w).teams.itself)) ∙ ap held (sym k.begins.0)
  where
    u : Tables
    u = applies (sheds t s) t
begun t w v (a_connect s r a b p j) q low high l k i x held = ap after_made (sym k.begins)
    ∙ cond_no (same (object b) low) 0 (store held (object a) 0 low) (old b (m (new (object b)) (inr (inr (inr (inr (inl refl))))) tt))
    ∙ cond_no (same (object a) low) 0 (held low) (old a (m (new (object a)) (inr (inr (inr (inl refl)))) tt))
  where
    m : InOrder t (connect s r a b p j) 9
    m = (refused_by t (connect s r a b p j) 9 q).1

    after_made : Contents
    after_made = carries copying i x t (steps t (connect s r a b p j)) held

    old : (n : ℕ) → T (not (broken t (new (object n)))) → T (not (same (object n) low))
    old n h = apart t (object n) low k.barred.low_entry (is_new t (object n) h).1 k.barred.low_live

-- RULES A10: the reads and writes of a chain behind the call are an attack
pub chain_attack : (t : Tables) → Wf t → Safe t → (c : Call) → refusal t c ≡ some 9 → (low high : Thing) (l : List ℕ) → Chain t c low high l → length l ≤ most c
    → Attack t c low high (acts (effect t c) l)
chain_attack t w v c q low high l k h = record {
  barred = k.barred;
  holder = k.start;
  begins = k.begins;
  few = subst (λ (n : ℕ). n ≤ most c) (sym (acts_length (effect t c) l)) h;
  on_handles = acts_held k.way;
  none_refused = acts_free (effect t c) (sought_wf t w c q) k.way;
  carried = λ out i held. acts_carry (effect t c) (sought_wf t w c q) k.way out (suc i) (carries copying i (out i) t (steps t c) held)
      ∙ begun t w v (seeks t c q) q low high l k i (out i) held;
}
  where
    acts_length : (u : Tables) (l : List ℕ) → length (acts u l) ≡ length l
    acts_length u [] = refl
    acts_length u (i ∷ l) = ap suc (acts_length u l)
