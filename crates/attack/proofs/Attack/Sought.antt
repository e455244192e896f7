-- The calls that are refused with 9, had they been let through: nothing dangles then, the flows are those after their steps, and files stand. Gives what RULES A1 to A9
-- ask of them. Assumes nothing.
use Rattle.std.specs.Prelude.{◌≡◌, refl, Bool, not, cond, ◌⊎◌, List, ℕ, T, eqb}
use Rattle.std.proofs.Common.{sym, ◌∙◌, ap, subst, inl, inr, T_not, ltb→lt}
use Rattle.std.proofs.Math.Option.{Option, none, some, none-ne-some}
use Rattle.std.proofs.Math.Dec.{not_T, eqb_refl}
use Rattle.model.specs.Bools.{cond_no}
use Rattle.model.specs.Lists.{In, any}
use Rattle.model.specs.Lists.Laws.{any_of}
use Rattle.model.specs.Label.{leq}
use Rattle.model.specs.Flow.{Thing, subject, object, same, Edge, Reaches, here, step}
use Rattle.model.proofs.Flow.Laws.{same→eq}
use Rattle.model.proofs.Flow.Changes.{Sub, Adds}
use Rattle.model.specs.Tables.{Kind, running, file, pipe, Dir, Entry, entry, Handle, handle, mapping, Tables, subjects, is_some, used, live, label_of, is_file, cell, handles, flow, edges, needs}
use Rattle.model.proofs.Tables.Laws.{live_of, cell_self, whole_no_object, edges_numbers}
use Rattle.model.specs.Steps.{reads, hold, put, fall, sink, apply, applies, ended, reap}
use Rattle.model.specs.Invariant.{Wf, Safe}
use Rattle.model.proofs.Invariant.Laws.{less_wf, less_numbers, wf_reap, wf_mix}
use Rattle.model.specs.Calls.{Call, admit, register, create, make_pipe, opens, access, fork, thread, exec, close, exit, retire, maps, mark, freeze, connect, unknown, sheds, steps, effect, number, alive, present, new, vacant, broken, tests, order, InOrder, refusal}
use Rattle.model.proofs.Calls.Refusals.{refused_by, earlier_on}
use Rattle.model.proofs.Calls.Passed.{is_alive, is_new, is_place, is_vacant, sheds_less}
use Rattle.model.proofs.Calls.Dangling.{placed_wf, exec_wf, connect_wf}
use Rattle.model.proofs.Calls.Needs.{edges_at, hold_adds}
use Rattle.model.proofs.Demand2.Laws.{leaks_over}
use Rattle.attack.specs.Attack.{Barred}

-- ── the calls that are refused with 9 ──
-- an open, a map, an exec, a connect, and no other
pub data Seeks : Call → Type 0 where
  an_open : (d : Dir) (s o p : ℕ) → Seeks (opens d s o p)
  a_map : (s o p : ℕ) → Seeks (maps s o p)
  an_exec : (s o : ℕ) → Seeks (exec s o)
  a_connect : (s r a b p q : ℕ) → Seeks (connect s r a b p q)

-- a call none of whose tests has this number is not refused with it
abbrev asks : ℕ → Call → Bool
asks n c = any (λ d. eqb (number d) n) (tests c)

not_asked : (t : Tables) (c : Call) (n : ℕ) → T (not (asks n c)) → refusal t c ≡ some n → ⊥
not_asked t c n h q = let r = (refused_by t c n q).0 in T_not (asks n c) h
    (any_of (λ d. eqb (number d) n) (tests c) r.0 r.1 (subst (λ (k : ℕ). T (eqb (number r.0) k)) r.2 (eqb_refl (number r.0))))

pub seeks : (t : Tables) (c : Call) → refusal t c ≡ some 9 → Seeks c
seeks t (admit s n) q = absurd (not_asked t (admit s n) 9 tt q)
seeks t (register o n) q = absurd (not_asked t (register o n) 9 tt q)
seeks t (create s o) q = absurd (not_asked t (create s o) 9 tt q)
seeks t (make_pipe s o r w) q = absurd (not_asked t (make_pipe s o r w) 9 tt q)
seeks t (opens d s o p) q = an_open d s o p
seeks t (access d s p) q = absurd (not_asked t (access d s p) 9 tt q)
seeks t (fork s c) q = absurd (not_asked t (fork s c) 9 tt q)
seeks t (thread s c) q = absurd (not_asked t (thread s c) 9 tt q)
seeks t (exec s o) q = an_exec s o
seeks t (close s p) q = absurd (not_asked t (close s p) 9 tt q)
seeks t (exit s) q = absurd (not_asked t (exit s) 9 tt q)
seeks t (retire o) q = absurd (not_asked t (retire o) 9 tt q)
seeks t (maps s o p) q = a_map s o p
seeks t (mark s p) q = absurd (not_asked t (mark s p) 9 tt q)
seeks t (freeze n) q = absurd (not_asked t (freeze n) 9 tt q)
seeks t (connect s r a b p k) q = a_connect s r a b p k
seeks t unknown q = absurd (not_asked t unknown 9 tt q)

-- nothing dangles once the call is let through
pub steps_wf : (t : Tables) → Wf t → {c : Call} → Seeks c → refusal t c ≡ some 9 → Wf (applies (steps t c) t)
steps_wf t w (an_open d s o p) q = let m = (refused_by t (opens d s o p) 9 q).1 in
    placed_wf t w s p (handle d o) (m (alive s) (inl refl) tt) (m (present o) (inr (inl refl)) tt) (m (vacant s p) (inr (inr (inl refl))) tt)
steps_wf t w (a_map s o p) q = let m = (refused_by t (maps s o p) 9 q).1 in
    wf_mix (apply (hold s p (some (mapping o))) t) reads (subject s) (object o) (cell t s) (object o)
    (placed_wf t w s p (mapping o) (m (alive s) (inl refl) tt) (m (present o) (inr (inl refl)) tt) (m (vacant s p) (inr (inr (inr (inl refl)))) tt))
steps_wf t w (an_exec s o) q = exec_wf t w s o
steps_wf t w (a_connect s r a b p k) q = let m = (refused_by t (connect s r a b p k) 9 q).1 in connect_wf t w s r a b p k (λ e i h. m e i (earlier_on (number e) 15 9 order h tt))

pub sought_wf : (t : Tables) → Wf t → (c : Call) → refusal t c ≡ some 9 → Wf (effect t c)
unfolding effect
sought_wf t w c q = less_wf (less_numbers (reap (handles t) u) _) (wf_reap (handles t) u (steps_wf t w (seeks t c q) q))
  where
    u : Tables
    u = applies (steps t c) t

-- the flows are those after its steps
pub effect_edges : (t : Tables) (c : Call) → edges (effect t c) ≡ edges (applies (steps t c) t)
unfolding effect
effect_edges t c = edges_numbers (reap (handles t) (applies (steps t c) t)) _ ∙ edges_at (applies (steps t c) t) _

pub map_edges : (t : Tables) (s o p : ℕ) → edges (effect t (maps s o p)) ≡ edges (apply (hold s p (some (mapping o))) t)
map_edges t s o p = effect_edges t (maps s o p) ∙ edges_at (apply (hold s p (some (mapping o))) t) _

pub exec_edges : (t : Tables) (s o : ℕ) → edges (effect t (exec s o)) ≡ edges (applies (sheds t s) t)
unfolding sheds
exec_edges t s o = effect_edges t (exec s o) ∙ edges_at (applies (sheds t s) t) _

-- ── files stand ──
-- what had no entry is not what has one
pub apart : (t : Tables) (x y : Thing) (e : Entry) → t.at x ≡ none → t.at y ≡ some e → T (not (same x y))
apart t x y e n q = not_T (same x y) (λ z. none-ne-some e (sym n ∙ ap t.at (same→eq x y z) ∙ q))

-- a file that stands stands after the call
kept_file : (t : Tables) (c : Call) (o : ℕ) (e : Entry) → (applies (steps t c) t).at (object o) ≡ some e → T (is_file (object o) e.kind) → T (live (effect t c) (object o))
unfolding effect used ended
kept_file t c o e q f = subst (λ (v : Option Entry). T (is_some (cond (ended (handles t) (handles u) (object o) v) none v))) (sym q) (go e.kind f)
  where
    u : Tables
    u = applies (steps t c) t

    go : (k : Kind) → T (is_file (object o) k) → T (is_some (cond (ended (handles t) (handles u) (object o) (some (entry k e.label))) none (some (entry k e.label))))
    go running f = tt
    go file f = tt
    go pipe f = absurd f

-- what a subject reads changes no object
read_object : (t : Tables) (x : Thing) (s : ℕ) (d : Option Entry) (o : ℕ) → x ≡ subject s → sink t x d (object o) ≡ t.at (object o)
read_object t x s d o q = ap (λ (y : Thing). sink t y d (object o)) q
    ∙ ap (λ (b : Bool). cond b (fall (object o) (t.at (object o)) d) (t.at (object o))) (whole_no_object t s o)

pub file_stays : (t : Tables) {c : Call} → Seeks c → refusal t c ≡ some 9 → (o : ℕ) (e : Entry) → t.at (object o) ≡ some e → T (is_file (object o) e.kind) → T (live (effect t c) (object o))
unfolding sheds
file_stays t (an_open d s j p) q o e h f = kept_file t (opens d s j p) o e h f
file_stays t (a_map s j p) q o e h f = kept_file t (maps s j p) o e (read_object (apply (hold s p (some (mapping j))) t) (cell t s) s (t.at (object j)) o (cell_self t s) ∙ h) f
file_stays t (an_exec s j) q o e h f = kept_file t (exec s j) o e
    (read_object u (cell t s) s (u.at (object j)) o (cell_self t s) ∙ (sheds_less t s).objects_stay o ∙ h) f
  where
    u : Tables
    u = applies (sheds t s) t
file_stays t (a_connect s r a b p j) q o e h f = kept_file t (connect s r a b p j) o e
    (cond_no (same (object b) (object o)) (some eb) (put t.at (object a) (some ea) (object o)) (old b (m (new (object b)) (inr (inr (inr (inr (inl refl))))) tt))
    ∙ cond_no (same (object a) (object o)) (some ea) (t.at (object o)) (old a (m (new (object a)) (inr (inr (inr (inl refl)))) tt)) ∙ h) f
  where
    m : InOrder t (connect s r a b p j) 9
    m = (refused_by t (connect s r a b p j) 9 q).1

    ea : Entry
    ea = entry pipe (label_of (t.at (cell t s)))

    eb : Entry
    eb = entry pipe (label_of (t.at (cell t r)))

    old : (n : ℕ) → T (not (broken t (new (object n)))) → T (not (same (object n) (object o)))
    old n g = apart t (object n) (object o) e (is_new t (object n) g).1 h

-- ── chains of flows ──
-- a chain with a new flow in it goes on from the flow's end without it
pub from_end : {e : Edge} {es ds : List Edge} → Adds e es ds → {x y : Thing} → Reaches ds x y → Reaches es x y ⊎ Reaches es e.dst y
from_end a (here q) = inl (here q)
from_end {e} {es} a {x} {y} (step d i q r) = go (a.only d i) (from_end a r)
  where
    go : In d es ⊎ (e ≡ d) → Reaches es d.dst y ⊎ Reaches es e.dst y → Reaches es x y ⊎ Reaches es e.dst y
    go j (inr c) = inr c
    go (inl j) (inl c) = inl (step d j q c)
    go (inr z) (inl c) = inr (subst (λ (k : Edge). Reaches es k.dst y) (sym z) c)

pub reaches_more : {es ds : List Edge} → Sub es ds → {x y : Thing} → Reaches es x y → Reaches ds x y
reaches_more m (here q) = here q
reaches_more m (step e i q r) = step e (m.all e i) q (reaches_more m r)

-- in tables in which no label is below its need a thing reaches no file that it must not reach
pub not_reached : (t : Tables) → Safe t → (low high : Thing) → Barred t low high → Reaches (edges t) low high → ⊥
not_reached t v low high b r = T_not (leq (needs t low) b.low_entry.label)
    (leaks_over t b.low_entry.label low (record { high = high; high_entry = b.high_entry; high_live = b.high_live; high_file = b.high_file; higher = b.insufficient; reaches = r }))
    (v.above low b.low_entry b.low_live).tested

-- the flow that a place taken makes
pub placed_adds : (t : Tables) → Wf t → (s p : ℕ) (k : Handle) → T (not (broken t (alive s))) → T (not (broken t (vacant s p)))
    → Adds (flow (subject s) k) (edges t) (edges (apply (hold s p (some k)) t))
placed_adds t w s p k a f = hold_adds t s p k w (ltb→lt s subjects (live_of t (subject s) (is_alive t s a)).0) (is_place t s p f) (is_vacant t s p f)
