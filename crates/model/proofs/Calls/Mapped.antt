-- Each mapping is for reading and on a file, and its subject's label is at most the file's (RULES T37, T38): it fell to the file's label when
-- it mapped it, a file keeps its label, and no subject's rises. One law for each step, then call by call. Assumes nothing.
use Rattle.std.specs.Prelude.{◌≡◌, refl, Bool, true, false, not, cond, List, [], ◌∷◌, ℕ, T, eqb}
use Rattle.std.proofs.Common.{sym, ◌∙◌, ap, subst, subst₂, inl, inr, T_not, eqb→eq}
use Rattle.std.proofs.Math.Option.{Option, none, some, none-ne-some, some-injective}
use Rattle.std.proofs.Math.Dec.{not_T}
use Rattle.model.specs.Bools.{cond_yes, cond_no}
use Rattle.model.specs.Label.{Label, ◌⊑◌, meet}
use Rattle.model.proofs.Label.Laws.{⊑_refl, ⊑_trans, meet_right, meet_glb, bot_least}
use Rattle.model.specs.Flow.{Thing, subject, object, same}
use Rattle.model.specs.Tables.{Kind, running, file, pipe, Dir, reading, writing, Entry, entry, Handle, handle, mapping, with_mark, Tables, empty, with_hand}
use Rattle.model.specs.Tables.{label_of, is_file, a_file, is_pipe, cell, whole, handles, open_on}
use Rattle.model.proofs.Tables.Laws.{cell_self, cell_same, whole_self, cell_entry, object_entry, open_here, whole_object, whole_cases, whole_by}
use Rattle.model.specs.Steps.{Origin, outside, blank, copied, Access, reads, writes, runs, enter, hold, holds, mix, place, fall, apply, applies, falls, sunk, sink, without, ended, reap, binds}
use Rattle.model.proofs.Steps.Laws.{put_same, put_apart, sink_by, row_cases, place_cases, applies_append, ended_open, ended_subject, fall_label, file_keeps}
use Rattle.model.specs.Invariant.{Wf, Maps, Mapped, Even}
use Rattle.model.proofs.Invariant.Laws.{row_below, Less, less_close, less_quits, less_freeze, wf_enter}
use Rattle.model.specs.Calls.{Call, admit, register, create, make_pipe, opens, access, fork, thread, exec, close, exit, retire, maps, mark, freeze, connect, unknown}
use Rattle.model.specs.Calls.{target, moves, followed, marking, sheds, steps, effect, alive, present, new, unlike, taken, no_pipe, idle, broken, lowers}
use Rattle.model.proofs.Calls.Moving.{rereads_keep, lowers_none}
use Rattle.model.proofs.Calls.Passed.{is_alive, is_present, is_new, is_taken, Passed, sheds_less}

pub empty_mapped : Mapped empty
empty_mapped = record { each = λ s p k q m. absurd (none-ne-some k q) }

-- a mapping of t is one of u, where the object stayed as it is and the subject did not rise
maps_from : (t u : Tables) (r s : ℕ) (j k : Handle) → Maps t r j → j.dir ≡ k.dir → j.to ≡ k.to
    → label_of (u.at (cell u s)) ⊑ label_of (t.at (cell t r)) → u.at (object k.to) ≡ t.at (object k.to) → Maps u s k
maps_from t u r s j k v d e l q = record {
  for_reading = sym d ∙ v.for_reading;
  on_file = subst (λ (o : Option Entry). T (a_file (object k.to) o)) (sym q)
      (subst (λ (n : ℕ). T (a_file (object n) (t.at (object n)))) e v.on_file);
  under = subst (λ (o : Option Entry). label_of (u.at (cell u s)) ⊑ label_of o) (sym q)
      (⊑_trans l (subst (λ (n : ℕ). label_of (t.at (cell t r)) ⊑ label_of (t.at (object n))) e v.under));
}

-- the subject's label where its entry stayed
stays_under : (t u : Tables) (s : ℕ) → u.at (cell u s) ≡ t.at (cell t s) → label_of (u.at (cell u s)) ⊑ label_of (t.at (cell t s))
stays_under t u s q = subst (λ (o : Option Entry). label_of o ⊑ label_of (t.at (cell t s))) (sym q) ⊑_refl

cell_stays : (t u : Tables) (s : ℕ) → u.at (cell t s) ≡ t.at (cell t s) → u.at (cell u s) ≡ t.at (cell t s)
cell_stays t u s q = ap u.at (cell_same u t s) ∙ q

-- ── enter ──
mapped_enter : (t : Tables) (x : Thing) (e : Entry) (g : Origin) → Wf t → t.at x ≡ none → Mapped t → Mapped (apply (enter x e g) t)
mapped_enter t x e g w n v = record {
  each = λ s p k q m. (let f = w.ends s p k q in let c = cell_entry t s f.from in let o = object_entry t k.to f.to in
      maps_from t u s s k k (v.each s p k q m) refl refl
      (stays_under t u s (cell_stays t u s (put_apart t.at x (cell t s) (some e) c.0 n c.1)))
      (put_apart t.at x (object k.to) (some e) o.0 n o.1));
}
  where
    u : Tables
    u = apply (enter x e g) t

-- ── handles change, entries stay ──
-- a handle of h is no mapping, or is like a mapping of t at some place of the same subject
mapped_hand : (t : Tables) (h : ℕ → ℕ → Option Handle) → Mapped t
    → ((s p : ℕ) (k : Handle) → h s p ≡ some k → T k.mapped → (q : ℕ) × (j : Handle) × (t.hand s q ≡ some j) × T j.mapped × (j.dir ≡ k.dir) × (j.to ≡ k.to))
    → Mapped (with_hand t h)
mapped_hand t h v f = record {
  each = λ s p k q m. (let (r, j, z, b, d, e) = f s p k q m in
      maps_from t (with_hand t h) s s j k (v.each s r j z b) d e (stays_under t (with_hand t h) s (cell_stays t (with_hand t h) s refl)) refl);
}

-- a handle that is no mapping is placed
mapped_hold : (t : Tables) (s p : ℕ) (k : Handle) → T (not k.mapped) → Mapped t → Mapped (apply (hold s p (some k)) t)
mapped_hold t s p k n v = mapped_hand t (place t.hand s p (some k)) v (λ s' p' j q m. elim (place_cases t.hand s p (some k) s' p' (some j) q) [
  | inl c ↦ absurd (T_not k.mapped n (subst (λ (z : Handle). T z.mapped) (sym (some-injective k j c.2)) m))
  | inr c ↦ (p', j, c, m, refl, refl)
])

less_mapped : {t u : Tables} → Less t u → Mapped t → Mapped u
less_mapped {t} {u} l v = record {
  each = λ s p k q m. maps_from t u s s k k (v.each s p k (l.hands s p k q) m) refl refl
      (subst (λ (z : Thing). label_of (u.at z) ⊑ label_of (t.at (cell t s))) (cell_same t u s) (under (u.at (cell t s)) (l.was_at (cell t s))))
      (l.objects_stay k.to);
}
  where
    under : {o : Option Entry} (v : Option Entry) → ((e : Entry) → v ≡ some e → o ≡ some e) → label_of v ⊑ label_of o
    under none f = bot_least
    under {o} (some e) f = subst (λ (z : Option Entry). e.label ⊑ label_of z) (sym (f e refl)) ⊑_refl

-- one joins another's group
mapped_binds : (t : Tables) (c s : ℕ) → Mapped t → Mapped (apply (binds c s) t)
mapped_binds t c s v = record { each = λ z p k q m. maps_from t u z z k k (v.each z p k q m) refl refl (stays_under t u z (cell_stays t u z refl)) refl }
  where
    u : Tables
    u = apply (binds c s) t

-- ── fewer things, same handles ──
mapped_without : (gone : Thing → Bool) (t : Tables) → Mapped t →
    ((s p : ℕ) (k : Handle) → t.hand s p ≡ some k → T (not (gone (subject s))) × T (not (gone (object k.to)))) → Mapped (without gone t)
mapped_without gone t v n = record {
  each = λ s p k q m. maps_from t u s s k k (v.each s p k q m) refl refl
      (stays_under t u s (cell_stays t u s (left (cell t s) (subst (λ (z : Thing). T (not (gone z))) (sym (cell_self t s)) (n s p k q).0))))
      (left (object k.to) (n s p k q).1);
}
  where
    u : Tables
    u = without gone t

    left : (x : Thing) → T (not (gone x)) → u.at x ≡ t.at x
    left x h = cond_no (gone x) none (t.at x) h

pub mapped_reap : (before : List Handle) (t : Tables) → Wf t → Mapped t → Mapped (reap before t)
mapped_reap before t w v = mapped_without (λ x. ended before (handles t) x (t.at x)) t v (λ s p k q. (
  ended_subject before (handles t) s (t.at (subject s)),
  ended_open before (handles t) k.to (t.at (object k.to)) (let f = w.ends s p k q in open_here t s p k (row_below f) f.place q),
))

-- ── data moves ──
-- what takes something in does not rise, and a file stays
pub sink_label : (t : Tables) (y x z : Thing) → label_of (sink t y (t.at x) z) ⊑ label_of (t.at z)
sink_label t y x z = sink_by (λ w o. label_of o ⊑ label_of (t.at w)) t y (t.at x) z ⊑_refl (λ b. fall_label z (t.at z) (t.at x))

pub sink_file : (t : Tables) (y x z : Thing) → T (a_file z (t.at z)) → sink t y (t.at x) z ≡ t.at z
sink_file t y x z f = sink_by (λ w o. o ≡ t.at w) t y (t.at x) z refl (λ b. file_keeps z (t.at z) (t.at x) f)

mapped_mix : (t : Tables) (m : Access) (a b y x : Thing) → Mapped t → Mapped (apply (mix m a b y x) t)
mapped_mix t m a b y x v = record {
  each = λ s p k q h. (let r = v.each s p k q h in maps_from t u s s k k r refl refl
      (subst (λ (z : Thing). label_of (u.at z) ⊑ label_of (t.at (cell t s))) (cell_same t u s) (sink_label t y x (cell t s)))
      (sink_file t y x (object k.to) r.on_file));
}
  where
    u : Tables
    u = apply (mix m a b y x) t

no_pipe_file : (o : ℕ) (e : Entry) → T (not (is_pipe (object o) (some e))) → T (is_file (object o) e.kind)
no_pipe_file o e h = go e.kind h
  where
    go : (k : Kind) → T (not (elim k as (λ _. Bool) [ running ↦ false | file ↦ false | pipe ↦ true ])) → T (is_file (object o) k)
    go running n = tt
    go file n = tt
    go pipe n = absurd n

-- ── calls ──
module _ (t : Tables) (w : Wf t) (v : Mapped t) where
  new_mapped : (x : Thing) (e : Entry) (g : Origin) → T (not (broken t (new x))) → Mapped (apply (enter x e g) t)
  new_mapped x e g h = mapped_enter t x e g w (is_new t x h).1 v

  access_mapped : (d : Dir) (x c y : Thing) → Mapped (applies (moves d x c y ∷ followed t d y) t)
  access_mapped reading x c y = mapped_mix t reads x y c y v
  access_mapped writing x c y = rereads_keep Mapped t y (λ m h u z. mapped_mix u reads (subject m) y (cell t m) y z) (apply (mix writes y x y c) t)
      (mapped_mix t writes y x y c v)

  exit_mapped : (s : ℕ) → Mapped (applies (steps t (exit s)) t)
  exit_mapped s = less_mapped (less_quits t (same (subject s)) (λ o. tt)) v

  retire_mapped : (o : ℕ) → T (not (broken t (idle o))) → Mapped (applies (steps t (retire o)) t)
  retire_mapped o h = mapped_without (same (object o)) t v (λ s p k q. (tt, unheld s p k q))
    where
      unheld : (s p : ℕ) (k : Handle) → t.hand s p ≡ some k → T (not (eqb o k.to))
      unheld s p k q =
          let f = w.ends s p k q in
          let held = open_here t s p k (row_below f) f.place q in
          not_T (eqb o k.to) (λ e. T_not (open_on (handles t) o) h (subst (λ (z : ℕ). T (open_on (handles t) z)) (sym (eqb→eq o k.to e)) held))

  mark_mapped : (s p : ℕ) → T (not (broken t (taken s p))) → Mapped (applies (steps t (mark s p)) t)
  mark_mapped s p h = let r = is_taken t s p h in subst (λ (o : Option Handle). Mapped (apply (hold s p (marking o)) t)) (sym r.1)
      (mapped_hand t (place t.hand s p (some (with_mark r.0))) v (λ s' p' k q m. elim
      (place_cases t.hand s p (some (with_mark r.0)) s' p' (some k) q) [
        | inl c ↦ (let e = some-injective (with_mark r.0) k c.2 in (
          p,
          r.0,
          subst (λ (z : ℕ). t.hand z p ≡ some r.0) c.0 r.1,
          subst (λ (z : Handle). T z.mapped) (sym e) m,
          ap (λ (z : Handle). z.dir) e,
          ap (λ (z : Handle). z.to) e,
        ))
        | inr c ↦ (p', k, c, m, refl, refl)
      ]))

  fork_mapped : (s c : ℕ) → T (not (broken t (new (subject c)))) → Mapped (applies (steps t (fork s c)) t)
  fork_mapped s c hc = record {
    each = λ s' p k q m. elim (row_cases t.hand c (t.hand s) s' p (some k) q) [
      | inl r ↦ subst (λ (z : ℕ). Maps u z k) r.0 (child p k r.1 m)
      | inr r ↦ maps_from u₁ u s' s' k k ((new_mapped (subject c) e g hc).each s' p k r.1 m) refl refl (stays_under u₁ u s' (cell_stays u₁ u s' refl)) refl
    ];
  }
    where
      e : Entry
      e = entry running (label_of (t.at (cell t s)))

      g : Origin
      g = copied (cell t s)

      u₁ : Tables
      u₁ = apply (enter (subject c) e g) t

      u : Tables
      u = apply (holds c (t.hand s)) u₁

      -- the child has the parent's label, and the file is where it was
      child : (p : ℕ) (k : Handle) → t.hand s p ≡ some k → T k.mapped → Maps u c k
      child p k q m = let o = object_entry t k.to (w.ends s p k q).to in maps_from t u s c k k (v.each s p k q m) refl refl
          (subst (λ (z : Option Entry). label_of z ⊑ label_of (t.at (cell t s))) (sym (ap u.at (cell_self u c) ∙ put_same t.at (subject c) (some e))) ⊑_refl)
          (put_apart t.at (subject c) (object k.to) (some e) o.0 (is_new t (subject c) hc).1 o.1)

  -- the new mapping: s falls to the file's label
  map_mapped : (s o p : ℕ) → Passed t (maps s o p) → Mapped (applies (steps t (maps s o p)) t)
  map_mapped s o p m = record {
    each = λ s' p' k q h. elim (place_cases t.hand s p (some (mapping o)) s' p' (some k) q) [
      | inl c ↦ subst₂ (λ (z : ℕ) (j : Handle). Maps u z j) c.0 (some-injective (mapping o) k c.2) new
      | inr c ↦ (let r = v.each s' p' k c h in maps_from t u s' s' k k r refl refl
          (subst (λ (z : Thing). label_of (u.at z) ⊑ label_of (t.at (cell t s'))) (cell_same t u s') (sink_label u' (cell t s) (object o) (cell t s')))
          (sink_file u' (cell t s) (object o) (object k.to) r.on_file))
    ];
  }
    where
      u : Tables
      u = applies (steps t (maps s o p)) t

      u' : Tables
      u' = apply (hold s p (some (mapping o))) t

      there : (e : Entry) × (t.at (object o) ≡ some e)
      there = object_entry t o (is_present t o (m (present o) (inr (inl refl))))

      own : (e : Entry) × (t.at (cell t s) ≡ some e)
      own = cell_entry t s (is_alive t s (m (alive s) (inl refl)))

      is_a_file : T (a_file (object o) (t.at (object o)))
      is_a_file = subst (λ (e : Option Entry). T (a_file (object o) e)) (sym there.1)
          (no_pipe_file o there.0 (subst (λ (e : Option Entry). T (not (is_pipe (object o) e))) there.1 (m (no_pipe o) (inr (inr (inl refl))))))

      fell_to : label_of (fall (cell t s) (t.at (cell t s)) (t.at (object o))) ⊑ label_of (t.at (object o))
      fell_to = subst₂ (λ (a b : Option Entry). label_of (fall (cell t s) a b) ⊑ label_of b) (sym own.1) (sym there.1)
          (subst (λ (x : Thing). sunk x own.0.kind own.0.label there.0.label ⊑ there.0.label) (sym (cell_self t s))
          (meet_right own.0.label there.0.label))

      new : Maps u s (mapping o)
      new = record {
        for_reading = refl;
        on_file = subst (λ (e : Option Entry). T (a_file (object o) e)) (sym (sink_file u' (cell t s) (object o) (object o) is_a_file)) is_a_file;
        under = subst₂ (λ (a b : Option Entry). label_of a ⊑ label_of b)
            (sym (ap u.at (cell_same u t s) ∙ cond_yes (whole u' (cell t s) (cell t s)) (fall (cell t s) (t.at (cell t s)) (t.at (object o))) (t.at (cell t s)) (whole_self u' (cell t s) w.teams.itself)))
            (sym (sink_file u' (cell t s) (object o) (object o) is_a_file)) fell_to;
      }

  pub call_mapped : (c : Call) → Passed t c → Mapped (applies (steps t c) t)
  call_mapped (admit s n) m = new_mapped (subject s) (entry running n) outside (m (new (subject s)) (inl refl))
  call_mapped (register o n) m = new_mapped (object o) (entry file n) outside (m (new (object o)) (inl refl))
  call_mapped (create s o) m = new_mapped (object o) (entry file (label_of (t.at (cell t s)))) blank (m (new (object o)) (inr (inl refl)))
  call_mapped (make_pipe s o r p) m = mapped_hold (apply (hold s r (some (handle reading o))) u) s p (handle writing o) tt
      (mapped_hold u s r (handle reading o) tt (new_mapped (object o) e blank (m (new (object o)) (inr (inl refl)))))
    where
      e : Entry
      e = entry pipe (label_of (t.at (cell t s)))

      u : Tables
      u = apply (enter (object o) e blank) t
  call_mapped (opens d s o p) m = mapped_hold t s p (handle d o) tt v
  call_mapped (access d s p) m = access_mapped d (subject s) (cell t s) (target (t.hand s p))
  call_mapped (fork s c) m = fork_mapped s c (m (new (subject c)) (inr (inl refl)))
  call_mapped (thread s c) m = mapped_binds (apply (enter (subject c) (entry running (label_of (t.at (cell t s)))) (copied (cell t s))) t) c s
      (new_mapped (subject c) (entry running (label_of (t.at (cell t s)))) (copied (cell t s)) (m (new (subject c)) (inr (inl refl))))
  call_mapped (exec s o) m = subst Mapped (sym (applies_append (sheds t s) (mix runs (subject s) (object o) (cell t s) (object o) ∷ []) t))
      (mapped_mix (applies (sheds t s) t) runs (subject s) (object o) (cell t s) (object o) (less_mapped (sheds_less t s) v))
  call_mapped (close s p) m = less_mapped (less_close t s p) v
  call_mapped (exit s) m = exit_mapped s
  call_mapped (retire o) m = retire_mapped o (m (idle o) (inr (inr (inl refl))))
  call_mapped (maps s o p) m = map_mapped s o p m
  call_mapped (mark s p) m = mark_mapped s p (m (taken s p) (inr (inl refl)))
  call_mapped (freeze n) m = less_mapped (less_freeze t n) v
  call_mapped (connect s r a b p q) m = mapped_hold u₃ r q (handle writing b) tt (mapped_hold u₂ r p (handle reading a) tt
      (mapped_hold u₁ s q (handle writing a) tt (mapped_hold u s p (handle reading b) tt
      (mapped_enter u₀ (object b) f blank (wf_enter t (object a) e blank (is_new t (object a) new_a).0 w)
      (cond_no (eqb a b) (some e) (t.at (object b)) (m (unlike a b) (inr (inr (inr (inr (inr (inl refl)))))))
      ∙ (is_new t (object b) (m (new (object b)) (inr (inr (inr (inr (inl refl))))))).1) (new_mapped (object a) e blank new_a)))))
    where
      new_a : T (not (broken t (new (object a))))
      new_a = m (new (object a)) (inr (inr (inr (inl refl))))

      e : Entry
      e = entry pipe (label_of (t.at (cell t s)))

      f : Entry
      f = entry pipe (label_of (t.at (cell t r)))

      u₀ : Tables
      u₀ = apply (enter (object a) e blank) t

      u : Tables
      u = apply (enter (object b) f blank) u₀

      u₁ : Tables
      u₁ = apply (hold s p (some (handle reading b))) u

      u₂ : Tables
      u₂ = apply (hold s q (some (handle writing a))) u₁

      u₃ : Tables
      u₃ = apply (hold r p (some (handle reading a))) u₂
  call_mapped unknown m = v

-- ── a write to a file lowers nobody ──
-- what is live in t is live in u, at no smaller label
record Upheld (t u : Tables) : Type 0 where
  groups : u.kin ≡ t.kin
  at_least : (y : Thing) (e : Entry) → t.at y ≡ some e → (d : Entry) × (u.at y ≡ some d) × (e.label ⊑ d.label)

-- s takes in x, and has no higher label than x in t
upheld_mix : (t u : Tables) (s : ℕ) (x : Thing) (c : Entry) → t.at x ≡ some c
    → ((y : Thing) (e : Entry) → T (whole u (cell t s) y) → t.at y ≡ some e → e.label ⊑ c.label) → Upheld t u
    → Upheld t (apply (mix reads (subject s) x (cell t s) x) u)
upheld_mix t u s x c q l v = record { groups = v.groups; at_least = λ y e z. go y e z (v.at_least y e z) (whole u (cell t s) y) (λ b. l y e b z) }
  where
    fed : (d : Entry) × (u.at x ≡ some d) × (c.label ⊑ d.label)
    fed = v.at_least x c q

    over : (b : Bool) (e d : Entry) → e.label ⊑ d.label → e.label ⊑ fed.0.label → e.label ⊑ cond b (meet d.label fed.0.label) d.label
    over true e d g h = meet_glb g h
    over false e d g h = g

    go : (y : Thing) (e : Entry) → t.at y ≡ some e → (d : Entry) × (u.at y ≡ some d) × (e.label ⊑ d.label) → (b : Bool) → (T b → e.label ⊑ c.label)
        → (d : Entry) × (cond b (fall y (u.at y) (u.at x)) (u.at y) ≡ some d) × (e.label ⊑ d.label)
    go y e z r false h = r
    go y e z (d, p, g) true h = (
      entry d.kind (sunk y d.kind d.label fed.0.label),
      ap (λ (o : Option Entry). fall y o (u.at x)) p ∙ ap (fall y (some d)) fed.1,
      over (falls y d.kind) e d g (⊑_trans (h tt) fed.2),
    )

-- RULES C104, T38: where every mapping is as it is from empty tables, a write to a file makes no level smaller
pub write_lowers_none : (t : Tables) → Wf t → Mapped t → Even t → (s p o : ℕ) → target (t.hand s p) ≡ object o → T (a_file (object o) (t.at (object o)))
    → lowers t (effect t (access writing s p)) ≡ false
unfolding effect
write_lowers_none t w v g s p o i f = lowers_none t (effect t (access writing s p)) (λ y e d q z. let (c, r, l) = all.at_least y e q in
    subst (λ (k : Entry). e.label ⊑ k.label) (some-injective c d (sym r ∙ left (ended (handles t) (handles u) y (u.at y)) y d z)) l)
  where
    x : Thing
    x = target (t.hand s p)

    u : Tables
    u = applies (steps t (access writing s p)) t

    left : (b : Bool) (y : Thing) (d : Entry) → cond b none (u.at y) ≡ some d → u.at y ≡ some d
    left true y d z = absurd (none-ne-some d z)
    left false y d z = z

    is_x : T (a_file x (t.at x))
    is_x = subst (λ (y : Thing). T (a_file y (t.at y))) (sym i) f

    written : Upheld t (apply (mix writes x (subject s) x (cell t s)) t)
    written = record { groups = refl; at_least = λ y e q. (e, stays y ∙ q, ⊑_refl) }
      where
        stays : (y : Thing) → sink t x (t.at (cell t s)) y ≡ t.at y
        stays y = sink_by (λ z o. o ≡ t.at z) t x (t.at (cell t s)) y refl
            (λ b. file_keeps y (t.at y) (t.at (cell t s)) (subst (λ (z : Thing). T (a_file z (t.at z))) (i ∙ whole_object t o y (subst (λ (z : Thing). T (whole t z y)) i b)) is_x))

    -- who takes in with m has its level
    level_whole : (m : ℕ) (y : Thing) → T (whole t (cell t m) y) → label_of (t.at (cell t m)) ≡ label_of (t.at y)
    level_whole m y h = elim (whole_cases t (cell t m) y h) [
      | inl q ↦ ap (λ (z : Thing). label_of (t.at z)) q
      | inr r ↦ subst₂ (λ (v z : Thing). label_of (t.at v) ≡ label_of (t.at z)) r.2 r.3 (g.one_level r.0 r.1 r.4)
    ]

    all : Upheld t u
    all = rereads_keep (Upheld t) t x (λ m h a b. (let k = h.handle in let z = w.ends m h.place k h.held in
        let c = object_entry t k.to z.to in
        upheld_mix t a m x c.0 (ap t.at (sym h.on) ∙ c.1)
        (λ y e j z. subst (λ (l : Label). l ⊑ c.0.label) (level_whole m y (subst T (whole_by a t b.groups (cell t m) y) j) ∙ ap label_of z)
        (subst (λ (e : Option Entry). label_of (t.at (cell t m)) ⊑ label_of e) c.1 (v.each m h.place k h.held h.maps).under)) b))
        (apply (mix writes x (subject s) x (cell t s)) t) written
