-- The members of a group have one level (Even): what lowers one lowers all. One law for each step, then call by call. Assumes nothing.
use Rattle.std.specs.Prelude.{◌≡◌, refl, Bool, true, false, not, cond, List, [], ◌∷◌, ℕ, T, eqb}
use Rattle.std.proofs.Common.{sym, ◌∙◌, ap, subst, inl, inr, eqb→eq}
use Rattle.std.proofs.Math.Option.{Option, none, some}
use Rattle.model.specs.Bools.{test, cond_no}
use Rattle.model.specs.Label.{Label, meet}
use Rattle.model.specs.Flow.{Thing, subject, object, same}
use Rattle.model.specs.Tables.{running, file, Dir, reading, writing, Entry, entry, Handle, mapping, Tables, empty, in_range, live, label_of, cell, whole, handles}
use Rattle.model.proofs.Tables.Laws.{cell_self, step_entry, whole_kin, whole_apart}
use Rattle.model.specs.Steps.{Origin, outside, blank, copied, Access, reads, writes, runs, enter, hold, mix, binds, put, stand_in, fall, sink, apply, applies, ended, reap}
use Rattle.model.proofs.Steps.Laws.{put_same, put_apart, applies_append, ended_subject}
use Rattle.model.specs.Invariant.{Teams, Wf, Even}
use Rattle.model.proofs.Invariant.Laws.{Less, less_quits, mates_live, stand_in_cases, wf_mix}
use Rattle.model.specs.Calls.{Call, admit, register, create, make_pipe, opens, access, fork, thread, exec, close, exit, retire, maps, mark, freeze, connect, unknown}
use Rattle.model.specs.Calls.{target, moves, followed, sheds, steps, alive, new, broken}
use Rattle.model.proofs.Calls.Passed.{is_alive, is_new, Passed, sheds_less}
use Rattle.model.proofs.Calls.Moving.{rereads_keep}
use Rattle.model.proofs.Calls.Dangling.{map_wf}

pub empty_even : Even empty
empty_even = record { one_level = λ a b h. refl }

-- two members that differ, or one
two : (P : ℕ → ℕ → Type 0) (a b : ℕ) → P a a → (T (not (eqb a b)) → P a b) → P a b
two P a b p f = elim (test (eqb a b)) [ inl e ↦ subst (λ (z : ℕ). P a z) (eqb→eq a b e) p | inr n ↦ f n ]

-- ── one law for each step ──
even_enter : (t : Tables) (x : Thing) (e : Entry) (g : Origin) → Teams t → t.at x ≡ none → Even t → Even (apply (enter x e g) t)
even_enter t x e g m n v = record {
  one_level = λ a b h. two (λ a b. label_of (put t.at x (some e) (subject a)) ≡ label_of (put t.at x (some e) (subject b))) a b refl
      (λ d. let l = mates_live m a b h d in stays a l.0 ∙ v.one_level a b h ∙ sym (stays b l.1));
}
  where
    stays : (a : ℕ) → T (live t (subject a)) → label_of (put t.at x (some e) (subject a)) ≡ label_of (t.at (subject a))
    stays a l = let r = step_entry t a l in ap label_of (put_apart t.at x (subject a) (some e) r.0 n r.1)

even_same : {t u : Tables} → ((a : ℕ) → u.at (subject a) ≡ t.at (subject a)) → u.kin ≡ t.kin → Even t → Even u
even_same f q v = record {
  one_level = λ a b h. ap label_of (f a) ∙ v.one_level a b (subst (λ (k : ℕ → ℕ → Bool). T (k a b)) q h) ∙ sym (ap label_of (f b));
}

even_less : {t u : Tables} → Less t u → Teams t → Even t → Even u
even_less {t} {u} l m v = record {
  one_level = λ a b h. two (λ a b. label_of (u.at (subject a)) ≡ label_of (u.at (subject b))) a b refl
      (λ d. let r = mates_live (l.teamed m) a b h d in was a r.0 ∙ v.one_level a b (l.kin_was a b h d) ∙ sym (was b r.1));
}
  where
    was : (a : ℕ) → T (live u (subject a)) → label_of (u.at (subject a)) ≡ label_of (t.at (subject a))
    was a h = let r = step_entry u a h in ap label_of (r.1 ∙ sym (l.was_at (subject a) r.0 r.1))

pub even_reap : (before : List Handle) (t : Tables) → Even t → Even (reap before t)
even_reap before t v = even_same (λ a. cond_no (ended before (handles t) (subject a) (t.at (subject a))) none (t.at (subject a))
    (ended_subject before (handles t) a (t.at (subject a)))) refl v

same_bool : (p q : Bool) → (T p → T q) → (T q → T p) → p ≡ q
same_bool true true f g = refl
same_bool true false f g = absurd (f tt)
same_bool false true f g = absurd (g tt)
same_bool false false f g = refl

-- what one of a group takes in, all take in
pub whole_mates : (t : Tables) → Teams t → (y : Thing) (a b : ℕ) → T (t.kin a b) → whole t y (subject a) ≡ whole t y (subject b)
whole_mates t m (object o) a b h = whole_apart t o a ∙ sym (whole_apart t o b)
whole_mates t m (subject s) a b h = whole_kin t s a
    ∙ same_bool (t.kin s a) (t.kin s b) (λ k. m.shared s a b k h) (λ k. m.shared s b a k (m.both_ways a b h))
    ∙ sym (whole_kin t s b)

even_mix : (t : Tables) (m : Access) (a b y x : Thing) → Teams t → Even t → Even (apply (mix m a b y x) t)
even_mix t m n o y x g v = record {
  one_level = λ a b h. two (λ a b. label_of (sink t y (t.at x) (subject a)) ≡ label_of (sink t y (t.at x) (subject b))) a b refl
      (λ d. let l = mates_live g a b h d in let p = step_entry t a l.0 in let q = step_entry t b l.1 in
      at a p.0 p.1
      ∙ ap (λ (c : Bool). label_of (cond c (fall (subject a) (some p.0) (t.at x)) (some p.0))) (whole_mates t g y a b h)
      ∙ lowered (whole t y (subject b)) a b p.0 q.0 (t.at x) (ap label_of (sym p.1) ∙ v.one_level a b h ∙ ap label_of q.1)
      ∙ sym (at b q.0 q.1));
}
  where
    at : (a : ℕ) (e : Entry) → t.at (subject a) ≡ some e → label_of (sink t y (t.at x) (subject a)) ≡ label_of
        (cond (whole t y (subject a)) (fall (subject a) (some e) (t.at x)) (some e))
    at a e q = ap (λ (w : Option Entry). label_of (cond (whole t y (subject a)) (fall (subject a) w (t.at x)) w)) q

    lowered : (c : Bool) (a b : ℕ) (e f : Entry) (d : Option Entry) → e.label ≡ f.label → label_of (cond c (fall (subject a) (some e) d) (some e)) ≡ label_of
        (cond c (fall (subject b) (some f) d) (some f))
    lowered true a b e f none q = q
    lowered true a b e f (some d) q = ap (λ (l : Label). meet l d.label) q
    lowered false a b e f d q = q

even_binds : (t : Tables) (c s : ℕ) → label_of (t.at (subject c)) ≡ label_of (t.at (subject s)) → Even t → Even (apply (binds c s) t)
even_binds t c s q v = record { one_level = λ a b h. sym (alike a) ∙ v.one_level (stand_in c s a) (stand_in c s b) h ∙ alike b }
  where
    alike : (a : ℕ) → label_of (t.at (subject (stand_in c s a))) ≡ label_of (t.at (subject a))
    alike a = elim (stand_in_cases c s a) [
      | inl r ↦ ap (λ (z : ℕ). label_of (t.at (subject z))) r.1 ∙ sym q ∙ ap (λ (z : ℕ). label_of (t.at (subject z))) r.0
      | inr r ↦ ap (λ (z : ℕ). label_of (t.at (subject z))) r.1
    ]

-- ── calls ──
module _ (t : Tables) (w : Wf t) (v : Even t) where
  new_even : (x : Thing) (e : Entry) (g : Origin) → T (not (broken t (new x))) → Even (apply (enter x e g) t)
  new_even x e g h = even_enter t x e g w.teams (is_new t x h).1 v

  access_even : (d : Dir) (x c y : Thing) → Even (applies (moves d x c y ∷ followed t d y) t)
  access_even reading x c y = even_mix t reads x y c y w.teams v
  access_even writing x c y = (rereads_keep (λ u. Wf u × Even u) t y
      (λ m h u z. (wf_mix u reads (subject m) y (cell t m) y z.0, even_mix u reads (subject m) y (cell t m) y z.0.teams z.1))
      (apply (mix writes y x y c) t) (wf_mix t writes y x y c w, even_mix t writes y x y c w.teams v)).1

  thread_even : (s c : ℕ) → Passed t (thread s c) → Even (applies (steps t (thread s c)) t)
  thread_even s c m = even_binds (apply (enter (subject c) e (copied (cell t s))) t) c s
      (ap label_of (put_same t.at (subject c) (some e)) ∙ ap (λ (x : Thing). label_of (t.at x)) (cell_self t s)
      ∙ sym (ap label_of (put_apart t.at (subject c) (subject s) (some e) own.0 n.1 own.1)))
      (new_even (subject c) e (copied (cell t s)) fresh)
    where
      e : Entry
      e = entry running (label_of (t.at (cell t s)))

      fresh : T (not (broken t (new (subject c))))
      fresh = m (new (subject c)) (inr (inl refl))

      n : T (in_range (subject c)) × (t.at (subject c) ≡ none)
      n = is_new t (subject c) fresh

      own : (d : Entry) × (t.at (subject s) ≡ some d)
      own = step_entry t s (is_alive t s (m (alive s) (inl refl)))

  pub call_even : (c : Call) → Passed t c → Even (applies (steps t c) t)
  call_even (admit s n) m = new_even (subject s) (entry running n) outside (m (new (subject s)) (inl refl))
  call_even (register o n) m = new_even (object o) (entry file n) outside (m (new (object o)) (inl refl))
  call_even (create s o) m = new_even (object o) (entry file (label_of (t.at (cell t s)))) blank (m (new (object o)) (inr (inl refl)))
  call_even (make_pipe s o r p) m = even_same (λ a. refl) refl v
  call_even (opens d s o p) m = even_same (λ a. refl) refl v
  call_even (access d s p) m = access_even d (subject s) (cell t s) (target (t.hand s p))
  call_even (fork s c) m = even_same (λ a. refl) refl
      (new_even (subject c) (entry running (label_of (t.at (cell t s)))) (copied (cell t s)) (m (new (subject c)) (inr (inl refl))))
  call_even (thread s c) m = thread_even s c m
  call_even (exec s o) m = subst Even (sym (applies_append (sheds t s) (mix runs (subject s) (object o) (cell t s) (object o) ∷ []) t))
      (even_mix (applies (sheds t s) t) runs (subject s) (object o) (cell t s) (object o) ((sheds_less t s).teamed w.teams) (even_less (sheds_less t s) w.teams v))
  call_even (close s p) m = even_same (λ a. refl) refl v
  call_even (exit s) m = even_less (less_quits t (same (subject s)) (λ o. tt)) w.teams v
  call_even (retire o) m = even_same (λ a. refl) refl v
  call_even (maps s o p) m = even_mix (apply (hold s p (some (mapping o))) t) reads (subject s) (object o) (cell t s) (object o) (map_wf t w s o p m).teams
      (even_same (λ a. refl) refl v)
  call_even (mark s p) m = even_same (λ a. refl) refl v
  call_even (freeze n) m = even_same (λ a. refl) refl v
  call_even (connect s u a b p q) m = even_same (λ a. refl) refl v
  call_even unknown m = v
