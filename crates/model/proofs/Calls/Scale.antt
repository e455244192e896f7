-- Labels stay those that a call may name (RULES T27): what an allowed call enters is in scale, and nothing rises. What is so of every label that calls name stays so of all. The freeze stays 0 to 16 (RULES T34). Assumes nothing.
use Rattle.std.specs.Prelude.{◌≡◌, refl, not, [], ◌∷◌, ℕ, T, ltb}
use Rattle.std.proofs.Common.{sym, subst, inl, inr, ltb-false}
use Rattle.std.proofs.Math.Option.{Option, none, some}
use Rattle.model.specs.Bools.{is_false, not_not}
use Rattle.model.specs.Lists.{In}
use Rattle.model.specs.Label.{Label, in_scale, meet}
use Rattle.model.proofs.Label.Laws.{meet_left, below_in_scale}
use Rattle.model.specs.Flow.{Thing, subject, object, same}
use Rattle.model.specs.Tables.{running, file, pipe, Dir, reading, writing, Entry, entry, mapping, Tables, no_freeze, is_some, label_of, cell}
use Rattle.model.proofs.Tables.Laws.{cell_self, used_is, live_of}
use Rattle.model.specs.Steps.{outside, blank, copied, reads, writes, runs, enter, hold, mix, apply, applies}
use Rattle.model.proofs.Steps.Laws.{applies_append}
use Rattle.model.specs.Invariant.{Labelled, Scaled, Frozen}
use Rattle.model.proofs.Invariant.Laws.{labelled_enter, labelled_same, labelled_without, labelled_mix, less_quits, less_labelled}
use Rattle.model.specs.Calls.{Call, admit, register, create, make_pipe, opens, access, fork, thread, exec, close, exit, retire, maps, mark, freeze, connect, unknown}
use Rattle.model.specs.Calls.{target, moves, followed, sheds, steps, alive, leveled, freezable, broken, tests}
use Rattle.model.proofs.Calls.Moving.{rereads_keep}
use Rattle.model.proofs.Calls.Passed.{Passed, is_alive, sheds_less}

-- what is so of labels that calls name, and of what two such fall to, is so of all that an allowed call leaves
module _ (P : Label → Type 0) (f : (a b : Label) → P a → P b → P (meet a b)) (t : Tables) (v : Labelled P t) where
  own_is : (s : ℕ) → T (not (broken t (alive s))) → P (label_of (t.at (cell t s)))
  own_is s h = go (t.at (cell t s)) (v.within (cell t s)) (subst (λ (x : Thing). T (is_some (t.at x))) (sym (cell_self t s)) (subst T (used_is t (subject s)) (live_of t (subject s) (is_alive t s h)).1))
    where
      go : (o : Option Entry) → ((e : Entry) → o ≡ some e → P e.label) → T (is_some o) → P (label_of o)
      go none g i = absurd i
      go (some e) g i = g e refl

  access_labelled : (d : Dir) (x c y : Thing) → Labelled P (applies (moves d x c y ∷ followed t d y) t)
  access_labelled reading x c y = labelled_mix P f t reads x y c y v
  access_labelled writing x c y = rereads_keep (Labelled P) t y (λ m h u w. labelled_mix P f u reads (subject m) y (cell t m) y w) (apply (mix writes y x y c) t)
      (labelled_mix P f t writes y x y c v)

  pub call_labelled : (c : Call) → Passed t c → ((a : Label) → In (leveled a) (tests c) → P a) → Labelled P (applies (steps t c) t)
  call_labelled (admit s n) m g = labelled_enter P t (subject s) (entry running n) outside (g n (inr (inl refl))) v
  call_labelled (register o n) m g = labelled_enter P t (object o) (entry file n) outside (g n (inr (inl refl))) v
  call_labelled (create s o) m g = labelled_enter P t (object o) (entry file (label_of (t.at (cell t s)))) blank (own_is s (m (alive s) (inl refl))) v
  call_labelled (make_pipe s o r p) m g = labelled_same P (λ x. refl)
      (labelled_enter P t (object o) (entry pipe (label_of (t.at (cell t s)))) blank (own_is s (m (alive s) (inl refl))) v)
  call_labelled (opens d s o p) m g = labelled_same P (λ x. refl) v
  call_labelled (access d s p) m g = access_labelled d (subject s) (cell t s) (target (t.hand s p))
  call_labelled (fork s c) m g = labelled_same P (λ x. refl)
      (labelled_enter P t (subject c) (entry running (label_of (t.at (cell t s)))) (copied (cell t s)) (own_is s (m (alive s) (inl refl))) v)
  call_labelled (thread s c) m g = labelled_same P (λ x. refl)
      (labelled_enter P t (subject c) (entry running (label_of (t.at (cell t s)))) (copied (cell t s)) (own_is s (m (alive s) (inl refl))) v)
  call_labelled (exec s o) m g = subst (Labelled P) (sym (applies_append (sheds t s) (mix runs (subject s) (object o) (cell t s) (object o) ∷ []) t))
      (labelled_mix P f (applies (sheds t s) t) runs (subject s) (object o) (cell t s) (object o) (less_labelled P (sheds_less t s) v))
  call_labelled (close s p) m g = labelled_same P (λ x. refl) v
  call_labelled (exit s) m g = less_labelled P (less_quits t (same (subject s)) (λ o. tt)) v
  call_labelled (retire o) m g = labelled_without P (same (object o)) t v
  call_labelled (maps s o p) m g = labelled_mix P f (apply (hold s p (some (mapping o))) t) reads (subject s) (object o) (cell t s) (object o) (labelled_same P (λ x. refl) v)
  call_labelled (mark s p) m g = labelled_same P (λ x. refl) v
  call_labelled (freeze n) m g = labelled_same P (λ x. refl) v
  call_labelled (connect s u a b p q) m g = labelled_same P (λ x. refl)
      (labelled_enter P (apply (enter (object a) (entry pipe (label_of (t.at (cell t s)))) blank) t) (object b) (entry pipe (label_of (t.at (cell t u)))) blank
      (own_is u (m (alive u) (inr (inl refl)))) (labelled_enter P t (object a) (entry pipe (label_of (t.at (cell t s)))) blank (own_is s (m (alive s) (inl refl))) v))
  call_labelled unknown m g = v

-- RULES T27
pub call_scaled : (t : Tables) → Scaled t → (c : Call) → Passed t c → Scaled (applies (steps t c) t)
call_scaled t v c m = call_labelled (λ a. T (in_scale a)) (λ a b p q. below_in_scale (meet_left a b) p) t v c m (λ a i. not_not (in_scale a) (m (leveled a) i))

module _ (t : Tables) (v : Frozen t) where
  access_frozen : (d : Dir) (x c y : Thing) → Frozen (applies (moves d x c y ∷ followed t d y) t)
  access_frozen reading x c y = record { bounded = v.bounded }
  access_frozen writing x c y = rereads_keep Frozen t y (λ m h u w. record { bounded = w.bounded }) (apply (mix writes y x y c) t) (record { bounded = v.bounded })

  exec_frozen : (s o : ℕ) → Frozen (applies (steps t (exec s o)) t)
  unfolding sheds
  exec_frozen s o = record { bounded = v.bounded }

  pub call_frozen : (c : Call) → Passed t c → Frozen (applies (steps t c) t)
  call_frozen (admit s n) m = record { bounded = v.bounded }
  call_frozen (register o n) m = record { bounded = v.bounded }
  call_frozen (create s o) m = record { bounded = v.bounded }
  call_frozen (make_pipe s o r p) m = record { bounded = v.bounded }
  call_frozen (opens d s o p) m = record { bounded = v.bounded }
  call_frozen (access d s p) m = access_frozen d (subject s) (cell t s) (target (t.hand s p))
  call_frozen (fork s c) m = record { bounded = v.bounded }
  call_frozen (thread s c) m = record { bounded = v.bounded }
  call_frozen (exec s o) m = exec_frozen s o
  call_frozen (close s p) m = record { bounded = v.bounded }
  call_frozen (exit s) m = record { bounded = v.bounded }
  call_frozen (retire o) m = record { bounded = v.bounded }
  call_frozen (maps s o p) m = record { bounded = v.bounded }
  call_frozen (mark s p) m = record { bounded = v.bounded }
  call_frozen (freeze n) m = record { bounded = ltb-false no_freeze n (is_false (ltb no_freeze n) (m (freezable n) (inl refl))) }
  call_frozen (connect s u a b p q) m = record { bounded = v.bounded }
  call_frozen unknown m = v
