-- Which figures are right after a call (RULES F12), where those before it were: one law a call, by what the call does to needs (`Calls.Needs`).
--
-- In order: what is live after a step; how figures stay right; calls that change no need, that make one thing, and that work needs out anew. Assumes nothing.
use Rattle.std.specs.Prelude.{◌≡◌, refl, Bool, true, false, cond, ◌⊎◌, List, [], ◌∷◌, ℕ, ◌<◌, eqb}
use Rattle.std.proofs.Common.{sym, ◌∙◌, ap, subst, inl, inr, T_not, ltb→lt}
use Rattle.std.proofs.Math.Option.{Option, none, some}
use Rattle.std.proofs.Math.Dec.{T, eqb_refl}
use Rattle.model.specs.Bools.{both}
use Rattle.model.specs.Lists.{In}
use Rattle.model.specs.Label.{Label, bot}
use Rattle.model.specs.Flow.{Thing, subject, object, same}
use Rattle.model.proofs.Flow.Laws.{same→eq, same_refl}
use Rattle.model.proofs.Flow.Changes.{but, need_alone}
use Rattle.model.specs.Tables.{Dir, reading, writing, Entry, handle, mapping, Tables, empty, places, with_at, in_range, is_some, used, live, label_of, cell, handles, edges, demand, needs}
use Rattle.model.proofs.Tables.Laws.{live_of, used_is}
use Rattle.model.specs.Steps.{Origin, outside, blank, copied, reads, Step, enter, leave, hold, holds, mix, quits, freezes, put, sink, apply, applies, ended, reap, binds}
use Rattle.model.proofs.Steps.Laws.{put_same, sink_by, applies_keep, some_fall, live_numbers}
use Rattle.model.specs.Invariant.{Wf}
use Rattle.model.specs.Calls.{Call, admit, register, create, make_pipe, access, fork, thread, exec, exit, retire, maps, mark, freeze, target, sheds, steps, effect, alive, new, vacant, apart, idle, tests, refusal}
use Rattle.model.proofs.Calls.Refusals.{allowed_iff}
use Rattle.model.proofs.Calls.Passed.{is_alive, is_new, is_place, is_vacant, Passed}
use Rattle.model.proofs.Calls.Moving.{reread_of}
use Rattle.model.proofs.Calls.Needs.{effect_needs, access_needs, freeze_needs, mark_needs, retire_needs, enter_needs, pipe_needs, fork_needs, mix_needs, mapping_needs, maps_open_needs, exec_needs, fresh_none, thread_needs, own_need}
use Rattle.model.specs.Figures.{Ready}

-- ── what is live after a step ──
-- the thing that a step makes
abbrev pub Makes : Step → Thing → Type 0
Makes (enter z e g) x = z ≡ x
Makes (leave z) x = ⊥
Makes (hold s p v) x = ⊥
Makes (holds s r) x = ⊥
Makes (mix m a b y z) x = ⊥
Makes (quits g) x = ⊥
Makes (binds c s) x = ⊥
Makes (freezes n) x = ⊥

-- entries that are there were there
lived_at : (t : Tables) (a : Thing → Option Entry) (x : Thing) → (T (is_some (a x)) → T (is_some (t.at x))) → T (live (with_at t a) x) → T (live t x)
lived_at t a x f l = let r = live_of (with_at t a) x l in both (in_range x) (used t x) r.0
    (subst T (sym (used_is t x)) (f (subst T (used_is (with_at t a) x) r.1)))

gone_some : (b : Bool) (o : Option Entry) → T (is_some (cond b none o)) → T (is_some o)
gone_some true o h = absurd h
gone_some false o h = h

-- what is live after a step was live, or is what the step made
pub step_lived : (k : Step) (t : Tables) (x : Thing) → T (live (apply k t) x) → T (live t x) ⊎ Makes k x
unfolding used
step_lived (enter z e g) t x l = go (same z x) (same→eq z x) (lived_at t (put t.at z (some e)) x)
  where
    go : (b : Bool) → (T b → z ≡ x) → ((T (is_some (cond b (some e) (t.at x))) → T (is_some (t.at x))) → T (live (apply (enter z e g) t) x) → T (live t x))
        → T (live t x) ⊎ (z ≡ x)
    go true q f = inr (q tt)
    go false q f = inl (f (λ h. h) l)
step_lived (leave z) t x l = inl (lived_at t (put t.at z none) x (gone_some (same z x) (t.at x)) l)
step_lived (hold s p v) t x l = inl l
step_lived (holds s r) t x l = inl l
step_lived (mix m a b y z) t x l = inl (lived_at t (sink t y (t.at z)) x
    (sink_by (λ w o. T (is_some o) → T (is_some (t.at w))) t y (t.at z) x (λ h. h) (λ b. some_fall x (t.at x) (t.at z))) l)
step_lived (quits g) t x l = inl (lived_at t (λ y. cond (g y) none (t.at y)) x (gone_some (g x) (t.at x)) l)
step_lived (binds c s) t x l = inl l
step_lived (freezes n) t x l = inl l

-- and so after steps that make nothing at x
pub steps_lived : (ks : List Step) (t : Tables) (x : Thing) → ((k : Step) → In k ks → Makes k x → ⊥) → T (live (applies ks t) x) → T (live t x)
steps_lived ks t x n = applies_keep (λ u. T (live u x) → T (live t x)) ks
    (λ k i u f l. elim (step_lived k u x l) [ inl m ↦ f m | inr m ↦ absurd (n k i m) ]) t (λ l. l)

-- a pipe that ends makes nothing live
pub effect_lived : (t : Tables) (c : Call) (x : Thing) → T (live (effect t c) x) → T (live (applies (steps t c) t) x)
unfolding effect
effect_lived t c x l = lived_at (applies (steps t c) t)
    (λ y. cond (ended (handles t) (handles (applies (steps t c) t)) y ((applies (steps t c) t).at y)) none ((applies (steps t c) t).at y)) x
    (gone_some (ended (handles t) (handles (applies (steps t c) t)) x ((applies (steps t c) t).at x)) ((applies (steps t c) t).at x))
    (subst T (live_numbers (reap (handles t) (applies (steps t c) t)) _ x) l)

-- ── how figures stay right ──
module _ {t u : Tables} {φ : Thing → Label} where
  -- what is live was live, with the need that it had
  pub ready_same : ((x : Thing) → T (live u x) → T (live t x) × (needs u x ≡ needs t x)) → Ready t φ → Ready u φ
  ready_same f r = record { need_is = λ x l. let h = f x l in r.need_is x h.0 ∙ sym h.1 }

  -- one thing is new
  pub ready_but : (z : Thing) (v w : Label) → v ≡ w → ((x : Thing) → needs u x ≡ but (needs t) z w x) → ((x : Thing) → T (live u x) → T (live t x) ⊎ (z ≡ x))
      → Ready t φ → Ready u (but φ z v)
  ready_but z v w e q f r = record { need_is = λ x l. go (same z x) x l (λ p. subst (λ (y : Thing). T (same z y)) p (same_refl z)) ∙ sym (q x) }
    where
      go : (b : Bool) (x : Thing) → T (live u x) → (z ≡ x → T b) → cond b v (φ x) ≡ cond b w (needs t x)
      go true x l p = e
      go false x l p = elim (f x l) [ inl m ↦ r.need_is x m | inr m ↦ absurd (p m) ]

-- figures that are worked out anew for the needs of v
pub ready_anew : (u v : Tables) (φ : Thing → Label) → ((x : Thing) → T (in_range x) → φ x ≡ needs v x) → ((x : Thing) → needs u x ≡ needs v x) → Ready u φ
ready_anew u v φ f q = record { need_is = λ x l. f x (live_of u x l).0 ∙ sym (q x) }

-- the same figures for all things in range
pub ready_by : (t : Tables) (φ ψ : Thing → Label) → ((x : Thing) → T (in_range x) → ψ x ≡ φ x) → Ready t φ → Ready t ψ
ready_by t φ ψ f r = record { need_is = λ x l. f x (live_of t x l).0 ∙ r.need_is x l }

-- in empty tables there is nothing to be right about
pub empty_ready : (φ : Thing → Label) → Ready empty φ
empty_ready φ = record { need_is = λ x l. absurd (subst T (used_is empty x) (live_of empty x l).1) }

-- what has no entry needs nothing
pub needs_none : (t : Tables) (x : Thing) → Wf t → t.at x ≡ none → needs t x ≡ bot
needs_none t x w q = need_alone (λ y. demand y (t.at y)) (edges t) x (fresh_none t x w q).leaves ∙ ap (demand x) q

module _ (t : Tables) (φ : Thing → Label) (w : Wf t) (r : Ready t φ) where
  -- ── calls that change no need ──
  -- the steps make no thing
  quiet : (c : Call) → ((k : Step) (x : Thing) → In k (steps t c) → Makes k x → ⊥) → ((x : Thing) → needs (effect t c) x ≡ needs t x) → Ready (effect t c) φ
  quiet c n q = ready_same (λ x l. (steps_lived (steps t c) t x (λ k. n k x) (effect_lived t c x l), q x)) r

  pub access_ready : (d : Dir) (s p : ℕ) → Ready (effect t (access d s p)) φ
  access_ready d s p = quiet (access d s p) (makes d) (access_needs t d s p)
    where
      makes : (e : Dir) (k : Step) (x : Thing) → In k (steps t (access e s p)) → Makes k x → ⊥
      makes reading k x (inl q) m = subst (λ (j : Step). Makes j x) (sym q) m
      makes reading k x (inr i) m = i
      makes writing k x (inl q) m = subst (λ (j : Step). Makes j x) (sym q) m
      makes writing k x (inr i) m = subst (λ (j : Step). Makes j x) (sym (reread_of t (target (t.hand s p)) k i).is) m

  pub mark_ready : (s p : ℕ) → Ready (effect t (mark s p)) φ
  mark_ready s p = quiet (mark s p) makes (mark_needs t s p w)
    where
      makes : (k : Step) (x : Thing) → In k (steps t (mark s p)) → Makes k x → ⊥
      makes k x (inl q) m = subst (λ (j : Step). Makes j x) (sym q) m
      makes k x (inr i) m = i

  pub freeze_ready : (n : ℕ) → Ready (effect t (freeze n)) φ
  freeze_ready n = quiet (freeze n) makes (freeze_needs t n)
    where
      makes : (k : Step) (x : Thing) → In k (steps t (freeze n)) → Makes k x → ⊥
      makes k x (inl q) m = subst (λ (j : Step). Makes j x) (sym q) m
      makes k x (inr i) m = i

  -- what is gone is not live, so its figure says nothing
  pub retire_ready : (o : ℕ) → refusal t (retire o) ≡ none → Ready (effect t (retire o)) φ
  retire_ready o e = ready_same (λ x l. let m = effect_lived t (retire o) x l in
      (steps_lived (steps t (retire o)) t x (makes x) m, retire_needs t o w (passed (idle o) (inr (inr (inl refl)))) x (λ q. gone (subst (λ (y : Thing). T (live u y)) q m)))) r
    where
      u : Tables
      u = applies (steps t (retire o)) t

      passed : Passed t (retire o)
      passed = (allowed_iff t (retire o)).0 e

      makes : (x : Thing) (k : Step) → In k (steps t (retire o)) → Makes k x → ⊥
      makes x k (inl q) m = subst (λ (j : Step). Makes j x) (sym q) m
      makes x k (inr i) m = i

      gone : T (live u (object o)) → ⊥
      gone l = subst (λ (v : Option Entry). T (is_some v)) (put_same t.at (object o) none) (subst T (used_is u (object o)) (live_of u (object o) l).1)

  -- ── calls that make one thing ──
  enters : (c : Call) (z : Thing) (e : Entry) (g : Origin) (v : Label) → steps t c ≡ enter z e g ∷ [] → t.at z ≡ none → v ≡ demand z (some e)
      → Ready (effect t c) (but φ z v)
  enters c z e g v q n f = ready_but z v (demand z (some e)) f
      (λ x. effect_needs t c x ∙ ap (λ (ks : List Step). needs (applies ks t) x) q ∙ enter_needs t z e g w n x)
      (λ x l. step_lived (enter z e g) t x (subst (λ (ks : List Step). T (live (applies ks t) x)) q (effect_lived t c x l))) r

  new_free : (c : Call) (z : Thing) → refusal t c ≡ none → In (new z) (tests c) → t.at z ≡ none
  new_free c z e i = (is_new t z ((allowed_iff t c).0 e (new z) i)).1

  pub admit_ready : (s : ℕ) (n : Label) → refusal t (admit s n) ≡ none → Ready (effect t (admit s n)) (but φ (subject s) bot)
  admit_ready s n e = enters (admit s n) (subject s) _ outside bot refl (new_free (admit s n) (subject s) e (inl refl)) refl

  pub register_ready : (o : ℕ) (n : Label) → refusal t (register o n) ≡ none → Ready (effect t (register o n)) (but φ (object o) n)
  register_ready o n e = enters (register o n) (object o) _ outside n refl (new_free (register o n) (object o) e (inl refl)) refl

  pub create_ready : (s o : ℕ) → refusal t (create s o) ≡ none → Ready (effect t (create s o)) (but φ (object o) (label_of (t.at (cell t s))))
  create_ready s o e = enters (create s o) (object o) _ blank _ refl (new_free (create s o) (object o) e (inr (inl refl))) refl

  -- a pipe and a fork's child need what their maker needs
  low_row : (c : Call) (s : ℕ) → refusal t c ≡ none → In (alive s) (tests c) → T (live t (subject s))
  low_row c s e i = is_alive t s ((allowed_iff t c).0 e (alive s) i)

  pub pipe_ready : (s o p q : ℕ) → refusal t (make_pipe s o p q) ≡ none → Ready (effect t (make_pipe s o p q)) (but φ (object o) (φ (subject s)))
  unfolding used
  pipe_ready s o p q e = ready_but (object o) (φ (subject s)) (needs t (subject s)) (r.need_is (subject s) lives)
      (pipe_needs t s o p q w (ltb→lt s 32 (live_of t (subject s) lives).0) (is_place t s p (passed (vacant s p) at_p)) (is_place t s q (passed (vacant s q) at_q))
      (new_free c (object o) e (inr (inl refl))) (is_vacant t s p (passed (vacant s p) at_p)) (is_vacant t s q (passed (vacant s q) at_q)) unlike)
      (λ x l. step_lived (enter (object o) _ blank) t x (effect_lived t c x l)) r
    where
      c : Call
      c = make_pipe s o p q

      passed : Passed t c
      passed = (allowed_iff t c).0 e

      lives : T (live t (subject s))
      lives = low_row c s e (inl refl)

      at_p : In (vacant s p) (tests c)
      at_p = inr (inr (inl refl))

      at_q : In (vacant s q) (tests c)
      at_q = inr (inr (inr (inl refl)))

      unlike : p ≡ q → ⊥
      unlike z = T_not (eqb p q) (passed (apart p q) (inr (inr (inr (inr (inl refl)))))) (subst (λ (y : ℕ). T (eqb p y)) z (eqb_refl p))

  pub fork_ready : (s c : ℕ) (v : Label) → v ≡ own_need t s → refusal t (fork s c) ≡ none → Ready (effect t (fork s c)) (but φ (subject c) v)
  unfolding used
  fork_ready s c v q e = ready_but (subject c) v (own_need t s) q
      (fork_needs t s c w (ltb→lt c 32 (is_new t (subject c) ((allowed_iff t (fork s c)).0 e (new (subject c)) (inr (inl refl)))).0)
      (new_free (fork s c) (subject c) e (inr (inl refl))))
      (λ x l. step_lived (enter (subject c) _ (copied (cell t s))) t x (effect_lived t (fork s c) x l)) r

  -- a new member needs what the group needs
  pub thread_ready : (s c : ℕ) → refusal t (thread s c) ≡ none → Ready (effect t (thread s c)) (but φ (subject c) (φ (subject s)))
  unfolding used
  thread_ready s c e = ready_but (subject c) (φ (subject s)) (needs t (subject s)) (r.need_is (subject s) lives)
      (thread_needs t s c w (ltb→lt s 32 (live_of t (subject s) lives).0)
      (ltb→lt c 32 (is_new t (subject c) ((allowed_iff t (thread s c)).0 e (new (subject c)) (inr (inl refl)))).0) free apart')
      (λ x l. step_lived (enter (subject c) _ (copied (cell t s))) t x (effect_lived t (thread s c) x l)) r
    where
      lives : T (live t (subject s))
      lives = low_row (thread s c) s e (inl refl)

      free : t.at (subject c) ≡ none
      free = new_free (thread s c) (subject c) e (inr (inl refl))

      apart' : s ≡ c → ⊥
      apart' q = subst (λ (o : Option Entry). T (is_some o)) (ap (λ (z : ℕ). t.at (subject z)) q ∙ free) (live_of t (subject s) lives).1

-- ── calls after which figures are right if they were right after the steps ──
-- what is right after the steps is right once pipes have ended
pub effect_ready : (t : Tables) (c : Call) (ψ : Thing → Label) → Ready (applies (steps t c) t) ψ → Ready (effect t c) ψ
effect_ready t c ψ = ready_same (λ x l. (effect_lived t c x l, effect_needs t c x))

-- worked out after the steps
pub anew_ready : (t : Tables) (c : Call) (ψ : Thing → Label) → ((x : Thing) → T (in_range x) → ψ x ≡ needs (applies (steps t c) t) x) → Ready (effect t c) ψ
anew_ready t c ψ f = ready_anew (effect t c) (applies (steps t c) t) ψ f (effect_needs t c)

-- a mapping's are right if they were with the handle of the open for reading, whoever takes the file in
pub mapping_ready : (t : Tables) (s o p : ℕ) (y : Thing) (ψ : Thing → Label) → Wf t → T (live t (subject s)) → p < places → t.hand s p ≡ none
    → Ready (apply (hold s p (some (handle reading o))) t) ψ → Ready (apply (mix reads (subject s) (object o) y (object o)) (apply (hold s p (some (mapping o))) t)) ψ
unfolding used
mapping_ready t s o p y ψ w l lp n = ready_same {t = apply (hold s p (some (handle reading o))) t} (λ x h. (
  lives x (step_lived (mix reads (subject s) (object o) y (object o)) u x h),
  mix_needs u reads (subject s) (object o) y (object o) x ∙ mapping_needs t s o p w (ltb→lt s 32 (live_of t (subject s) l).0) lp n x,
))
  where
    u : Tables
    u = apply (hold s p (some (mapping o))) t

    lives : (x : Thing) → T (live t x) ⊎ ⊥ → T (live t x)
    lives x (inl m) = m
    lives x (inr q) = absurd q

-- a map's are right if they were with the handle of the open for reading
pub map_ready : (t : Tables) (s o p : ℕ) (ψ : Thing → Label) → Wf t → refusal t (maps s o p) ≡ none
    → Ready (apply (hold s p (some (handle reading o))) t) ψ → Ready (effect t (maps s o p)) ψ
unfolding used
map_ready t s o p ψ w e = ready_same {t = apply (hold s p (some (handle reading o))) t} (λ x l. (
  steps_lived (steps t (maps s o p)) t x (makes x) (effect_lived t (maps s o p) x l),
  maps_open_needs t s o p w (ltb→lt s 32 (live_of t (subject s) (is_alive t s (passed (alive s) (inl refl)))).0) (is_place t s p (passed (vacant s p) at_p))
      (is_vacant t s p (passed (vacant s p) at_p)) x,
))
  where
    passed : Passed t (maps s o p)
    passed = (allowed_iff t (maps s o p)).0 e

    at_p : In (vacant s p) (tests (maps s o p))
    at_p = inr (inr (inr (inl refl)))

    makes : (x : Thing) (k : Step) → In k (steps t (maps s o p)) → Makes k x → ⊥
    makes x k (inl q) m = subst (λ (j : Step). Makes j x) (sym q) m
    makes x k (inr (inl q)) m = subst (λ (j : Step). Makes j x) (sym q) m
    makes x k (inr (inr i)) m = i

-- an exec's with what is left of the handles
pub exec_ready : (t : Tables) (s o : ℕ) (ψ : Thing → Label) → ((x : Thing) → T (in_range x) → ψ x ≡ needs (applies (sheds t s) t) x) → Ready (effect t (exec s o)) ψ
exec_ready t s o ψ f = ready_anew (effect t (exec s o)) (applies (sheds t s) t) ψ f (exec_needs t s o)

-- an exit's once the subject is gone
pub exit_ready : (t : Tables) (s : ℕ) (ψ : Thing → Label) → Ready (apply (quits (same (subject s))) t) ψ → Ready (effect t (exit s)) ψ
exit_ready t s ψ = effect_ready t (exit s) ψ
