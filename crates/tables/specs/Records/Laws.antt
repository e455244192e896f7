-- The laws of records and arrays: what stands at any number that a call names, what a store does to the tables, what cleaned tables have, and the one pipe that
-- a close can end. Assumes nothing.
use Rattle.std.specs.Prelude.{◌≡◌, Bool, not, ◌&&◌, List, ℕ, ◌+◌, ◌*◌, ◌%◌, ◌<◌, length, get_or, set, replicate, eqb}
use Rattle.std.proofs.Math.Path.{refl, sym, ap, subst, fun_ext}
use Rattle.std.proofs.Common.{◌∙◌, ap₂, T_not, eqb→eq, lt→ltb}
use Rattle.std.proofs.Math.Bool.{true, false, cond}
use Rattle.std.proofs.Math.Option.{Option, none, some, none-ne-some, some-injective}
use native.Mathlib.Omega.{arith}
use Rattle.std.proofs.Math.Decide.{ℕ_discrete, dec_lt}
use borrow.Author.Tests.{lt-ltb, le-ltb, eq-eqb, ne_eqb, ltb-true, ltb-false}
use Rattle.std.proofs.lemmas.List.{length-replicate, get_or-replicate}
use Rattle.std.proofs.Math.ListN.{get_or-eq_default}
use Rattle.std.proofs.Math.Seq.{get_or-set_same, get_or-set_other}
use Rattle.std.proofs.Math.Dec.{T, not_T, ltb}
use Rattle.model.specs.Bools.{is_true, cond_no}
use Rattle.model.specs.Flow.{Thing, subject, object}
use Rattle.model.specs.Tables.{Entry, Tables, empty, with_at, with_hand, is_some, live, is_pipe, handles, open_on, clean}
use Rattle.model.specs.Tables.{Handle as Held}
use Rattle.model.proofs.Tables.Laws.{used_is, live_of, open_here, open_at, handles_by}
use Rattle.model.specs.Steps.{put, place, ended, reap}
use Rattle.model.proofs.Steps.Laws.{ended_of, ended_subject}
use Rattle.model.specs.Invariant.{Teams, Wf}
use Rattle.model.proofs.Invariant.Laws.{clean_wf}
use Rattle.tables.specs.declared.Subject.{Subject}
use Rattle.tables.specs.declared.Object.{Object}
use Rattle.tables.specs.declared.Handle.{Handle}
use Rattle.tables.specs.Records.{subject_entry, object_entry, held, no_subject, no_object, no_handle, entries, hands, tables_of}
use Rattle.tables.specs.Needs.{housed}
use Rattle.tables.specs.Needs.Laws.{housed_range}
use Rattle.tables.specs.Working.{subject_at, object_at, handle_at, Outlives}

-- ── the record at a number ──
module _ (rest : Tables) (ss : List Subject) (os : List Object) (hs : List Handle) where
  pub subject_there : (s : ℕ) → length ss ≡ 32 → (tables_of rest ss os hs).at (subject s) ≡ subject_entry (subject_at s (get_or ss (s % 32) no_subject))
  unfolding tables_of
  subject_there s l = go (ltb s 32) refl
    where
      go : (b : Bool) → ltb s 32 ≡ b → subject_entry (get_or ss s no_subject) ≡ subject_entry (cond b (get_or ss (s % 32) no_subject) no_subject)
      go true q = let e : s % 32 ≡ s = omega (arith, ltb-true s 32 q) in rw e
      go false q = ap subject_entry (get_or-eq_default ss no_subject {n = s} (omega (arith, ltb-false s 32 q)))

  pub object_there : (o : ℕ) → length os ≡ 64 → (tables_of rest ss os hs).at (object o) ≡ object_entry (object_at o (get_or os (o % 64) no_object))
  unfolding tables_of
  object_there o l = go (ltb o 64) refl
    where
      go : (b : Bool) → ltb o 64 ≡ b → object_entry (get_or os o no_object) ≡ object_entry (cond b (get_or os (o % 64) no_object) no_object)
      go true q = let e : o % 64 ≡ o = omega (arith, ltb-true o 64 q) in rw e
      go false q = ap object_entry (get_or-eq_default os no_object {n = o} (omega (arith, ltb-false o 64 q)))

  pub handle_there : (s p : ℕ) → length hs ≡ 512 → (tables_of rest ss os hs).hand s p ≡ held (handle_at s p (get_or hs (s % 32 * 16 + p % 16) no_handle))
  unfolding tables_of
  handle_there s p l = go (ltb s 32) refl (ltb p 16) refl
    where
      go : (a : Bool) → ltb s 32 ≡ a → (b : Bool) → ltb p 16 ≡ b → cond b (held (get_or hs (s * 16 + p) no_handle)) none ≡ held
          (cond a (cond b (get_or hs (s % 32 * 16 + p % 16) no_handle) no_handle) no_handle)
      go true x true y = let e : s % 32 ≡ s = omega (arith, ltb-true s 32 x) in let f : p % 16 ≡ p = omega (arith, ltb-true p 16 y) in rw (e, f)
      go true x false y = refl
      go false x true y = ap held (get_or-eq_default hs no_handle {n = s * 16 + p} (omega (arith, ltb-false s 32 x)))
      go false x false y = refl

  -- ── cleaned tables ──
  pub within : length ss ≡ 32 → length os ≡ 64 → (x : Thing) (a : Entry) → entries ss os x ≡ some a → T (housed x)
  within ls lo (subject n) a q = go (dec_lt n 32)
    where
      go : Dec (n < 32) → T (ltb n 32)
      go (yes l) = lt→ltb n 32 l
      go (no h) = absurd (none-ne-some a (sym (ap subject_entry (get_or-eq_default ss no_subject {n = n} (omega arith))) ∙ q))
  within ls lo (object n) a q = go (dec_lt n 64)
    where
      go : Dec (n < 64) → T (ltb n 64)
      go (yes l) = lt→ltb n 64 l
      go (no h) = absurd (none-ne-some a (sym (ap object_entry (get_or-eq_default os no_object {n = n} (omega arith))) ∙ q))

  -- an object that stands in the array is one of its slots
  pub slot_low : length os ≡ 64 → (t : Tables) (o : ℕ) → (tables_of rest ss os hs).at (object o) ≡ t.at (object o) → T (live t (object o)) → o < 64
  unfolding tables_of
  slot_low lo t o q l = go (dec_lt o 64)
    where
      go : Dec (o < 64) → o < 64
      go (yes h) = h
      go (no h) = absurd (subst (λ (e : Option Entry). T (is_some e)) (sym q ∙ ap object_entry (get_or-eq_default os no_object {n = o} (omega arith)))
          (subst T (used_is t (object o)) (live_of t (object o) l).1))

  pub cleaned_wf : (t : Tables) → length ss ≡ 32 → length os ≡ 64 → Teams (tables_of rest ss os hs) → t ≡ clean (tables_of rest ss os hs) → Wf t
  unfolding tables_of
  cleaned_wf t ls lo g e = subst Wf (sym e) (clean_wf (tables_of rest ss os hs) (λ x a q. housed_range x (within ls lo x a q)) g)

-- ── the empty tables ──
pub empty_tables : tables_of empty (replicate 32 no_subject) (replicate 64 no_object) (replicate 512 no_handle) ≡ empty
unfolding tables_of
empty_tables = ap₂ (λ (a : Thing → Option Entry) (h : ℕ → ℕ → Option Held). with_hand (with_at empty a) h) (fun_ext at)
    (fun_ext (λ s. fun_ext (λ p. hand s p (ltb p 16))))
  where
    any : {A : Type 0} (n i : ℕ) (a : A) → get_or (replicate n a) i a ≡ a
    any n i a = go (dec_lt i n)
      where
        go : Dec (i < n) → get_or (replicate n a) i a ≡ a
        go (yes l) = get_or-replicate n i a a l
        go (no h) = get_or-eq_default (replicate n a) a {n = i} (omega (arith, length-replicate n a))

    at : (x : Thing) → entries (replicate 32 no_subject) (replicate 64 no_object) x ≡ none
    at (subject n) = ap subject_entry (any 32 n no_subject)
    at (object n) = ap object_entry (any 64 n no_object)

    hand : (s p : ℕ) (b : Bool) → cond b (held (get_or (replicate 512 no_handle) (s * 16 + p) no_handle)) none ≡ none
    hand s p true = ap held (any 512 (s * 16 + p) no_handle)
    hand s p false = refl

-- ── stores ──
-- a look at a list after a store
look_set : {A B : Type 0} (f : A → B) (l : List A) (d : A) (i : ℕ) (v : A) → i < length l → (j : ℕ)
    → f (get_or (set l i v) j d) ≡ cond (eqb i j) (f v) (f (get_or l j d))
look_set f l d i v h j = go (ℕ_discrete i j)
  where
    go : Dec (i ≡ j) → f (get_or (set l i v) j d) ≡ cond (eqb i j) (f v) (f (get_or l j d))
    go (yes e) = rw (eq-eqb i j e, ← e, get_or-set_same l i v d h)
    go (no ne) = rw (ne_eqb i j ne, get_or-set_other l i j v d (λ q. ne (sym q)))

module _ (rest : Tables) (ss : List Subject) (os : List Object) (hs : List Handle) where
  pub store_subject : (s : ℕ) (v : Subject) → length ss ≡ 32 → s < 32
      → tables_of rest (set ss (s % 32) v) os hs ≡ with_at (tables_of rest ss os hs) (put (tables_of rest ss os hs).at (subject s) (subject_entry v))
  unfolding tables_of
  store_subject s v l h = let e : s % 32 ≡ s = omega arith in rw e (ap (with_at (tables_of rest ss os hs)) (fun_ext at))
    where
      at : (x : Thing) → entries (set ss s v) os x ≡ put (entries ss os) (subject s) (subject_entry v) x
      at (subject n) = look_set subject_entry ss no_subject s v (omega arith) n
      at (object n) = refl

  pub store_object : (o : ℕ) (v : Object) → length os ≡ 64 → o < 64
      → tables_of rest ss (set os (o % 64) v) hs ≡ with_at (tables_of rest ss os hs) (put (tables_of rest ss os hs).at (object o) (object_entry v))
  unfolding tables_of
  store_object o v l h = let e : o % 64 ≡ o = omega arith in rw e (ap (with_at (tables_of rest ss os hs)) (fun_ext at))
    where
      at : (x : Thing) → entries ss (set os o v) x ≡ put (entries ss os) (object o) (object_entry v) x
      at (subject n) = refl
      at (object n) = look_set object_entry os no_object o v (omega arith) n

  pub store_handle : (s p : ℕ) (v : Handle) → length hs ≡ 512 → s < 32 → p < 16
      → tables_of rest ss os (set hs (s % 32 * 16 + p % 16) v) ≡ with_hand (tables_of rest ss os hs) (place (tables_of rest ss os hs).hand s p (held v))
  unfolding tables_of
  store_handle s p v l h hp = let e : s % 32 ≡ s = omega arith in let f : p % 16 ≡ p = omega arith in rw (e, f)
      (ap (with_hand (tables_of rest ss os hs)) (fun_ext (λ s'. fun_ext (λ p'. at s' p' (ltb p' 16) refl (ℕ_discrete s s') (ℕ_discrete p p')))))
    where
      at : (s' p' : ℕ) (b : Bool) → ltb p' 16 ≡ b → Dec (s ≡ s') → Dec (p ≡ p') → hands (set hs (s * 16 + p) v) s' p' ≡ place (hands hs) s p (held v) s' p'
      at s' p' b e (yes es) (yes ep) = rw (
        ← es,
        ← ep,
        eq-eqb s s refl,
        eq-eqb p p refl,
        lt-ltb p 16 (omega arith),
        get_or-set_same hs (s * 16 + p) v no_handle (omega arith),
      )
      at s' p' true e (yes es) (no np) = rw (
        ← es,
        eq-eqb s s refl,
        ne_eqb p p' np,
        e,
        get_or-set_other hs (s * 16 + p) (s * 16 + p') v no_handle (λ q. np (omega arith)),
      )
      at s' p' false e (yes es) (no np) = rw (← es, eq-eqb s s refl, ne_eqb p p' np, e)
      at s' p' true e (no ns) d = rw (
        ne_eqb s s' ns,
        e,
        get_or-set_other hs (s * 16 + p) (s' * 16 + p') v no_handle (λ q. ns (omega (arith, ltb-true p' 16 e))),
      )
      at s' p' false e (no ns) d = rw (ne_eqb s s' ns, e)

-- ── the one pipe that a close can end ──
-- where handles go on one object alone, no other pipe ends
reap_one : (t u : Tables) (o : ℕ) (v : Option Entry) → v ≡ cond (ended (handles t) (handles u) (object o) (u.at (object o))) none (u.at (object o))
    → ((n : ℕ) → (n ≡ o → ⊥) → T (open_on (handles t) n) → T (open_on (handles u) n)) → reap (handles t) u ≡ with_at u (put u.at (object o) v)
reap_one t u o v e f = ap (with_at u) (fun_ext at)
  where
    at : (x : Thing) → cond (ended (handles t) (handles u) x (u.at x)) none (u.at x) ≡ put u.at (object o) v x
    at (subject n) = cond_no (ended (handles t) (handles u) (subject n) (u.at (subject n))) none (u.at (subject n))
        (ended_subject (handles t) (handles u) n (u.at (subject n)))
    at (object n) = go (ℕ_discrete o n)
      where
        go : Dec (o ≡ n) → cond (ended (handles t) (handles u) (object n) (u.at (object n))) none (u.at (object n)) ≡ cond (eqb o n) v (u.at (object n))
        go (yes q) = rw (eq-eqb o n q, ← q) (sym e)
        go (no nq) = rw (ne_eqb o n nq) (cond_no (ended (handles t) (handles u) (object n) (u.at (object n))) none (u.at (object n))
            (not_T (ended (handles t) (handles u) (object n) (u.at (object n))) (λ d. let r = ended_of (handles t) (handles u) n (u.at (object n)) d in
            T_not (open_on (handles u) n) r.1 (f n (λ z. nq (sym z)) r.0))))

-- a store at one place leaves the other objects open
others_open : (t : Tables) (s p : ℕ) (k : Held) (v : Option Held) → t.hand s p ≡ some k → (n : ℕ) → (n ≡ k.to → ⊥) → T (open_on (handles t) n)
    → T (open_on (handles (with_hand t (place t.hand s p v))) n)
others_open t s p k v a n ne h = go (open_at t n h)
  where
    go : (s' : ℕ) × (p' : ℕ) × (k : Held) × (s' < 32) × (p' < 16) × (t.hand s' p' ≡ some k) × (k.to ≡ n) → T
        (open_on (handles (with_hand t (place t.hand s p v))) n)
    go r = subst (λ (z : ℕ). T (open_on (handles (with_hand t (place t.hand s p v))) z)) r.6
        (open_here (with_hand t (place t.hand s p v)) r.0 r.1 r.2 r.3 r.4
        (still (eqb s r.0) (eqb→eq s r.0) (eqb p r.1) (eqb→eq p r.1)))
      where
        still : (b : Bool) → (T b → s ≡ r.0) → (c : Bool) → (T c → p ≡ r.1) → cond b (cond c v (t.hand s r.1)) (t.hand r.0 r.1) ≡ some r.2
        still false f c g = r.5
        still true f false g = ap (λ (z : ℕ). t.hand z r.1) (f tt) ∙ r.5
        still true f true g = absurd (ne (sym r.6 ∙ ap (λ (w : Held). w.to)
            (some-injective r.2 k (sym r.5 ∙ ap (λ (z : ℕ). t.hand z r.1) (sym (f tt)) ∙ ap (t.hand s) (sym (g tt)) ∙ a))))

pipe_of : (o : ℕ) (y : Object) → is_pipe (object o) (object_entry y) ≡ not (ltb y.kind 2)
pipe_of o y = go (ℕ_discrete y.kind 0) (ℕ_discrete y.kind 1)
  where
    go : Dec (y.kind ≡ 0) → Dec (y.kind ≡ 1) → is_pipe (object o) (object_entry y) ≡ not (ltb y.kind 2)
    go (yes e) d = rw e
    go (no n) (yes e) = rw e
    go (no n) (no m) = rw (ne_eqb y.kind 0 n, ne_eqb y.kind 1 m, le-ltb y.kind 2 (omega arith))

-- the record of o after a close, by whether a handle is still open on it
outlived_is : (t u : Tables) (o : ℕ) (y r : Object) → T (open_on (handles t) o) → r ≡ cond (ltb y.kind 2) y (cond (open_on (handles u) o) y no_object)
    → object_entry r ≡ cond (ended (handles t) (handles u) (object o) (object_entry y)) none (object_entry y)
unfolding ended
outlived_is t u o y r h e = ap object_entry e ∙ go (ltb y.kind 2) (open_on (handles u) o)
    ∙ sym (ap₂ (λ (b c : Bool). cond (elim b as (λ _. Bool) [ true ↦ c && not (open_on (handles u) o) | false ↦ false ]) none (object_entry y))
    (pipe_of o y) (is_true (open_on (handles t) o) h))
  where
    go : (b a : Bool) → object_entry (cond b y (cond a y no_object)) ≡ cond (elim (not b) as (λ _. Bool) [ true ↦ not a | false ↦ false ]) none
        (object_entry y)
    go true a = refl
    go false true = refl
    go false false = refl

module _ (rest : Tables) (ss : List Subject) (os : List Object) (hs : List Handle) where
  -- place p of s emptied, whose handle k was on object o, and the object's record as it outlives that
  pub store_close : (s p o : ℕ) (k : Held) (v : Handle) (r : Object) → length os ≡ 64 → length hs ≡ 512 → s < 32 → p < 16 → o < 64
      → (tables_of rest ss os hs).hand s p ≡ some k → o ≡ k.to → Outlives (set hs (s % 32 * 16 + p % 16) v) (get_or os (o % 64) no_object) o r
      → tables_of rest ss (set os (o % 64) r) (set hs (s % 32 * 16 + p % 16) v) ≡ reap (handles (tables_of rest ss os hs))
      (with_hand (tables_of rest ss os hs) (place (tables_of rest ss os hs).hand s p (held v)))
  unfolding tables_of
  store_close s p o k v r lo lh hs' hp ho at to e = store_object rest ss os (set hs (s % 32 * 16 + p % 16) v) o r lo ho
      ∙ ap (λ (u : Tables). with_at u (put u.at (object o) (object_entry r))) shut
      ∙ sym (reap_one t u o (object_entry r) left_over (λ n ne. others_open t s p k (held v) at n (λ q. ne (q ∙ sym to))))
    where
      t : Tables
      t = tables_of rest ss os hs

      u : Tables
      u = with_hand (tables_of rest ss os hs) (place (tables_of rest ss os hs).hand s p (held v))

      y : Object
      y = get_or os (o % 64) no_object

      shut : tables_of rest ss os (set hs (s % 32 * 16 + p % 16) v) ≡ u
      shut = store_handle rest ss os hs s p v lh hs' hp

      there : u.at (object o) ≡ object_entry y
      there = let q : o % 64 ≡ o = omega arith in rw q

      open_is : open_on (handles (with_hand empty (hands (set hs (s % 32 * 16 + p % 16) v)))) o ≡ open_on (handles u) o
      open_is = ap (λ (l : List Held). open_on l o) (handles_by (with_hand empty (hands (set hs (s % 32 * 16 + p % 16) v)))
          (tables_of rest ss os (set hs (s % 32 * 16 + p % 16) v)) refl ∙ ap handles shut)

      left_over : object_entry r ≡ cond (ended (handles t) (handles u) (object o) (u.at (object o))) none (u.at (object o))
      left_over = outlived_is t u o y r (subst (λ (z : ℕ). T (open_on (handles t) z)) (sym to) (open_here t s p k hs' hp at))
          (e.is ∙ ap (λ (b : Bool). cond (ltb y.kind 2) y (cond b y no_object)) open_is)
          ∙ sym (ap (λ (z : Option Entry). cond (ended (handles t) (handles u) (object o) z) none z) there)
