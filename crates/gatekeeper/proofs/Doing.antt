-- What each call does and answers where it is allowed: the rules' effect, as one store or a few. x, y and h are the records of the subject, of the object and of
-- the place that the call names. Assumes nothing.
use mathlib.Core.Path.{◌≡◌, refl, sym, ◌∙◌, ap, ap₂, subst, subst₂, fun_ext}
use mathlib.Core.Bool.{Bool, true, false, not, ◌||◌, cond}
use mathlib.Core.Logic.{◌⊎◌, inl, inr}
use mathlib.Core.Option.{Option, none, some, none-ne-some, some-injective}
use mathlib.Core.List.{List, [], ◌∷◌}
use Prim.Native.Nat.{ℕ, ◌<◌, min}
use lib.Bits.{bit_and}
use native.Mathlib.Omega.{arith}
use native.Mathlib.Decide.{dec_lt}
use borrow.Author.Tests.{le-leb}
use lib.Dec.{T, T_not, eqb, eqb→eq, leb, ltb, ltb→lt}
use Rattle.model.specs.Bools.{test, both, is_true, neither, not_not, cond_no, cond_yes}
use Rattle.model.specs.Lists.{In}
use Rattle.model.specs.Sets.{lost}
use Rattle.model.specs.Label.{Label, leq, ◌⊑◌, meet, label, level, marks_lost}
use Rattle.model.proofs.Label.Laws.{⊑_refl, level_label, meet_labels, lost_labels}
use Rattle.model.specs.Flow.{Thing, subject, object, same}
use Rattle.model.proofs.Flow.Laws.{same→eq}
use Rattle.model.specs.Tables.{Kind, running, file, pipe, Dir, reading, writing, Entry, entry, handle, mapping, with_mark, Tables, with_at, with_hand, with_freeze, with_kin, subjects, places, is_some, live, label_of, a_file, cell, whole, mates, handles, open_on}
use Rattle.model.specs.Tables.{Handle as Held}
use Rattle.model.proofs.Tables.Laws.{Stands, live_of, used_is, cell_self, whole_self, whole_object, whole_by, whole_kin, whole_no_object, handles_by, handles_at, open_here, open_at}
use Rattle.model.specs.Steps.{Step, runs, mix, put, row, place, parted, bound, sunk, fall, sink, applies, ended, reap}
use Rattle.model.proofs.Steps.Laws.{sink_one, put_cases, put_same, put_apart, place_other, place_apart, applies_append, ended_subject, reap_more, file_keeps}
use Rattle.model.specs.Invariant.{Wf}
use Rattle.model.proofs.Invariant.Laws.{Less, parted_cases}
use Rattle.model.specs.Calls.{Call, admit, register, create, make_pipe, opens, access, fork, thread, exec, close, exit, retire, maps, mark, freeze, connect, target, rereads, marking, sheds, channel, steps, stepped, effect, Test, roomy, alive, new, present, vacant, taken, apart, unlike, others, broken, tests, refusal, level_at, shown, refused, allowed, lowers, last_label, fewer, outcome, said, answer}
use Rattle.model.specs.Calls.{Answer as Told}
use Rattle.model.proofs.Calls.Refusals.{allowed_iff}
use Rattle.model.proofs.Calls.Moving.{took, reread_by, rereads_none, rereads_file, NoneLower, lowers_none, lowers_one}
use Rattle.model.proofs.Calls.Listed.{said_effect}
use Rattle.model.proofs.Calls.Passed.{is_alive, is_present, is_new, is_place, not_own_mate, sheds_less}
use Rattle.tables.specs.declared.Subject.{Subject}
use Rattle.tables.specs.declared.Object.{Object}
use Rattle.tables.specs.declared.Handle.{Handle}
use Rattle.tables.specs.Records.{subject_entry, object_entry, joins, held}
use Rattle.tables.specs.Working.{fallen_by, sunken_by}

-- call c on tables t is allowed, answered a, and makes them u
pub record Does (t : Tables) (c : Call) (a : Told) (u : Tables) : Type 0 where
  pub free : refusal t c ≡ none
  pub answered : a ≡ answer t c
  pub made : u ≡ stepped t c

does : (t : Tables) (c : Call) (a : Told) (u : Tables) → refusal t c ≡ none → a ≡ said t (stepped t c) (shown t c) → u ≡ stepped t c
    → Does t c a u
unfolding answer
does t c a u e q v = record {
  free = e;
  answered = q ∙ sym (said_effect t c (shown t c)) ∙ sym (ap (λ (o : Option ℕ). elim o as (λ _. Told) [ none ↦ said t (effect t c) (shown t c) | some n ↦ refused n ]) e);
  made = v;
}

-- ── what the passed tests give ──
pub passed : (t : Tables) (c : Call) → refusal t c ≡ none → (d : Test) → In d (tests c) → T (not (broken t d))
passed t c e d i = (allowed_iff t c).0 e d i

-- a record that stands for something
full : {A : Type 0} (b : Bool) (e : A) (o : Option A) → o ≡ cond b none (some e) → T (is_some o) → (o ≡ some e) × (b ≡ false)
full true e o q h = absurd (subst (λ z. T (is_some z)) q h)
full false e o q h = (q, refl)

-- a live subject and a live object are what their records say
pub full_subject : (t : Tables) (s : ℕ) (x : Subject) → t.at (subject s) ≡ subject_entry x → T (live t (subject s))
    → t.at (subject s) ≡ some (entry running (label x.level x.shops))
full_subject t s x q l = (full (eqb x.live 0) _ (t.at (subject s)) q (subst T (used_is t (subject s)) (live_of t (subject s) l).1)).0

pub full_object : (t : Tables) (o : ℕ) (y : Object) → t.at (object o) ≡ object_entry y → T (live t (object o))
    → t.at (object o) ≡ some (entry (cond (eqb y.kind 1) file pipe) (label y.level y.shops))
full_object t o y q l = (full (eqb y.kind 0) _ (t.at (object o)) q (subst T (used_is t (object o)) (live_of t (object o) l).1)).0

-- a place that is taken holds what its record says
pub full_held : (h : Handle) (k : Held) → held h ≡ some k → held h ≡ some (joins h)
full_held h k q = go (eqb h.way 0) q
  where
    go : (b : Bool) → cond b none (some (joins h)) ≡ some k → cond b none (some (joins h)) ≡ some (joins h)
    go true z = absurd (none-ne-some k z)
    go false z = refl

pub not_leb : (a b : ℕ) → T (not (leb a b)) → b < a
not_leb a b h = go (dec_lt b a)
  where
    go : Dec (b < a) → b < a
    go (yes l) = l
    go (no l) = absurd (T_not (leb a b) h (subst T (sym (le-leb a b (omega arith))) tt))

module _ (t : Tables) (c : Call) (e : refusal t c ≡ none) where
  -- ── a live subject ──
  module _ (s : ℕ) (i : In (alive s) (tests c)) where
    pub low_row_live : T (live t (subject s))
    low_row_live = is_alive t s (passed t c e (alive s) i)

    pub row_low : s < 32
    row_low = ltb→lt s 32 (live_of t (subject s) low_row_live).0

    module _ (x : Subject) (q : t.at (subject s) ≡ subject_entry x) where
      step_full : (t.at (subject s) ≡ some (entry running (label x.level x.shops))) × (eqb x.live 0 ≡ false)
      step_full = full (eqb x.live 0) _ (t.at (subject s)) q (subst T (used_is t (subject s)) (live_of t (subject s) low_row_live).1)

      pub step_is : t.at (subject s) ≡ some (entry running (label x.level x.shops))
      step_is = step_full.0

      pub cell_is : t.at (cell t s) ≡ some (entry running (label x.level x.shops))
      cell_is = ap t.at (cell_self t s) ∙ step_is

      pub own : label_of (t.at (cell t s)) ≡ label x.level x.shops
      own = ap label_of cell_is

      -- a subject with another label
      pub step_at : (l m : ℕ) → subject_entry (record { live = x.live; level = l; shops = m }) ≡ some (entry running (label l m))
      step_at l m = ap (λ (b : Bool). cond b none (some (entry running (label l m)))) step_full.1

  -- ── a live object ──
  module _ (o : ℕ) (l : T (live t (object o))) where
    module _ (y : Object) (q : t.at (object o) ≡ object_entry y) where
      thing_full : (t.at (object o) ≡ some (entry (cond (eqb y.kind 1) file pipe) (label y.level y.shops))) × (eqb y.kind 0 ≡ false)
      thing_full = full (eqb y.kind 0) _ (t.at (object o)) q (subst T (used_is t (object o)) (live_of t (object o) l).1)

      pub thing_is : t.at (object o) ≡ some (entry (cond (eqb y.kind 1) file pipe) (label y.level y.shops))
      thing_is = thing_full.0

      pub thing_at : (k m : ℕ) → object_entry (record { kind = y.kind; level = k; shops = m }) ≡ some (entry (cond (eqb y.kind 1) file pipe) (label k m))
      thing_at k m = ap (λ (b : Bool). cond b none (some (entry (cond (eqb y.kind 1) file pipe) (label k m)))) thing_full.1

  pub present_live : (o : ℕ) → In (present o) (tests c) → T (live t (object o))
  present_live o i = is_present t o (passed t c e (present o) i)

  pub fresh : (x : Thing) → In (new x) (tests c) → t.at x ≡ none
  fresh x i = (is_new t x (passed t c e (new x) i)).1

  pub new_row : (s : ℕ) → In (new (subject s)) (tests c) → s < 32
  new_row s i = ltb→lt s 32 (is_new t (subject s) (passed t c e (new (subject s)) i)).0

  -- where there is room, a new object's slot is one of the 64
  pub new_column : (o : ℕ) → In (new (object o)) (tests c) → In (roomy 1) (tests c) → (t.at (object o) ≡ none → broken t (roomy 1) ≡ leb 64 o) → o < 64
  new_column o i j f = not_leb 64 o (subst (λ (b : Bool). T (not b)) (f (fresh (object o) i)) (passed t c e (roomy 1) j))

  -- ── places ──
  module _ (s p : ℕ) where
    pub place_low : In (vacant s p) (tests c) → p < 16
    place_low i = is_place t s p (passed t c e (vacant s p) i)

    pub place_free : In (vacant s p) (tests c) → t.hand s p ≡ none
    place_free i = go (t.hand s p) (neither (not (ltb p places)) (is_some (t.hand s p)) (passed t c e (vacant s p) i)).1
      where
        go : (o : Option Held) → T (not (is_some o)) → o ≡ none
        go none h = refl
        go (some k) h = absurd h

-- ── calls that make no label smaller ──
-- entries that are as they were, that are gone, or that are new
none_smaller : (t u : Tables) → ((x : Thing) (d : Entry) → u.at x ≡ some d → (t.at x ≡ some d) ⊎ (t.at x ≡ none)) → NoneLower t u
none_smaller t u f x e d p q = elim (f x d q) [
  | inl z ↦ subst (λ (k : Entry). e.label ⊑ k.label) (some-injective e d (sym p ∙ z)) ⊑_refl
  | inr z ↦ absurd (none-ne-some e (sym z ∙ p))
]

new_one : (t : Tables) (x : Thing) (v : Option Entry) → t.at x ≡ none → (y : Thing) (d : Entry) → put t.at x v y ≡ some d
    → (t.at y ≡ some d) ⊎ (t.at y ≡ none)
new_one t x v n y d q = elim (put_cases t.at x v y (some d) q) [ inl c ↦ inr (ap t.at (sym c.0) ∙ n) | inr c ↦ inl c.1 ]

-- what is left was there
left_over : (b : Bool) (o : Option Entry) (d : Entry) → cond b none o ≡ some d → o ≡ some d
left_over true o d q = absurd (none-ne-some d q)
left_over false o d q = q

-- x shows level l, and u is what the call makes
plain : (t : Tables) (c : Call) (x : Thing) (l m : ℕ) (u : Tables) → refusal t c ≡ none → stepped t c ≡ u → shown t c ≡ level_at x
    → ((x : Thing) (d : Entry) → u.at x ≡ some d → (t.at x ≡ some d) ⊎ (t.at x ≡ none)) → last_label (t.at x) (u.at x) ≡ label l m → Does t c (allowed l) u
plain t c x l m u e is z n q = does t c (allowed l) u e (sym (ap (said t (stepped t c)) z ∙ ap (λ (v : Tables). said t v (level_at x)) is
    ∙ ap (λ (b : Bool). outcome b (level (last_label (t.at x) (u.at x))) (fewer (t.at x) (u.at x))) (lowers_none t u (none_smaller t u n))
    ∙ ap allowed (ap level q ∙ level_label l m))) (sym is)

-- ── steps that leave the handles as they are ──
steady : (t : Tables) (a : Thing → Option Entry) → reap (handles t) (with_at t a) ≡ with_at t a
steady t a = reap_more t (with_at t a) (λ n h. subst (λ (hs : List Held). T (open_on hs n)) (sym (handles_at t a)) h)

effect_at : (t : Tables) (c : Call) (a : Thing → Option Entry) → applies (steps t c) t ≡ with_at t a → stepped t c ≡ with_at t a
effect_at t c a q = ap (reap (handles t)) q ∙ steady t a

-- ── the freeze ──
pub freeze_does : (t : Tables) (n : ℕ) → refusal t (freeze n) ≡ none → Does t (freeze n) (allowed n) (with_freeze t n)
freeze_does t n e = does t (freeze n) (allowed n) (with_freeze t n) e refl
    (sym (reap_more t (with_freeze t n) (λ o h. subst (λ (hs : List Held). T (open_on hs o)) (handles_by t (with_freeze t n) refl) h)))

-- ── a new thing: admit, register, create ──
entered : (t : Tables) (c : Call) (x : Thing) (k : Kind) (l m : ℕ) → refusal t c ≡ none → applies (steps t c) t ≡ with_at t
    (put t.at x (some (entry k (label l m))))
    → shown t c ≡ level_at x → t.at x ≡ none → Does t c (allowed l) (with_at t (put t.at x (some (entry k (label l m)))))
entered t c x k l m e q z b = plain t c x l m _ e (effect_at t c (put t.at x v) q) z (new_one t x v b) (ap (last_label (t.at x)) (put_same t.at x v))
  where
    v : Option Entry
    v = some (entry k (label l m))

pub admit_does : (t : Tables) (s l m : ℕ) → refusal t (admit s (label l m)) ≡ none → Does t (admit s (label l m)) (allowed l)
    (with_at t (put t.at (subject s) (some (entry running (label l m)))))
admit_does t s l m e = entered t (admit s (label l m)) (subject s) running l m e refl refl (fresh t (admit s (label l m)) e (subject s) (inl refl))

pub register_does : (t : Tables) (o l m : ℕ) → refusal t (register o (label l m)) ≡ none → Does t (register o (label l m)) (allowed l)
    (with_at t (put t.at (object o) (some (entry file (label l m)))))
register_does t o l m e = entered t (register o (label l m)) (object o) file l m e refl refl (fresh t (register o (label l m)) e (object o) (inl refl))

pub create_does : (t : Tables) (s o : ℕ) (x : Subject) → refusal t (create s o) ≡ none → t.at (subject s) ≡ subject_entry x
    → Does t (create s o) (allowed x.level) (with_at t (put t.at (object o) (some (entry file (label x.level x.shops)))))
create_does t s o x e q = entered t (create s o) (object o) file x.level x.shops e
    (ap (λ (c : Label). with_at t (put t.at (object o) (some (entry file c)))) (own t (create s o) e s (inl refl) x q)) refl
    (fresh t (create s o) e (object o) (inr (inl refl)))

-- ── handles that are placed: pipe, open, fork ──
-- handles that stay leave open what was open
kept_open : (t u : Tables) → ((s p : ℕ) (k : Held) → t.hand s p ≡ some k → (j : Held) × (u.hand s p ≡ some j) × (j.to ≡ k.to))
    → (n : ℕ) → T (open_on (handles t) n) → T (open_on (handles u) n)
kept_open t u f n h = let r = open_at t n h in let j = f r.0 r.1 r.2 r.5 in
    subst (λ (z : ℕ). T (open_on (handles u) z)) (j.2 ∙ r.6) (open_here u r.0 r.1 j.0 r.3 r.4 j.1)

more_open : (t u : Tables) → ((s p : ℕ) (k : Held) → t.hand s p ≡ some k → u.hand s p ≡ some k) → (n : ℕ) → T (open_on (handles t) n)
    → T (open_on (handles u) n)
more_open t u f = kept_open t u (λ s p k q. (k, f s p k q, refl))

place_more : (h : ℕ → ℕ → Option Held) (s p : ℕ) (v : Option Held) → h s p ≡ none → (s' p' : ℕ) (k : Held) → h s' p' ≡ some k → place h s p v s' p' ≡ some k
place_more h s p v e s' p' k q = go (eqb s s') (eqb→eq s s') (eqb p p') (eqb→eq p p')
  where
    go : (a : Bool) → (T a → s ≡ s') → (b : Bool) → (T b → p ≡ p') → cond a (cond b v (h s p')) (h s' p') ≡ some k
    go false f b g = q
    go true f false g = ap (λ (z : ℕ). h z p') (f tt) ∙ q
    go true f true g = absurd (none-ne-some k (sym e ∙ ap (λ (z : ℕ). h z p) (f tt) ∙ ap (h s') (g tt) ∙ q))

row_more : (h : ℕ → ℕ → Option Held) (c : ℕ) (r : ℕ → Option Held) → ((p : ℕ) (k : Held) → h c p ≡ some k → ⊥) → (s p : ℕ) (k : Held) → h s p ≡ some k
    → row h c r s p ≡ some k
row_more h c r e s p k q = go (eqb c s) (eqb→eq c s)
  where
    go : (a : Bool) → (T a → c ≡ s) → cond a (r p) (h s p) ≡ some k
    go false f = q
    go true f = absurd (e p k (ap (λ (z : ℕ). h z p) (f tt) ∙ q))

-- a new thing and its handles
joined : (t : Tables) (c : Call) (x : Thing) (k : Kind) (l n : ℕ) (h : ℕ → ℕ → Option Held) → refusal t c ≡ none
    → applies (steps t c) t ≡ with_hand (with_at t (put t.at x (some (entry k (label l n))))) h → shown t c ≡ level_at x → t.at x ≡ none
    → ((s p : ℕ) (j : Held) → t.hand s p ≡ some j → h s p ≡ some j)
    → Does t c (allowed l) (with_hand (with_at t (put t.at x (some (entry k (label l n))))) h)
joined t c x k l n h e q z b m = plain t c x l n u e (ap (reap (handles t)) q ∙ reap_more t u (more_open t u m)) z (new_one t x v b)
    (ap (last_label (t.at x)) (put_same t.at x v))
  where
    v : Option Entry
    v = some (entry k (label l n))

    u : Tables
    u = with_hand (with_at t (put t.at x v)) h

pub pipe_does : (t : Tables) (s o r w : ℕ) (x : Subject) → refusal t (make_pipe s o r w) ≡ none → t.at (subject s) ≡ subject_entry x
    → Does t (make_pipe s o r w) (allowed x.level) (with_hand (with_at t (put t.at (object o) (some (entry pipe (label x.level x.shops)))))
    (place (place t.hand s r (some (handle reading o))) s w (some (handle writing o))))
pipe_does t s o r w x e q = joined t (make_pipe s o r w) (object o) pipe x.level x.shops _ e
    (ap (λ (c : Label). with_hand (with_at t (put t.at (object o) (some (entry pipe c)))) (place h₁ s w (some (handle writing o))))
    (own t (make_pipe s o r w) e s (inl refl) x q)) refl (fresh t (make_pipe s o r w) e (object o) (inr (inl refl)))
    (λ s' p' k z. place_more h₁ s w (some (handle writing o)) still s' p' k
    (place_more t.hand s r (some (handle reading o)) (place_free t (make_pipe s o r w) e s r (inr (inr (inl refl)))) s' p' k z))
  where
    h₁ : ℕ → ℕ → Option Held
    h₁ = place t.hand s r (some (handle reading o))

    -- r and w are apart, so w is still empty
    still : h₁ s w ≡ none
    still = place_other t.hand s r (some (handle reading o)) w (passed t (make_pipe s o r w) e (apart r w) (inr (inr (inr (inr (inl refl))))))
        ∙ place_free t (make_pipe s o r w) e s w (inr (inr (inr (inl refl))))

pub open_does : (t : Tables) (d : Dir) (s o p : ℕ) (y : Object) → refusal t (opens d s o p) ≡ none → t.at (object o) ≡ object_entry y
    → Does t (opens d s o p) (allowed y.level) (with_hand t (place t.hand s p (some (handle d o))))
open_does t d s o p y e q = plain t (opens d s o p) (object o) y.level y.shops u e is refl (λ x d q. inl q) (ap (λ (v : Option Entry). last_label v v) there)
  where
    u : Tables
    u = with_hand t (place t.hand s p (some (handle d o)))

    there : t.at (object o) ≡ some (entry (cond (eqb y.kind 1) file pipe) (label y.level y.shops))
    there = thing_is t (opens d s o p) e o (present_live t (opens d s o p) e o (inr (inl refl))) y q

    is : reap (handles t) u ≡ u
    is = reap_more t u (more_open t u (place_more t.hand s p (some (handle d o)) (place_free t (opens d s o p) e s p (inr (inr (inl refl))))))

pub fork_does : (t : Tables) (s c : ℕ) (x : Subject) → Wf t → refusal t (fork s c) ≡ none → t.at (subject s) ≡ subject_entry x
    → Does t (fork s c) (allowed x.level)
    (with_hand (with_at t (put t.at (subject c) (some (entry running (label x.level x.shops))))) (row t.hand c (t.hand s)))
fork_does t s c x w e q = joined t (fork s c) (subject c) running x.level x.shops (row t.hand c (t.hand s)) e
    (ap (λ (l : Label). with_hand (with_at t (put t.at (subject c) (some (entry running l)))) (row t.hand c (t.hand s)))
    (own t (fork s c) e s (inl refl) x q))
    refl (fresh t (fork s c) e (subject c) (inr (inl refl))) (row_more t.hand c (t.hand s) bare)
  where
    -- a number not in use holds nothing
    bare : (p : ℕ) (k : Held) → t.hand c p ≡ some k → ⊥
    bare p k z = subst (λ (o : Option Entry). T (is_some o)) (fresh t (fork s c) e (subject c) (inr (inl refl)))
        (subst T (used_is t (subject c)) (live_of t (subject c) (w.ends c p k z).from).1)

-- a new member, with no handles
pub thread_does : (t : Tables) (s c : ℕ) (x : Subject) → refusal t (thread s c) ≡ none → t.at (subject s) ≡ subject_entry x
    → Does t (thread s c) (allowed x.level) (with_kin (with_at t (put t.at (subject c) (some (entry running (label x.level x.shops))))) (bound c s t.kin))
thread_does t s c x e q = plain t (thread s c) (subject c) x.level x.shops u e is refl (new_one t (subject c) v (fresh t (thread s c) e (subject c) (inr (inl refl))))
    (ap (last_label (t.at (subject c))) (put_same t.at (subject c) v))
  where
    v : Option Entry
    v = some (entry running (label x.level x.shops))

    u : Tables
    u = with_kin (with_at t (put t.at (subject c) v)) (bound c s t.kin)

    is : stepped t (thread s c) ≡ u
    is = ap (λ (l : Label). reap (handles t) (with_kin (with_at t (put t.at (subject c) (some (entry running l)))) (bound c s t.kin)))
        (own t (thread s c) e s (inl refl) x q) ∙ reap_more t u (more_open t u (λ s p k q. q))

-- ── connect ──
pub connect_does : (t : Tables) (s u a b p q : ℕ) (x z : Subject) → refusal t (connect s u a b p q) ≡ none → t.at (subject s) ≡ subject_entry x
    → t.at (subject u) ≡ subject_entry z
    → Does t (connect s u a b p q) (allowed x.level)
    (with_hand (with_at t (put (put t.at (object a) (some (entry pipe (label x.level x.shops)))) (object b) (some (entry pipe (label z.level z.shops)))))
    (place (place (place (place t.hand s p (some (handle reading b))) s q (some (handle writing a))) u p (some (handle reading a))) u q
    (some (handle writing b))))
connect_does t s u a b p q x z e i j = plain t c (cell t s) x.level x.shops n e (ap (reap (handles t)) made ∙ reap_more t n (more_open t n more)) refl new_ones
    (ap (last_label (t.at (cell t s))) (put_apart (put t.at (object a) ea) (object b) (cell t s) eb own_entry.0 free_b (still_own ∙ own_entry.1)
    ∙ still_own)
    ∙ ap (λ (v : Option Entry). last_label v v) (cell_is t c e s (inl refl) x i))
  where
    c : Call
    c = connect s u a b p q

    ea : Option Entry
    ea = some (entry pipe (label x.level x.shops))

    eb : Option Entry
    eb = some (entry pipe (label z.level z.shops))

    h₁ : ℕ → ℕ → Option Held
    h₁ = place t.hand s p (some (handle reading b))

    h₂ : ℕ → ℕ → Option Held
    h₂ = place h₁ s q (some (handle writing a))

    h₃ : ℕ → ℕ → Option Held
    h₃ = place h₂ u p (some (handle reading a))

    n : Tables
    n = with_hand (with_at t (put (put t.at (object a) ea) (object b) eb)) (place h₃ u q (some (handle writing b)))

    made : applies (channel t s u a b p q) t ≡ n
    made = ap₂ (λ (k l : Label). with_hand (with_at t (put (put t.at (object a) (some (entry pipe k))) (object b) (some (entry pipe l))))
        (place h₃ u q (some (handle writing b)))) (own t c e s (inl refl) x i) (own t c e u (inr (inl refl)) z j)

    free_a : t.at (object a) ≡ none
    free_a = fresh t c e (object a) (inr (inr (inr (inl refl))))

    -- a and b are apart, so b is still free
    free_b : put t.at (object a) ea (object b) ≡ none
    free_b = cond_no (eqb a b) ea (t.at (object b)) (passed t c e (unlike a b) (inr (inr (inr (inr (inr (inl refl)))))))
        ∙ fresh t c e (object b) (inr (inr (inr (inr (inl refl)))))

    own_entry : (d : Entry) × (t.at (cell t s) ≡ some d)
    own_entry = (_, cell_is t c e s (inl refl) x i)

    still_own : put t.at (object a) ea (cell t s) ≡ t.at (cell t s)
    still_own = put_apart t.at (object a) (cell t s) ea own_entry.0 free_a own_entry.1

    new_ones : (y : Thing) (d : Entry) → n.at y ≡ some d → (t.at y ≡ some d) ⊎ (t.at y ≡ none)
    new_ones y d k = elim (put_cases (put t.at (object a) ea) (object b) eb y (some d) k) [
      | inl l ↦ inr (was_free (ap (put t.at (object a) ea) (sym l.0) ∙ free_b))
      | inr l ↦ new_one t (object a) ea free_a y d l.1
    ]
      where
        was_free : put t.at (object a) ea y ≡ none → t.at y ≡ none
        was_free f = elim (put_cases t.at (object a) ea y none f) [ inl l ↦ absurd (none-ne-some _ (sym l.1)) | inr l ↦ l.1 ]

    pq : T (not (eqb p q))
    pq = passed t c e (apart p q) (inr (inr (inr (inr (inr (inr (inr (inr (inr (inr (inl refl)))))))))))

    su : T (not (eqb s u))
    su = passed t c e (others s u) (inr (inr (inl refl)))

    still_u : (k : ℕ) → h₂ u k ≡ t.hand u k
    still_u k = place_apart h₁ s q (some (handle writing a)) u k su ∙ place_apart t.hand s p (some (handle reading b)) u k su

    more : (s' p' : ℕ) (k : Held) → t.hand s' p' ≡ some k → place h₃ u q (some (handle writing b)) s' p' ≡ some k
    more s' p' k f =
        place_more h₃ u q (some (handle writing b)) (place_other h₂ u p (some (handle reading a)) q pq ∙ still_u q
        ∙ place_free t c e u q (inr (inr (inr (inr (inr (inr (inr (inr (inr (inl refl))))))))))) s' p' k
        (place_more h₂ u p (some (handle reading a)) (still_u p ∙ place_free t c e u p (inr (inr (inr (inr (inr (inr (inr (inr (inl refl)))))))))) s' p' k
        (place_more h₁ s q (some (handle writing a)) (place_other t.hand s p (some (handle reading b)) q pq
        ∙ place_free t c e s q (inr (inr (inr (inr (inr (inr (inr (inl refl))))))))) s' p' k
        (place_more t.hand s p (some (handle reading b)) (place_free t c e s p (inr (inr (inr (inr (inr (inr (inl refl)))))))) s' p' k f)))

-- ── mark ──
pub mark_does : (t : Tables) (s p : ℕ) (x : Subject) → refusal t (mark s p) ≡ none → t.at (subject s) ≡ subject_entry x
    → Does t (mark s p) (allowed x.level) (with_hand t (place t.hand s p (marking (t.hand s p))))
mark_does t s p x e q = plain t (mark s p) (cell t s) x.level x.shops u e is refl (λ x d q. inl q)
    (ap (λ (v : Option Entry). last_label v v) (cell_is t (mark s p) e s (inl refl) x q))
  where
    u : Tables
    u = with_hand t (place t.hand s p (marking (t.hand s p)))

    marked_to : (o : Option Held) (k : Held) → o ≡ some k → (j : Held) × (marking o ≡ some j) × (j.to ≡ k.to)
    marked_to none k q = absurd (none-ne-some k q)
    marked_to (some j) k q = (with_mark j, refl, ap (λ (z : Held). z.to) (some-injective j k q))

    still : (s' p' : ℕ) (k : Held) → t.hand s' p' ≡ some k → (j : Held) × (u.hand s' p' ≡ some j) × (j.to ≡ k.to)
    still s' p' k q = go (eqb s s') (eqb→eq s s') (eqb p p') (eqb→eq p p')
      where
        go : (a : Bool) → (T a → s ≡ s') → (b : Bool) → (T b → p ≡ p')
            → (j : Held) × (cond a (cond b (marking (t.hand s p)) (t.hand s p')) (t.hand s' p') ≡ some j) × (j.to ≡ k.to)
        go false f b g = (k, q, refl)
        go true f false g = (k, ap (λ (z : ℕ). t.hand z p') (f tt) ∙ q, refl)
        go true f true g = marked_to (t.hand s p) k (ap (λ (z : ℕ). t.hand z p) (f tt) ∙ ap (t.hand s') (g tt) ∙ q)

    is : reap (handles t) u ≡ u
    is = reap_more t u (kept_open t u still)

-- ── things and handles that go: close, exit, retire ──
pub close_does : (t : Tables) (s p : ℕ) (x : Subject) → refusal t (close s p) ≡ none → t.at (subject s) ≡ subject_entry x
    → Does t (close s p) (allowed x.level) (reap (handles t) (with_hand t (place t.hand s p none)))
close_does t s p x e q = plain t (close s p) (cell t s) x.level x.shops (reap (handles t) u) e refl refl
    (λ y d z. inl (left_over (ended (handles t) (handles u) y (t.at y)) (t.at y) d z))
    (ap (λ (y : Thing). last_label (t.at y) ((reap (handles t) u).at y)) (cell_self t s)
    ∙ ap₂ last_label (step_is t (close s p) e s (inl refl) x q) (stays ∙ step_is t (close s p) e s (inl refl) x q))
  where
    u : Tables
    u = with_hand t (place t.hand s p none)

    stays : (reap (handles t) u).at (subject s) ≡ t.at (subject s)
    stays = cond_no (ended (handles t) (handles u) (subject s) (t.at (subject s))) none (t.at (subject s))
        (ended_subject (handles t) (handles u) s (t.at (subject s)))

pub exit_does : (t : Tables) (s : ℕ) (x : Subject) → refusal t (exit s) ≡ none → t.at (subject s) ≡ subject_entry x
    → Does t (exit s) (allowed x.level) (reap (handles t)
    (with_kin (with_at (with_hand t (row t.hand s (λ p. none))) (put t.at (subject s) none)) (parted (same (subject s)) t.kin)))
exit_does t s x e q = plain t (exit s) (cell t s) x.level x.shops (reap (handles t) u) e refl refl
    (λ y d z. inl (without (subject s) y d (left_over (ended (handles t) (handles u) y (u.at y)) (u.at y) d z)))
    (ap (λ (y : Thing). last_label (t.at y) ((reap (handles t) u).at y)) (cell_self t s) ∙ ap₂ last_label (step_is t (exit s) e s (inl refl) x q) gone)
  where
    u : Tables
    u = with_kin (with_at (with_hand t (row t.hand s (λ p. none))) (put t.at (subject s) none)) (parted (same (subject s)) t.kin)

    without : (x y : Thing) (d : Entry) → put t.at x none y ≡ some d → t.at y ≡ some d
    without x y d z = elim (put_cases t.at x none y (some d) z) [ inl c ↦ absurd (none-ne-some d c.1) | inr c ↦ c.1 ]

    gone : (reap (handles t) u).at (subject s) ≡ none
    gone = cond_no (ended (handles t) (handles u) (subject s) (u.at (subject s))) none (u.at (subject s))
        (ended_subject (handles t) (handles u) s (u.at (subject s))) ∙ put_same t.at (subject s) none

pub retire_does : (t : Tables) (o : ℕ) (y : Object) → refusal t (retire o) ≡ none → t.at (object o) ≡ object_entry y
    → Does t (retire o) (allowed y.level) (with_at t (put t.at (object o) none))
retire_does t o y e q = plain t (retire o) (object o) y.level y.shops _ e (effect_at t (retire o) (put t.at (object o) none) refl) refl
    (λ x d z. elim (put_cases t.at (object o) none x (some d) z) [ inl c ↦ absurd (none-ne-some d c.1) | inr c ↦ inl c.1 ])
    (ap₂ last_label (thing_is t (retire o) e o (present_live t (retire o) e o (inl refl)) y q) (put_same t.at (object o) none))

-- ── data moves: read, write, exec, map ──
-- y, of kind kd and label k, takes in z, of label l, and has label n then; u is what the steps make, by y's entry after them, and y does not end with the call
module _ (t : Tables) (c : Call) (y z : Thing) (kd kz : Kind) (k l : Label) (e : refusal t c ≡ none) (u : Option Entry → Tables)
    (q : applies (steps t c) t ≡ u (fall y (t.at y) (t.at z))) (g : shown t c ≡ level_at y)
    (w : (v : Option Entry) (x : Thing) (b : Entry) → T (not (same y x)) → (u v).at x ≡ some b → t.at x ≡ some b)
    (there : (d : Entry) → (reap (handles t) (u (some d))).at y ≡ some d) (r : Stands t y)
    (o : t.at y ≡ some (entry kd k)) (s : t.at z ≡ some (entry kz l)) where
  taken_in : (n : Label) → sunk y kd k l ≡ n → Does t c (outcome (not (leq k n)) (level n) (marks_lost k n)) (reap (handles t) (u (some (entry kd n))))
  taken_in n f = does t c (outcome (not (leq k n)) (level n) (marks_lost k n)) after e (sym shows) (sym is)
    where
      d : Entry
      d = entry kd n

      after : Tables
      after = reap (handles t) (u (some d))

      is : reap (handles t) (applies (steps t c) t) ≡ after
      is = ap (reap (handles t)) (q ∙ ap u
          (ap (λ (v : Option Entry). fall y v (t.at z)) o ∙ ap (fall y (some (entry kd k))) s ∙ ap (λ (b : Label). some (entry kd b)) f))

      -- any other thing is as it was, or gone
      others : (x : Thing) (a b : Entry) → T (not (same y x)) → t.at x ≡ some a → after.at x ≡ some b → a.label ⊑ b.label
      others x a b n p h = subst (λ (j : Entry). a.label ⊑ j.label) (some-injective a b (sym p
          ∙ w (some d) x b n (left_over (ended (handles t) (handles (u (some d))) x ((u (some d)).at x)) ((u (some d)).at x) b h))) ⊑_refl

      shows : said t (reap (handles t) (applies (steps t c) t)) (shown t c) ≡ outcome (not (leq k n)) (level n) (marks_lost k n)
      shows = ap (said t (reap (handles t) (applies (steps t c) t))) g ∙ ap (λ (v : Tables). said t v (level_at y)) is
          ∙ ap (λ (b : Bool). outcome b (level (last_label (t.at y) (after.at y))) (fewer (t.at y) (after.at y))) (lowers_one t after y (entry kd k) d r o (there d) others)
          ∙ ap₂ (λ (b a : Option Entry). outcome (not (leq k n)) (level (last_label b a)) (fewer b a)) o (there d)

-- any other entry is as it was
put_others : (a : Thing → Option Entry) (y : Thing) (v : Option Entry) (x : Thing) (b : Entry) → T (not (same y x)) → put a y v x ≡ some b → a x ≡ some b
put_others a y v x b n h = sym (cond_no (same y x) v (a x) n) ∙ h

-- a live subject that takes in something of this label
fell : (s : ℕ) (x : Subject) (k : Kind) (l m : ℕ)
    → fall (subject s) (some (entry running (label x.level x.shops))) (some (entry k (label l m))) ≡ some (entry running (label (fallen_by x l m).level (fallen_by x l m).shops))
fell s x k l m = ap (λ (b : Label). some (entry running b)) (meet_labels x.level x.shops l m)

-- where only y's entry changes, no pipe ends
one_changed : (t : Tables) (y : Thing) (d : Entry) → (reap (handles t) (with_at t (put t.at y (some d)))).at y ≡ some d
one_changed t y d = ap (λ (u : Tables). u.at y) (steady t (put t.at y (some d))) ∙ put_same t.at y (some d)

-- ── the handle at a place that is taken ──
held_to : (h : Handle) (k : Held) → held h ≡ some k → k.to ≡ h.object
held_to h k q = go (eqb h.way 0) (joins h) refl q
  where
    go : (b : Bool) (a : Held) → a.to ≡ h.object → cond b none (some a) ≡ some k → k.to ≡ h.object
    go true a e q = absurd (none-ne-some k q)
    go false a e q = sym (ap (λ (w : Held). w.to) (some-injective a k q)) ∙ e

module _ (t : Tables) (w : Wf t) (c : Call) (s p : ℕ) (h : Handle) (e : refusal t c ≡ none) (i : In (taken s p) (tests c)) (q : t.hand s p ≡ held h) where
  pub found : (k : Held) × (t.hand s p ≡ some k)
  found = go (t.hand s p) refl (not_not (is_some (t.hand s p)) (neither (not (ltb p places)) (not (is_some (t.hand s p))) (passed t c e (taken s p) i)).1)
    where
      go : (o : Option Held) → t.hand s p ≡ o → T (is_some o) → (k : Held) × (t.hand s p ≡ some k)
      go none z y = absurd y
      go (some k) z y = (k, z)

  pub found_place : p < 16
  found_place = (w.ends s p found.0 found.1).place

  pub found_to : h.object ≡ found.0.to
  found_to = sym (held_to h found.0 (sym q ∙ found.1))

  pub found_live : T (live t (object h.object))
  found_live = subst (λ (z : ℕ). T (live t (object z))) (sym found_to) (w.ends s p found.0 found.1).to

  pub found_target : target (t.hand s p) ≡ object h.object
  found_target = ap target found.1 ∙ ap object (sym found_to)

-- what is told of a fall, by levels and sets
told_fall : (b : Bool) (l m k n : ℕ) → outcome b (level (label k n)) (marks_lost (label l m) (label k n)) ≡ outcome b k (lost m n)
told_fall b l m k n = ap₂ (outcome b) (level_label k n) (lost_labels l m k n)

-- s and its mates take in z, which has this label: u has their entries, and b says whether some label got smaller
group_does : (t : Tables) (w : Wf t) (c : Call) (s : ℕ) (i : In (alive s) (tests c)) (x : Subject) (z : Thing) (k : Kind) (l n : ℕ) (u : Tables) (b : Bool) (e : refusal t c ≡ none)
    → t.at (subject s) ≡ subject_entry x → t.at z ≡ some (entry k (label l n)) → stepped t c ≡ u → shown t c ≡ level_at (cell t s)
    → u.at (subject s) ≡ sink t (subject s) (t.at z) (subject s) → lowers t u ≡ b
    → Does t c (outcome b (fallen_by x l n).level (lost x.shops (fallen_by x l n).shops)) u
group_does t w c s i x z k l n u b e q h is g a f = does t c (outcome b (fallen_by x l n).level (lost x.shops (fallen_by x l n).shops)) u e (sym (ap (said t (stepped t c)) (g ∙ ap level_at (cell_self t s))
    ∙ ap (λ (v : Tables). said t v (level_at (subject s))) is
    ∙ ap (λ (d : Bool). outcome d (level (last_label (t.at (subject s)) (u.at (subject s)))) (fewer (t.at (subject s)) (u.at (subject s)))) f
    ∙ ap₂ (λ (b' a : Option Entry). outcome b (level (last_label b' a)) (fewer b' a)) (step_is t c e s i x q) now
    ∙ told_fall b x.level x.shops (fallen_by x l n).level (fallen_by x l n).shops))
    (sym is)
  where
    now : u.at (subject s) ≡ some (entry running (label (fallen_by x l n).level (fallen_by x l n).shops))
    now = a ∙ cond_yes (whole t (subject s) (subject s)) (fall (subject s) (t.at (subject s)) (t.at z)) (t.at (subject s)) (whole_self t (subject s) w.teams.itself)
        ∙ ap₂ (fall (subject s)) (step_is t c e s i x q) h ∙ fell s x k l n

pub read_does : (t : Tables) (w : Wf t) (s p : ℕ) (x : Subject) (h : Handle) (y : Object) (u : Tables) (b : Bool) → refusal t (access reading s p) ≡ none
    → t.at (subject s) ≡ subject_entry x → t.hand s p ≡ held h → t.at (object h.object) ≡ object_entry y
    → u ≡ with_at t (sink t (subject s) (t.at (object h.object))) → lowers t u ≡ b
    → Does t (access reading s p) (outcome b (fallen_by x y.level y.shops).level (lost x.shops (fallen_by x y.level y.shops).shops)) u
read_does t w s p x h y u b e q r z f n = group_does t w (access reading s p) s (inl refl) x (object h.object) _ y.level y.shops u b e q
    (thing_is t (access reading s p) e h.object (found_live t w (access reading s p) s p h e (inr (inl refl)) r) y z)
    (ap₂ (λ (c o : Thing). reap (handles t) (with_at t (sink t c (t.at o)))) (cell_self t s) (found_target t w (access reading s p) s p h e (inr (inl refl)) r)
    ∙ steady t (sink t (subject s) (t.at (object h.object))) ∙ sym f) refl (ap (λ (v : Tables). v.at (subject s)) f) n

pub map_does : (t : Tables) (w : Wf t) (s o p : ℕ) (x : Subject) (y : Object) (u : Tables) (b : Bool) → refusal t (maps s o p) ≡ none
    → t.at (subject s) ≡ subject_entry x → t.at (object o) ≡ object_entry y
    → u ≡ with_hand (with_at t (sink t (subject s) (t.at (object o)))) (place t.hand s p (some (mapping o))) → lowers t u ≡ b
    → Does t (maps s o p) (outcome b (fallen_by x y.level y.shops).level (lost x.shops (fallen_by x y.level y.shops).shops)) u
map_does t w s o p x y u b e q z f n = group_does t w (maps s o p) s (inl refl) x (object o) _ y.level y.shops u b e q
    (thing_is t (maps s o p) e o (present_live t (maps s o p) e o (inr (inl refl))) y z)
    (ap (λ (a : Thing → Option Entry). reap (handles t) (with_hand (with_at t a) (place t.hand s p (some (mapping o)))))
    (fun_ext (λ v. ap (λ (c : Thing). sink mapped c (t.at (object o)) v) (cell_self t s) ∙ same_sink v)) ∙ still ∙ sym f) refl (ap (λ (v : Tables). v.at (subject s)) f) n
  where
    mapped : Tables
    mapped = with_hand t (place t.hand s p (some (mapping o)))

    now : Tables
    now = with_hand (with_at t (sink t (subject s) (t.at (object o)))) (place t.hand s p (some (mapping o)))

    same_sink : (v : Thing) → sink mapped (subject s) (t.at (object o)) v ≡ sink t (subject s) (t.at (object o)) v
    same_sink v = ap (λ (b : Bool). cond b (fall v (t.at v) (t.at (object o))) (t.at v)) (whole_by mapped t refl (subject s) v)

    -- no handle goes
    still : reap (handles t) now ≡ now
    still = reap_more t now (more_open t now (place_more t.hand s p (some (mapping o)) (place_free t (maps s o p) e s p (inr (inr (inr (inl refl)))))))

-- s is alone then, and takes the file in for itself
pub exec_does : (t : Tables) (w : Wf t) (s o : ℕ) (x : Subject) (y : Object) → refusal t (exec s o) ≡ none → t.at (subject s) ≡ subject_entry x
    → t.at (object o) ≡ object_entry y
    → Does t (exec s o) (let v = fallen_by x y.level y.shops in outcome (not (leq (label x.level x.shops) (label v.level v.shops))) v.level (lost x.shops v.shops))
    (reap (handles t) (with_at (applies (sheds t s) t) (put (applies (sheds t s) t).at (subject s) (subject_entry (fallen_by x y.level y.shops)))))
unfolding sheds
exec_does t w s o x y e q z = subst₂ (λ (c : Thing) (v : Option Entry). Does t (exec s o) (outcome (not (leq (label x.level x.shops) n)) fallen.level (lost x.shops fallen.shops)) (reap (handles t) (u c v)))
    (cell_self t s) (sym (step_at t (exec s o) e s (inl refl) x q fallen.level fallen.shops))
    (subst (λ (a : Told). Does t (exec s o) a (reap (handles t) (u (cell t s) (some (entry running n)))))
    (told_fall (not (leq (label x.level x.shops) n)) x.level x.shops fallen.level fallen.shops)
    (taken_in t (exec s o) (cell t s) (object o) running _ (label x.level x.shops) (label y.level y.shops) e (u (cell t s))
    (applies_append (sheds t s) (mix runs (subject s) (object o) (cell t s) (object o) ∷ []) t
    ∙ ap (with_at shed) (ap (λ (c : Thing). sink shed c (t.at (object o))) (cell_self t s) ∙ sink_one shed (subject s) (t.at (object o)) (whole_self shed (subject s) (less.teamed w.teams).itself) only
    ∙ ap₂ (λ (c : Thing) (v : Option Entry). put shed.at c (fall c v (t.at (object o)))) (sym (cell_self t s)) (own_entry ∙ ap t.at (sym (cell_self t s)))))
    refl (λ v c b m h. less.was_at c b (put_others shed.at (cell t s) v c b m h)) (λ d. stays d (cell t s) (sym (cell_self t s))) ranged
    (cell_is t (exec s o) e s (inl refl) x q) (thing_is t (exec s o) e o (present_live t (exec s o) e o (inr (inl refl))) y z) n
    (ap (λ (c : Thing). sunk c running (label x.level x.shops) (label y.level y.shops)) (cell_self t s) ∙ meet_labels x.level x.shops y.level y.shops)))
  where
    fallen : Subject
    fallen = fallen_by x y.level y.shops

    n : Label
    n = label fallen.level fallen.shops

    shed : Tables
    shed = applies (sheds t s) t

    less : Less t shed
    less = sheds_less t s

    u : Thing → Option Entry → Tables
    u c v = with_at shed (put shed.at c v)

    ranged : Stands t (cell t s)
    ranged = subst (λ (y : Thing). Stands t y) (sym (cell_self t s)) (live_of t (subject s) (low_row_live t (exec s o) e s (inl refl))).0

    own_entry : shed.at (subject s) ≡ t.at (subject s)
    own_entry = cond_no (mates t s (subject s)) none (t.at (subject s)) (not_own_mate t s)

    -- nobody else is in its group
    only : (y : Thing) → T (whole shed (subject s) y) → subject s ≡ y
    only (subject a) h = elim (parted_cases (mates t s) t.kin s a (subst T (whole_kin shed s a) h)) [
      | inl r ↦ ap subject r
      | inr r ↦ elim (test (eqb s a)) [
        | inl f ↦ ap subject (eqb→eq s a f)
        | inr f ↦ absurd (T_not (mates t s (subject a)) r.1 (both (not (eqb s a)) (t.kin s a) f r.2))
      ]
    ]
    only (object a) h = absurd (subst T (whole_no_object shed s a) h)

    -- a subject is no pipe, and does not end
    stays : (d : Entry) (c : Thing) → subject s ≡ c → (reap (handles t) (u c (some d))).at c ≡ some d
    stays d c f = subst (λ (c : Thing). (reap (handles t) (u c (some d))).at c ≡ some d) f
        (cond_no (ended (handles t) (handles (u (subject s) (some d))) (subject s) ((u (subject s) (some d)).at (subject s))) none
        ((u (subject s) (some d)).at (subject s))
        (ended_subject (handles t) (handles (u (subject s) (some d))) s ((u (subject s) (some d)).at (subject s))) ∙ put_same shed.at (subject s) (some d))

-- ── write ──
put_self : (a : Thing → Option Entry) (x : Thing) (v : Option Entry) → v ≡ a x → put a x v ≡ a
put_self a x v q = fun_ext (λ y. go y (same x y) (same→eq x y))
  where
    go : (y : Thing) (b : Bool) → (T b → x ≡ y) → cond b v (a y) ≡ a y
    go y true e = q ∙ ap a (e tt)
    go y false e = refl

-- after is what the reads that follow the write make of the tables, and b whether some level got smaller by them
pub write_does : (t : Tables) (w : Wf t) (s p : ℕ) (x : Subject) (h : Handle) (y : Object) (after : Tables) (b : Bool) → refusal t (access writing s p) ≡ none
    → t.at (subject s) ≡ subject_entry x → t.hand s p ≡ held h → t.at (object h.object) ≡ object_entry y
    → after ≡ applies (rereads t (object h.object)) t → lowers t after ≡ b
    → Does t (access writing s p) (let v = sunken_by y x.level x.shops in outcome (not (leq (label y.level y.shops) (label v.level v.shops)) || b) v.level (lost y.shops v.shops))
    (with_at after (put after.at (object h.object) (object_entry (sunken_by y x.level x.shops))))
write_does t w s p x h y after b e q r z f n = by (eqb y.kind 1) refl
  where
    o : Thing
    o = object h.object

    lives_there : T (live t o)
    lives_there = found_live t w (access writing s p) s p h e (inr (inl refl)) r

    there : t.at o ≡ some (entry (cond (eqb y.kind 1) file pipe) (label y.level y.shops))
    there = thing_is t (access writing s p) e h.object lives_there y z

    open_there : T (open_on (handles t) h.object)
    open_there = subst (λ (n : ℕ). T (open_on (handles t) n)) (sym (found_to t w (access writing s p) s p h e (inr (inl refl)) r))
        (open_here t s p (found t w (access writing s p) s p h e (inr (inl refl)) r).0 (row_low t (access writing s p) e s (inl refl)) (found_place t w (access writing s p) s p h e (inr (inl refl)) r)
        (found t w (access writing s p) s p h e (inr (inl refl)) r).1)

    kind_is : (k : Bool) → eqb y.kind 1 ≡ k → t.at o ≡ some (entry (cond k file pipe) (label y.level y.shops))
    kind_is k m = there ∙ ap (λ (b : Bool). some (entry (cond b file pipe) (label y.level y.shops))) m

    to : target (t.hand s p) ≡ o
    to = found_target t w (access writing s p) s p h e (inr (inl refl)) r

    g : shown t (access writing s p) ≡ level_at o
    g = ap level_at to

    made : applies (steps t (access writing s p)) t ≡ applies (rereads t o) (with_at t (put t.at o (fall o (t.at o) (t.at (cell t s)))))
    made = ap (λ (v : Thing). applies (rereads t v) (with_at t (sink t v (t.at (cell t s))))) to
        ∙ ap (λ (a : Thing → Option Entry). applies (rereads t o) (with_at t a)) (sink_one t o (t.at (cell t s)) (whole_self t o w.teams.itself) (whole_object t h.object))

    Written : Object → Type 0
    Written v = Does t (access writing s p) (outcome (not (leq (label y.level y.shops) (label v.level v.shops)) || b) v.level (lost y.shops v.shops)) (with_at after (put after.at o (object_entry v)))

    -- a file keeps its entry, and those who have it mapped read it
    to_file : eqb y.kind 1 ≡ true → Written y
    to_file m = subst₂ (λ (a : Told) (u : Tables). Does t (access writing s p) a u)
        (ap (λ (c : Bool). outcome (not c || b) y.level (lost y.shops y.shops)) (sym (is_true (leq (label y.level y.shops) (label y.level y.shops)) ⊑_refl.tested)))
        (sym (ap (with_at after) (put_self after.at o (object_entry y) (sym z ∙ sym same_o))))
        (does t (access writing s p) (outcome b y.level (lost y.shops y.shops)) after e (sym shows) (sym is))
      where
        a_file_there : T (a_file o (t.at o))
        a_file_there = subst (λ (v : Option Entry). T (a_file o v)) (sym (kind_is true m)) tt

        read : after ≡ with_at t (reread_by t h.object subjects)
        read = f ∙ rereads_file t h.object a_file_there

        same_o : after.at o ≡ t.at o
        same_o = ap (λ (u : Tables). u.at o) read ∙ go (took t h.object subjects o)
          where
            go : (b : Bool) → cond b (fall o (t.at o) (t.at o)) (t.at o) ≡ t.at o
            go true = file_keeps o (t.at o) (t.at o) a_file_there
            go false = refl

        is : reap (handles t) (applies (steps t (access writing s p)) t) ≡ after
        is = ap (reap (handles t)) (made ∙ ap (λ (a : Thing → Option Entry). applies (rereads t o) (with_at t a))
            (put_self t.at o (fall o (t.at o) (t.at (cell t s))) (file_keeps o (t.at o) (t.at (cell t s)) a_file_there)) ∙ sym f ∙ read)
            ∙ steady t (reread_by t h.object subjects) ∙ sym read

        shows : said t (reap (handles t) (applies (steps t (access writing s p)) t)) (shown t (access writing s p)) ≡ outcome b y.level (lost y.shops y.shops)
        shows = ap (said t (reap (handles t) (applies (steps t (access writing s p)) t))) g ∙ ap (λ (v : Tables). said t v (level_at o)) is
            ∙ ap (λ (c : Bool). outcome c (level (last_label (t.at o) (after.at o))) (fewer (t.at o) (after.at o))) n
            ∙ ap₂ (λ (v a : Option Entry). outcome b (level (last_label v a)) (fewer v a)) (kind_is true m) (same_o ∙ kind_is true m)
            ∙ told_fall b y.level y.shops y.level y.shops

    -- a pipe falls, and nobody reads
    to_pipe : eqb y.kind 1 ≡ false → (v : Object) → object_entry v ≡ some (entry pipe (label v.level v.shops))
        → meet (label y.level y.shops) (label x.level x.shops) ≡ label v.level v.shops → Written v
    to_pipe m v i d = subst₂ (λ (a : Told) (u : Tables). Does t (access writing s p) a u)
        (told_fall (not (leq (label y.level y.shops) (label v.level v.shops))) y.level y.shops v.level v.shops
        ∙ ap (λ (c : Bool). outcome c v.level (lost y.shops v.shops)) (sym (or_none (not (leq (label y.level y.shops) (label v.level v.shops))) b quiet)))
        (steady t (put t.at o (some (entry pipe (label v.level v.shops))))
        ∙ ap₂ (λ (u : Tables) (c : Option Entry). with_at u (put u.at o c)) (sym unread) (sym i))
        (taken_in t (access writing s p) o (cell t s) pipe running (label y.level y.shops) (label x.level x.shops) e (λ c. with_at t (put t.at o c))
        (made ∙ ap (λ (ks : List Step). applies ks (with_at t (put t.at o (fall o (t.at o) (t.at (cell t s)))))) none_read) g (put_others t.at o) (one_changed t o)
        open_there (kind_is false m) (cell_is t (access writing s p) e s (inl refl) x q) (label v.level v.shops) d)
      where
        none_read : rereads t o ≡ []
        none_read = rereads_none t o (subst (λ (v : Option Entry). T (not (a_file o v))) (sym (kind_is false m)) tt)

        unread : after ≡ t
        unread = f ∙ ap (λ (ks : List Step). applies ks t) none_read

        quiet : b ≡ false
        quiet = sym n ∙ ap (lowers t) unread ∙ lowers_none t t (none_smaller t t (λ x d q. inl q))

        or_none : (a c : Bool) → c ≡ false → (a || c) ≡ a
        or_none true c q = refl
        or_none false c q = q

    pipe_at : eqb y.kind 1 ≡ false → (k n : ℕ) → object_entry (record { kind = y.kind; level = k; shops = n }) ≡ some (entry pipe (label k n))
    pipe_at m k n = thing_at t (access writing s p) e h.object lives_there y z k n ∙ ap (λ (b : Bool). some (entry (cond b file pipe) (label k n))) m

    by : (k : Bool) → eqb y.kind 1 ≡ k → Written (cond k y (record { kind = y.kind; level = min y.level x.level; shops = bit_and y.shops x.shops }))
    by true m = to_file m
    by false m = to_pipe m (record { kind = y.kind; level = min y.level x.level; shops = bit_and y.shops x.shops }) (pipe_at m (min y.level x.level) (bit_and y.shops x.shops))
        (meet_labels y.level y.shops x.level x.shops)
