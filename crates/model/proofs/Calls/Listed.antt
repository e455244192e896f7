-- The list of the live objects' numbers says nothing beside the entries: it is the rising list of those that are in use, and stays it; and it has at most 64. States
-- RULES T2 and T44. Assumes nothing.
use Rattle.std.specs.Prelude.{◌≡◌, refl, Bool, true, false, not, cond, ◌⊎◌, List, [], ◌∷◌, ℕ, ◌+◌, ◌≤◌, length, T}
use Rattle.std.proofs.Common.{sym, subst, ap, inl, inr, arith, nltb→le}
use Rattle.std.proofs.Math.Option.{Option, none, some}
use Rattle.model.specs.Bools.{test}
use Rattle.model.specs.Lists.{In, inserts}
use Rattle.model.specs.Lists.Rising.{Rising, rising_same, insert_le, only_le, inserts_new, inserts_old, inserts_rising, only_of, only_in, only_rising}
use Rattle.model.specs.Flow.{Thing, subject, object, same}
use Rattle.model.proofs.Flow.Laws.{same→eq, object_same}
use Rattle.model.specs.Tables.{reading, writing, Entry, Tables, empty, with_numbers, is_some, used, whole, handles}
use Rattle.model.specs.Steps.{Step, enter, leave, hold, holds, mix, quits, binds, freezes, put, fall, apply, applies, ended, reap}
use Rattle.model.proofs.Figures.Laws.{Makes}
use Rattle.model.proofs.Calls.Moving.{reread_of}
use Rattle.model.proofs.Calls.Refusals.{allowed_iff}
use Rattle.model.specs.Calls.{Call, admit, register, create, make_pipe, opens, access, fork, thread, exec, close, exit, retire, maps, mark, freeze, connect, unknown, sheds, roomy, InOrder}
use Rattle.model.specs.Calls.{target, rereads, made_by, made, steps, stepped, effect, Shown, level_at, given, lowers, said, Raw, decode, refusal, next, after}

-- RULES T44: the list rises, and has the numbers of the objects in use and no others
pub record Listed (t : Tables) : Type 0 where
  pub rising : Rising t.numbers
  pub sound : (n : ℕ) → In n t.numbers → T (is_some (t.at (object n)))
  pub complete : (n : ℕ) → T (is_some (t.at (object n))) → In n t.numbers

-- so tables with the same entries have the same list
pub listed_same : {t u : Tables} → Listed t → Listed u → ((x : Thing) → t.at x ≡ u.at x) → t.numbers ≡ u.numbers
listed_same {t} {u} a b q = rising_same t.numbers u.numbers a.rising b.rising
    (λ n i. b.complete n (subst (λ (o : Option Entry). T (is_some o)) (q (object n)) (a.sound n i)))
    (λ n i. a.complete n (subst (λ (o : Option Entry). T (is_some o)) (sym (q (object n))) (b.sound n i)))

-- what stands after steps stood before, or they made it
pub made_or : (ks : List Step) (t : Tables) (n : ℕ) → T (is_some ((applies ks t).at (object n))) → In n (made ks) ⊎ T (is_some (t.at (object n)))
made_or [] t n h = inr h
made_or (enter x e g ∷ ks) t n h = go x (made_or ks (apply (enter x e g) t) n h)
  where
    new : (y : Thing) → In n (made ks) ⊎ T (is_some (put t.at y (some e) (object n))) → T (same y (object n)) ⊎ T (not (same y (object n))) → In n (made_by y (made ks)) ⊎ T (is_some (t.at (object n)))
    new (subject s) (inl i) b = inl i
    new (subject s) (inr i) b = inr i
    new (object o) (inl i) b = inl (inr i)
    new (object o) (inr i) (inl b) = inl (inl (object_same o n (same→eq (object o) (object n) b)))
    new (object o) (inr i) (inr b) = inr (past (same (object o) (object n)) b i)
      where
        past : (b : Bool) → T (not b) → T (is_some (cond b (some e) (t.at (object n)))) → T (is_some (t.at (object n)))
        past true b i = absurd b
        past false b i = i

    go : (y : Thing) → In n (made ks) ⊎ T (is_some (put t.at y (some e) (object n))) → In n (made_by y (made ks)) ⊎ T (is_some (t.at (object n)))
    go y r = new y r (test (same y (object n)))
made_or (leave x ∷ ks) t n h = elim (made_or ks (apply (leave x) t) n h) [ inl i ↦ inl i | inr i ↦ inr (go (same x (object n)) i) ]
  where
    go : (b : Bool) → T (is_some (cond b none (t.at (object n)))) → T (is_some (t.at (object n)))
    go true i = absurd i
    go false i = i
made_or (hold s p v ∷ ks) t n h = made_or ks (apply (hold s p v) t) n h
made_or (holds s r ∷ ks) t n h = made_or ks (apply (holds s r) t) n h
made_or (mix m a b y x ∷ ks) t n h = elim (made_or ks (apply (mix m a b y x) t) n h) [ inl i ↦ inl i | inr i ↦ inr (go (whole t y (object n)) (t.at (object n)) i) ]
  where
    go : (b : Bool) (o : Option Entry) → T (is_some (cond b (fall (object n) o (t.at x)) o)) → T (is_some o)
    go true none i = absurd i
    go true (some e) i = tt
    go false o i = i
made_or (quits g ∷ ks) t n h = elim (made_or ks (apply (quits g) t) n h) [ inl i ↦ inl i | inr i ↦ inr (go (g (object n)) i) ]
  where
    go : (b : Bool) → T (is_some (cond b none (t.at (object n)))) → T (is_some (t.at (object n)))
    go true i = absurd i
    go false i = i
made_or (binds c s ∷ ks) t n h = made_or ks (apply (binds c s) t) n h
made_or (freezes k ∷ ks) t n h = made_or ks (apply (freezes k) t) n h

-- what stands once pipes have ended stood before
pub stepped_left : (t : Tables) (c : Call) (n : ℕ) → T (is_some ((stepped t c).at (object n))) → T (is_some ((applies (steps t c) t).at (object n)))
stepped_left t c n h = go (ended (handles t) (handles (applies (steps t c) t)) (object n) ((applies (steps t c) t).at (object n))) h
  where
    go : (b : Bool) → T (is_some (cond b none ((applies (steps t c) t).at (object n)))) → T (is_some ((applies (steps t c) t).at (object n)))
    go true h = absurd h
    go false h = h

-- a write makes no object
made_makes : (ks : List Step) (i : ℕ) → In i (made ks) → (k : Step) × In k ks × Makes k (object i)
made_makes [] i h = absurd h
made_makes (enter (subject s) e g ∷ ks) i h = let r = made_makes ks i h in (r.0, inr r.1, r.2)
made_makes (enter (object o) e g ∷ ks) i (inl q) = (enter (object o) e g, inl refl, ap object q)
made_makes (enter (object o) e g ∷ ks) i (inr h) = let r = made_makes ks i h in (r.0, inr r.1, r.2)
made_makes (leave x ∷ ks) i h = let r = made_makes ks i h in (r.0, inr r.1, r.2)
made_makes (hold s p v ∷ ks) i h = let r = made_makes ks i h in (r.0, inr r.1, r.2)
made_makes (holds s v ∷ ks) i h = let r = made_makes ks i h in (r.0, inr r.1, r.2)
made_makes (mix m a b y x ∷ ks) i h = let r = made_makes ks i h in (r.0, inr r.1, r.2)
made_makes (quits g ∷ ks) i h = let r = made_makes ks i h in (r.0, inr r.1, r.2)
made_makes (binds c s ∷ ks) i h = let r = made_makes ks i h in (r.0, inr r.1, r.2)
made_makes (freezes f ∷ ks) i h = let r = made_makes ks i h in (r.0, inr r.1, r.2)

pub writes_none : (t : Tables) (s p i : ℕ) → In i (made (steps t (access writing s p))) → ⊥
writes_none t s p i h = let r = made_makes (rereads t (target (t.hand s p))) i h in
    subst (λ (k : Step). Makes k (object i)) (sym (reread_of t (target (t.hand s p)) r.0 r.1).is) r.2

-- and it stays so, whatever the call
pub effect_listed : (t : Tables) (c : Call) → Listed t → Listed (effect t c)
unfolding effect used
effect_listed t c l = record {
  rising = only_rising (λ n. is_some (u.at (object n))) all (inserts_rising (made (steps t c)) t.numbers l.rising);
  sound = λ n i. (only_of (λ n. is_some (u.at (object n))) all n i).0;
  complete = λ n h. only_in (λ n. is_some (u.at (object n))) all n h (there n (made_or (steps t c) t n (stepped_left t c n h)));
}
  where
    u : Tables
    u = reap (handles t) (applies (steps t c) t)

    all : List ℕ
    all = inserts (made (steps t c)) t.numbers

    there : (n : ℕ) → In n (made (steps t c)) ⊎ T (is_some (t.at (object n))) → In n all
    there n (inl i) = inserts_new (made (steps t c)) t.numbers n i
    there n (inr h) = inserts_old (made (steps t c)) t.numbers n (l.complete n h)

pub next_listed : (t : Tables) (c : Call) → Listed t → Listed (next t c)
next_listed t c l = go (refusal t c)
  where
    go : (o : Option ℕ) → Listed (elim o as (λ _. Tables) [ none ↦ effect t c | some n ↦ t ])
    go none = effect_listed t c l
    go (some n) = l

pub empty_listed : Listed empty
empty_listed = record { rising = tt; sound = λ n i. absurd i; complete = λ n h. absurd h }

-- RULES T44: after every list of calls
pub always_listed : (rs : List Raw) → Listed (after empty rs)
always_listed rs = go rs empty empty_listed
  where
    go : (rs : List Raw) (t : Tables) → Listed t → Listed (after t rs)
    go [] t l = l
    go (r ∷ rs) t l = go rs (next t (decode r)) (next_listed t (decode r) l)

-- ── at most 64 ──
inserts_le : (m l : List ℕ) → length (inserts m l) ≤ length m + length l
inserts_le [] l = omega arith
inserts_le (a ∷ m) l = let h = insert_le a (inserts m l) in let k = inserts_le m l in omega (arith, h, k)

none_in : (l : List ℕ) → ((i : ℕ) → In i l → ⊥) → length l ≡ 0
none_in [] f = refl
none_in (a ∷ l) f = absurd (f a (inl refl))

-- there is room for what a call is to make, where the test for it comes before the one that fails or none does
room_made : (t : Tables) (c : Call) → InOrder t c 9 → length t.numbers ≤ 64 → length (made (steps t c)) + length t.numbers ≤ 64
unfolding sheds
room_made t (admit s n) m h = omega (arith, h)
room_made t (register o n) m h = let k = nltb→le 64 (length t.numbers + 1) (m (roomy 1) (inr (inr (inl refl))) tt) in omega (arith, k)
room_made t (create s o) m h = let k = nltb→le 64 (length t.numbers + 1) (m (roomy 1) (inr (inr (inl refl))) tt) in omega (arith, k)
room_made t (make_pipe s o r w) m h = let k = nltb→le 64 (length t.numbers + 1) (m (roomy 1) (inr (inr (inr (inr (inr (inl refl)))))) tt) in omega (arith, k)
room_made t (opens d s o p) m h = omega (arith, h)
room_made t (access reading s p) m h = omega (arith, h)
room_made t (access writing s p) m h = let k = none_in (made (steps t (access writing s p))) (writes_none t s p) in omega (arith, h, k)
room_made t (fork s c) m h = omega (arith, h)
room_made t (thread s c) m h = omega (arith, h)
room_made t (exec s o) m h = omega (arith, h)
room_made t (close s p) m h = omega (arith, h)
room_made t (exit s) m h = omega (arith, h)
room_made t (retire o) m h = omega (arith, h)
room_made t (maps s o p) m h = omega (arith, h)
room_made t (mark s p) m h = omega (arith, h)
room_made t (freeze n) m h = omega (arith, h)
room_made t (connect s u a b p q) m h = let k = nltb→le 64 (length t.numbers + 2)
    (m (roomy 2) (inr (inr (inr (inr (inr (inr (inr (inr (inr (inr (inr (inr (inl refl))))))))))))) tt) in omega (arith, k)
room_made t unknown m h = omega (arith, h)

pub effect_few : (t : Tables) (c : Call) → InOrder t c 9 → length t.numbers ≤ 64 → length (effect t c).numbers ≤ 64
unfolding effect
effect_few t c m h = let a = only_le (λ o. used (stepped t c) (object o)) (inserts (made (steps t c)) t.numbers) in
    let b = inserts_le (made (steps t c)) t.numbers in let k = room_made t c m h in omega (arith, a, b, k)

next_few : (t : Tables) (c : Call) → length t.numbers ≤ 64 → length (next t c).numbers ≤ 64
next_few t c h = go (refusal t c) refl
  where
    go : (o : Option ℕ) → refusal t c ≡ o → length (elim o as (λ _. Tables) [ none ↦ effect t c | some n ↦ t ]).numbers ≤ 64
    go none q = let m = (allowed_iff t c).0 q in effect_few t c (λ e i b. m e i) h
    go (some n) q = h

-- RULES T2: after every list of calls
pub always_few : (rs : List Raw) → length (after empty rs).numbers ≤ 64
always_few rs = go rs empty (omega arith)
  where
    go : (rs : List Raw) (t : Tables) → length t.numbers ≤ 64 → length (after t rs).numbers ≤ 64
    go [] t h = h
    go (r ∷ rs) t h = go rs (next t (decode r)) (next_few t (decode r) h)

-- ── the answer ──
-- the list is of no matter to the answer
pub said_effect : (t : Tables) (c : Call) (x : Shown) → said t (effect t c) x ≡ said t (stepped t c) x
unfolding effect lowers
said_effect t c (level_at x) = refl
said_effect t c (given n) = refl

pub effect_is : (t : Tables) (c : Call) → effect t c ≡ with_numbers (stepped t c) (effect t c).numbers
unfolding effect
effect_is t c = refl

pub effect_at : (t : Tables) (c : Call) (x : Thing) → (effect t c).at x ≡ (stepped t c).at x
unfolding effect
effect_at t c x = refl
