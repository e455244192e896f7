-- Laws of calls made one after the other: none, one, and some behind others; what their answers come to. Assumes nothing.
use Rattle.std.specs.Prelude.{◌≡◌, ℕ, ◌+◌, Bool, true, false, cond, not, ◌||◌, List, [], ◌∷◌, ◌++◌}
use Rattle.std.proofs.Math.Path.{refl}
use Rattle.std.proofs.Common.{sym, ◌∙◌, ap, subst, arith, add-one}
use Rattle.std.proofs.Math.Bool.{or-false, or_assoc}
use Rattle.model.specs.Lists.{each}
use Rattle.model.specs.Calls.{Call, Raw, decode, Answer}
use Rattle.model.specs.Promise.{Meets}
use Rattle.model.specs.Tally.{wrapped}
use Rattle.answers.specs.Telling.{refuses}
use Rattle.gatekeeper.specs.declared.Monitor.{Monitor}
use Rattle.gatekeeper.specs.View.{monitors, direct}
use Rattle.tally.specs.declared.Tally.{Tally}
use Rattle.tally.specs.Counting.{Tallies}
use Rattle.typed.specs.declared.Outcome.{Outcome}
use Rattle.typed.specs.declared.Hand.{Hand}
use Rattle.typed.specs.Typed.{Made, done, then, how_many, is_allowed, is_lowered, outcome_of, moves}
use Rattle.typed.specs.Working.{added, counting, counted, stirring, Works}

-- ── some behind others ──
pub made_then : {m n o : Monitor} {y z w : Tally} {rs ss : List Raw} {l k : List Answer} → Made m y rs l n z → Made n z ss k o w → Made m y (rs ++ ss) (l ++ k) o w
made_then done q = q
made_then (then p t r) q = then p t (made_then r q)

counted_then : (x : Outcome) (l k : List Answer) → counted x (l ++ k) ≡ counted (counted x l) k
counted_then x [] k = refl
counted_then x (a ∷ l) k = counted_then (counting x a) l k

moves_then : (l k : List Answer) → moves (l ++ k) ≡ (moves l || moves k)
moves_then [] k = refl
moves_then (a ∷ l) k = ap (λ (b : Bool). not (refuses a) || b) (moves_then l k) ∙ sym (or_assoc (not (refuses a)) (moves l) (moves k))

pub works_none : (h : Hand) → Works h [] h
works_none h = record { answers = []; made = done; tallied = refl; stirred = sym (or-false h.moved) }

pub works_then : {h k o : Hand} {rs ss : List Raw} → Works h rs k → Works k ss o → Works h (rs ++ ss) o
works_then {h} p q = record {
  answers = p.answers ++ q.answers;
  made = made_then p.made q.made;
  tallied = q.tallied ∙ ap (λ (x : Outcome). counted x q.answers) p.tallied ∙ sym (counted_then h.outcome p.answers q.answers);
  stirred = q.stirred ∙ ap (λ (b : Bool). b || moves q.answers) p.stirred ∙ or_assoc h.moved (moves p.answers) (moves q.answers)
      ∙ ap (λ (b : Bool). h.moved || b) (sym (moves_then p.answers q.answers));
}

-- one more behind a number of them, as a loop goes
pub works_more : {h k o : Hand} {n : ℕ} (f : ℕ → List Raw) → Works h (each n f) k → Works k (f n) o → Works h (each (n + 1) f) o
works_more {h} {o = o} {n = n} f p q = subst (λ (i : ℕ). Works h (each i f) o) (sym (add-one n)) (works_then p q)

-- ── one ──
pub works_one : (h k : Hand) (r : Raw) (a : Answer) → Meets monitors h.monitor (decode r) a k.monitor → Tallies h.monitor h.tally (decode r) a k.tally
    → k.outcome ≡ counting h.outcome a → k.moved ≡ stirring h.moved a → Works h (r ∷ []) k
works_one h k r a m t e s = record { answers = a ∷ []; made = then m t done; tallied = e; stirred = s ∙ ap (λ (b : Bool). h.moved || b) (sym (or-false (not (refuses a)))) }

-- by another spelling of the call
made_as : {m n : Monitor} {y z : Tally} {l : List Answer} (r s : Raw) → decode r ≡ decode s → Made m y (r ∷ []) l n z → Made m y (s ∷ []) l n z
made_as {m} {y = y} r s e (then {n = n} {z = z} {a = a} p t q) = then (subst (λ (c : Call). Meets monitors m c a n) e p) (subst (λ (c : Call). Tallies m y c a z) e t) q

pub works_as : {h k : Hand} (r s : Raw) → decode r ≡ decode s → Works h (r ∷ []) k → Works h (s ∷ []) k
works_as r s e w = record { answers = w.answers; made = made_as r s e w.made; tallied = w.tallied; stirred = w.stirred }

-- the calls of a line, spelled with all six numbers and with their own alone
module _ (a b c d : ℕ) where
  abbrev short_call : ℕ → List ℕ → Raw
  short_call code numbers = record { code = code; numbers = numbers }

  pub as_pipe : decode (direct 4 a b c d 0 0) ≡ decode (short_call 4 (a ∷ b ∷ c ∷ d ∷ []))
  unfolding decode
  as_pipe = refl

  pub as_reading : decode (direct 5 a b c 0 0 0) ≡ decode (short_call 5 (a ∷ b ∷ c ∷ []))
  unfolding decode
  as_reading = refl

  pub as_writing : decode (direct 6 a b c 0 0 0) ≡ decode (short_call 6 (a ∷ b ∷ c ∷ []))
  unfolding decode
  as_writing = refl

  pub as_fork : decode (direct 9 a b 0 0 0 0) ≡ decode (short_call 9 (a ∷ b ∷ []))
  unfolding decode
  as_fork = refl

  pub as_exec : decode (direct 10 a b 0 0 0 0) ≡ decode (short_call 10 (a ∷ b ∷ []))
  unfolding decode
  as_exec = refl

  pub as_close : decode (direct 11 a b 0 0 0 0) ≡ decode (short_call 11 (a ∷ b ∷ []))
  unfolding decode
  as_close = refl

  pub as_exit : decode (direct 12 a 0 0 0 0 0) ≡ decode (short_call 12 (a ∷ []))
  unfolding decode
  as_exit = refl

-- ── what the answers come to ──
-- a count, an answer at a time
abbrev adds : (Answer → Bool) → ℕ → List Answer → ℕ
adds f n [] = n
adds f n (a ∷ l) = adds f (added (f a) n) l

added_is : (b : Bool) (n a k : ℕ) → n ≡ wrapped a → (added b n ≡ wrapped (a + cond b 1 0)) × (wrapped (a + cond b 1 0 + k) ≡ wrapped (a + (cond b 1 0 + k)))
added_is true n a k e = (ap (λ (m : ℕ). wrapped (m + 1)) e ∙ once_more a, ap wrapped (let z : a + 1 + k ≡ a + (1 + k) = omega arith in z))
  where
    once_more : (b : ℕ) → wrapped (wrapped b + 1) ≡ wrapped (b + 1)
    once_more b = omega arith
added_is false n a k e = (e ∙ ap wrapped (let z : a ≡ a + 0 = omega arith in z), ap wrapped (let z : a + 0 + k ≡ a + (0 + k) = omega arith in z))

adds_is : (f : Answer → Bool) (n : ℕ) (l : List Answer) (a : ℕ) → n ≡ wrapped a → adds f n l ≡ wrapped (a + how_many f l)
adds_is f n [] a e = e ∙ ap wrapped (let z : a ≡ a + 0 = omega arith in z)
adds_is f n (b ∷ l) a e = let s = added_is (f b) n a (how_many f l) e in adds_is f (added (f b) n) l (a + cond (f b) 1 0) s.0 ∙ s.1

counted_is : (x : Outcome) (l : List Answer) → counted x l ≡ record { allowed = adds is_allowed x.allowed l; lowered = adds is_lowered x.lowered l; refused = adds refuses x.refused l; refusal = x.refusal }
counted_is x [] = refl
counted_is x (a ∷ l) = counted_is (counting x a) l

abbrev pub nothing_yet : Outcome
nothing_yet = record { allowed = 0; lowered = 0; refused = 0; refusal = 0 }

pub counted_from_none : (l : List Answer) → counted nothing_yet l ≡ outcome_of l
counted_from_none l = counted_is nothing_yet l ∙ (λ i. record { allowed = none is_allowed i; lowered = none is_lowered i; refused = none refuses i; refusal = 0 })
  where
    none : (f : Answer → Bool) → adds f 0 l ≡ wrapped (how_many f l)
    none f = adds_is f 0 l 0 refl ∙ ap wrapped (let z : 0 + how_many f l ≡ how_many f l = omega arith in z)
