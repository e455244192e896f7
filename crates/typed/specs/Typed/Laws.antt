-- What follows of the calls of a line, for any list of calls that were made and counted one after the other: on an honest monitor they go by the rules, in their answers,
-- tables and tally; where all are refused nothing changes, and else nothing dangles; and lines from empty tables, with calls between them, are a list of calls from empty tables, so
-- that demand 3 holds of them. States RULES L16. Nothing is cited of the monitor but what a call promises. Assumes nothing.
use Rattle.std.specs.Prelude.{◌≡◌, ℕ, suc, ◌+◌, Bool, true, false, not, ◌||◌, List, [], ◌∷◌, ◌++◌, length, refl}
use Rattle.std.proofs.Common.{sym, ◌∙◌, ap, ap₂, subst, true≢false, arith}
use Rattle.std.proofs.lemmas.Bool.{false≢true}
use Rattle.std.proofs.Math.Option.{Option, none, some}
use Rattle.model.specs.Tables.{Tables, empty, clean}
use Rattle.model.specs.Invariant.{Wf}
use Rattle.model.proofs.Invariant.Laws.{clean_same}
use Rattle.model.specs.Calls.{Raw, decode, refusal, effect, next, Answer, allowed, lowered, refused, answers, after}
use Rattle.model.proofs.Calls.Refusals.{answered_refused}
use Rattle.model.proofs.Calls.Dangling.{next_wf}
use Rattle.model.specs.Promise.{Meets, Runs}
use Rattle.model.specs.Promise.{done as stop, then as go}
use Rattle.model.proofs.Promise.Laws.{handed_back, cleaned_runs}
use Rattle.model.specs.Tally.{tally, wrapped}
use Rattle.model.specs.Demand3.{Demand3}
use Rattle.model.proofs.Demand3.Laws.{demand3}
use Rattle.answers.specs.Telling.{refuses}
use Rattle.gatekeeper.specs.declared.Monitor.{Monitor}
use Rattle.gatekeeper.specs.View.{view, Honest, Tidy, Whole, monitors}
use Rattle.tally.specs.declared.Tally.{Tally}
use Rattle.tally.specs.Counting.{counts_of, Tallies}
use Rattle.typed.specs.declared.Outcome.{Outcome}
use Rattle.lines.specs.Line.{Reading, Line, short}
use Rattle.lines.specs.Calls.{calls_of}
use Rattle.typed.specs.Typed.{Made, done, then, how_many, is_allowed, is_lowered, moves, Ran, Stays, Typed}
use Rattle.typed.specs.Working.Laws.{made_then}

pub made_runs : {m n : Monitor} {y z : Tally} {rs : List Raw} {l : List Answer} → Made m y rs l n z → Runs monitors m rs l n
made_runs done = stop
made_runs (then p t q) = go p (made_runs q)

-- ── one call, on an honest monitor ──
module _ (m n : Monitor) (r : Raw) (a : Answer) (w : Wf (clean (view m))) (h : Honest m) (p : Meets monitors m (decode r) a n) where
  abbrev before : Tables
  before = clean (view m)

  cleaned_one : clean (view n) ≡ next before (decode r)
  cleaned_one = (cleaned_runs monitors (r ∷ []) m n (a ∷ []) w h (go p stop)).1

  wf_one : Wf (clean (view n))
  wf_one = subst Wf (sym cleaned_one) (next_wf before (decode r) w)

  -- one that is not refused leaves the rules' next tables as they are
  moved_one : refuses a ≡ false → view n ≡ next before (decode r)
  moved_one e = by (refusal before (decode r)) refl
    where
      by : (o : Option ℕ) → refusal before (decode r) ≡ o → view n ≡ elim o as (λ _. Tables) [ none ↦ effect before (decode r) | some j ↦ before ]
      by none q = p.moved h q
      by (some j) q = absurd (true≢false (sym (ap refuses (p.answered h ∙ (answered_refused before (decode r) j).1 q)) ∙ e))

-- ── the rules' tally ──
pub made_tally : {m n : Monitor} {y z : Tally} {rs : List Raw} {l : List Answer} → Wf (clean (view m)) → Honest m → Made m y rs l n z
    → counts_of z ≡ tally (clean (view m)) (counts_of y) rs
made_tally w h done = refl
made_tally {m} {y = y} w h (then {n = x} {z = v} {r = r} {rs = rest} {a = a} p t q) =
    made_tally (wf_one m x r a w h p) (p.stays h) q ∙ ap₂ (λ u k. tally u k rest) (cleaned_one m x r a w h p) (t.counts h)

-- ── the tables, where a call was not refused ──
on_clean : {m n : Monitor} {rs : List Raw} {l : List Answer} (t : Tables) → Wf t → view m ≡ t → Honest m → Runs monitors m rs l n → view n ≡ after t rs
on_clean t w e h stop = e
on_clean {m} {n} t w e h (go {n = x} {r = r} {rs = rest} {a = a} p q) = on_clean (next t (decode r)) (next_wf t (decode r) w) (by (refusal t (decode r)) refl) (p.stays h) q
  where
    same : clean (view m) ≡ t
    same = ap clean e ∙ clean_same t w

    by : (o : Option ℕ) → refusal t (decode r) ≡ o → view x ≡ elim o as (λ _. Tables) [ none ↦ effect t (decode r) | some j ↦ t ]
    by none o = p.moved h (ap (λ (u : Tables). refusal u (decode r)) same ∙ o) ∙ ap (λ (u : Tables). effect u (decode r)) same
    by (some j) o = ap view (handed_back monitors m x (decode r) a h p j (ap (λ (u : Tables). refusal u (decode r)) same ∙ o)) ∙ e

pub made_tables : {m n : Monitor} {y z : Tally} {rs : List Raw} {l : List Answer} → Wf (clean (view m)) → Honest m → moves l ≡ true → Made m y rs l n z
    → view n ≡ after (clean (view m)) rs
made_tables w h k done = absurd (false≢true k)
made_tables {m} {n} w h k (then {n = x} {r = r} {rs = rest} {a = a} {l = l} p t q) = by (λ f. made_tables (wf_one m x r a w h p) (p.stays h) f q) (refuses a) refl
  where
    by : (moves l ≡ true → view n ≡ after (clean (view x)) rest) → (b : Bool) → refuses a ≡ b → view n ≡ after (next (clean (view m)) (decode r)) rest
    by f true e = f (ap (λ (c : Bool). not c || moves l) (sym e) ∙ k) ∙ ap (λ (u : Tables). after u rest) (cleaned_one m x r a w h p)
    by f false e = on_clean (next (clean (view m)) (decode r)) (next_wf (clean (view m)) (decode r) w) (moved_one m x r a w h p e) (p.stays h) (made_runs q)

-- ── where all are refused, and where one is not ──
told_refused : (a : Answer) → refuses a ≡ true → (j : ℕ) × (a ≡ refused j)
told_refused (allowed n) e = absurd (false≢true e)
told_refused (lowered n k) e = absurd (false≢true e)
told_refused (refused n) e = (n, refl)

none_moves : (a : Answer) (l : List Answer) → moves (a ∷ l) ≡ false → (refuses a ≡ true) × (moves l ≡ false)
none_moves (allowed n) l e = absurd (true≢false e)
none_moves (lowered n k) l e = absurd (true≢false e)
none_moves (refused n) l e = (refl, e)

-- RULES R102, R103
pub made_same : {m n : Monitor} {y z : Tally} {rs : List Raw} {l : List Answer} → moves l ≡ false → Made m y rs l n z → (n ≡ m) × (z ≡ y)
made_same k done = (refl, refl)
made_same k (then {a = a} {l = l} p t q) =
    let f = none_moves a l k in
    let j = told_refused a f.0 in
    let s = made_same f.1 q in
    (s.0 ∙ p.unchanged j.0 j.1, s.1 ∙ t.same j.0 j.1)

-- RULES T19
stays_whole : {m n : Monitor} {rs : List Raw} {l : List Answer} → Tidy m → Whole m → Runs monitors m rs l n → Whole n
stays_whole h w stop = w
stays_whole {m} h w (go {n = x} {a = a} p q) = stays_whole (p.neat h) (by a refl) q
  where
    by : (b : Answer) → a ≡ b → Whole x
    by (allowed k) e = p.emptied h (λ j z. false≢true (ap refuses (sym e ∙ z)))
    by (lowered k i) e = p.emptied h (λ j z. false≢true (ap refuses (sym e ∙ z)))
    by (refused k) e = subst Whole (sym (p.unchanged k e)) w

pub made_whole : {m n : Monitor} {y z : Tally} {rs : List Raw} {l : List Answer} → Tidy m → moves l ≡ true → Made m y rs l n z → Whole n
made_whole h k done = absurd (false≢true k)
made_whole {n = n} h k (then {n = x} {a = a} {l = l} p t q) = by (λ f. made_whole (p.neat h) f q) (refuses a) refl
  where
    by : (moves l ≡ true → Whole n) → (b : Bool) → refuses a ≡ b → Whole n
    by f true e = f (ap (λ (c : Bool). not c || moves l) (sym e) ∙ k)
    by f false e = stays_whole (p.neat h) (p.emptied h (λ j z. false≢true (sym e ∙ ap refuses z))) (made_runs q)

-- ── the rules' answers, tables and tally ──
pub made_rules : {m n : Monitor} {y z : Tally} {rs : List Raw} {l : List Answer} → Wf (clean (view m)) → Honest m → Made m y rs l n z
    → (l ≡ answers (clean (view m)) rs) × (clean (view n) ≡ after (clean (view m)) rs) × (counts_of z ≡ tally (clean (view m)) (counts_of y) rs)
made_rules {m} {n} {rs = rs} {l = l} w h p = let f = cleaned_runs monitors rs m n l w h (made_runs p) in (f.0, f.1, made_tally w h p)

-- ── how many answers there are: one for each call, on any monitor ──
pub made_length : {m n : Monitor} {y z : Tally} {rs : List Raw} {l : List Answer} → Made m y rs l n z → length l ≡ length rs
made_length done = refl
made_length (then p t q) = ap suc (made_length q)

three_kinds : (l : List Answer) → how_many is_allowed l + how_many is_lowered l + how_many refuses l ≡ length l
three_kinds [] = refl
three_kinds (allowed n ∷ l) = let z = three_kinds l in omega (arith, z)
three_kinds (lowered n k ∷ l) = let z = three_kinds l in omega (arith, z)
three_kinds (refused n ∷ l) = let z = three_kinds l in omega (arith, z)

wrapped_sum : (a b c : ℕ) → wrapped (wrapped a + wrapped b + wrapped c) ≡ wrapped (a + b + c)
wrapped_sum a b c = omega arith

-- RULES L14, L15: the three counts together are as many as the calls, modulo 2 to the 64th
pub ran_count : {m n : Monitor} {y z : Tally} {rs : List Raw} {out : Outcome} → Ran m y rs out n z → wrapped (out.allowed + out.lowered + out.refused) ≡ wrapped (length rs)
ran_count r = ap (λ (o : Outcome). wrapped (o.allowed + o.lowered + o.refused)) r.told
    ∙ wrapped_sum (how_many is_allowed r.answers) (how_many is_lowered r.answers) (how_many refuses r.answers)
    ∙ ap wrapped (three_kinds r.answers ∙ made_length r.made)

-- ── lines, with calls between them ──
-- calls and lines on one monitor and its tally, one after the other: the list of all calls, and their answers
pub data Session : Monitor → Tally → List Raw → List Answer → Monitor → Tally → Type 0 where
  ended : {m : Monitor} {y : Tally} → Session m y [] [] m y
  called : {m n o : Monitor} {y z w : Tally} {r : Raw} {rs : List Raw} {a : Answer} {l : List Answer} → Meets monitors m (decode r) a n → Tallies m y (decode r) a z
      → Session n z rs l o w → Session m y (r ∷ rs) (a ∷ l) o w
  lined : {m n o : Monitor} {y z w : Tally} {bs : List ℕ} {shell child pipe : ℕ} {out : Outcome} {rs : List Raw} {l : List Answer} (t : Typed m y bs shell child pipe out n z)
      (k : Reading) (e : Line k bs) (s : short k ≡ true) → Session n z rs l o w → Session m y (calls_of shell child pipe k ++ rs) ((t.ran k e s).answers ++ l) o w
  unlined : {m n o : Monitor} {y z w : Tally} {rs : List Raw} {l : List Answer} {out : Outcome} {k : ℕ} → Stays m y k out n z → Session n z rs l o w → Session m y rs l o w

-- RULES L16: they are a list of calls
pub session_made : {m n : Monitor} {y z : Tally} {rs : List Raw} {l : List Answer} → Session m y rs l n z → Made m y rs l n z
session_made ended = done
session_made (called p t q) = then p t (session_made q)
session_made (lined t k e s q) = made_then (t.ran k e s).made (session_made q)
session_made {m} {n} {y} {z} (unlined {n = x} {rs = rs} {l = l} s q) = subst (λ (u : Monitor). Made u y rs l n z) s.1 (subst (λ (v : Tally). Made x v rs l n z) s.2 (session_made q))

-- so that demand 3 holds of them
pub session_demand3 : (m n : Monitor) (y z : Tally) (rs : List Raw) (l : List Answer) → view m ≡ empty → Honest m → Session m y rs l n z → Demand3 rs l (view n)
session_demand3 m n y z rs l e h s = demand3 monitors m e h rs l n (made_runs (session_made s))
