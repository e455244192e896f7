-- One more call and its answer in the buffers. Assumes nothing.
use Rattle.std.specs.Prelude.{◌≡◌, refl, List, [], ◌∷◌, ◌++◌, Bool, true, false, cond, ℕ, zero, suc, ◌+◌, ◌*◌, ◌≤◌, ◌<◌, length, take, drop, set, ltb, min}
use Rattle.std.proofs.Common.{sym, ◌∙◌, ap, ap₂, subst, arith, add-one, length-append, length-drop, drop-drop, take_at, ltb-true, ltb-false}
use Rattle.model.specs.Tables.{Tables, empty}
use Rattle.model.specs.Calls.{Raw, decode, Answer, allowed, lowered, refused, answer, next, answers, after}
use Rattle.model.proofs.Calls.Kept.{always_kept}
use Rattle.model.specs.Promise.{Meets}
use Rattle.model.specs.Demand3.{Demand3}
use Rattle.model.proofs.Demand3.Laws.{rules_demand3, after_more, answers_more, meets_next}
use Rattle.gatekeeper.specs.declared.Monitor.{Monitor}
use Rattle.answers.specs.Telling.{letter_of, value_of, lost_of}
use Rattle.gatekeeper.specs.View.{view, Honest, monitors}
use Rattle.run.specs.Buffers.{lesser, call_at, calls_in, bytes, answers_in}

pub lesser_left : (a b : ℕ) → lesser a b ≤ a
lesser_left a b = go (ltb a b) refl
  where
    go : (x : Bool) → ltb a b ≡ x → cond x a b ≤ a
    go true q = omega arith
    go false q = ltb-false a b q

pub lesser_right : (a b : ℕ) → lesser a b ≤ b
lesser_right a b = go (ltb a b) refl
  where
    go : (x : Bool) → ltb a b ≡ x → cond x a b ≤ b
    go true q = let h : a < b = ltb-true a b q in omega arith
    go false q = omega arith

pub min_lesser : (a b : ℕ) → min a b ≡ lesser a b
min_lesser a b = go (ltb a b) refl
  where
    go : (x : Bool) → ltb a b ≡ x → min a b ≡ cond x a b
    go true q = let h : a < b = ltb-true a b q in omega arith
    go false q = let h : b ≤ a = ltb-false a b q in omega arith

bytes_more : (l : List Answer) (a : Answer) (d : List ℕ) → bytes (l ++ a ∷ []) ++ d ≡ bytes l ++ letter_of a ∷ value_of a ∷ lost_of a ∷ d
bytes_more [] a d = refl
bytes_more (b ∷ l) a d = ap (λ (k : List ℕ). letter_of b ∷ value_of b ∷ lost_of b ∷ k) (bytes_more l a d)

length_bytes : (l : List Answer) → length (bytes l) ≡ length l * 3
length_bytes [] = refl
length_bytes (a ∷ l) = let h : length (bytes l) ≡ length l * 3 = length_bytes l in omega arith

length_answers : (t : Tables) (rs : List Raw) → length (answers t rs) ≡ length rs
length_answers t [] = refl
length_answers t (r ∷ rs) = ap suc (length_answers (next t (decode r)) rs)

length_calls : (l : List ℕ) (n : ℕ) → length (calls_in l n) ≡ n
length_calls l zero = refl
length_calls l (suc n) = let h : length (calls_in l n) ≡ n = length_calls l n in omega (arith, length-append (calls_in l n) (call_at l n ∷ []))

set_three : (w d : List ℕ) (x y z : ℕ) → 3 ≤ length d
    → set (set (set (w ++ d) (length w) x) (suc (length w)) y) (suc (suc (length w))) z ≡ w ++ x ∷ y ∷ z ∷ drop 3 d
set_three [] [] x y z h = absurd (omega arith)
set_three [] (a ∷ []) x y z h = absurd (omega arith)
set_three [] (a ∷ b ∷ []) x y z h = absurd (omega arith)
set_three [] (a ∷ b ∷ c ∷ d) x y z h = refl
set_three (v ∷ w) d x y z h = ap (λ (k : List ℕ). v ∷ k) (set_three w d x y z h)

answers_back : (l : List Answer) → answers_in (bytes l) ≡ l
answers_back [] = refl
answers_back (allowed n ∷ l) = ap (λ (k : List Answer). allowed n ∷ k) (answers_back l)
answers_back (lowered n m ∷ l) = ap (λ (k : List Answer). lowered n m ∷ k) (answers_back l)
answers_back (refused n ∷ l) = ap (λ (k : List Answer). refused n ∷ k) (answers_back l)

-- the first i calls have been made: their answers stand in the buffer, which was `first`, and the tables are t
pub record SoFar (calls first out : List ℕ) (i : ℕ) (t : Tables) : Type 0 where
  pub written : out ≡ bytes (answers empty (calls_in calls i)) ++ drop (i * 3) first
  pub tables : t ≡ after empty (calls_in calls i)

pub so_far_none : (calls first : List ℕ) (t : Tables) → t ≡ empty → SoFar calls first first 0 t
so_far_none calls first t e = record { written = refl; tables = e }

-- answer i in the buffer
abbrev pub laid : List ℕ → (i letter value lost : ℕ) → List ℕ
laid out i letter value lost = set (set (set out (i * 3) letter) (i * 3 + 1) value) (i * 3 + 2) lost

module _ (calls first out : List ℕ) (i : ℕ) (m n : Monitor) (a : Answer) where
  pub so_far_more : i * 3 + 3 ≤ length first → SoFar calls first out i (view m) → Honest m → Meets monitors m (decode (call_at calls i)) a n
      → (letter value lost : ℕ) → letter ≡ letter_of a → value ≡ value_of a → lost ≡ lost_of a
      → SoFar calls first (laid out i letter value lost) (i + 1) (view n)
  so_far_more room s h k letter value lost e g u = subst (λ (j : ℕ). SoFar calls first (laid out i letter value lost) j (view n)) (sym (add-one i))
      (record { written = same ∙ written; tables = f.1 ∙ sym (after_more empty rs r) })
    where
      rs : List Raw
      rs = calls_in calls i

      r : Raw
      r = call_at calls i

      w : List ℕ
      w = bytes (answers empty rs)

      d : List ℕ
      d = drop (i * 3) first

      f : (a ≡ answer (after empty rs) (decode r)) × (view n ≡ next (after empty rs) (decode r))
      f = meets_next monitors m (decode r) a n (after empty rs) s.tables (always_kept rs) h k

      same : laid out i letter value lost ≡ laid out i (letter_of a) (value_of a) (lost_of a)
      same = ap₂ (λ x y. laid out i x y lost) e g ∙ ap (laid out i (letter_of a) (value_of a)) u

      long : length w ≡ i * 3
      long = length_bytes (answers empty rs) ∙ ap (λ (j : ℕ). j * 3) (length_answers empty rs ∙ length_calls calls i)

      two : i * 3 + 2 ≡ suc (suc (i * 3))
      two = omega arith

      set_here : laid (w ++ d) i (letter_of a) (value_of a) (lost_of a) ≡ w ++ letter_of a ∷ value_of a ∷ lost_of a ∷ drop 3 d
      set_here = ap₂ (λ (x y : ℕ). set (set (set (w ++ d) (i * 3) (letter_of a)) x (value_of a)) y (lost_of a)) (add-one (i * 3)) two
          ∙ subst (λ (j : ℕ). set (set (set (w ++ d) j (letter_of a)) (suc j) (value_of a)) (suc (suc j)) (lost_of a) ≡ w ++ letter_of a ∷ value_of a ∷ lost_of a ∷ drop 3 d)
          long (set_three w d (letter_of a) (value_of a) (lost_of a) (omega (arith, length-drop (i * 3) first)))

      left : drop 3 d ≡ drop (suc i * 3) first
      left = let e : i * 3 + 3 ≡ suc i * 3 = omega arith in drop-drop 3 (i * 3) first ∙ ap (λ (j : ℕ). drop j first) e

      written : laid out i (letter_of a) (value_of a) (lost_of a) ≡ bytes (answers empty (calls_in calls (suc i))) ++ drop (suc i * 3) first
      written = ap (λ (o : List ℕ). laid o i (letter_of a) (value_of a) (lost_of a)) s.written
          ∙ set_here
          ∙ ap (λ (l : List ℕ). w ++ letter_of a ∷ value_of a ∷ lost_of a ∷ l) left
          ∙ sym (bytes_more (answers empty rs) a (drop (suc i * 3) first))
          ∙ ap (λ (l : List Answer). bytes l ++ drop (suc i * 3) first) (ap (λ (b : Answer). answers empty rs ++ b ∷ []) f.0 ∙ sym (answers_more empty rs r))

-- a run that made all of them keeps demand 3, with the answers as the buffer has them
pub run_demand3 : (calls first out : List ℕ) (n : ℕ) (t : Tables) → SoFar calls first out n t → Demand3 (calls_in calls n) (answers_in (take (n * 3) out)) t
run_demand3 calls first out n t s =
    subst (λ (l : List Answer). Demand3 (calls_in calls n) l t) (sym given)
    (subst (λ (u : Tables). Demand3 (calls_in calls n) (answers empty (calls_in calls n)) u) (sym s.tables) (rules_demand3 (calls_in calls n)))
  where
    w : List ℕ
    w = bytes (answers empty (calls_in calls n))

    long : length w ≡ n * 3
    long = length_bytes (answers empty (calls_in calls n)) ∙ ap (λ (j : ℕ). j * 3) (length_answers empty (calls_in calls n) ∙ length_calls calls n)

    given : answers_in (take (n * 3) out) ≡ answers empty (calls_in calls n)
    given = ap answers_in (ap (take (n * 3)) s.written ∙ take_at w (drop (n * 3) first) (n * 3) long) ∙ answers_back (answers empty (calls_in calls n))
