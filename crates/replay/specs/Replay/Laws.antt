-- A reply, record by record. In order: the records of a journal; a record whose code is no call's, which changes nothing; what is left of the text, of the
-- calls and of the tally before a record, and after it. Assumes nothing.
use Rattle.std.specs.Prelude.{◌≡◌, refl, List, [], ◌∷◌, ◌++◌, Bool, true, false, cond, ℕ, zero, suc, ◌+◌, ◌<◌, T, ltb, eqb, length, take, drop, Option, Some, None}
use Rattle.std.proofs.Common.{sym, ◌∙◌, ap, subst, append_assoc, arith, ltb-true, eqb-true}
use Rattle.model.specs.Tables.{Tables, clean}
use Rattle.model.specs.Invariant.{Kept}
use Rattle.model.proofs.Invariant.Laws.{clean_same}
use Rattle.model.specs.Calls.{Call, unknown, Raw, decode, refusal, next, Answer, refused, answer, after}
use Rattle.model.proofs.Calls.Codes.{decode_unknown}
use Rattle.model.proofs.Calls.Kept.{next_kept}
use Rattle.model.specs.Tally.{Tally, tallied, tally}
use Rattle.model.proofs.Demand3.Laws.{meets_next}
use Rattle.number.specs.Leb.{number, largest, Reading}
use Rattle.journal.specs.Answers.{Said, said, Next, body, end}
use Rattle.journal.specs.Answers.{Answer as Read, answers as reads, refused as bad}
use Rattle.journal.specs.Calls.{arity_of, known}
use Rattle.journal.specs.Journal.{sized, entry_at, arguments_in, call_with, coded, body_in}
use Rattle.gatekeeper.specs.declared.Monitor.{Monitor}
use Rattle.gatekeeper.specs.View.{view, Honest, Right, monitors}
use Rattle.gatekeeper.specs.View.Laws.{honest_tidy}
use Rattle.tally.specs.declared.Tally.{Tally as Lent}
use Rattle.tally.specs.Counting.{counts_of}
use Rattle.replay.specs.Replay.{followed, records, raw, unknown_call, calls_of, replies, answer_line, lines, last_line}
use Rattle.replay.specs.One.{One, Turned}

-- ── the records ──
pub records_more : (most : ℕ) (journal : List ℕ) (at start len after : ℕ) → entry_at journal at ≡ reads (body start len after)
    → records (suc most) journal at ≡ body_in (take len (drop start journal)) ∷ records most journal after
records_more most journal at start len after e = ap (followed (records most journal) journal) e

pub records_end : (most : ℕ) (journal : List ℕ) (at : ℕ) → entry_at journal at ≡ reads end → records (suc most) journal at ≡ []
records_end most journal at e = ap (followed (records most journal) journal) e

pub records_stop : (most : ℕ) (journal : List ℕ) (at n : ℕ) → entry_at journal at ≡ bad n → records (suc most) journal at ≡ said 0 (bad n) ∷ []
records_stop most journal at n e = ap (followed (records most journal) journal) e

-- at the end of the journal no length can be bad
pub bad_inside : (journal : List ℕ) (at n : ℕ) → entry_at journal at ≡ bad n → at < length journal
unfolding entry_at
bad_inside journal at n = go (ltb at (length journal)) refl
  where
    go : (b : Bool) → ltb at (length journal) ≡ b → cond b (sized journal at (number largest (drop at journal))) (reads end) ≡ bad n → at < length journal
    go true q e = ltb-true at (length journal) q
    go false q e = absurd (subst (λ (r : Read Next). elim r as (λ _. Type 0) [ reads x ↦ Unit {0} | bad m ↦ ⊥ ]) e tt)

-- ── records that change nothing ──
-- a record that is refused with 1 has a code that is no call's
abbrev pub Plain : Said → Type 0
Plain (said code (reads ns)) = Unit {0}
Plain (said code (bad n)) = n ≡ 1 → decode (raw code []) ≡ unknown

abbrev pub Plains : List Said → Type 0
Plains [] = Unit {0}
Plains (s ∷ l) = Plain s × Plains l

decode_none : (code : ℕ) → known code ≡ false → decode (raw code []) ≡ unknown
unfolding known arity_of
decode_none code h = decode_unknown (raw code [])
    (o 1 tt, (o 2 tt, (o 3 tt, (o 4 tt, (o 5 tt, (o 6 tt, (o 7 tt, (o 8 tt, (o 9 tt, (o 10 tt, (o 11 tt, (o 12 tt, (o 13 tt, (o 14 tt, (o 15 tt, (o 16 tt, (o 17 tt, (o 18 tt, tt))))))))))))))))))
  where
    o : (k : ℕ) → T (known k) → code ≡ k → ⊥
    o k t e = subst T h (subst (λ (x : ℕ). T (known x)) (sym e) t)

pub body_plain : (bs : List ℕ) → Plain (body_in bs)
unfolding body_in
body_plain bs = by_number (number largest bs)
  where
    by_numbers : (code : ℕ) (o : Option (List ℕ)) → Plain (said code (call_with o))
    by_numbers code None = λ e. absurd (omega arith)
    by_numbers code (Some ns) = tt

    by_code : (code used : ℕ) (b : Bool) → known code ≡ b → Plain (said code (cond b (call_with (arguments_in (arity_of code) (drop used bs))) (bad 1)))
    by_code code used true q = by_numbers code (arguments_in (arity_of code) (drop used bs))
    by_code code used false q = λ e. decode_none code q

    by_number : (r : Reading) → Plain (coded r bs)
    by_number (Some (code, used)) = by_code code used (known code) refl
    by_number None = λ e. absurd (omega arith)

-- the refusal of a length is 11
pub eleven_plain : Plain (said 0 (bad 11))
eleven_plain e = absurd (omega arith)

pub records_plain : (most : ℕ) (journal : List ℕ) (at : ℕ) → Plains (records most journal at)
unfolding entry_at
records_plain zero journal at = tt
records_plain (suc most) journal at = by_place (λ n. records_plain most journal n) (ltb at (length journal))
  where
    by_room : ((n : ℕ) → Plains (records most journal n)) → (b : Bool) (start len next : ℕ)
        → Plains (followed (records most journal) journal (cond b (bad 11) (reads (body start len next))))
    by_room rest true start len next = (eleven_plain, tt)
    by_room rest false start len next = (body_plain (take len (drop start journal)), rest next)

    by_length : ((n : ℕ) → Plains (records most journal n)) → (r : Reading) → Plains (followed (records most journal) journal (sized journal at r))
    by_length rest (Some (len, used)) = by_room rest (ltb (length journal) (at + used + len)) (at + used) len (at + used + len)
    by_length rest None = (eleven_plain, tt)

    by_place : ((n : ℕ) → Plains (records most journal n)) → (b : Bool)
        → Plains (followed (records most journal) journal (cond b (sized journal at (number largest (drop at journal))) (reads end)))
    by_place rest true = by_length rest (number largest (drop at journal))
    by_place rest false = tt

pub unknown_answer : (t : Tables) → answer t unknown ≡ refused 1
unfolding answer refusal
unknown_answer t = refl

pub unknown_next : (t : Tables) → next t unknown ≡ t
unfolding refusal
unknown_next t = refl

unknown_tallied : (t : Tables) (y : Tally) → tallied t unknown y ≡ y
unfolding tallied refusal
unknown_tallied t y = refl

module _ (t : Tables) (y : Tally) (code n : ℕ) (l : List Raw) (p : Plain (said code (bad n))) where
  quiet : (after t (unknown_call n code ++ l) ≡ after t l) × (tally t y (unknown_call n code ++ l) ≡ tally t y l)
  quiet = go (eqb n 1) refl
    where
      go : (b : Bool) → eqb n 1 ≡ b → (after t (cond b (raw code [] ∷ []) [] ++ l) ≡ after t l) × (tally t y (cond b (raw code [] ∷ []) [] ++ l) ≡ tally t y l)
      go true q =
          let e = p (eqb-true n 1 q) in
          let same = ap (λ (c : Call). next t c) e ∙ unknown_next t in (
            ap (λ (u : Tables). after u l) same,
            ap (λ (u : Tables). tally u (tallied t (decode (raw code [])) y) l) same
                ∙ ap (λ (c : Call). tally t (tallied t c y) l) e
                ∙ ap (λ (z : Tally). tally t z l) (unknown_tallied t y),
          )
      go false q = (refl, refl)

-- ── the text ──
-- what is left to write, from position p, tables t and tally y on, where these records are left
abbrev pub left : ℕ → Tables → Tally → List Said → List ℕ
left p t y l = lines p (replies t l) ++ last_line (tally t y (calls_of l))

-- a line, and what is left after it
abbrev pub line_and_left : ℕ → List Said → ℕ → Answer → Tables → Tally → List ℕ
line_and_left p l code a t y = answer_line p code a ++ left (suc p) t y l

same_all : (p : ℕ) (l : List Said) {c code : ℕ} {a b : Answer} {t u : Tables} {y z : Tally} → code ≡ c → b ≡ a → u ≡ t → z ≡ y
    → line_and_left p l c a t y ≡ line_and_left p l code b u z
same_all p l {c} {code} {a} {b} {t} {u} {y} {z} e f g h = ap (λ (x : ℕ). line_and_left p l x a t y) (sym e) ∙ ap
    (λ (x : Answer). line_and_left p l code x t y) (sym f)
    ∙ ap (λ (x : Tables). line_and_left p l code b x y) (sym g)
    ∙ ap (λ (x : Tally). line_and_left p l code b u x) (sym h)

module _ (m n : Monitor) (y z : Tally) (code : ℕ) (a : Answer) (k : Kept (view m)) where
  cleaned : clean (view m) ≡ view m
  cleaned = clean_same (view m) k.wf

  -- one record more
  pub left_more : (p : ℕ) (s : Said) (l : List Said) → Plain s → Turned m y s code a n z → left p (view m) y (s ∷ l) ≡ line_and_left p l code a (view n) z
  left_more p (said c (reads ns)) l v o = append_assoc (answer_line p c b) (lines (suc p) (replies u l)) (last_line (tally u x (calls_of l)))
      ∙ same_all p l o.0 f.0 f.1 (o.2 ∙ ap (λ (w : Tables). tallied w d y) cleaned)
    where
      d : Call
      d = decode (raw c ns)

      b : Answer
      b = answer (view m) d

      u : Tables
      u = next (view m) d

      x : Tally
      x = tallied (view m) d y

      f : (a ≡ b) × (view n ≡ u)
      f = meets_next monitors m d a n (view m) refl k o.1.0 o.1.1
  left_more p (said c (bad j)) l v o =
      ap (λ (x : Tally). lines p (replies (view m) (said c (bad j) ∷ l)) ++ last_line x) (quiet (view m) y c j (calls_of l) v).1
      ∙ append_assoc (answer_line p c (refused j)) (lines (suc p) (replies (view m) l)) (last_line (tally (view m) y (calls_of l)))
      ∙ same_all p l o.0 o.1 (ap view o.2) o.3

  pub kept_more : (s : Said) → Turned m y s code a n z → Kept (view n)
  kept_more (said c (reads ns)) o = subst Kept (sym (meets_next monitors m (decode (raw c ns)) a n (view m) refl k o.1.0 o.1.1).1)
      (next_kept (view m) (decode (raw c ns)) k)
  kept_more (said c (bad j)) o = subst Kept (ap view (sym o.2)) k

  -- the tables and the tally that the calls lead to stay what they are
  pub ends_more : (s : Said) (l : List Said) → Plain s → Turned m y s code a n z
      → (after (view m) (calls_of (s ∷ l)) ≡ after (view n) (calls_of l)) × (tally (view m) y (calls_of (s ∷ l)) ≡ tally (view n) z (calls_of l))
  ends_more (said c (reads ns)) l v o =
      let d = decode (raw c ns) in
      let same = sym (meets_next monitors m d a n (view m) refl k o.1.0 o.1.1).1 in
      let counted : tallied (view m) d y ≡ z = sym (o.2 ∙ ap (λ (w : Tables). tallied w d y) cleaned) in (
        ap (λ (u : Tables). after u (calls_of l)) same,
        ap (λ (u : Tables). tally u (tallied (view m) d y) (calls_of l)) same ∙ ap (λ (x : Tally). tally (view n) x (calls_of l)) counted,
      )
  ends_more (said c (bad j)) l v o =
      let same = quiet (view m) y c j (calls_of l) v in
      let stays : view m ≡ view n = ap view (sym o.2) in (
        same.0 ∙ ap (λ (u : Tables). after u (calls_of l)) stays,
        same.1 ∙ ap (λ (u : Tables). tally u y (calls_of l)) stays ∙ ap (λ (x : Tally). tally (view n) x (calls_of l)) (sym o.3),
      )

-- the needs that are kept stay right
pub right_more : (m n : Monitor) (y z : Tally) (code : ℕ) (a : Answer) (s : Said) → Turned m y s code a n z → Right m → Right n
right_more m n y z code a (said c (reads ns)) o h = o.1.1.kept (honest_tidy m o.1.0) h
right_more m n y z code a (said c (bad j)) o h = subst Right (sym o.2) h

-- a monitor that is what it claims stays so
pub honest_more : (m n : Monitor) (y z : Tally) (code : ℕ) (a : Answer) (s : Said) → Turned m y s code a n z → Honest m → Honest n
honest_more m n y z code a (said c (reads ns)) o h = o.1.1.stays h
honest_more m n y z code a (said c (bad j)) o h = subst Honest (sym o.2) h

-- and one that is sure stays so
pub sure_more : (m n : Monitor) (y z : Tally) (code : ℕ) (a : Answer) (s : Said) → Turned m y s code a n z → m.sure ≡ 1 → n.sure ≡ 1
sure_more m n y z code a (said c (reads ns)) o h = o.1.1.says (honest_tidy m o.1.0) ∙ h
sure_more m n y z code a (said c (bad j)) o h = ap (λ (x : Monitor). x.sure) o.2 ∙ h

-- what a record does to an honest monitor
pub one_turned : (m n : Monitor) (y z : Lent) (code : ℕ) (a : Answer) (s : Said) → Honest m → One m y s code a n z → Turned m (counts_of y) s code a n (counts_of z)
one_turned m n y z code a (said c (reads ns)) h o = (o.0, (h, o.1), o.2.counts h)
one_turned m n y z code a (said c (bad j)) h o = (o.0, o.1, o.2, ap counts_of o.3)
