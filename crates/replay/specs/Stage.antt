-- How far a reply has come: what has been written, and what is left. The inner loop of the replay keeps it; no caller needs it. Assumes nothing.
use Rattle.std.specs.Prelude.{◌≡◌, refl, List, [], ◌∷◌, ◌++◌, ℕ, zero, suc, ◌+◌, ◌*◌, ◌-◌, ◌≤◌, ◌<◌, length, take, drop, Option, Some, None}
use Rattle.std.proofs.Common.{sym, ◌∙◌, ap, subst, append_assoc, append-nil, arith, add-one, lt-ltb, le-ltb, length-append, take_at}
use Rattle.std.proofs.lemmas.Option.{none-some}
use borrow.Rule.Slice.PartMut.{put_mid}
use Rattle.model.specs.Tables.{Tables, empty}
use Rattle.model.specs.Invariant.{Kept}
use Rattle.model.specs.Calls.{Answer, refused, after}
use Rattle.model.proofs.Calls.Kept.{empty_kept}
use Rattle.model.specs.Tally.{Tally, zeroed, tally}
use Rattle.number.specs.Put.{put, fitted}
use Rattle.number.specs.Put.Laws.{put_none, fitted_fits, fitted_none, fits, fits_not}
use Rattle.journal.specs.Answers.{Said, said, body, end}
use Rattle.journal.specs.Answers.{answers as reads, refused as bad}
use Rattle.journal.specs.Journal.{entry_at, body_in}
use Rattle.journal.specs.Journal.Laws.{entry_next}
use Rattle.gatekeeper.specs.declared.Monitor.{Monitor}
use Rattle.gatekeeper.specs.View.{view}
use Rattle.text.specs.Reply.{last_fields, line, ending, longest_line, longest_end}
use Rattle.text.specs.Decimal.{decimal, digits}
use Rattle.text.specs.Parts.{Over}
use Rattle.text.specs.Parts.Laws.{untouched, put_over, over_count, over_put, rest_length, put_after, none_after}
use Rattle.replay.specs.Replay.{records, records_of, calls_of, answer_line, last_line, largest_journal, reply, Begun, reply_room}
use Rattle.replay.specs.Replay.Laws.{records_more, records_end, records_stop, Plain, body_plain, eleven_plain, left, left_more, kept_more, ends_more}
use Rattle.replay.specs.One.{Turned}

-- the whole text, of a journal that is not too long
abbrev pub whole : List ℕ → List ℕ
whole journal = left 1 empty zeroed (records_of journal)

-- of journal j, into the buffer that was `first` and is now `out`: `used` bytes are written; the records `rest` are left, from a position on, with
-- tables t and tally y
pub record Stage (j first out : List ℕ) (t : Tables) (y : Tally) (position used : ℕ) (rest : List Said) : Type 0 where
  pub kept : Kept t
  pub done : List ℕ
  pub over : Over first done used out
  pub sum : done ++ left position t y rest ≡ whole j
  pub leads : after t (calls_of rest) ≡ after empty (calls_of (records_of j))
  pub counts : tally t y (calls_of rest) ≡ tally empty zeroed (calls_of (records_of j))

pub begun : (j first : List ℕ) (t : Tables) → t ≡ empty → Stage j first first t zeroed 1 0 (records_of j)
begun j first t e = subst (λ (u : Tables). Stage j first first u zeroed 1 0 (records_of j)) (sym e)
    (record { kept = empty_kept; done = []; over = untouched 0 first (omega arith); sum = refl; leads = refl; counts = refl })

-- what has been written is the front of the text
pub over_begun : (whole first done rest out : List ℕ) (used : ℕ) → Over first done used out → done ++ rest ≡ whole → Begun whole first out
over_begun whole first done rest out used v e = record {
  count = used;
  front = v.front ∙ sym (ap (take used) (sym e) ∙ take_at done rest used (sym (over_count v)));
  after = v.after;
}

pub same_begun : (whole first : List ℕ) → Begun whole first first
same_begun whole first = record { count = 0; front = refl; after = refl }

-- ── the end of a run ──
-- what is promised of the answer, none or some bytes, and of the buffer
abbrev pub Ends : (text first out : List ℕ) → Option ℕ → Type 0
Ends text first out answer =
    (answer ≡ fitted text first)
    × (((k : ℕ) → answer ≡ Some k → out ≡ put text first) × (Begun text first out × (reply_room ≤ length first → length text ≤ length first)))

-- all of the text is written
pub all_ends : (text first out : List ℕ) (n : ℕ) → Over first text n out → Ends text first out (Some n)
all_ends text first out n v =
    let fit : Some n ≡ fitted text first = ap Some (over_count v) ∙ sym (fitted_fits text first (omega (arith, over_count v, v.within))) in
    (fit, (λ k z. over_put v, (over_begun text first text [] out n v (append-nil text), λ _. (fits text first n (sym fit)).1)))

-- there is no room for all of it, and what stands there is its front
pub none_ends : (text first out : List ℕ) → None ≡ fitted text first → Begun text first out → (reply_room ≤ length first → ⊥)
    → Ends text first out None
none_ends text first out short begun full = (short, (λ k z. absurd (none-some k z), (begun, λ room. absurd (full room))))

-- there is room for what is no longer than `most`, where that much is left
room_left : (first done out e : List ℕ) (used most : ℕ) → Over first done used out → length e ≤ most → used + most ≤ length first
    → None ≡ fitted e (take (length out - used) (drop used out)) → ⊥
room_left first done out e used most v short h answer =
    omega (arith, rest_length v, fits_not e (take (length out - used) (drop used out)) (sym answer), v.size)

module _ (j first out : List ℕ) (p used : ℕ) where
  module _ (m n : Monitor) (y z : Tally) (s : Said) (l : List Said) (code : ℕ) (a : Answer) (plain : Plain s)
      (o : Turned m y s code a n z) (g : Stage j first out (view m) y p used (s ∷ l)) where
    abbrev e : List ℕ
    e = answer_line p code a

    rejoined : g.done ++ (e ++ left (suc p) (view n) z l) ≡ whole j
    rejoined = ap (λ (k : List ℕ). g.done ++ k) (sym (left_more m n y z code a g.kept p s l plain o)) ∙ g.sum

    -- the record's line is written
    pub more : (ys : List ℕ) (k : ℕ) → Some k ≡ fitted e (take (length out - used) (drop used out))
        → ys ≡ put e (take (length out - used) (drop used out))
        → Stage j first (put_mid used (length out - used) out ys) (view n) z (suc p) (used + k) l
    more ys k answer wrote = record {
      kept = kept_more m n y z code a g.kept s o;
      done = g.done ++ e;
      over = put_after g.over e ys k answer wrote;
      sum = append_assoc g.done e (left (suc p) (view n) z l) ∙ rejoined;
      leads = sym (ends_more m n y z code a g.kept s l plain o).0 ∙ g.leads;
      counts = sym (ends_more m n y z code a g.kept s l plain o).1 ∙ g.counts;
    }

    -- there is no room for it, and so none for the whole
    pub no_more : None ≡ fitted e (take (length out - used) (drop used out)) → None ≡ fitted (whole j) first
    no_more answer = sym (fitted_none (whole j) first (omega (arith, length-append g.done (e ++ left (suc p) (view n) z l), length-append e (left (suc p) (view n) z l), ap length rejoined, over_count g.over, rest_length g.over, fits_not e (take (length out - used) (drop used out)) (sym answer), g.over.within)))

  -- what comes next, of at most `most` bytes, has no room: the buffer stays as it is, and was shorter than any reply needs
  pub short_ends : (t : Tables) (y : Tally) (rest : List Said) (g : Stage j first out t y p used rest) (e : List ℕ) (most : ℕ) → length e ≤ most
      → (reply_room ≤ length first → used + most ≤ length first) → None ≡ fitted (whole j) first
      → (ys : List ℕ) → None ≡ fitted e (take (length out - used) (drop used out)) → ys ≡ put e (take (length out - used) (drop used out))
      → Ends (whole j) first (put_mid used (length out - used) out ys) None
  short_ends t y rest g e most thin room short ys answer wrote = none_ends (whole j) first (put_mid used (length out - used) out ys) short
      (subst (λ (b : List ℕ). Begun (whole j) first b) (sym (none_after g.over e ys answer wrote))
      (over_begun (whole j) first g.done (left p t y rest) out used g.over g.sum))
      (λ r. room_left first g.done out e used most g.over thin (room r) answer)

  module _ (t : Tables) (y : Tally) (g : Stage j first out t y p used []) where
    -- the last line is written, and the whole with it
    pub ended : (ys : List ℕ) (k : ℕ) → Some k ≡ fitted (last_line y) (take (length out - used) (drop used out))
        → ys ≡ put (last_line y) (take (length out - used) (drop used out))
        → Ends (whole j) first (put_mid used (length out - used) out ys) (Some (used + k))
    ended ys k answer wrote = all_ends (whole j) first (put_mid used (length out - used) out ys) (used + k)
        (subst (λ (d : List ℕ). Over first d (used + k) (put_mid used (length out - used) out ys)) g.sum
        (put_after g.over (last_line y) ys k answer wrote))

    not_ended : None ≡ fitted (last_line y) (take (length out - used) (drop used out)) → None ≡ fitted (whole j) first
    not_ended answer = sym (fitted_none (whole j) first (omega (arith, length-append g.done (last_line y), ap length g.sum, over_count g.over, rest_length g.over, fits_not (last_line y) (take (length out - used) (drop used out)) (sym answer), g.over.within)))

-- ── the loop ──
-- the next record is looked for at `at`
pub record Going (j first out : List ℕ) (t : Tables) (y : Tally) (at position used : ℕ) : Type 0 where
  pub most : ℕ
  pub enough : length j ≤ at + most
  pub inside : at ≤ length j
  pub early : position ≤ at + 1
  pub short : used ≤ longest_line * at
  pub stage : Stage j first out t y position used (records most j at)

-- the run has stopped, when the next record was looked for at `at`: no record is left
pub record Stopped (j first out : List ℕ) (t : Tables) (y : Tally) (at position used : ℕ) : Type 0 where
  pub inside : at ≤ length j
  pub early : position ≤ at + 1
  pub next : ℕ
  pub short : used ≤ longest_line * length j
  pub stage : Stage j first out t y next used []

pub going_begun : (j first : List ℕ) (t : Tables) → t ≡ empty → Going j first first t zeroed 0 1 0
going_begun j first t e = record { most = length j; enough = omega arith; inside = omega arith; early = omega arith; short = omega arith; stage = begun j first t e }

pub stopped : (j first out : List ℕ) (t : Tables) (y : Tally) (at p q used : ℕ) → at ≤ length j → p ≤ at + 1 → used ≤ longest_line * length j
    → Stage j first out t y q used [] → Stopped j first out t y at p used
stopped j first out t y at p q used inside early short g = record { inside = inside; early = early; next = q; short = short; stage = g }

module _ (j first out : List ℕ) (at p used : ℕ) (m : Monitor) (y : Tally) (g : Going j first out (view m) y at p used) where
  -- a record stands at `at`
  module _ (start len next : ℕ) (e : entry_at j at ≡ reads (body start len next)) where
    abbrev s : Said
    s = body_in (take len (drop start j))

    here : (i : ℕ) × (length j ≤ next + i) × Stage j first out (view m) y p used (s ∷ records i j next)
    here = go g.most refl
      where
        go : (n : ℕ) → g.most ≡ n → (i : ℕ) × (length j ≤ next + i) × Stage j first out (view m) y p used (s ∷ records i j next)
        go zero q = absurd (omega (arith, g.enough, entry_next j at start len next e))
        go (suc n) q = (n, (omega (arith, g.enough, entry_next j at start len next e)), subst (λ (x : List Said). Stage j first out (view m) y p used x) (ap (λ (i : ℕ). records i j at) q ∙ records_more n j at start len next e) g.stage)

    module _ (n : Monitor) (z : Tally) (code : ℕ) (a : Answer) (o : Turned m y s code a n z)
        (thin : length (answer_line p code a) ≤ longest_line) where
      pub record_turn : (ys : List ℕ) (k : ℕ) → Some k ≡ fitted (answer_line p code a) (take (length out - used) (drop used out))
          → ys ≡ put (answer_line p code a) (take (length out - used) (drop used out))
          → Going j first (put_mid used (length out - used) out ys) (view n) z next (p + 1) (used + k)
      record_turn ys k answer wrote = let (i, far, g') = here in record {
        most = i;
        enough = far;
        inside = (entry_next j at start len next e).1;
        early = omega (arith, g.early, (entry_next j at start len next e).0);
        short = omega (
          arith,
          g.short,
          thin,
          (fits (answer_line p code a)
              (take (length out - used) (drop used out)) k (sym answer)).0,
          (entry_next j at start len next e).0,
        );
        stage = subst (λ (q : ℕ). Stage j first (put_mid used (length out - used) out ys) (view n) z q (used + k) (records i j next))
            (sym (add-one p)) (more j first out p used m n y z s (records i j next) code a (body_plain (take len (drop start j))) o g' ys k answer wrote);
      }

      record_short : None ≡ fitted (answer_line p code a) (take (length out - used) (drop used out))
          → None ≡ fitted (whole j) first
      record_short answer =
          let (i, far, g') = here in
          no_more j first out p used m n y z s (records i j next) code a (body_plain (take len (drop start j))) o g' answer

      pub record_ends : length j ≤ largest_journal → (ys : List ℕ)
          → None ≡ fitted (answer_line p code a) (take (length out - used) (drop used out))
          → ys ≡ put (answer_line p code a) (take (length out - used) (drop used out))
          → Ends (whole j) first (put_mid used (length out - used) out ys) None
      record_ends small ys answer = short_ends j first out p used (view m) y (records g.most j at) g.stage (answer_line p code a)
          longest_line thin (λ room. omega (arith, g.short, room, small, entry_next j at start len next e)) (record_short answer) ys answer

  -- no record can be found at `at`
  module _ (e : entry_at j at ≡ bad 11) (h : at < length j) (thin : length (line p 0 82 11 0) ≤ longest_line) where
    there : Stage j first out (view m) y p used (said 0 (bad 11) ∷ [])
    there = go g.most refl
      where
        go : (i : ℕ) → g.most ≡ i → Stage j first out (view m) y p used (said 0 (bad 11) ∷ [])
        go zero q = absurd (omega (arith, g.enough))
        go (suc i) q = subst (λ (x : List Said). Stage j first out (view m) y p used x) (ap (λ (k : ℕ). records k j at) q ∙ records_stop i j at 11 e)
            g.stage

    pub broken_turn : (ys : List ℕ) (k : ℕ) → Some k ≡ fitted (line p 0 82 11 0) (take (length out - used) (drop used out)) → ys ≡ put (line p 0 82 11 0)
        (take (length out - used) (drop used out))
        → Stopped j first (put_mid used (length out - used) out ys) (view m) y at p (used + k)
    broken_turn ys k answer wrote = record {
      inside = g.inside;
      early = g.early;
      next = suc p;
      short = omega (arith, g.short, thin, h, (fits (line p 0 82 11 0) (take (length out - used) (drop used out)) k (sym answer)).0);
      stage = more j first out p used m m y y (said 0 (bad 11)) [] 0 (refused 11) eleven_plain (refl, refl, refl, refl) there ys k answer wrote;
    }

    broken_short : None ≡ fitted (line p 0 82 11 0) (take (length out - used) (drop used out)) → None ≡ fitted (whole j) first
    broken_short answer = no_more j first out p used m m y y (said 0 (bad 11)) [] 0 (refused 11) eleven_plain (refl, refl, refl, refl) there answer

    pub broken_ends : length j ≤ largest_journal → (ys : List ℕ) → None ≡ fitted (line p 0 82 11 0) (take (length out - used) (drop used out))
        → ys ≡ put (line p 0 82 11 0) (take (length out - used) (drop used out)) → Ends (whole j) first (put_mid used (length out - used) out ys) None
    broken_ends small ys answer = short_ends j first out p used (view m) y (records g.most j at) g.stage (line p 0 82 11 0) longest_line thin
        (λ room. omega (arith, g.short, room, small)) (broken_short answer) ys answer

  -- the journal ends at `at`
  pub end_turn : entry_at j at ≡ reads end → Stopped j first out (view m) y at p used
  end_turn e = record {
    inside = g.inside;
    early = g.early;
    next = p;
    short = omega (arith, g.short, g.inside);
    stage = subst (λ (x : List Said). Stage j first out (view m) y p used x) (none_left g.most) g.stage;
  }
    where
      none_left : (i : ℕ) → records i j at ≡ []
      none_left zero = refl
      none_left (suc i) = records_end i j at e

-- the last line has no room
pub end_short : (j first out : List ℕ) (t : Tables) (y : Tally) (at p used : ℕ) → Stopped j first out t y at p used
    → length (last_line y) ≤ longest_end → length j ≤ largest_journal
    → (ys : List ℕ) → None ≡ fitted (last_line y) (take (length out - used) (drop used out)) → ys ≡ put (last_line y)
    (take (length out - used) (drop used out))
    → Ends (whole j) first (put_mid used (length out - used) out ys) None
end_short j first out t y at p used g thin small ys answer = short_ends j first out g.next used t y [] g.stage (last_line y) longest_end thin
    (λ room. omega (arith, g.short, room, small)) (not_ended j first out g.next used t y g.stage answer) ys answer

-- ── two lines, one after the other ──
module _ (d e first : List ℕ) (thin : length (d ++ e) ≤ reply_room) where
  no_room : None ≡ fitted (d ++ e) first → reply_room ≤ length first → ⊥
  no_room answer room = omega (arith, thin, room, fits_not (d ++ e) first (sym answer))

  pub first_short : (out : List ℕ) → None ≡ fitted d first → out ≡ put d first → Ends (d ++ e) first out None
  first_short out answer wrote =
      let short = sym (fitted_none (d ++ e) first (omega (arith, length-append d e, fits_not d first (sym answer)))) in
      none_ends (d ++ e) first out short
      (subst (λ (b : List ℕ). Begun (d ++ e) first b) (sym (wrote ∙ put_none d first (fits_not d first (sym answer)))) (same_begun (d ++ e) first))
      (no_room short)

  module _ (out : List ℕ) (n : ℕ) (answer : Some n ≡ fitted d first) (wrote : out ≡ put d first) where
    written : Over first d n out
    written = let (count, room) = fits d first n (sym answer) in put_over d first out n count (omega arith) wrote

    pub begun_inside : n ≤ length out
    begun_inside = omega (arith, written.within, written.size)

    pub second_short : (ys : List ℕ) → None ≡ fitted e (take (length out - n) (drop n out)) → ys ≡ put e (take (length out - n) (drop n out))
        → Ends (d ++ e) first (put_mid n (length out - n) out ys) None
    second_short ys q w =
        let short = sym (fitted_none (d ++ e) first (omega (arith, length-append d e, over_count written, rest_length written, fits_not e (take (length out - n) (drop n out)) (sym q), written.within))) in
        none_ends (d ++ e) first (put_mid n (length out - n) out ys) short
        (subst (λ (b : List ℕ). Begun (d ++ e) first b) (sym (none_after written e ys q w)) (over_begun (d ++ e) first d e out n written refl))
        (no_room short)

    pub both_over : (ys : List ℕ) (k : ℕ) → Some k ≡ fitted e (take (length out - n) (drop n out)) → ys ≡ put e (take (length out - n) (drop n out))
        → Over first (d ++ e) (n + k) (put_mid n (length out - n) out ys)
    both_over ys k q w = put_after written e ys k q w

-- the text for a journal that is too long
abbrev pub refusal : List ℕ
refusal = line 1 0 82 14 0 ++ ending 0 0 0

nineteen : ◌≡◌ {A = ℕ} (length refusal) 19
unfolding line last_fields ending decimal digits
nineteen = refl

pub refusal_thin : length refusal ≤ reply_room
refusal_thin = omega (arith, nineteen)

pub reply_long : (j : List ℕ) → largest_journal < length j → refusal ≡ reply j
unfolding reply
reply_long j h = rw (lt-ltb largest_journal (length j) h) (ap (λ (x : List ℕ). x ++ ending 0 0 0) (sym (append-nil (line 1 0 82 14 0))))

pub reply_whole : (j : List ℕ) → length j ≤ largest_journal → whole j ≡ reply j
unfolding reply
reply_whole j h = rw (le-ltb largest_journal (length j) h)
