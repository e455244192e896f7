-- Laws of answers as numbers: what a host reads off each, and that 0 is no answer's. Assumes nothing.
use Rattle.std.specs.Prelude.{◌≡◌, refl, Bool, true, false, cond, List, [], ◌∷◌, ◌++◌, ℕ, ◌+◌, ◌*◌, ◌<◌, ltb, length}
use Rattle.std.proofs.Common.{sym, ◌∙◌, subst, arith, length-append}
use Rattle.model.specs.Tables.{empty}
use Rattle.model.specs.Calls.{Answer, allowed, lowered, refused}
use Rattle.model.specs.Tally.{Tally, zeroed, tally, difference}
use Rattle.number.specs.Leb.{Reading, good, largest, number}
use Rattle.number.specs.Leb.Laws.{number_bytes}
use Rattle.text.specs.Reply.{end_word, space, newline, field, ending}
use Rattle.replay.specs.Replay.{Replied, replied, replies, calls_of, records_of, lines, last_line, text, largest_journal, reply}
use Rattle.answers.specs.Telling.{letter_of, value_of, lost_of}
use Rattle.host.specs.Numbers.{answer_number, letter_in, value_in, lost_in, answer_by, answer_in, reading_used}

-- ── calls ──
-- an answer whose level or refusal number is a byte is read back
pub answer_back : (a : Answer) → value_of a < 256 → answer_in (answer_number a) ≡ a
answer_back a h = (λ i. answer_by (letter_back (lost_of a) (letter_of a) (value_of a) (small a) h i) (value_back (lost_of a) (letter_of a) (value_of a) h i)
    (lost_back (lost_of a) (letter_of a) (value_of a) (small a) h i)) ∙ by a
  where
    -- a letter is a byte
    small : (a : Answer) → letter_of a < 256
    small (allowed l) = omega arith
    small (lowered l k) = omega arith
    small (refused n) = omega arith

    letter_back : (k l v : ℕ) → l < 256 → v < 256 → letter_in (65536 * k + 256 * l + v) ≡ l
    letter_back k l v g h = omega arith

    value_back : (k l v : ℕ) → v < 256 → value_in (65536 * k + 256 * l + v) ≡ v
    value_back k l v h = omega arith

    lost_back : (k l v : ℕ) → l < 256 → v < 256 → lost_in (65536 * k + 256 * l + v) ≡ k
    lost_back k l v g h = omega arith

    by : (a : Answer) → answer_by (letter_of a) (value_of a) (lost_of a) ≡ a
    by (allowed l) = refl
    by (lowered l k) = refl
    by (refused n) = refl

-- 0 is none's
pub answer_some : (a : Answer) → 0 < answer_number a
answer_some (allowed l) = omega arith
answer_some (lowered l k) = omega arith
answer_some (refused n) = omega arith

-- ── numbers ──
-- 0 bytes are those of no number
pub reading_some : (bytes : List ℕ) (v k : ℕ) → number largest bytes ≡ good v k → 0 < reading_used (number largest bytes)
reading_some bytes v k e = subst (λ (r : Reading). 0 < reading_used r) (sym e) (omega (arith, number_bytes bytes v k e))

-- ── replies ──
-- a reply has its last line, and is never empty
text_some : (l : List Replied) (y : Tally) → 0 < length (text l y)
unfolding ending
text_some l y =
    let made = field y.made space in
    let gone = field y.gone space in
    omega (
      arith,
      length-append (lines 1 l) (last_line y),
      length-append (end_word ++ made ++ gone) (field (difference y) newline),
      length-append (end_word ++ made) gone,
      length-append end_word made,
    )

pub reply_some : (journal : List ℕ) → 0 < length (reply journal)
unfolding reply
reply_some journal = go (ltb largest_journal (length journal)) (replies empty (records_of journal)) (tally empty zeroed (calls_of (records_of journal)))
  where
    go : (b : Bool) (l : List Replied) (y : Tally) → 0 < length (cond b (text (replied 0 (refused 14) ∷ []) zeroed) (text l y))
    go true l y = text_some (replied 0 (refused 14) ∷ []) zeroed
    go false l y = text_some l y
