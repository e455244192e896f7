-- The reply to a whole journal, byte for byte. States RULES P2 to P10, P14, P20, P21 and P23, B23, and RULES R11 to R14 and
-- R113 to R116 of a run.
--
-- In order: the records of a journal; the calls among them; what each is answered; the lines of the reply; the reply. Assumes nothing.
use Rattle.std.specs.Prelude.{◌≡◌, cond, List, [], ◌∷◌, ◌++◌, ℕ, zero, suc, ◌+◌, ◌*◌, eqb, ltb, length, take, drop}
use Rattle.model.specs.Tables.{Tables, empty}
use Rattle.model.specs.Calls.{Raw, decode, next, Answer, refused, answer}
use Rattle.model.specs.Tally.{Tally, zeroed, tally, difference}
use Rattle.journal.specs.Answers.{Said, said, Next, body, end}
use Rattle.journal.specs.Answers.{Answer as Read, answers as reads, refused as bad}
use Rattle.journal.specs.Journal.{entry_at, body_in}
use Rattle.answers.specs.Telling.{letter_of, value_of, lost_of}
use Rattle.text.specs.Reply.{line, ending, longest_line, longest_end}
pub mod Laws

-- ── the records ──
-- RULES J10, R11, R113: what stands at an offset, and then the rest; after a record without a good length there is none
abbrev pub followed : (ℕ → List Said) → List ℕ → Read Next → List Said
followed rest journal (reads (body start len next)) = body_in (take len (drop start journal)) ∷ rest next
followed rest journal (reads end) = []
followed rest journal (bad n) = said 0 (bad n) ∷ []

-- the records from an offset on, each as its body says; at most `most`
abbrev pub records : (most : ℕ) → List ℕ → ℕ → List Said
records zero journal at = []
records (suc most) journal at = followed (records most journal) journal (entry_at journal at)

-- RULES P3: all of them; a record has at least one byte, so a journal has no more records than bytes
abbrev pub records_of : List ℕ → List Said
records_of journal = records (length journal) journal 0

-- ── the calls and the answers ──
abbrev pub raw : ℕ → List ℕ → Raw
raw code ns = record { code = code; numbers = ns }

-- RULES B23: of a record that is refused. An unknown code (R1) is the call of that code, with no numbers; a length or a number that is malformed
-- (R11, R12) makes no call
abbrev pub unknown_call : (refusal code : ℕ) → List Raw
unknown_call n code = cond (eqb n 1) (raw code [] ∷ []) []

-- RULES B23: the calls of a journal's records, in their order
abbrev pub calls_of : List Said → List Raw
calls_of [] = []
calls_of (said code (reads ns) ∷ l) = raw code ns ∷ calls_of l
calls_of (said code (bad n) ∷ l) = unknown_call n code ++ calls_of l

-- RULES P6, P7, P8: the code, 0 where none was read, and the answer
pub record Replied : Type 0 where
  pub code : ℕ
  pub answer : Answer

abbrev pub replied : ℕ → Answer → Replied
replied n a = record { code = n; answer = a }

-- each record's answer, in the tables that those before it led to; RULES R114: after a refused one the next
abbrev pub replies : Tables → List Said → List Replied
replies t [] = []
replies t (said code (reads ns) ∷ l) = replied code (answer t (decode (raw code ns))) ∷ replies (next t (decode (raw code ns))) l
replies t (said code (bad n) ∷ l) = replied code (refused n) ∷ replies t l

-- ── the text ──
-- RULES P4, P7, P8, P23: the line of a record, by its answer
abbrev pub answer_line : ℕ → ℕ → Answer → List ℕ
answer_line p code a = line p code (letter_of a) (value_of a) (lost_of a)

-- RULES P3, P5: a line for each record, with its position, here from p
abbrev pub lines : ℕ → List Replied → List ℕ
lines p [] = []
lines p (r ∷ l) = answer_line p r.code r.answer ++ lines (suc p) l

-- RULES P9, P10
abbrev pub last_line : Tally → List ℕ
last_line y = ending y.made y.gone (difference y)

abbrev pub text : List Replied → Tally → List ℕ
text l y = lines 1 l ++ last_line y

-- RULES R14: a journal above 65,536 bytes is not run
abbrev pub largest_journal : ℕ
largest_journal = 65536

-- RULES R14, R115: the records that are run
abbrev pub run_of : List ℕ → List Said
run_of journal = cond (ltb largest_journal (length journal)) [] (records_of journal)

-- RULES P14, R106, R116: the reply to a journal that is too long, and to any other
unfoldable pub reply : List ℕ → List ℕ
reply journal = cond (ltb largest_journal (length journal)) (text (replied 0 (refused 14) ∷ []) zeroed)
    (text (replies empty (records_of journal)) (tally empty zeroed (calls_of (records_of journal))))

-- ── the buffer ──
-- RULES P20: a buffer that was `first` has the text's first bytes, how many is left open, and those after them keep their values
pub record Begun (whole first out : List ℕ) : Type 0 where
  pub count : ℕ
  pub front : take count out ≡ take count whole
  pub after : drop count out ≡ drop count first

-- RULES P21: a buffer with this much room takes any reply: no more records than bytes, a line for each, and the last line
abbrev pub reply_room : ℕ
reply_room = longest_line * largest_journal + longest_end
