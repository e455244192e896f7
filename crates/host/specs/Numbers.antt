-- Answers as one number, since an exported function cannot hand back an enum: of a call, of the record writer and of the number reader.
-- States RULES H11 to H14, H17 to H20, H22, H27 and H31, by RULES G9.
--
-- For a wrong length of the lent bytes the rules have no answer: it is 0, which is no answer's number. The laws are in Numbers/Laws. Assumes nothing.
use Rattle.std.specs.Prelude.{◌≡◌, cond, Some, None, List, [], ℕ, ◌+◌, ◌*◌, ◌/◌, ◌%◌, eqb, ltb, length}
use Rattle.std.proofs.Math.Option.{Option, none, some}
use Rattle.model.specs.Label.{level, shops}
use Rattle.model.specs.Lists.{each, keep, from_on}
use Rattle.model.specs.Flow.{subject}
use Rattle.model.specs.Tables.{Kind, running, file, pipe, Dir, reading, writing, Entry, Handle, Tables, no_freeze, subjects, live, clean}
use Rattle.model.specs.Calls.{Call, Answer, allowed, lowered, answer}
use Rattle.model.specs.Calls.{refused as no}
use Rattle.number.specs.Leb.{Reading}
use Rattle.journal.specs.Answers.{answers, refused}
use Rattle.journal.specs.Answers.{Answer as Recording}
use Rattle.journal.specs.Calls.{known}
use Rattle.journal.specs.Record.{record_of}
use Rattle.answers.specs.Telling.{letter_of, value_of, lost_of}
use Rattle.gatekeeper.specs.View.{KeptAt}
use Rattle.stored.specs.State.{state_bytes, Sized, monitor_of, state_view}
pub mod Laws

-- RULES H22: the version of the archive, first part, second and third
abbrev pub version : ℕ
version = 65536 * 8 + 256 * 0 + 0

-- RULES H10, H11: x where the bytes have the length of a state; else y
abbrev pub sized : {A : Type 0} → List ℕ → A → A → A
sized s x y = cond (eqb (length s) state_bytes) x y

-- RULES H12: 65,536 times the number of marks lost, 256 times the letter's byte, and the value
abbrev pub answer_number : Answer → ℕ
answer_number a = 65536 * lost_of a + 256 * letter_of a + value_of a

-- what a host reads off it: host/gatekeeper.h, `gatekeeper_letter`, `gatekeeper_value` and `gatekeeper_lost`
abbrev pub letter_in : ℕ → ℕ
letter_in n = n / 256 % 256

abbrev pub lost_in : ℕ → ℕ
lost_in n = n / 65536

abbrev pub value_in : ℕ → ℕ
value_in n = n % 256

-- and the answer that the three tell: 65 is A, 76 is L, 82 is R
abbrev pub answer_by : (letter value lost : ℕ) → Answer
answer_by letter value lost = cond (eqb letter 65) (allowed value) (cond (eqb letter 76) (lowered value lost) (no value))

abbrev pub answer_in : ℕ → Answer
answer_in n = answer_by (letter_in n) (value_in n) (lost_in n)

-- RULES H11, H12: what call c on the bytes s is answered
unfoldable pub call_number : List ℕ → Call → ℕ
call_number s c = sized s (answer_number (answer (clean (state_view s)) c)) 0

-- RULES H13: 256 and the record's length, or the number of the refusal
abbrev pub record_number : Recording ℕ → ℕ
record_number (answers n) = 256 + n
record_number (refused k) = k

-- where the buffer has room for the longest record: never 13
abbrev pub roomy_number : ℕ → List ℕ → ℕ
roomy_number code ns = cond (known code) (256 + length (record_of code ns)) 1

-- RULES H14: in how many bytes the number stands, and its value, which is left as it was where there is none
abbrev pub reading_used : Reading → ℕ
reading_used None = 0
reading_used (Some r) = r.1

abbrev pub reading_value : Reading → ℕ → ℕ
reading_value None before = before
reading_value (Some r) before = r.0

-- ── what a host sees ──
-- RULES H17: 0 where there is none; else 65,536 times the set, 256 times the kind, 1 for a subject and for a file, 2 for a pipe, and the level
abbrev pub kind_number : Kind → ℕ
kind_number running = 1
kind_number file = 1
kind_number pipe = 2

abbrev pub seen_entry : Option Entry → ℕ
seen_entry none = 0
seen_entry (some e) = 65536 * shops e.label + 256 * kind_number e.kind + level e.label

-- RULES H31: the numbers in the group of subject s, rising
unfoldable pub members : Tables → ℕ → List ℕ
members t s = each subjects (λ a. keep (t.kin s a) a [])

-- 0 where s is not live; else 256 and the lowest of them
abbrev pub seen_group : Tables → ℕ → ℕ
seen_group t s = cond (live t (subject s)) (256 + from_on 0 (members t s)) 0

-- RULES H18: 0 for an empty place; else 65,536 where it is marked, and 256 times the way, 1 for reading, 2 for writing and 3 for a mapping
abbrev pub dir_number : Dir → ℕ
dir_number reading = 1
dir_number writing = 2

abbrev pub seen_handle : Option Handle → ℕ
seen_handle none = 0
seen_handle (some k) = 65536 * cond k.marked 1 0 + 256 * cond k.mapped 3 (dir_number k.dir)

-- RULES H27: and the number of its object
abbrev pub seen_object : Option Handle → ℕ
seen_object none = 0
seen_object (some k) = k.to

-- RULES H20: of a kept need, which is 256 times its level and its set, 65,536 times the set, and the level
abbrev pub seen_label : ℕ → ℕ
seen_label n = 65536 * (n % 256) + n / 256

-- RULES H20: r is what is told of object o's kept need
abbrev pub SeenNeed : List ℕ → ℕ → ℕ → Type 0
SeenNeed s o r = (Sized s → (n : ℕ) × KeptAt (monitor_of s) o n × (r ≡ seen_label n)) × ((Sized s → ⊥) → r ≡ 0)

-- RULES H19: the freeze, 16 for every one that freezes nothing
abbrev pub seen_freeze : ℕ → ℕ
seen_freeze n = cond (ltb n no_freeze) n no_freeze
