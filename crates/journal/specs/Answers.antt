-- What the journal's functions answer (RULES G9): a refusal has its number of RULES R1 to R13, and any other case its
-- values. Assumes nothing.
use Rattle.std.specs.Prelude.{ℕ, List, [], ◌∷◌, Option, Some, None, Result, Ok, Err}
use Rattle.calls.specs.declared.Numbers.{Numbers}
use Rattle.journal.specs.declared.Record.{Record}
use Rattle.journal.specs.declared.Broken.{Broken}
use Rattle.calls.specs.declared.Call.{Call}
use Rattle.journal.specs.declared.BadBody.{BadBody}
use Rattle.journal.specs.declared.BadBody.TheVariants.{Unknown, Malformed}
use Rattle.journal.specs.declared.RecordError.{RecordError}
use Rattle.journal.specs.declared.RecordError.TheVariants.{UnknownCode, TooLong}

-- RULES R101: what was asked for, or the refusal's number
pub data Answer (A : Type 0) : Type 0 where
  answers : A → Answer A
  refused : ℕ → Answer A

-- ---- the record reader

-- RULES J19: what stands at an offset, a part of the journal by the offset of its first byte, its length and the offset of the next
-- record; or no record
pub data Next : Type 0 where
  body : (start len next : ℕ) → Next
  end : Next

abbrev pub entry_answer : Result (Option Record) Broken → Answer Next
entry_answer (Ok (Some r)) = answers (body r.start r.len r.next)
entry_answer (Ok None) = answers end
entry_answer (Err broken) = refused 11

-- ---- the body reader

-- RULES P6: the code, 0 where none was read, and the call's numbers or a refusal
pub data Said : Type 0 where
  said : (code : ℕ) → Answer (List ℕ) → Said

abbrev pub numbers_of : Numbers → List ℕ
numbers_of ns = ns.a ∷ ns.b ∷ ns.c ∷ ns.d ∷ ns.e ∷ ns.f ∷ []

abbrev pub body_answer : Result Call BadBody → Said
body_answer (Ok call) = said call.code (answers (numbers_of call.numbers))
body_answer (Err (Unknown code)) = said code (refused 1)
body_answer (Err (Malformed code)) = said code (refused 12)

-- ---- the record writer

-- RULES J22: the record's length
abbrev pub record_answer : Result ℕ RecordError → Answer ℕ
record_answer (Ok n) = answers n
record_answer (Err UnknownCode) = refused 1
record_answer (Err TooLong) = refused 13

-- 0 where nothing was written
abbrev pub length_in : Answer ℕ → ℕ
length_in (answers n) = n
length_in (refused r) = 0
