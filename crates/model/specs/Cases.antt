-- The worked cases, RULES K0 to K9, in one table, proved by one computed fact about the definitions.
--
-- A row is either calls or the bytes of a journal. What a journal is answered is a parameter, `journal`, so that K10 and K11, whose
-- rows are bytes, join the table where the journal is defined; the fact here holds whichever it is. Assumes nothing.
use Rattle.std.specs.Prelude.{Bool, true, false, ◌&&◌, List, [], ◌∷◌, ◌++◌, ℕ, length, drop, eqb}
use Rattle.model.specs.Tables.{empty}
use Rattle.model.specs.Calls.{Raw, Answer, allowed, lowered, refused, answers}

abbrev pub call : ℕ → List ℕ → Raw
call c ns = record { code = c; numbers = ns }

pub data Given : Type 0 where
  calls : List Raw → Given
  bytes : List ℕ → Given

-- the case's number, what is done, and the answers to it (to the calls after `start`)
pub record Case : Type 0 where
  pub k : ℕ
  pub given : Given
  pub expected : List Answer

abbrev pub case : ℕ → Given → List Answer → Case
case n g l = record { k = n; given = g; expected = l }

abbrev pub A : ℕ → Answer
A n = allowed n

abbrev pub L : ℕ → Answer
L n = lowered n 0

abbrev pub R : ℕ → Answer
R n = refused n

-- RULES K0
abbrev pub start : List Raw
start = call 2 (0 ∷ 9 ∷ 255 ∷ []) ∷ call 2 (1 ∷ 2 ∷ 255 ∷ []) ∷ call 1 (0 ∷ 9 ∷ 255 ∷ []) ∷ []

-- RULES K1 to K9: register 2, admit 1, pipe 4, open 5 and 6, read 7, fork 9, exec 10, close 11
unfoldable pub table : List Case
table =
    case 1 (calls (call 6 (0 ∷ 0 ∷ 0 ∷ []) ∷ call 5 (0 ∷ 1 ∷ 1 ∷ []) ∷ [])) (A 9 ∷ R 9 ∷ [])
    ∷ case 2 (calls (call 6 (0 ∷ 0 ∷ 0 ∷ []) ∷ call 5 (0 ∷ 1 ∷ 1 ∷ []) ∷ call 11 (0 ∷ 0 ∷ []) ∷ call 5 (0 ∷ 1 ∷ 1 ∷ []) ∷ [])) (A 9 ∷ R 9 ∷ A 9 ∷ A 2 ∷ [])
    ∷ case 3 (calls (call 5 (0 ∷ 1 ∷ 0 ∷ []) ∷ call 6 (0 ∷ 0 ∷ 1 ∷ []) ∷ [])) (A 2 ∷ R 9 ∷ [])
    ∷ case 4 (calls (call 1 (1 ∷ 8 ∷ 255 ∷ []) ∷ call 6 (1 ∷ 0 ∷ 0 ∷ []) ∷ [])) (A 8 ∷ R 9 ∷ [])
    ∷ case 5 (calls (call 1 (1 ∷ 9 ∷ 255 ∷ []) ∷ call 6 (1 ∷ 0 ∷ 0 ∷ []) ∷ [])) (A 9 ∷ A 9 ∷ [])
    ∷ case 6 (calls (call 4 (0 ∷ 2 ∷ 0 ∷ 1 ∷ []) ∷ call 9 (0 ∷ 1 ∷ []) ∷ call 6 (0 ∷ 0 ∷ 2 ∷ []) ∷ call 5 (1 ∷ 1 ∷ 2 ∷ []) ∷ [])) (A 9 ∷ A 9 ∷ A 9 ∷ R 9 ∷ [])
    ∷ case 7 (calls (call 4 (0 ∷ 2 ∷ 0 ∷ 1 ∷ []) ∷ call 9 (0 ∷ 1 ∷ []) ∷ call 11 (0 ∷ 0 ∷ []) ∷ call 11 (1 ∷ 1 ∷ []) ∷ call 6 (0 ∷ 0 ∷ 2 ∷ []) ∷ call 5 (1 ∷ 1 ∷ 2 ∷ []) ∷ [])) (A 9 ∷ A 9 ∷ A 9 ∷ A 9 ∷ A 9 ∷ A 2 ∷ [])
    ∷ case 8 (calls (call 4 (0 ∷ 2 ∷ 0 ∷ 1 ∷ []) ∷ call 9 (0 ∷ 1 ∷ []) ∷ call 11 (0 ∷ 0 ∷ []) ∷ call 11 (1 ∷ 1 ∷ []) ∷ call 6 (0 ∷ 0 ∷ 2 ∷ []) ∷ call 5 (1 ∷ 1 ∷ 2 ∷ []) ∷ call 7 (1 ∷ 2 ∷ []) ∷ call 11 (0 ∷ 2 ∷ []) ∷ [])) (A 9 ∷ A 9 ∷ A 9 ∷ A 9 ∷ A 9 ∷ A 2 ∷ L 2 ∷ A 9 ∷ [])
    ∷ case 9 (calls (call 2 (2 ∷ 9 ∷ 255 ∷ []) ∷ call 6 (0 ∷ 0 ∷ 0 ∷ []) ∷ call 10 (0 ∷ 1 ∷ []) ∷ call 10 (0 ∷ 2 ∷ []) ∷ [])) (A 9 ∷ A 9 ∷ R 9 ∷ A 9 ∷ [])
    ∷ []

-- ── the table is right ──
abbrev pub equal : Answer → Answer → Bool
equal (allowed a) (allowed b) = eqb a b
equal (allowed a) (lowered b j) = false
equal (allowed a) (refused b) = false
equal (lowered a i) (allowed b) = false
equal (lowered a i) (lowered b j) = eqb a b && eqb i j
equal (lowered a i) (refused b) = false
equal (refused a) (allowed b) = false
equal (refused a) (lowered b j) = false
equal (refused a) (refused b) = eqb a b

abbrev pub all_equal : List Answer → List Answer → Bool
all_equal [] [] = true
all_equal [] (b ∷ m) = false
all_equal (a ∷ l) [] = false
all_equal (a ∷ l) (b ∷ m) = equal a b && all_equal l m

abbrev pub given_answers : (List ℕ → List Answer) → Given → List Answer
given_answers journal (calls rs) = drop (length start) (answers empty (start ++ rs))
given_answers journal (bytes bs) = journal bs

abbrev pub right : (List ℕ → List Answer) → List Case → Bool
right journal [] = true
right journal (c ∷ cs) = all_equal (given_answers journal c.given) c.expected && right journal cs
