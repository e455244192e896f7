-- Records as the writer makes them (RULES J8, J9, J20 to J24, R13). In order: the bytes of a record; what the writer
-- answers, and what it leaves in the buffer. The laws are in Record/Laws. Assumes nothing.
use Rattle.std.specs.Prelude.{ℕ, cond, List, [], ◌∷◌, ◌++◌, ltb, length, take}
use Rattle.number.specs.Leb.{encode}
use Rattle.number.specs.Put.{put}
use Rattle.journal.specs.Answers.{Answer, answers, refused}
use Rattle.journal.specs.Calls.{arity_of, known}
pub mod Laws

-- RULES J22: a record has at most 62 bytes
abbrev pub longest_record : ℕ
longest_record = 62

-- numbers, one after the other
unfoldable pub encodes : List ℕ → List ℕ
encodes [] = []
encodes (n ∷ ns) = encode n ++ encodes ns

-- RULES J9, J21: the code, then the call's numbers, the first ones of ns
unfoldable pub body_of : ℕ → List ℕ → List ℕ
body_of code ns = encodes (code ∷ take (arity_of code) ns)

-- RULES J8, J20: the body's length, then the body
unfoldable pub record_of : ℕ → List ℕ → List ℕ
record_of code ns = encode (length (body_of code ns)) ++ body_of code ns

-- RULES R13, J22: a record with more bytes than the buffer is refused; else its length
unfoldable pub fitting : List ℕ → List ℕ → Answer ℕ
fitting bytes out = cond (ltb (length out) (length bytes)) (refused 13) (answers (length bytes))

-- RULES J22, J24: an unknown code is refused, however long the buffer is
unfoldable pub recording : ℕ → List ℕ → List ℕ → Answer ℕ
recording code ns out = cond (known code) (fitting (record_of code ns) out) (refused 1)

-- RULES J23, R104: the bytes behind the record stay; a refusal leaves the buffer as it was
unfoldable pub recorded : ℕ → List ℕ → List ℕ → List ℕ
recorded code ns out = cond (known code) (put (record_of code ns) out) out
