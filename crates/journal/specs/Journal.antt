-- Records as the reader finds them. States RULES J8 to J17 and J19, and RULES R1, R11 and R12 of a record. In
-- order: what stands at an offset of a journal; a part of it; what a body says; both together. The laws are in Journal/Laws. Assumes nothing.
use Rattle.std.specs.Prelude.{◌≡◌, ℕ, zero, suc, ◌+◌, ◌≤◌, cond, Option, Some, None, List, [], ◌∷◌, ltb, length, take, drop}
use Rattle.std.specs.Option.{option_map}
use Rattle.std.specs.Borrow.{Bor}
use Rattle.number.specs.Leb.{largest, Reading, number}
use Rattle.journal.specs.Answers.{Answer, answers, refused, Next, body, end, Said, said}
use Rattle.journal.specs.Calls.{most_numbers, arity_of, known, filled}
pub mod Laws

-- ---- what stands at an offset

-- RULES R11, J10: a length that is malformed or leads beyond the last byte is refused; the next record is where the body ends
abbrev pub sized : List ℕ → ℕ → Reading → Answer Next
sized journal at (Some (len, used)) =
    cond (ltb (length journal) (at + used + len)) (refused 11) (answers (body (at + used) len (at + used + len)))
sized journal at None = refused 11

-- RULES J8, J11, J12: the record at an offset; from the end of the journal on there is none
unfoldable pub entry_at : List ℕ → ℕ → Answer Next
entry_at journal at = cond (ltb at (length journal)) (sized journal at (number largest (drop at journal))) (answers end)

-- RULES J19: the bytes from `start` on, `len` of them or as many as the journal has, where they lie in
-- the journal's own storage. (A slice is where it points, a block and an offset in it, and its bytes.) Past the end there are none, and where is left open
pub record Part (journal : Bor (List ℕ)) (start len : ℕ) (part : Bor (List ℕ)) : Type 0 where
  pub bytes : part.now ≡ take len (drop start journal.now)
  pub block : part.ref_ptr.0 ≡ journal.ref_ptr.0
  pub offset : start ≤ length journal.now → part.ref_ptr.1 ≡ journal.ref_ptr.1 + start

-- ---- what a body says

-- a number, then what f finds after it; a number that is missing is cut off
abbrev pub and_then : Reading → List ℕ → (List ℕ → Option (List ℕ)) → Option (List ℕ)
and_then (Some (n, used)) bs f = option_map (λ ns. n ∷ ns) (f (drop used bs))
and_then None bs f = None

-- RULES J15, J16: k numbers; none where one is malformed or missing, or bytes are left
unfoldable pub numbers_in : ℕ → List ℕ → Option (List ℕ)
numbers_in zero [] = Some []
numbers_in zero (b ∷ bs) = None
numbers_in (suc k) bs = and_then (number largest bs) bs (numbers_in k)

-- RULES J17: the same as the numbers of a direct call
unfoldable pub arguments_in : ℕ → List ℕ → Option (List ℕ)
arguments_in k bs = option_map (filled most_numbers) (numbers_in k bs)

-- RULES R12: refused where there are none
abbrev pub call_with : Option (List ℕ) → Answer (List ℕ)
call_with None = refused 12
call_with (Some ns) = answers ns

-- RULES J13, J14, R107: without a good code refused with 12; an unknown code with 1, and what follows is not looked at
abbrev pub coded : Reading → List ℕ → Said
coded (Some (code, used)) bs = said code (cond (known code) (call_with (arguments_in (arity_of code) (drop used bs))) (refused 1))
coded None bs = said 0 (refused 12)

unfoldable pub body_in : List ℕ → Said
body_in bs = coded (number largest bs) bs

-- ---- one record for one call

-- at an offset stands the record of a call with these numbers, and then the next record
pub record Reads (journal : List ℕ) (at next code : ℕ) (ns : List ℕ) : Type 0 where
  pub start : ℕ
  pub len : ℕ
  pub entry : entry_at journal at ≡ answers (body start len next)
  pub says : body_in (take len (drop start journal)) ≡ said code (answers ns)
