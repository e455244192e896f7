-- The calls that a journal has, by their codes (RULES C1 to C18, C106 to C108, R1). In order: the table of arities; which codes are known;
-- a call's numbers, filled up. The laws are in Calls/Laws. Assumes nothing.
use Rattle.std.specs.Prelude.{ℕ, zero, suc, Bool, List, [], ◌∷◌, ltb, take, get_or}
pub mod Laws

-- RULES C1 to C18, J9: how many numbers the call of each code takes, from code 1 on; every call takes one, and 0 says that there is no such call
abbrev pub arities : List ℕ
arities =
    3  -- admit s, level, set
    ∷ 3  -- register o, level, set
    ∷ 2  -- create s, o
    ∷ 4  -- pipe s, o, r, w
    ∷ 3  -- open for reading s, o, p
    ∷ 3  -- open for writing s, o, p
    ∷ 2  -- read s, p
    ∷ 2  -- write s, p
    ∷ 2  -- fork s, c
    ∷ 2  -- exec s, o
    ∷ 2  -- close s, p
    ∷ 1  -- exit s
    ∷ 1  -- retire o
    ∷ 3  -- map s, o, p
    ∷ 2  -- mark s, p
    ∷ 1  -- freeze level
    ∷ 6  -- connect s, t, a, b, p, q
    ∷ 2  -- thread s, c
    ∷ []

-- RULES C106: as many as a direct call has
abbrev pub most_numbers : ℕ
most_numbers = 6

-- how many numbers the call of a code takes; 0 where there is no such call
unfoldable pub arity_of : ℕ → ℕ
arity_of code = get_or (0 ∷ arities) code 0

-- RULES R1: a code that section C has a row for
unfoldable pub known : ℕ → Bool
known code = ltb 0 (arity_of code)

-- RULES C107, C108: m numbers, those given, then 0 in the place of those that are not
unfoldable pub filled : ℕ → List ℕ → List ℕ
filled zero ns = []
filled (suc m) [] = 0 ∷ filled m []
filled (suc m) (n ∷ ns) = n ∷ filled m ns

-- RULES C107, C108, J17: a call's numbers, with 0 for those that its code does not use
abbrev pub arguments_of : ℕ → List ℕ → List ℕ
arguments_of code ns = filled most_numbers (take (arity_of code) ns)
