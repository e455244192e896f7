-- The lines of the reply. States RULES P4, P9, P12, P13 and P23. The laws are in Reply/Laws. Assumes nothing.
use Rattle.std.specs.Prelude.{ℕ, cond, List, [], ◌∷◌, ◌++◌, eqb}
use Rattle.text.specs.Decimal.{decimal}
pub mod Laws

-- RULES P12, P13: the bytes between and after the fields of a line
abbrev pub space : ℕ
space = 32

abbrev pub newline : ℕ
newline = 10

-- a number, and the byte that ends it
abbrev pub field : ℕ → ℕ → List ℕ
field n mark = decimal n ++ (mark ∷ [])

-- RULES P23: after the letter the value and, where the letter is L (its byte is 76), the marks lost
unfoldable pub last_fields : ℕ → ℕ → ℕ → List ℕ
last_fields letter value lost = cond (eqb letter 76) (field value space ++ field lost newline) (field value newline)

-- RULES P4: position, code and letter, and then these. The letter is given by its byte: 65, 76 or 82.
unfoldable pub line : ℕ → ℕ → ℕ → ℕ → ℕ → List ℕ
line position code letter value lost =
    field position space ++ field code space ++ (letter ∷ space ∷ []) ++ last_fields letter value lost

-- `end`, and the space after it
abbrev pub end_word : List ℕ
end_word = 101 ∷ 110 ∷ 100 ∷ space ∷ []

-- RULES P9: the last line
unfoldable pub ending : ℕ → ℕ → ℕ → List ℕ
ending made gone held = end_word ++ field made space ++ field gone space ++ field held newline

-- RULES P21: the longest line for a position of 32 bits, a code of 64, and a value and marks lost of 8 each
abbrev pub longest_line : ℕ
longest_line = 42

-- RULES P21: the longest last line for counts of 64 bits
abbrev pub longest_end : ℕ
longest_end = 67
