-- The journal's numbers: unsigned LEB128 as in DWARF 5. States RULES J1 to J7.
-- In order: bytes; the two constants of the format; the coding of a number; what stands at the front of some bytes. A byte is
-- a number below 256. The laws are in Leb/Laws. Assumes nothing.
use Rattle.std.specs.Prelude.{ℕ, zero, suc, ◌+◌, ◌*◌, ◌/◌, ◌%◌, ◌≤◌, Bool, cond, ◌||◌, Option, Some, None, List, [], ◌∷◌, ltb, length, get_or}
use Rattle.std.specs.Option.{option_map}
pub mod Laws

-- numbers of at most m; bytes
abbrev pub AtMost : ℕ → List ℕ → Type 0
AtMost m ns = (i : ℕ) → get_or ns i 0 ≤ m

abbrev pub AreBytes : List ℕ → Type 0
AreBytes bs = AtMost 255 bs

-- RULES J5: the largest value of a number
abbrev pub largest : ℕ
largest = 18446744073709551615

-- RULES J7: the most bytes of a good number
abbrev pub longest : ℕ
longest = 10

-- ---- the coding of a number

-- RULES J1, J2: groups of seven bits, lowest first, one a byte, the top bit 1 on all but the last. The fuel bounds how many groups stand
-- before the last.
unfoldable pub groups : ℕ → ℕ → List ℕ
groups zero n = n ∷ []
groups (suc fuel) n =
    let longer = (n % 128 + 128) ∷ groups fuel (n / 128) in
    cond (ltb n 128) (n ∷ []) longer

-- RULES J1, J2: the bytes of n, which has no more groups than its value
unfoldable pub encode : ℕ → List ℕ
encode n = groups n n

-- ---- reading

-- what reading finds: a good number's value and how many bytes it takes; none where it is malformed
abbrev pub Reading : Type 0
Reading = Option (ℕ × ℕ)

abbrev pub good : ℕ → ℕ → Reading
good v k = Some (v, k)

-- RULES J2, J4: the number's bytes, to the first whose top bit is 0; none where it is cut off
unfoldable pub numeral : List ℕ → Option (List ℕ)
numeral [] = None
numeral (b ∷ bs) = cond (ltb b 128) (Some (b ∷ [])) (option_map (λ rest. b ∷ rest) (numeral bs))

-- RULES J3
unfoldable pub value : List ℕ → ℕ
value [] = 0
value (b ∷ bs) = b % 128 + 128 * value bs

-- RULES J6: a coding of the value with fewer bytes exists
unfoldable pub padded : List ℕ → Bool
padded bs = ltb (length (encode (value bs))) (length bs)

-- RULES J4, J5, J6, J7: malformed if cut off, too large or padded; else good
abbrev pub judged : ℕ → Option (List ℕ) → Reading
judged most None = None
judged most (Some bs) = cond (ltb most (value bs) || padded bs) None (good (value bs) (length bs))

-- the number of at most `most` at the front of some bytes
unfoldable pub number : ℕ → List ℕ → Reading
number most bs = judged most (numeral bs)
