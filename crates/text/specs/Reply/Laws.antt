-- Laws of the lines of the reply. In order: the fields after the letter; how long the lines are; the example of RULES K17. Assumes nothing.
use Rattle.std.specs.Prelude.{◌≡◌, refl, ℕ, ◌+◌, ◌^◌, ◌≤◌, ◌<◌, Bool, true, false, cond, [], ◌∷◌, ◌++◌, eqb, length}
use Rattle.std.proofs.Common.{arith, length-append, eq-eqb, ne_eqb}
use Rattle.text.specs.Decimal.{digits, decimal, most_digits}
use Rattle.text.specs.Decimal.Laws.{decimal_length}
use Rattle.text.specs.Reply.{space, newline, field, last_fields, line, ending, longest_line, longest_end}

-- ---- how long the lines are

-- the fields after the letter, by whether it is an L
pub last_lowered : (letter value lost : ℕ) → letter ≡ 76 → last_fields letter value lost ≡ field value space ++ field lost newline
unfolding last_fields
last_lowered letter value lost h = rw (eq-eqb letter 76 h) refl

pub last_other : (letter value lost : ℕ) → (letter ≡ 76 → ⊥) → last_fields letter value lost ≡ field value newline
unfolding last_fields
last_other letter value lost h = rw (ne_eqb letter 76 h) refl

pub lowered_length : (value lost : ℕ)
    → length (field value space ++ field lost newline) ≡ length (decimal value) + 1 + length (decimal lost) + 1
lowered_length value lost = simp length-append (omega arith)

pub last_bytes : (k l letter value lost : ℕ) → length (decimal value) ≤ k → length (decimal lost) ≤ l
    → length (last_fields letter value lost) ≤ k + l + 2
unfolding last_fields
last_bytes k l letter value lost v m = go (eqb letter 76)
  where
    go : (b : Bool) → length (cond b (field value space ++ field lost newline) (field value newline)) ≤ k + l + 2
    go true = omega (arith, lowered_length value lost, v, m)
    go false = omega (arith, length-append (decimal value) (newline ∷ []), v)

pub line_length : (position code letter value lost : ℕ)
    → length (line position code letter value lost)
    ≡ length (decimal position) + length (decimal code) + length (last_fields letter value lost) + 4
unfolding line
line_length position code letter value lost = simp length-append (omega arith)

pub ending_length : (made gone held : ℕ)
    → length (ending made gone held) ≡ length (decimal made) + length (decimal gone) + length (decimal held) + 7
unfolding ending
ending_length made gone held = simp length-append (omega arith)

pub line_bytes : (position code letter value lost : ℕ) → position < 2 ^ 32 → code < 2 ^ 64 → value < 2 ^ 8 → lost < 2 ^ 8
    → length (line position code letter value lost) ≤ longest_line
line_bytes position code letter value lost p c v m =
    let a = decimal_length 10 position (omega arith) (omega arith) in
    let b = decimal_length most_digits code (omega arith) (omega arith) in
    let d = decimal_length 3 value (omega arith) (omega arith) in
    let e = decimal_length 3 lost (omega arith) (omega arith) in
    omega (arith, line_length position code letter value lost, last_bytes 3 3 letter value lost d e)

pub ending_bytes : (made gone held : ℕ) → made < 2 ^ 64 → gone < 2 ^ 64 → held < 2 ^ 64
    → length (ending made gone held) ≤ longest_end
ending_bytes made gone held m g o =
    let a = decimal_length most_digits made (omega arith) (omega arith) in
    let b = decimal_length most_digits gone (omega arith) (omega arith) in
    let d = decimal_length most_digits held (omega arith) (omega arith) in
    omega (arith, ending_length made gone held)

-- and these take that many
pub line_longest : length (line 4294967295 18446744073709551615 76 255 255) ≡ longest_line
unfolding line last_fields decimal digits
line_longest = refl

pub ending_longest : length (ending 18446744073709551615 18446744073709551615 18446744073709551615) ≡ longest_end
unfolding ending decimal digits
ending_longest = refl

-- ---- the example

-- RULES K17: its five lines, `1 2 A 2` to `end 1 0 1`; the fourth is `4 7 L 2 0`
pub example : line 1 2 65 2 0 ++ line 2 1 65 9 0 ++ line 3 5 65 2 0 ++ line 4 7 76 2 0 ++ ending 1 0 1 ≡
    (49 ∷ 32 ∷ 50 ∷ 32 ∷ 65 ∷ 32 ∷ 50 ∷ 10 ∷ [])
    ++ (50 ∷ 32 ∷ 49 ∷ 32 ∷ 65 ∷ 32 ∷ 57 ∷ 10 ∷ [])
    ++ (51 ∷ 32 ∷ 53 ∷ 32 ∷ 65 ∷ 32 ∷ 50 ∷ 10 ∷ [])
    ++ (52 ∷ 32 ∷ 55 ∷ 32 ∷ 76 ∷ 32 ∷ 50 ∷ 32 ∷ 48 ∷ 10 ∷ [])
    ++ (101 ∷ 110 ∷ 100 ∷ 32 ∷ 49 ∷ 32 ∷ 48 ∷ 32 ∷ 49 ∷ 10 ∷ [])
unfolding line last_fields ending decimal digits
example = refl
