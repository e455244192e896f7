-- Worked examples of RULES L1 to L6: bytes that are a line, with their reading, and bytes that are none. Each is computed, by reading the bytes from
-- left to right (Reading). Assumes nothing.
use Rattle.std.specs.Prelude.{◌≡◌, refl, List, [], ◌∷◌, ℕ}
use Rattle.std.proofs.Common.{sym, ◌∙◌, ap, subst}
use Rattle.std.proofs.Math.Option.{Option, none, some, some-injective}
use Rattle.text.specs.Decimal.{digits, decimal}
use Rattle.lines.specs.Line.{one, more, Reading, Line, written}
use Rattle.lines.specs.Reading.{End, at_bar, at_semicolon, at_end, Staged, staged, closed, parted, joined, Lined, last, then}
use Rattle.lines.proofs.Reading.Numbers.{clash}
use Rattle.lines.proofs.Reading.Laws.{lined_line, line_lined}

-- ── how bytes are seen to be no line ──
abbrev rest_of : End → Option (List ℕ)
rest_of (at_bar bs) = some bs
rest_of (at_semicolon bs) = some bs
rest_of at_end = none

-- behind some stages, and the signs between them, no stage can be read
data Stuck : List ℕ → Type 0 where
  here : {bs : List ℕ} → staged bs ≡ none → Stuck bs
  later : {bs rest : List ℕ} {x : Staged} → staged bs ≡ some x → rest_of x.end ≡ some rest → Stuck rest → Stuck bs

-- the first stage of a line, and the line behind its sign
record Begins (bs : List ℕ) : Type 0 where
  first : Staged
  read : staged bs ≡ some first
  goes_on : (rest : List ℕ) → rest_of first.end ≡ some rest → (l : Reading) × Lined rest l

begins : {bs : List ℕ} {l : Reading} → Lined bs l → Begins bs
begins (last (closed {s = s} q)) = record { first = record { stage = s; end = at_end }; read = q; goes_on = λ rest h. clash (cc) }
begins (last (joined {rest = x} {s = s} {p = p} q r)) =
    record {
      first = record { stage = s; end = at_bar x };
      read = q;
      goes_on = λ rest h. (one p, subst (λ (y : List ℕ). Lined y (one p)) (some-injective x rest h) (last r));
    }
begins (then {l = l} (parted {rest = x} {s = s} q) d) =
    record {
      first = record { stage = s; end = at_semicolon x };
      read = q;
      goes_on = λ rest h. (l, subst (λ (y : List ℕ). Lined y l) (some-injective x rest h) d);
    }
begins (then {l = l} (joined {rest = x} {s = s} {p = p} q r) d) =
    record {
      first = record { stage = s; end = at_bar x };
      read = q;
      goes_on = λ rest h. (more p l, subst (λ (y : List ℕ). Lined y (more p l)) (some-injective x rest h) (then r d));
    }

stuck : {bs : List ℕ} → Stuck bs → (l : Reading) → Lined bs l → ⊥
stuck (here q) l d = let b = begins d in clash (cc (q, b.read))
stuck (later {rest = rest} {x = x} q h s) l d =
    let b = begins d in
    let same = some-injective b.first x (sym b.read ∙ q) in
    let (k, e) = b.goes_on rest (ap (λ (y : Staged). rest_of y.end) same ∙ h) in
    stuck s k e

no_line : (bs : List ℕ) → Stuck bs → (l : Reading) → Line l bs → ⊥
no_line bs s l d = stuck s l (line_lined bs l d)

-- ── lines ──
-- two pipelines, the first of two stages
abbrev pub two_pipelines : Reading
two_pipelines =
    more (more (record { program = 7; from = some 1; into = some 2 }) (one (record { program = 10; from = none; into = none })))
    (one (one (record { program = 0; from = none; into = none })))

-- `7 <1>2|10;0 `
pub a_line : Line two_pipelines (55 ∷ 32 ∷ 60 ∷ 49 ∷ 62 ∷ 50 ∷ 124 ∷ 49 ∷ 48 ∷ 59 ∷ 48 ∷ 32 ∷ [])
unfolding staged
a_line = lined_line _ two_pipelines (then (joined refl (parted refl)) (last (closed refl)))

-- `7<1>2|10;0`
pub a_line_written : written two_pipelines ≡ 55 ∷ 60 ∷ 49 ∷ 62 ∷ 50 ∷ 124 ∷ 49 ∷ 48 ∷ 59 ∷ 48 ∷ []
unfolding decimal digits
a_line_written = refl

-- `18446744073709551615`
pub the_largest : Line (one (one (record { program = 18446744073709551615; from = none; into = none })))
    (49 ∷ 56 ∷ 52 ∷ 52 ∷ 54 ∷ 55 ∷ 52 ∷ 52 ∷ 48 ∷ 55 ∷ 51 ∷ 55 ∷ 48 ∷ 57 ∷ 53 ∷ 53 ∷ 49 ∷ 54 ∷ 49 ∷ 53 ∷ [])
unfolding staged
the_largest = lined_line _ (one (one (record { program = 18446744073709551615; from = none; into = none }))) (last (closed refl))

-- ── no lines ──
-- nothing
pub nothing : (l : Reading) → Line l [] → ⊥
unfolding staged
nothing = no_line [] (here refl)

-- ` `
pub a_space : (l : Reading) → Line l (32 ∷ []) → ⊥
unfolding staged
a_space = no_line (32 ∷ []) (here refl)

-- `00`
pub two_zeros : (l : Reading) → Line l (48 ∷ 48 ∷ []) → ⊥
unfolding staged
two_zeros = no_line (48 ∷ 48 ∷ []) (here refl)

-- `01`
pub zero_in_front : (l : Reading) → Line l (48 ∷ 49 ∷ []) → ⊥
unfolding staged
zero_in_front = no_line (48 ∷ 49 ∷ []) (here refl)

-- `18446744073709551616`
pub too_large : (l : Reading) → Line l (49 ∷ 56 ∷ 52 ∷ 52 ∷ 54 ∷ 55 ∷ 52 ∷ 52 ∷ 48 ∷ 55 ∷ 51 ∷ 55 ∷ 48 ∷ 57 ∷ 53 ∷ 53 ∷ 49 ∷ 54 ∷ 49 ∷ 54 ∷ []) → ⊥
unfolding staged
too_large = no_line (49 ∷ 56 ∷ 52 ∷ 52 ∷ 54 ∷ 55 ∷ 52 ∷ 52 ∷ 48 ∷ 55 ∷ 51 ∷ 55 ∷ 48 ∷ 57 ∷ 53 ∷ 53 ∷ 49 ∷ 54 ∷ 49 ∷ 54 ∷ []) (here refl)

-- `1 2`
pub two_numbers : (l : Reading) → Line l (49 ∷ 32 ∷ 50 ∷ []) → ⊥
unfolding staged
two_numbers = no_line (49 ∷ 32 ∷ 50 ∷ []) (here refl)

-- `1>2<3`
pub signs_turned : (l : Reading) → Line l (49 ∷ 62 ∷ 50 ∷ 60 ∷ 51 ∷ []) → ⊥
unfolding staged
signs_turned = no_line (49 ∷ 62 ∷ 50 ∷ 60 ∷ 51 ∷ []) (here refl)

-- `1<2<3`
pub sign_twice : (l : Reading) → Line l (49 ∷ 60 ∷ 50 ∷ 60 ∷ 51 ∷ []) → ⊥
unfolding staged
sign_twice = no_line (49 ∷ 60 ∷ 50 ∷ 60 ∷ 51 ∷ []) (here refl)

-- `|1`
pub bar_in_front : (l : Reading) → Line l (124 ∷ 49 ∷ []) → ⊥
unfolding staged
bar_in_front = no_line (124 ∷ 49 ∷ []) (here refl)

-- `1||2`
pub two_bars : (l : Reading) → Line l (49 ∷ 124 ∷ 124 ∷ 50 ∷ []) → ⊥
unfolding staged
two_bars = no_line (49 ∷ 124 ∷ 124 ∷ 50 ∷ []) (later refl refl (here refl))

-- `1;`
pub semicolon_behind : (l : Reading) → Line l (49 ∷ 59 ∷ []) → ⊥
unfolding staged
semicolon_behind = no_line (49 ∷ 59 ∷ []) (later refl refl (here refl))

-- `1` and a tab
pub a_tab : (l : Reading) → Line l (49 ∷ 9 ∷ []) → ⊥
unfolding staged
a_tab = no_line (49 ∷ 9 ∷ []) (here refl)
