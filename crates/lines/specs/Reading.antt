-- How a line is read, from left to right: spaces are skipped, a number is read as far as its digits go, a stage as far as its signs. What the functions below
-- `verdict` cite, two of them public for crate `typed`; that what is read so is what Line says is a law (Reading/Laws). Assumes nothing.
use Rattle.std.specs.Prelude.{◌≡◌, Bool, true, false, not, ◌&&◌, cond, List, [], ◌∷◌, ℕ, ◌+◌, ◌-◌, ◌*◌, eqb, leb}
use Rattle.std.proofs.Math.Option.{Option, none, some}
use Rattle.lines.specs.Line.{one, more, Stage, Pipeline, Reading, largest}

-- something read, and the bytes behind it
pub record Got (A : Type 0) : Type 0 where
  pub value : A
  pub rest : List ℕ

abbrev pub got : {A : Type 0} → A → List ℕ → Got A
got x bs = record { value = x; rest = bs }

abbrev pub skip : List ℕ → List ℕ
skip [] = []
skip (b ∷ bs) = elim (eqb b 32) [ true ↦ skip bs | false ↦ b ∷ bs ]

-- ── a number ──
abbrev pub is_digit : ℕ → Bool
is_digit b = leb 48 b && leb b 57

-- a digit d may follow those that gave v: no zero stands in front, and the number does not get too large
abbrev pub grows : ℕ → ℕ → Bool
grows v d = not (eqb v 0) && leb (v * 10 + d) largest

abbrev pub digits : ℕ → List ℕ → Option (Got ℕ)
digits v [] = some (got v [])
digits v (b ∷ bs) = elim (is_digit b) [ false ↦ some (got v (b ∷ bs)) | true ↦ elim (grows v (b - 48)) [ true ↦ digits (v * 10 + (b - 48)) bs | false ↦ none ] ]

abbrev pub numeral : List ℕ → Option (Got ℕ)
numeral [] = none
numeral (b ∷ bs) = elim (is_digit b) [ true ↦ digits (b - 48) bs | false ↦ none ]

-- ── a sign and its number, where the sign is next ──
abbrev pub as_given : Option (Got ℕ) → Option (Got (Option ℕ))
as_given none = none
as_given (some g) = some (got (some g.value) g.rest)

abbrev pub signed_at : ℕ → List ℕ → Option (Got (Option ℕ))
signed_at sign [] = some (got none [])
signed_at sign (b ∷ bs) = elim (eqb b sign) [ true ↦ as_given (numeral (skip bs)) | false ↦ some (got none (b ∷ bs)) ]

abbrev pub signed : ℕ → List ℕ → Option (Got (Option ℕ))
signed sign bs = signed_at sign (skip bs)

-- ── a stage and what ends it ──
pub data End : Type 0 where
  at_bar at_semicolon : List ℕ → End
  at_end : End

pub record Staged : Type 0 where
  pub stage : Stage
  pub end : End

-- which of them it is, as a number, and what is behind it
abbrev pub kind : End → ℕ
kind (at_bar l) = 1
kind (at_semicolon l) = 2
kind at_end = 3

abbrev pub behind : End → List ℕ
behind (at_bar l) = l
behind (at_semicolon l) = l
behind at_end = []

abbrev pub ended_at : List ℕ → Option End
ended_at [] = some at_end
ended_at (b ∷ bs) = cond (eqb b 124) (some (at_bar bs)) (cond (eqb b 59) (some (at_semicolon bs)) none)

abbrev pub with_end : Stage → Option End → Option Staged
with_end s none = none
with_end s (some e) = some (record { stage = s; end = e })

abbrev pub with_into : ℕ → Option ℕ → Option (Got (Option ℕ)) → Option Staged
with_into p f none = none
with_into p f (some g) = with_end (record { program = p; from = f; into = g.value }) (ended_at (skip g.rest))

abbrev pub with_from : ℕ → Option (Got (Option ℕ)) → Option Staged
with_from p none = none
with_from p (some g) = with_into p g.value (signed 62 g.rest)

abbrev pub with_program : Option (Got ℕ) → Option Staged
with_program none = none
with_program (some g) = with_from g.value (signed 60 g.rest)

unfoldable pub staged : List ℕ → Option Staged
staged bs = with_program (numeral (skip bs))

-- ── pipelines, and the line ──
-- the bytes begin with pipeline p; behind it is the end of the line, or a `;` and the rest
pub data Pipelined : List ℕ → Pipeline → Option (List ℕ) → Type 0 where
  closed : {bs : List ℕ} {s : Stage} → staged bs ≡ some (record { stage = s; end = at_end }) → Pipelined bs (one s) none
  parted : {bs rest : List ℕ} {s : Stage} → staged bs ≡ some (record { stage = s; end = at_semicolon rest }) → Pipelined bs (one s) (some rest)
  joined : {bs rest : List ℕ} {s : Stage} {p : Pipeline} {e : Option (List ℕ)} → staged bs ≡ some (record { stage = s; end = at_bar rest }) → Pipelined rest p e
      → Pipelined bs (more s p) e

pub data Lined : List ℕ → Reading → Type 0 where
  last : {bs : List ℕ} {p : Pipeline} → Pipelined bs p none → Lined bs (one p)
  then : {bs rest : List ℕ} {p : Pipeline} {l : Reading} → Pipelined bs p (some rest) → Lined rest l → Lined bs (more p l)
