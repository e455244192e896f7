-- What the values of the reader stand for. What the functions below `verdict` cite, two of them public for crate `typed`. Assumes nothing.
use Rattle.std.specs.Prelude.{◌≡◌, List, ℕ, ◌+◌, ◌*◌, length, Some, None, Result, Ok, Err, if◌then◌else◌}
use Rattle.std.specs.Prelude.{Option as Maybe}
use denote.Ref.{Bor}
use Rattle.std.proofs.Math.Option.{Option, none, some}
use Rattle.lines.specs.Line.{all}
use Rattle.lines.specs.Line.{Stage as Stage-read}
use Rattle.lines.specs.Line.{Pipeline as Stages}
use Rattle.lines.specs.Reading.{Got, got, at_bar, at_semicolon, at_end, grows, Staged, Pipelined}
use Rattle.lines.specs.Reading.{End as Ended}
use Rattle.lines.specs.declared.End.{End}
use Rattle.lines.specs.declared.End.TheVariants.{Bar, Semicolon, Nothing}
use Rattle.lines.specs.declared.Stage.{Stage}
use Rattle.lines.specs.declared.LineError.{LineError}
use Rattle.lines.specs.declared.LineError.TheVariants.{NotALine, TooLong}

abbrev pub optional : {A : Type 0} → Maybe A → Option A
optional None = none
optional (Some x) = some x

-- ── a number, and what a sign has ──
abbrev pub grown_to : ℕ → ℕ → Maybe ℕ
grown_to v d = if grows v d then Some (v * 10 + d) else None

abbrev pub numeral_of : Maybe (ℕ × Bor (List ℕ)) → Option (Got ℕ)
numeral_of None = none
numeral_of (Some r) = some (got r.0 r.1.now)

abbrev pub signed_of : Maybe (Maybe ℕ × Bor (List ℕ)) → Option (Got (Option ℕ))
signed_of None = none
signed_of (Some r) = some (got (optional r.0) r.1.now)

-- ── a stage and what ends it ──
abbrev pub ending : End → Ended
ending (Bar l) = at_bar l.now
ending (Semicolon l) = at_semicolon l.now
ending Nothing = at_end

abbrev pub end_of : Maybe End → Option Ended
end_of None = none
end_of (Some e) = some (ending e)

abbrev pub stage_of : Stage → Stage-read
stage_of r = record { program = r.program; from = optional r.from; into = optional r.into }

abbrev pub staged_of : Maybe (Stage × End) → Option Staged
staged_of None = none
staged_of (Some r) = some (record { stage = stage_of r.0; end = ending r.1 })

-- ── pipelines, and the line ──
abbrev pub rest_of : Maybe (Bor (List ℕ)) → Option (List ℕ)
rest_of None = none
rest_of (Some l) = some l.now

-- what is counted of the pipeline that the bytes begin with
abbrev pub Counts : List ℕ → Maybe (ℕ × Maybe (Bor (List ℕ))) → Type 0
Counts bs None = (p : Stages) (e : Option (List ℕ)) → Pipelined bs p e → ⊥
Counts bs (Some r) = (p : Stages) × Pipelined bs p (rest_of r.1) × (r.0 ≡ length (all p))

-- RULES R18, R19, R125
abbrev pub number_of : LineError → ℕ
number_of NotALine = 18
number_of TooLong = 19

abbrev pub said : Result Unit LineError → ℕ
said (Ok _) = 0
said (Err e) = number_of e
