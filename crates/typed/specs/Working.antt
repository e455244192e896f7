-- What inner functions make of a monitor in hand, and how far they have come in a line. No caller needs it. The laws are in Working/Laws. Assumes nothing.
use Rattle.std.specs.Prelude.{◌≡◌, ℕ, ◌+◌, Bool, true, cond, not, ◌||◌, List, [], ◌∷◌, ◌++◌, ◌≤◌, length, Some, None}
use Rattle.std.specs.Prelude.{Option as Maybe}
use Rattle.std.proofs.Math.Option.{Option}
use Rattle.model.specs.Calls.{Raw, Answer}
use Rattle.model.specs.Tally.{wrapped}
use Rattle.answers.specs.Telling.{refuses}
use Rattle.lines.specs.Line.{Pipeline, Reading, all, most_stages, short}
use Rattle.lines.specs.Line.{Stage as Stage-read}
use Rattle.lines.specs.Reading.{Pipelined, Lined}
use Rattle.lines.specs.Calls.{calls_of}
use Rattle.typed.specs.declared.Outcome.{Outcome}
use Rattle.typed.specs.declared.Hand.{Hand}
use Rattle.typed.specs.declared.LineCall.{LineCall}
use Rattle.typed.specs.declared.LineCall.TheVariants.{Pipe, Read, Write, Fork, Exec, Close, Exit}
use Rattle.typed.specs.Typed.{is_allowed, is_lowered, Made, moves}
pub mod Laws

-- one more answer, and several, counted
abbrev pub added : Bool → ℕ → ℕ
added b n = cond b (wrapped (n + 1)) n

abbrev pub counting : Outcome → Answer → Outcome
counting x a = record { allowed = added (is_allowed a) x.allowed; lowered = added (is_lowered a) x.lowered; refused = added (refuses a) x.refused; refusal = x.refusal }

abbrev pub counted : Outcome → List Answer → Outcome
counted x [] = x
counted x (a ∷ l) = counted (counting x a) l

-- whether one more answer was not a refusal
abbrev pub stirring : Bool → Answer → Bool
stirring b a = b || not (refuses a)

-- the rules' call
abbrev pub raw_of : LineCall → Raw
raw_of (Pipe shell pipe reads writes) = record { code = 4; numbers = shell ∷ pipe ∷ reads ∷ writes ∷ [] }
raw_of (Read child object place) = record { code = 5; numbers = child ∷ object ∷ place ∷ [] }
raw_of (Write child object place) = record { code = 6; numbers = child ∷ object ∷ place ∷ [] }
raw_of (Fork shell child) = record { code = 9; numbers = shell ∷ child ∷ [] }
raw_of (Exec child program) = record { code = 10; numbers = child ∷ program ∷ [] }
raw_of (Close holder place) = record { code = 11; numbers = holder ∷ place ∷ [] }
raw_of (Exit child) = record { code = 12; numbers = child ∷ [] }

abbrev pub raws_of : Maybe LineCall → List Raw
raws_of None = []
raws_of (Some call) = raw_of call ∷ []

-- the calls were made on what hand h has, and k is the hand after them
pub record Works (h : Hand) (calls : List Raw) (k : Hand) : Type 0 where
  pub answers : List Answer
  pub made : Made h.monitor h.tally calls answers k.monitor k.tally
  pub tallied : k.outcome ≡ counted h.outcome answers
  pub stirred : k.moved ≡ (h.moved || moves answers)

-- the bytes are those of pipeline p, with e behind it, from its stage i on
pub data Left (p : Pipeline) (e : Option (List ℕ)) (i : ℕ) (bs : List ℕ) : Type 0 where
  some_left : (l : List Stage-read) (q : Pipeline) → all p ≡ l ++ all q → length l ≡ i → Pipelined bs q e → Left p e i bs
  none_left : i ≡ length (all p) → Left p e i bs

-- the bytes begin with a pipeline of n stages, which are not too many
pub record Stands (bs : List ℕ) (n : ℕ) : Type 0 where
  pub stages : Pipeline
  pub behind : Option (List ℕ)
  pub read : Pipelined bs stages behind
  pub many : n ≡ length (all stages)
  pub few : n ≤ most_stages

-- the line is good: it is read, and no pipeline is too long
pub record Good (line : List ℕ) : Type 0 where
  pub reading : Reading
  pub read : Lined line reading
  pub is_short : short reading ≡ true

-- of the calls of a good line those of the pipelines before the rest are made
pub record Going (shell child pipe : ℕ) (line : List ℕ) (h : Hand) (k : Hand) (rest : List ℕ) : Type 0 where
  pub reading : Reading
  pub read : Lined line reading
  pub left : Reading
  pub left_read : Lined rest left
  pub is_short : short left ≡ true
  pub calls : List Raw
  pub made : Works h calls k
  pub whole : calls ++ calls_of shell child pipe left ≡ calls_of shell child pipe reading
