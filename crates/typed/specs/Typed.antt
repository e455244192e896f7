-- What a typed line comes to: its calls made and counted one after the other on a monitor and its tally, or nothing at all. States RULES L13, L14, R18, R19, R102, R103 and R125. What a
-- single call promises is `Meets`, and of the tally `Tallies`: nothing else of the monitor is gone by. The laws are in Typed/Laws. Assumes nothing.
use Rattle.std.specs.Prelude.{◌≡◌, ℕ, ◌+◌, Bool, true, false, cond, not, List, [], ◌∷◌, ◌≢◌}
use Rattle.model.specs.Lists.{any}
use Rattle.model.specs.Calls.{Raw, decode, Answer, allowed, lowered, refused}
use Rattle.model.specs.Promise.{Meets}
use Rattle.model.specs.Tally.{wrapped}
use Rattle.answers.specs.Telling.{refuses}
use Rattle.gatekeeper.specs.declared.Monitor.{Monitor}
use Rattle.gatekeeper.specs.View.{monitors}
use Rattle.tally.specs.declared.Tally.{Tally}
use Rattle.tally.specs.Counting.{Tallies}
use Rattle.lines.specs.Line.{Reading, Line, short}
use Rattle.lines.specs.Calls.{calls_of}
use Rattle.typed.specs.declared.Outcome.{Outcome}
use Rattle.typed.specs.declared.Hand.{Hand}
pub mod Laws

-- RULES L13: the calls of a list, made and counted one after the other, with their answers
pub data Made : Monitor → Tally → List Raw → List Answer → Monitor → Tally → Type 0 where
  done : {m : Monitor} {y : Tally} → Made m y [] [] m y
  then : {m n o : Monitor} {y z w : Tally} {r : Raw} {rs : List Raw} {a : Answer} {l : List Answer} → Meets monitors m (decode r) a n → Tallies m y (decode r) a z
      → Made n z rs l o w → Made m y (r ∷ rs) (a ∷ l) o w

-- RULES L14: how many answers are of a kind, and of each kind modulo 2 to the 64th
abbrev pub how_many : (Answer → Bool) → List Answer → ℕ
how_many f [] = 0
how_many f (a ∷ l) = cond (f a) 1 0 + how_many f l

abbrev pub is_allowed : Answer → Bool
is_allowed (allowed n) = true
is_allowed (lowered n k) = false
is_allowed (refused n) = false

abbrev pub is_lowered : Answer → Bool
is_lowered (allowed n) = false
is_lowered (lowered n k) = true
is_lowered (refused n) = false

abbrev pub outcome_of : List Answer → Outcome
outcome_of l = record { allowed = wrapped (how_many is_allowed l); lowered = wrapped (how_many is_lowered l); refused = wrapped (how_many refuses l); refusal = 0 }

-- RULES L13, L14: these calls were made on monitor m and tally y, and n and z are left
pub record Ran (m : Monitor) (y : Tally) (calls : List Raw) (out : Outcome) (n : Monitor) (z : Tally) : Type 0 where
  pub answers : List Answer
  pub made : Made m y calls answers n z
  pub told : out ≡ outcome_of answers

-- RULES R18, R19, R125: no call was made
abbrev pub refused_line : ℕ → Outcome
refused_line k = record { allowed = 0; lowered = 0; refused = 0; refusal = k }

abbrev pub Stays : Monitor → Tally → ℕ → Outcome → Monitor → Tally → Type 0
Stays m y k out n z = (out ≡ refused_line k) × (n ≡ m) × (z ≡ y)

-- RULES L14, R18, R19, R125: what the bytes bs, with the numbers of the shell, of the first child and of the first pipe, come to on monitor m and tally y
pub record Typed (m : Monitor) (y : Tally) (bs : List ℕ) (shell child pipe : ℕ) (out : Outcome) (n : Monitor) (z : Tally) : Type 0 where
  pub no_line : ((l : Reading) → Line l bs → ⊥) → Stays m y 18 out n z
  pub too_long : (l : Reading) → Line l bs → short l ≡ false → Stays m y 19 out n z
  pub ran : (l : Reading) → Line l bs → short l ≡ true → Ran m y (calls_of shell child pipe l) out n z

-- RULES R102, R103: whether one of the answers is not a refusal
abbrev pub moves : List Answer → Bool
moves l = any (λ a. not (refuses a)) l

-- the same by value: what is handed back also says whether a call was not refused; where none was, monitor and tally are as they were (`made_same` in Typed/Laws)
pub record Handed (m : Monitor) (y : Tally) (bs : List ℕ) (shell child pipe : ℕ) (r : Hand) : Type 0 where
  pub typed : Typed m y bs shell child pipe r.outcome r.monitor r.tally
  pub moved : (l : Reading) (w : Line l bs) (s : short l ≡ true) → r.moved ≡ moves (typed.ran l w s).answers
  pub still : (r.outcome.refusal ≢ 0) → r.moved ≡ false
