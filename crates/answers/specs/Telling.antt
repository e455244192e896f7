-- Answers as those of the rules. States RULES G9, P7, P8 and R101. Assumes nothing.
use Rattle.std.specs.Prelude.{Bool, true, false, ℕ, Result, Ok, Err}
use Rattle.model.specs.Calls.{allowed, lowered, refused}
use Rattle.model.specs.Calls.{Answer as Told}
use Rattle.answers.specs.declared.Granted.{Granted}
use Rattle.answers.specs.declared.Granted.TheVariants.{Allowed, Lowered}
use Rattle.answers.specs.declared.Refusal.{Refusal}
use Rattle.answers.specs.declared.Refusal.TheVariants.{UnknownCode, NoSubject, NumberTaken, NoObject, IsPipe, LevelTooHigh, PlaceUnfit, WrongDirection, Flow, StillOpen, RecordBroken, Frozen, SameSubject, TooManyObjects}

-- RULES R1 to R10, R12 and R15 to R17: the number of each
abbrev pub number_of : Refusal → ℕ
number_of UnknownCode = 1
number_of NoSubject = 2
number_of NumberTaken = 3
number_of NoObject = 4
number_of IsPipe = 5
number_of LevelTooHigh = 6
number_of PlaceUnfit = 7
number_of WrongDirection = 8
number_of Flow = 9
number_of StillOpen = 10
number_of RecordBroken = 12
number_of Frozen = 15
number_of SameSubject = 16
number_of TooManyObjects = 17

-- the number of the refusal, 0 where there is none
abbrev pub number_in : {A : Type 0} → Result A Refusal → ℕ
number_in (Ok a) = 0
number_in (Err r) = number_of r

-- an `Answer`
abbrev pub Answered : Type 0
Answered = Result Granted Refusal

-- RULES G9: what each case means
abbrev pub told : Answered → Told
told (Ok (Allowed l)) = allowed l
told (Ok (Lowered l k)) = lowered l k
told (Err r) = refused (number_of r)

-- RULES P7, P8: the letter as a byte, and the value
abbrev pub letter_of : Told → ℕ
letter_of (allowed l) = 65
letter_of (lowered l k) = 76
letter_of (refused n) = 82

abbrev pub value_of : Told → ℕ
value_of (allowed l) = l
value_of (lowered l k) = l
value_of (refused n) = n

-- RULES R101: a refusal's level is 0
abbrev pub level_of : Told → ℕ
level_of (allowed l) = l
level_of (lowered l k) = l
level_of (refused n) = 0

-- the marks that were lost
abbrev pub lost_of : Told → ℕ
lost_of (allowed l) = 0
lost_of (lowered l k) = k
lost_of (refused n) = 0

abbrev pub refuses : Told → Bool
refuses (allowed l) = false
refuses (lowered l k) = false
refuses (refused n) = true
