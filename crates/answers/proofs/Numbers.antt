-- No refusal has the number 0, which says that there is none. Assumes nothing.
use mathlib.Core.Path.{◌≡◌, refl}
use lib.Dec.{eqb}
use mathlib.Core.Bool.{false}
use Rattle.answers.specs.declared.Refusal.{Refusal}
use Rattle.answers.specs.declared.Refusal.TheVariants.{UnknownCode, NoSubject, NumberTaken, NoObject, IsPipe, LevelTooHigh, PlaceUnfit, WrongDirection, Flow, StillOpen, RecordBroken, Frozen, SameSubject, TooManyObjects}
use Rattle.answers.specs.Telling.{number_of}

pub number_not_0 : (r : Refusal) → eqb (number_of r) 0 ≡ false
number_not_0 UnknownCode = refl
number_not_0 NoSubject = refl
number_not_0 NumberTaken = refl
number_not_0 NoObject = refl
number_not_0 IsPipe = refl
number_not_0 LevelTooHigh = refl
number_not_0 PlaceUnfit = refl
number_not_0 WrongDirection = refl
number_not_0 Flow = refl
number_not_0 StillOpen = refl
number_not_0 RecordBroken = refl
number_not_0 Frozen = refl
number_not_0 SameSubject = refl
number_not_0 TooManyObjects = refl
