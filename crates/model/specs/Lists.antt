-- Membership in a list, and lists made for the numbers below a bound: what the definitions need of lists beyond the library. Assumes
-- nothing.
use Rattle.std.specs.Prelude.{◌≡◌, Bool, true, false, ◌||◌, ◌⊎◌, List, [], ◌∷◌, ◌++◌, ℕ, zero, suc, eqb, ltb, cond}
pub mod Laws
pub mod Rising

module _ {A : Type 0} where
  -- x stands in the list
  abbrev pub In : A → List A → Type 0
  In x [] = ⊥
  In x (y ∷ l) = (y ≡ x) ⊎ In x l

  -- f 0, then f 1, .., then f (n - 1)
  abbrev pub each : ℕ → (ℕ → List A) → List A
  each zero f = []
  each (suc n) f = each n f ++ f n

  -- the element in front where the test holds
  abbrev pub keep : Bool → A → List A → List A
  keep true y l = y ∷ l
  keep false y l = l

  abbrev pub any : (A → Bool) → List A → Bool
  any f [] = false
  any f (x ∷ l) = f x || any f l

-- rising lists of numbers (RULES T44): one more, and those for which a test holds
abbrev pub insert : ℕ → List ℕ → List ℕ
insert a [] = a ∷ []
insert a (x ∷ l) = cond (ltb a x) (a ∷ x ∷ l) (cond (eqb a x) (x ∷ l) (x ∷ insert a l))

abbrev pub inserts : List ℕ → List ℕ → List ℕ
inserts [] l = l
inserts (a ∷ m) l = insert a (inserts m l)

abbrev pub only : (ℕ → Bool) → List ℕ → List ℕ
only f [] = []
only f (x ∷ l) = keep (f x) x (only f l)

-- RULES H28: the first element that is o or more, 0 where there is none
abbrev pub from_on : ℕ → List ℕ → ℕ
from_on o [] = 0
from_on o (n ∷ l) = cond (ltb n o) (from_on o l) n
