-- Slots by number: what stands in an array of objects beside an array of their numbers. States RULES T39, T41 and T42, and H28 of it. Assumes nothing.
use Rattle.std.specs.Prelude.{◌≡◌, Bool, not, ◌&&◌, cond, ◌⊎◌, List, [], ◌∷◌, ℕ, suc, ◌%◌, ◌<◌, ◌≤◌, get_or, T, eqb}
use Rattle.tables.specs.declared.Object.{Object}
use Rattle.tables.specs.Records.{no_object}
use Rattle.tables.specs.Working.{some_below}

-- RULES T39: slot i is in use
abbrev pub slot_used : List Object → ℕ → Bool
slot_used os i = not (eqb (get_or os i no_object).kind 0)

-- RULES T39: no slot in use has the number o
abbrev pub Absent : List Object → List ℕ → ℕ → Type 0
Absent os ns o = (i : ℕ) → i < 64 → T (slot_used os i) → get_or ns i 0 ≡ o → ⊥

-- r is the slot of o
abbrev pub Here : List Object → List ℕ → ℕ → ℕ → Type 0
Here os ns o r = (r < 64) × T (slot_used os r) × (get_or ns r 0 ≡ o)

-- and that, or no slot in use has this number and r is 64
pub record Found (os : List Object) (ns : List ℕ) (o r : ℕ) : Type 0 where
  pub is : Here os ns o r ⊎ (Absent os ns o × (r ≡ 64))

-- no slot in use below k has a number from o on
abbrev pub NoneFrom : List Object → List ℕ → ℕ → ℕ → Type 0
NoneFrom os ns o k = (i : ℕ) → i < k → T (slot_used os i) → o ≤ get_or ns i 0 → ⊥

-- r is the number of a slot in use below k, and of those from o on the lowest
abbrev pub Lowest : List Object → List ℕ → ℕ → ℕ → ℕ → Type 0
Lowest os ns o k r = ((i : ℕ) × (i < k) × T (slot_used os i) × (get_or ns i 0 ≡ r))
    × (o ≤ r) × ((j : ℕ) → j < k → T (slot_used os j) → o ≤ get_or ns j 0 → r ≤ get_or ns j 0)

-- RULES H28: r is the lowest number from o on that a slot in use has, or none has one and r is 0
pub record First (os : List Object) (ns : List ℕ) (o r : ℕ) : Type 0 where
  pub is : Lowest os ns o 64 r ⊎ (NoneFrom os ns o 64 × (r ≡ 0))

-- RULES T42: r is a free slot other than `but`, or 64 where there is none
pub record Free (os : List Object) (but r : ℕ) : Type 0 where
  pub is : ((r < 64) × T (not (slot_used os r)) × (r ≡ but → ⊥)) ⊎ ((r ≡ 64) × ((i : ℕ) → i < 64 → (i ≡ but → ⊥) → T (slot_used os i)))

-- r is the slot of o, or no slot in use has this number and r is free
pub record Seated (os : List Object) (ns : List ℕ) (o but r : ℕ) : Type 0 where
  pub is : Here os ns o r ⊎ (Absent os ns o × Free os but r)

-- each slot in use is the one at which its number is looked for first
abbrev pub Home : List Object → List ℕ → Type 0
Home os ns = (i : ℕ) → i < 64 → T (slot_used os i) → get_or ns i 0 % 64 ≡ i

-- slot i is in use, and so is one before it that has its number
abbrev pub repeated : List Object → List ℕ → ℕ → Bool
repeated os ns i = slot_used os i && some_below i (λ j. slot_used os j && eqb (get_or ns j 0) (get_or ns i 0))

-- RULES T41: of slots in use that have one number only the first
abbrev pub singled : (ℕ → Bool) → ℕ → List Object → List Object
singled f i [] = []
singled f i (x ∷ l) = cond (f i) no_object x ∷ singled f (suc i) l

abbrev pub single : List Object → List ℕ → List Object
single os ns = singled (repeated os ns) 0 os
