-- Labels. States RULES T4 and T49 to T52, and C119; T21 by the order.
--
-- The carrier, the labels that calls may name, the order as a test, meet, join, the least label, and the label that a call's numbers
-- name. A label is a level and a set of marks. Every other file knows labels by these names and by the laws of `Label.Laws` alone. Assumes nothing.
use Rattle.std.specs.Prelude.{ℕ, min, max, Bool, ◌&&◌, T, leb}
use Rattle.std.specs.Int.Bits.{bit_and, bit_or}
use Rattle.model.specs.Sets.{within, lost}

unfoldable pub Label : Type 0
Label = ℕ × ℕ

-- RULES T4, T49: the highest level and the largest set that a call may name
abbrev pub highest : ℕ
highest = 15

abbrev pub every_shop : ℕ
every_shop = 255

-- RULES T49: the label of a level and a set, and the two of a label
unfoldable pub label : ℕ → ℕ → Label
unfolding Label
label n m = (n, m)

unfoldable pub level : Label → ℕ
unfolding Label
level a = a.0

unfoldable pub shops : Label → ℕ
unfolding Label
shops a = a.1

-- RULES T4, T49: a label that a call may name
unfoldable pub in_scale : Label → Bool
unfolding Label
in_scale a = leb a.0 highest && leb a.1 every_shop

-- RULES T50, T21: b is at least a; labels that no call names are compared too
unfoldable pub leq : Label → Label → Bool
unfolding Label
leq a b = leb a.0 b.0 && within a.1 b.1

infix 40 ◌⊑◌
pub record ◌⊑◌ (a b : Label) : Type 0 where
  pub tested : T (leq a b)

-- RULES T51: what a thing of one label falls to at another: the smaller level and the common set
unfoldable pub meet : Label → Label → Label
unfolding Label
meet a b = (min a.0 b.0, bit_and a.1 b.1)

-- RULES T52: the larger level and all the marks, and the least label
unfoldable pub join : Label → Label → Label
unfolding Label
join a b = (max a.0 b.0, bit_or a.1 b.1)

unfoldable pub bot : Label
unfolding Label
bot = (0, 0)

-- RULES C119: how many marks a has that b has not
unfoldable pub marks_lost : Label → Label → ℕ
unfolding Label
marks_lost a b = lost a.1 b.1
