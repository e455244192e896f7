-- Needs as figures: a thing is its number among 96, and has the figure that stands there. States of RULES F10 where a kept need stands. Assumes nothing.
use Rattle.std.specs.Prelude.{◌≡◌, List, ℕ, ◌+◌, get_or, Bool, T, ltb}
use Rattle.model.specs.Label.{Label}
use Rattle.labels.specs.Codes.{coded}
use Rattle.model.specs.Flow.{Thing, subject, object}
use Rattle.model.specs.Tables.{Tables, in_range, needs}
pub mod Laws

-- the 96 things for which there is a record: 32 subjects and 64 slots for objects
abbrev pub housed : Thing → Bool
housed (subject n) = ltb n 32
housed (object n) = ltb n 64

abbrev pub node : Thing → ℕ
node (subject n) = n
node (object n) = 32 + n

-- RULES F10: the subjects first, then the slots
abbrev pub figure_of : List ℕ → Thing → Label
figure_of r x = coded (get_or r (node x) 0)

-- the figures of all things, live or not, are their needs
pub record Needed (t : Tables) (r : List ℕ) : Type 0 where
  pub need_is : (x : Thing) → T (in_range x) → figure_of r x ≡ needs t x
