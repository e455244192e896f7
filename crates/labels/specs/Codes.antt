-- A label as one number: 256 times the level, and the set. States of RULES F10 how a kept need stands. Assumes nothing.
use Rattle.std.specs.Prelude.{ℕ, ◌/◌, ◌%◌}
use Rattle.model.specs.Label.{Label, label}
pub mod Laws

-- RULES F10
abbrev pub coded : ℕ → Label
coded c = label (c / 256) (c % 256)
