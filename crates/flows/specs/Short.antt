-- A test of each of some things with its figure. Assumes nothing.
use Rattle.std.specs.Prelude.{◌≡◌, Bool, List, ℕ, ◌≤◌, length, get_or}
use Rattle.model.specs.Label.{Label}
use Rattle.labels.specs.Codes.{coded}
use Rattle.tables.specs.Working.{some_below}

-- b: it holds of some of them, each with the figure that stands at its own index
pub record SomeOf {X : Type 0} (test : X → Label → Bool) (xs : List X) (n : List ℕ) (b : Bool) : Type 0 where
  pub by_index : (d : X) → length xs ≤ length n → b ≡ some_below (length xs) (λ i. test (get_or xs i d) (coded (get_or n i 0)))
