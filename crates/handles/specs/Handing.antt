-- What a change of the handles alone comes to. Assumes nothing.
use Rattle.std.specs.Prelude.{◌≡◌, List, ℕ}
use Rattle.std.proofs.Math.Option.{Option}
use Rattle.model.specs.Tables.{Tables, with_hand}
use Rattle.model.specs.Tables.{Handle as Held}
use Rattle.tables.specs.declared.Subject.{Subject}
use Rattle.tables.specs.declared.Object.{Object}
use Rattle.tables.specs.declared.Handle.{Handle}
use Rattle.tables.specs.Records.{tables_of}

-- any tables with r in place of hs are these with the handle of each place as f says
abbrev pub Handed : List Handle → List Handle → (ℕ → ℕ → Option Held) → Type 0
Handed hs r f = (rest : Tables) (ss : List Subject) (os : List Object) → tables_of rest ss os r ≡ with_hand (tables_of rest ss os hs) f
