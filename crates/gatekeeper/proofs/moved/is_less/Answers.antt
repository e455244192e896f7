-- `gatekeeper::moved::is_less` meets its contract. Assumes nothing.
use mathlib.Core.Path.{ap}
use mathlib.Core.Bool.{not}
use Rattle.gatekeeper.proofs.moved.is_less.Goals as goal

pub returns : goal.returns
returns c = ap not c.is_at_most.ensures
