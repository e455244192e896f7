-- `refusals::of_create` meets its contract. Assumes nothing.
use Rattle.refusals.proofs.Asking.{of_create}
use Rattle.refusals.proofs.of_create.Goals as goal

pub returns : goal.returns
returns c = let a = c.args in of_create a.o a.x a.y c.made.ensures
