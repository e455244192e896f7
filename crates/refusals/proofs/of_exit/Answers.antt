-- `refusals::of_exit` meets its contract. Assumes nothing.
use Rattle.std.proofs.Common.{rules}
use Rattle.refusals.proofs.Asking.{of_exit}
use Rattle.refusals.proofs.of_exit.Goals as goal

pub returns-then-x-eq0 : goal.returns-then-x-eq0
returns-then-x-eq0 c = let a = c.args in of_exit a.x (search rules)

pub returns : goal.returns
returns c = let a = c.args in of_exit a.x (search rules)
