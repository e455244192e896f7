-- `refusals::of_held` meets its contract. Assumes nothing.
use Rattle.std.proofs.Common.{rules}
use Rattle.refusals.proofs.Asking.{of_held}
use Rattle.refusals.proofs.of_held.Goals as goal

pub returns-then-x-eq0 : goal.returns-then-x-eq0
returns-then-x-eq0 c = let a = c.args in of_held a.x a.h (search rules)

pub returns-then-h-eq-EMPTY : goal.returns-then-h-eq-EMPTY
returns-then-h-eq-EMPTY c = let a = c.args in of_held a.x a.h (search rules)

pub returns : goal.returns
returns c = let a = c.args in of_held a.x a.h (search rules)
