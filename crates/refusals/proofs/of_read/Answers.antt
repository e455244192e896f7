-- `refusals::of_read` meets its contract. Assumes nothing.
use Rattle.std.proofs.Common.{rules}
use Rattle.refusals.proofs.Asking.{of_read}
use Rattle.refusals.proofs.of_read.Goals as goal

pub returns-then-x-eq0 : goal.returns-then-x-eq0
returns-then-x-eq0 c = let a = c.args in of_read a.x a.h (search rules)

pub returns-then-h-eq-EMPTY : goal.returns-then-h-eq-EMPTY
returns-then-h-eq-EMPTY c = let a = c.args in of_read a.x a.h (search rules)

pub returns-then-is_writing : goal.returns-then-is_writing
returns-then-is_writing c = let a = c.args in of_read a.x a.h (search rules)

pub returns : goal.returns
returns c = let a = c.args in of_read a.x a.h (search rules)
