-- `refusals::of_freeze` meets its contract. Assumes nothing.
use Rattle.std.proofs.Common.{rules}
use Rattle.refusals.proofs.Asking.{of_freeze}
use Rattle.refusals.proofs.of_freeze.Goals as goal

pub returns-then-level : goal.returns-then-level
returns-then-level c = let a = c.args in of_freeze a.level (search rules)

pub returns : goal.returns
returns c = let a = c.args in of_freeze a.level (search rules)
