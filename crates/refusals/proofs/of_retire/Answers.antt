-- `refusals::of_retire` meets its contract. Assumes nothing.
use Rattle.std.proofs.Common.{rules}
use Rattle.refusals.proofs.Asking.{of_retire}
use Rattle.refusals.proofs.of_retire.Goals as goal

pub returns-then-y-eq-FREE : goal.returns-then-y-eq-FREE
returns-then-y-eq-FREE c = let a = c.args in of_retire a.y (search rules)

pub returns-then-y-ge-PIPE : goal.returns-then-y-ge-PIPE
returns-then-y-ge-PIPE c = let a = c.args in of_retire a.y (search rules)

pub returns : goal.returns
returns c = let a = c.args in of_retire a.y (search rules)
