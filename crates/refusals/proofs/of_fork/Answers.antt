-- `refusals::of_fork` meets its contract. Assumes nothing.
use Rattle.std.proofs.Common.{rules}
use Rattle.refusals.proofs.Asking.{of_fork}
use Rattle.refusals.proofs.of_fork.Goals as goal

pub returns-then-x-eq0 : goal.returns-then-x-eq0
returns-then-x-eq0 c = let a = c.args in of_fork a.c a.x a.z (search rules)

pub returns-then-is_subject_used : goal.returns-then-is_subject_used
returns-then-is_subject_used c = let a = c.args in of_fork a.c a.x a.z (search rules)

pub returns : goal.returns
returns c = let a = c.args in of_fork a.c a.x a.z (search rules)
