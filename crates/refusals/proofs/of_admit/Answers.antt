-- `refusals::of_admit` meets its contract. Assumes nothing.
use Rattle.std.proofs.Common.{rules}
use Rattle.refusals.proofs.Asking.{of_admit}
use Rattle.refusals.proofs.of_admit.Goals as goal

pub returns-then-is_subject_used : goal.returns-then-is_subject_used
returns-then-is_subject_used c = let a = c.args in of_admit a.s a.level a.shops a.x (search rules)

pub returns-then-is_off : goal.returns-then-is_off
returns-then-is_off c = let a = c.args in of_admit a.s a.level a.shops a.x (search rules)

pub returns : goal.returns
returns c = let a = c.args in of_admit a.s a.level a.shops a.x (search rules)
