-- `refusals::of_map` meets its contract. Assumes nothing.
use Rattle.std.proofs.Common.{rules}
use Rattle.refusals.proofs.Asking.{of_map}
use Rattle.refusals.proofs.of_map.Goals as goal

pub returns-then-x-eq0 : goal.returns-then-x-eq0
returns-then-x-eq0 c = let a = c.args in of_map a.p a.x a.y a.h (search rules)

pub returns-then-y-eq-FREE : goal.returns-then-y-eq-FREE
returns-then-y-eq-FREE c = let a = c.args in of_map a.p a.x a.y a.h (search rules)

pub returns-then-y-ge-PIPE : goal.returns-then-y-ge-PIPE
returns-then-y-ge-PIPE c = let a = c.args in of_map a.p a.x a.y a.h (search rules)

pub returns-then-is_place_used : goal.returns-then-is_place_used
returns-then-is_place_used c = let a = c.args in of_map a.p a.x a.y a.h (search rules)

pub returns : goal.returns
returns c = let a = c.args in of_map a.p a.x a.y a.h (search rules)
