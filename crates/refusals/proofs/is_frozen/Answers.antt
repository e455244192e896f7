-- `refusals::is_frozen` meets its contract. Assumes nothing.
use mathlib.Core.Path.{◌∙◌}
use Rattle.std.proofs.Common.{rules}
use Rattle.refusals.proofs.Testing.{frozen_is}
use Rattle.refusals.proofs.is_frozen.Goals as goal

pub returns-then-y-eq-FILE : goal.returns-then-y-eq-FILE
returns-then-y-eq-FILE c = λ t o e q. let a = c.args in frozen_is t o a.freeze a.reads a.y e q ∙ search rules
