-- `host::behind::told` meets its contract. Assumes nothing.
use Rattle.std.proofs.Common.{arith}
use Rattle.host.proofs.Explaining.{kept_tells, given_tells}
use Rattle.host.proofs.behind.told.Goals as goal

pub returns-then-found-eq0-clause-tells : goal.returns-then-found-eq0-clause-tells
returns-then-found-eq0-clause-tells c = λ h. kept_tells (c.why-found.ensures.explains h) _ c.if-found-eq0.true

pub returns-clause-tells : goal.returns-clause-tells
returns-clause-tells c = λ h. given_tells (c.why-found.ensures.explains h) (omega arith)
