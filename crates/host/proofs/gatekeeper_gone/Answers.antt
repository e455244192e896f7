-- `host::gatekeeper_gone` meets its contract. Assumes nothing.
use Rattle.std.proofs.Common.{ap}
use Rattle.tally.specs.declared.Tally.{Tally}
use Rattle.stored.specs.State.{gone_of}
use Rattle.host.proofs.Sizing.{sized_by}
use Rattle.host.proofs.gatekeeper_gone.Goals as goal

pub returns : goal.returns
returns c = sized_by gone_of _ c.in-Some.ensures.cases (ap (λ (y : Tally). y.gone) c.load_tally.ensures)
