-- `host::gatekeeper_made` meets its contract. Assumes nothing.
use Rattle.std.proofs.Common.{ap}
use Rattle.tally.specs.declared.Tally.{Tally}
use Rattle.stored.specs.State.{made_of}
use Rattle.host.proofs.Sizing.{sized_by}
use Rattle.host.proofs.gatekeeper_made.Goals as goal

pub returns : goal.returns
returns c = sized_by made_of _ c.in-Some.ensures.cases (ap (λ (y : Tally). y.made) c.load_tally.ensures)
