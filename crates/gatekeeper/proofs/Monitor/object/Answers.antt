-- `gatekeeper::Monitor::object` meets its contract. Assumes nothing.
use Rattle.gatekeeper.proofs.Owned.{owned_long}
use Rattle.gatekeeper.proofs.Storing.{object_got}
use Rattle.gatekeeper.proofs.Monitor.object.Goals as goal

pub returns-clause-stands : goal.returns-clause-stands
returns-clause-stands c = object_got c.args.self (owned_long c.args.self c.well_formed.0) c.args.o c.object_of.result c.object_of.ensures
