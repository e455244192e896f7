-- `gatekeeper::Monitor::handle` meets its contract. Assumes nothing.
use Rattle.gatekeeper.proofs.Owned.{owned_long}
use Rattle.gatekeeper.proofs.Storing.{handle_got}
use Rattle.gatekeeper.proofs.Monitor.handle.Goals as goal

pub returns : goal.returns
returns c = handle_got c.args.self (owned_long c.args.self c.well_formed.0) c.args.s c.args.p c.handle_of.result c.handle_of.ensures
