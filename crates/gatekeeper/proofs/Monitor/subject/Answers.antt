-- `gatekeeper::Monitor::subject` meets its contract. Assumes nothing.
use Rattle.gatekeeper.proofs.Owned.{owned_long}
use Rattle.gatekeeper.proofs.Storing.{subject_got}
use Rattle.gatekeeper.proofs.Monitor.subject.Goals as goal

pub returns : goal.returns
returns c = subject_got c.args.self (owned_long c.args.self c.well_formed.0) c.args.s c.subject_of.result c.subject_of.ensures
