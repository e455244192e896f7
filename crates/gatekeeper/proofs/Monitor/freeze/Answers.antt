-- `gatekeeper::Monitor::freeze` meets its contract. Assumes nothing.
use Rattle.gatekeeper.proofs.Acting.{stops}
use Rattle.gatekeeper.proofs.Owned.{owned_long}
use Rattle.gatekeeper.proofs.Storing.{freezes}
use Rattle.gatekeeper.proofs.Monitor.freeze.Goals as goal

pub returns-in-Err : goal.returns-in-Err
returns-in-Err c = λ w. stops (c.in-Err.ensures _ w) c.refuse.ensures

pub returns : goal.returns
returns c = λ w. freezes _ (owned_long _ c.well_formed.0) _ w (c.in_default.ensures _ w).said
