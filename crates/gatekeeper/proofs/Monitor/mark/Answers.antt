-- `gatekeeper::Monitor::mark` meets its contract. Assumes nothing.
use Rattle.gatekeeper.proofs.Acting.{stops}
use Rattle.gatekeeper.proofs.Owned.{owned_long}
use Rattle.gatekeeper.proofs.Storing.{marks}
use Rattle.gatekeeper.proofs.Monitor.mark.Goals as goal

pub returns-in-Err : goal.returns-in-Err
returns-in-Err c = λ w. stops (c.in-Err.ensures _ _ _ w c.subject-x.ensures c.handle-h.ensures).1 c.refuse.ensures

pub returns : goal.returns
returns c = λ w. marks _ (owned_long _ c.well_formed.0) _ _ _ _ _ w (c.in_default.ensures _ _ _ w c.subject-x.ensures c.handle-h.ensures).1.said c.subject-x.ensures c.handle-h.ensures
    c.with_handle-all.ensures
