-- `gatekeeper::Monitor::register` meets its contract. Assumes nothing.
use Rattle.gatekeeper.proofs.Acting.{stops}
use Rattle.gatekeeper.proofs.Owned.{owned_long}
use Rattle.gatekeeper.proofs.Storing.{registers}
use Rattle.gatekeeper.proofs.Monitor.register.Goals as goal

pub returns-in-Err : goal.returns-in-Err
returns-in-Err c = λ w room. stops (c.in-Err.ensures _ w c.object-y.ensures.stands room) c.refuse.ensures

pub returns : goal.returns
returns c = λ w room. registers _ (owned_long _ c.well_formed.0) _ _ _ _ _ _ w (c.in_default.ensures _ w c.object-y.ensures.stands room).said room c.with_object-after.ensures
    c.object_label.ensures c.with_need-needs.ensures
