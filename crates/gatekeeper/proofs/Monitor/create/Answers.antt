-- `gatekeeper::Monitor::create` meets its contract. Assumes nothing.
use Rattle.gatekeeper.proofs.Acting.{stops}
use Rattle.gatekeeper.proofs.Owned.{owned_long}
use Rattle.gatekeeper.proofs.Storing.{creates}
use Rattle.gatekeeper.proofs.Monitor.create.Goals as goal

pub returns-in-Err : goal.returns-in-Err
returns-in-Err c = λ w room. stops (c.in-Err.ensures _ _ w c.subject-x.ensures c.object-y.ensures.stands room) c.refuse.ensures

pub returns : goal.returns
returns c = λ w room. creates _ (owned_long _ c.well_formed.0) _ _ _ _ _ _ w (c.in_default.ensures _ _ w c.subject-x.ensures c.object-y.ensures.stands room).said room c.subject-x.ensures
    c.with_object-after.ensures c.subject_label.ensures c.with_need-needs.ensures
