-- `gatekeeper::Monitor::pipe` meets its contract. Assumes nothing.
use Rattle.gatekeeper.proofs.Acting.{stops}
use Rattle.gatekeeper.proofs.Owned.{owned_long}
use Rattle.gatekeeper.proofs.Storing.{pipes}
use Rattle.gatekeeper.proofs.Monitor.pipe.Goals as goal

pub returns-in-Err : goal.returns-in-Err
returns-in-Err c = λ w room. stops (c.in-Err.ensures _ _ w c.subject-x.ensures c.object-y.ensures.stands c.handle-h.ensures c.handle-k.ensures room) c.refuse.ensures

pub returns : goal.returns
returns c = λ w room. pipes _ (owned_long _ c.well_formed.0) _ _ _ _ _ _ _ _ _ w (c.in_default.ensures _ _ w c.subject-x.ensures c.object-y.ensures.stands c.handle-h.ensures c.handle-k.ensures room).said room c.subject-x.ensures
    c.with_object-after.ensures c.with_ends-joined.ensures c.need-need.ensures c.with_need-needs.ensures
