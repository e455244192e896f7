-- `gatekeeper::Monitor::read` meets its contract. Assumes nothing.
use mathlib.Core.Path.{◌∙◌, ap}
use Rattle.model.specs.Calls.{outcome}
use Rattle.gatekeeper.proofs.Acting.{stops}
use Rattle.gatekeeper.proofs.Owned.{owned_long}
use Rattle.gatekeeper.proofs.Storing.{reads}
use Rattle.gatekeeper.proofs.Monitor.read.Goals as goal

pub returns-in-Err : goal.returns-in-Err
returns-in-Err c = λ w. stops (c.in-Err.ensures _ _ _ w c.subject-x.ensures c.handle-h.ensures) c.refuse.ensures

pub returns : goal.returns
returns c =
    λ w.
    let z = c.in_default.ensures _ _ _ w c.subject-x.ensures c.handle-h.ensures in
    reads _ (owned_long _ c.well_formed.0) _ _ _ _ _ _ _ _ _ w z.said c.subject-x.ensures c.handle-h.ensures c.object-y.ensures.stands
    (rw c.label.ensures at c.fallen-put.ensures) (rw c.label-2.ensures at c.taken-t.ensures.tables, (c.taken-t.ensures.lower, c.taken-t.ensures.live))
    (c.not_refused.ensures ∙ ap (outcome c.taken-t.result.lower c.fallen-put.result.level) c.lost-lost.ensures)
