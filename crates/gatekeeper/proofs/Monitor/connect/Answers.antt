-- `gatekeeper::Monitor::connect` meets its contract. Assumes nothing.
use Rattle.gatekeeper.proofs.Acting.{stops, ends}
use Rattle.gatekeeper.proofs.Owned.{owned_long}
use Rattle.gatekeeper.proofs.Storing.{connect_late, connects}
use Rattle.gatekeeper.proofs.Monitor.connect.Goals as goal

pub returns-in-Err : goal.returns-in-Err
returns-in-Err c = λ w room. stops (c.in-Err.ensures _ w c.subject-x.ensures c.subject-z.ensures c.object-y.ensures.stands c.object-v.ensures.stands
    c.handle-h.ensures c.handle-k.ensures c.handle-i.ensures c.handle-j.ensures room) c.refuse.ensures

pub returns-in-Err-last : goal.returns-in-Err-last
returns-in-Err-last c =
    λ w room.
    let z = c.in_default.ensures _ w c.subject-x.ensures c.subject-z.ensures c.object-y.ensures.stands c.object-v.ensures.stands
    c.handle-h.ensures c.handle-k.ensures c.handle-i.ensures c.handle-j.ensures room in
    ends (c.in-Err-last.ensures _ _ z (connect_late _ (owned_long _ c.well_formed.0) _ _ _ _ _ _ _ _ _ _ _ _ _ w z room c.subject-x.ensures c.subject-z.ensures
    c.with_ends-joined.ensures c.with_ends-next.ensures c.with_object-one.ensures c.with_object-both.ensures c.figures-needs.ensures _
    c.is_short-short.ensures)) c.refuse-in-Err-last.ensures

pub returns : goal.returns
returns c =
    λ w room.
    let g = owned_long _ c.well_formed.0 in
    let z = c.in_default.ensures _ w c.subject-x.ensures c.subject-z.ensures c.object-y.ensures.stands c.object-v.ensures.stands
    c.handle-h.ensures c.handle-k.ensures c.handle-i.ensures c.handle-j.ensures room in
    connects _ g _ _ _ _ _ _ _ _ _ _ _ _ _ w z room c.subject-x.ensures c.subject-z.ensures c.with_ends-joined.ensures c.with_ends-next.ensures
    c.with_object-one.ensures c.with_object-both.ensures c.figures-needs.ensures
    (c.in_default-last.ensures _ _ z (connect_late _ g _ _ _ _ _ _ _ _ _ _ _ _ _ w z room c.subject-x.ensures c.subject-z.ensures
    c.with_ends-joined.ensures c.with_ends-next.ensures c.with_object-one.ensures c.with_object-both.ensures c.figures-needs.ensures _
    c.is_short-short.ensures)).is
