-- `gatekeeper::Monitor::map` meets its contract. Assumes nothing.
use mathlib.Core.Path.{◌∙◌, ap}
use Prim.Native.Nat.{◌+◌, ◌*◌, ◌%◌}
use lib.ListN.{set}
use Rattle.model.specs.Calls.{outcome}
use Rattle.gatekeeper.proofs.Acting.{stops, ends}
use Rattle.gatekeeper.proofs.Owned.{owned_long}
use Rattle.gatekeeper.proofs.Storing.{map_late, maps_acts, maps_keeps}
use Rattle.gatekeeper.proofs.Monitor.map.Goals as goal

pub returns-in-Err-clause-acts : goal.returns-in-Err-clause-acts
returns-in-Err-clause-acts c = λ firm. stops (c.in-Err.ensures _ _ _ firm.wf c.subject-x.ensures c.object-y.ensures.stands c.handle-h.ensures) c.refuse.ensures

pub returns-in-Err-last-clause-acts : goal.returns-in-Err-last-clause-acts
returns-in-Err-last-clause-acts c =
    λ firm.
    let z = c.in_default.ensures _ _ _ firm.wf c.subject-x.ensures c.object-y.ensures.stands c.handle-h.ensures in
    ends (c.in-Err-last.ensures _ _ z (map_late _ (owned_long _ c.well_formed.0) _ _ _ _ _ _ _ _ firm.wf z c.object-y.ensures.stands c.joining-opened.ensures c.with_handle-next.ensures
    c.opened-w.ensures firm.safe)) c.refuse-in-Err-last.ensures

pub returns : goal.returns
returns c =
    let a = c.args in
    let g = owned_long _ c.well_formed.0 in
    let y = c.object-y.ensures.stands in
    let all = c.with_handle-all.ensures ∙ ap (set a.self.handles (a.s % 32 * 16 + a.p % 16)) c.joining.ensures in
    record {
      acts = λ firm. let z = c.in_default.ensures _ _ _ firm.wf c.subject-x.ensures y c.handle-h.ensures in
          maps_acts _ g _ _ _ _ _ _ _ _ firm.wf z y c.joining-opened.ensures c.with_handle-next.ensures c.opened-w.ensures _ _ _ _ _ _ c.subject-x.ensures
          (c.in_default-last.ensures _ _ z (map_late _ g _ _ _ _ _ _ _ _ firm.wf z y c.joining-opened.ensures c.with_handle-next.ensures c.opened-w.ensures
          firm.safe)).is (rw c.label.ensures at c.fallen-put.ensures) (rw c.label-2.ensures at c.taken-fell.ensures.tables, (c.taken-fell.ensures.lower, c.taken-fell.ensures.live)) all
          (c.not_refused.ensures ∙ ap (outcome c.taken-fell.result.lower c.fallen-put.result.level) c.lost-lost.ensures);
      keeps = λ w. maps_keeps _ g _ _ _ _ _ _ _ _ w (c.in_default.ensures _ _ _ w c.subject-x.ensures y c.handle-h.ensures) y c.joining-opened.ensures
          c.with_handle-next.ensures c.opened-w.ensures _ _ _ (rw c.label-2.ensures at c.taken-fell.ensures.tables, (c.taken-fell.ensures.lower, c.taken-fell.ensures.live)) all;
    }
