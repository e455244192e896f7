-- `gatekeeper::Monitor::exec` meets its contract. Assumes nothing.
use mathlib.Core.Path.{◌∙◌, ap₂}
use mathlib.Core.Bool.{Bool, not}
use Prim.Native.Nat.{ℕ}
use Rattle.model.specs.Label.{Label, leq}
use Rattle.model.specs.Calls.{outcome}
use Rattle.gatekeeper.proofs.Acting.{stops, ends}
use Rattle.gatekeeper.proofs.Owned.{owned_long, remains_long}
use Rattle.gatekeeper.proofs.Storing.{exec_late, execs}
use Rattle.gatekeeper.proofs.Monitor.exec.Goals as goal

pub returns-in-Err : goal.returns-in-Err
returns-in-Err c = λ w. stops (c.in-Err.ensures _ _ _ w c.subject-x.ensures c.object-y.ensures.stands) c.refuse.ensures

pub returns-in-Err-last : goal.returns-in-Err-last
returns-in-Err-last c =
    λ w.
    let y = c.object-y.ensures.stands in
    let z = c.in_default.ensures _ _ _ w c.subject-x.ensures y in
    ends (c.in-Err-last.ensures _ _ z (exec_late _ (owned_long _ c.well_formed.0) _ _ _ _ _ _ w z y c.alone-a.ensures.tables c.figures-needs.ensures _ _ _
    c.need-need.ensures c.object_label.ensures c.is_less-short.ensures)) c.refuse-in-Err-last.ensures

pub returns : goal.returns
returns c =
    λ w.
    let g = owned_long _ c.well_formed.0 in
    let y = c.object-y.ensures.stands in
    let z = c.in_default.ensures _ _ _ w c.subject-x.ensures y in
    let e = c.in_default-last.ensures _ _ z (exec_late _ g _ _ _ _ _ _ w z y c.alone-a.ensures.tables c.figures-needs.ensures _ _ _
    c.need-need.ensures c.object_label.ensures c.is_less-short.ensures) in
    let sank = c.is_less-sank.ensures ∙ ap₂ (λ (i j : Label). not (leq i j)) c.subject_label-2.ensures c.subject_label.ensures in
    execs _ g _ _ _ _ _ _ w z y c.alone-a.ensures.tables c.figures-needs.ensures _ _ _ _ _ (remains_long c.alone-a.result c.alone-a.type_inv)
    c.alone-a.ensures.own c.subject-x.ensures e.is (rw c.label.ensures at c.fallen-put.ensures) c.with_subject-ran.ensures
    (c.not_refused.ensures ∙ ap₂ (λ (b : Bool) (k : ℕ). outcome b c.fallen-put.result.level k) sank c.lost-lost.ensures) c.reaped-left.ensures
