-- `gatekeeper::Monitor::write` meets its contract. Assumes nothing.
use borrow.Author.Rules.{rules}
use mathlib.Core.Path.{◌≡◌, ◌∙◌, ap, ap₂}
use mathlib.Core.Bool.{Bool, not, ◌||◌}
use Prim.Native.Nat.{ℕ}
use Rattle.model.specs.Label.{Label, leq}
use Rattle.model.specs.Calls.{outcome}
use Rattle.gatekeeper.proofs.Acting.{stops}
use Rattle.gatekeeper.proofs.Owned.{owned_long}
use Rattle.gatekeeper.proofs.Storing.{writes}
use Rattle.gatekeeper.proofs.Monitor.write.Goals as goal

pub returns-in-Err : goal.returns-in-Err
returns-in-Err c = λ w. stops (c.in-Err.ensures _ _ _ w c.subject-x.ensures c.handle-h.ensures) c.refuse.ensures

pub returns : goal.returns
returns c =
    λ w.
    let z = c.in_default.ensures _ _ _ w c.subject-x.ensures c.handle-h.ensures in
    let sank = c.is_less-sank.ensures ∙ ap₂ (λ (i j : Label). not (leq i j)) c.object_label-2.ensures c.object_label.ensures in
    let either : c.if-sank.fell ≡ (c.is_less-sank.result || c.is_lower-lower.result) = search rules in
    writes _ (owned_long _ c.well_formed.0) _ _ _ _ _ _ _ _ _ _ w z.said c.subject-x.ensures c.handle-h.ensures c.object-y.ensures.is
    (rw c.label.ensures at c.sunken-put.ensures) c.reread-readers.ensures.tables c.reread-readers.ensures.live c.is_lower-lower.ensures c.with_object-rest.ensures
    (c.not_refused.ensures ∙ ap₂ (λ (b : Bool) (k : ℕ). outcome b c.sunken-put.result.level k) (either ∙ ap (λ (b : Bool). b || c.is_lower-lower.result) sank) c.lost-lost.ensures)
