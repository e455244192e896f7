-- `passes::listed` meets its contract. Assumes nothing.
use mathlib.Core.Path.{◌∙◌, ap}
use native.Mathlib.Omega.{arith}
use Rattle.passes.proofs.Listing.{nowhere, leave_as, put_as}
use Rattle.passes.proofs.listed.Goals as goal
use Rattle.passes.proofs.listed.Goals.{then-h-ne-EMPTY, else-h-ne-EMPTY}

pub loop-i-preserved : goal.loop-i-preserved
loop-i-preserved c =
    let a = c.args in
    let v = c.loop-i.invariant in
    elim c.if-h-ne-EMPTY.branch [
      | then-h-ne-EMPTY w ↦ put_as _ v (ap (λ z. z.items) w.edges-is ∙ w.push.ensures.items) (grind arith, grind arith)
      | else-h-ne-EMPTY w ↦ leave_as v (ap (λ z. z.items) w.edges-is) (nowhere a.leads a.handles c.loop-i.i (grind arith))
    ]
