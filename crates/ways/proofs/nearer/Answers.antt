-- `ways::nearer` meets its contract. Assumes nothing.
use native.Mathlib.Omega.{arith}
use mathlib.Core.Path.{sym}
use lib.ListN.{get_or}
use Rattle.std.proofs.lemmas.List.{get_or-map}
use Rattle.ways.proofs.Nearing.{keep_at, shrink_at, neared_as}
use Rattle.ways.proofs.nearer.Goals as goal
use Rattle.ways.proofs.nearer.Goals.{then-far-ne0+then-near-far, else-far-ne0, else-far-ne0-via-then-far-ne0+else-near-far, else-far-ne0-via-else-far-ne0}

pub loop-e-preserved : goal.loop-e-preserved
loop-e-preserved c =
    let es = c.args.arcs.now in
    let i = c.loop-e.e-index in
    let r = c.e-item.result in
    let e = get_or es i r in
    let p = c.loop-e.invariant in
    let from = sym (get_or-map (λ x. x.from) es i r 0 (omega arith)) in
    let to = sym (get_or-map (λ x. x.to) es i r 0 (omega arith)) in
    elim c.if-far-ne0.branch [
      | then-far-ne0+then-near-far w ↦ neared_as w.dist-is w.fell-is
          (shrink_at _ _ _ _ _ _ p e.from e.to from to c.loop-e-test.true (omega (arith, c.told-dist, p.falls.long, e.starts)) (omega (arith, w.if-near-far.true)))
      | else-far-ne0 w ↦ neared_as w.dist-is w.fell-is (keep_at _ _ _ _ _ _ p e.from e.to from to
          (elim w.else-far-ne0.branch [
            | else-far-ne0-via-then-far-ne0+else-near-far u ↦ omega (arith, u.if-near-far.false)
            | else-far-ne0-via-else-far-ne0 u ↦ omega (arith, u.if-far-ne0.false)
          ]))
    ]
