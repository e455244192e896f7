-- `passes::pass` meets its contract. Assumes nothing.
use mathlib.Core.Path.{◌≡◌}
use mathlib.Core.Bool.{◌||◌}
use Prim.Native.Nat.{◌+◌, ◌<◌}
use native.Mathlib.Omega.{arith}
use lib.ListN.{length, get_or, length-take, length-drop}
use lib.Seq.{get_or-take, get_or-drop}
use Rattle.passes.specs.Least.{Before, Passed}
use Rattle.passes.specs.Listing.{start_at, end_at}
use Rattle.passes.proofs.Raising.{start, taken_at, noted, unnoted, next_before, all_done}
use Rattle.passes.proofs.Listing.{at_index}
use Rattle.passes.proofs.pass.Goals as goal
use Rattle.passes.proofs.pass.Goals.{then-taken, else-taken}

pub loop-e-init : goal.loop-e-init
loop-e-init c = start _ _ _ _ (Before 0) (λ i h. omega arith)

pub loop-e-preserved : goal.loop-e-preserved
loop-e-preserved c =
    let es = c.args.edges.now in
    let e = c.e-item.result in
    let i = c.loop-e.e-index in
    let is : e ≡ get_or es i e = grind (arith, get_or-take, get_or-drop) in
    let low : i < length es = grind (arith, length-take, length-drop) in
    let p : Passed (length es) (start_at es) (end_at es) c.args.figures.now c.taken.new.figures (Before (i + 1)) (c.loop-e.grew || c.taken.result) = taken_at _ _ _ _ _ i _ _ _ c.loop-e.invariant (next_before i) e.from e.to _ _ (at_index (λ x. x.from) es i e is low)
    (at_index (λ x. x.to) es i e is low) c.taken.ensures low (omega (arith, c.loop-e.invariant.between.long, e.starts)) in
    elim c.if-taken.branch [
      | then-taken w ↦ noted c.loop-e.grew w.if-taken.true w.grew-is p
      | else-taken w ↦ unnoted c.loop-e.grew w.if-taken.false w.grew-is p
    ]

pub returns : goal.returns
returns c = all_done (λ i h. grind (arith, length-take, length-drop)) c.loop-e.invariant
