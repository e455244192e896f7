-- `ways::step` meets its contract. Assumes nothing.
use native.Mathlib.Omega.{arith}
use Rattle.std.proofs.lemmas.List.{get_or-map}
use Rattle.passes.specs.Listing.{start_at, end_at}
use Rattle.ways.specs.Near.{figure}
use Rattle.ways.proofs.Walking.{scan_more}
use Rattle.ways.proofs.step.Goals as goal

pub returns-then-far-eq0 : goal.returns-then-far-eq0
returns-then-far-eq0 c = λ j l q. omega (arith, c.if-far-eq0.true)

pub loop-i-preserved : goal.loop-i-preserved
loop-i-preserved c =
    let es = c.args.arcs.now in
    let d = c.args.dist.now in
    scan_more (start_at es) (end_at es) (figure d) c.args.a c.loop-i.i c.loop-i.invariant (λ q. grind (arith, get_or-map))
