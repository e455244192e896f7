-- `ways::way_from` meets its contract. Assumes nothing.
use native.Mathlib.Omega.{arith}
use Rattle.ways.proofs.Finding.{sloped, far_found, walked_found}
use Rattle.ways.proofs.way_from.Goals as goal

pub returns-then-far-gt-STEPS : goal.returns-then-far-gt-STEPS
returns-then-far-gt-STEPS c = far_found c.drawn-arcs.ensures c.goals.ensures c.distances-dist.ensures _ _ _ _ _ c.no_way.ensures c.if-far-gt-STEPS.true

pub walk-requires : goal.walk-requires
walk-requires c = record {
  sloped = sloped c.drawn-arcs.ensures c.goals.ensures c.distances-dist.ensures;
  low = c.requires.low;
  near = omega (arith, c.if-far-gt-STEPS.false);
}

pub returns : goal.returns
returns c =
    walked_found c.drawn-arcs.ensures c.goals.ensures c.distances-dist.ensures _ _ _ _ _ c.requires.low c.requires.off
    (omega (arith, c.if-far-gt-STEPS.false)) c.walk.ensures
