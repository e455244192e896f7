-- `ways::nearest` meets its contract. Assumes nothing.
use Rattle.ways.specs.Paths.{Stands}
use Rattle.ways.specs.Working.{Below}
use Rattle.ways.proofs.Finding.{Says}
use Rattle.ways.proofs.nearest.Given as goal

abbrev pub invariant-loop-x : goal.invariant-loop-x
invariant-loop-x l = Says l.fn.objects l.fn.leads l.fn.handles (Below l.x (Stands l.fn.subjects l.fn.objects)) l.best
