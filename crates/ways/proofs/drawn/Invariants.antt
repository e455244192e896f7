-- `ways::drawn` meets its contract. Assumes nothing.
use Rattle.ways.specs.Working.{Drawn}
use Rattle.ways.proofs.drawn.Given as goal

abbrev pub invariant-loop-i : goal.invariant-loop-i
invariant-loop-i l = Drawn l.fn.leads l.fn.handles l.arcs l.i
