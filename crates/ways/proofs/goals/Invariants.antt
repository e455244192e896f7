-- `ways::goals` meets its contract. Assumes nothing.
use Rattle.labels.specs.Codes.{coded}
use Rattle.ways.specs.Working.{Aimed}
use Rattle.ways.proofs.goals.Given as goal

abbrev pub invariant-loop-i : goal.invariant-loop-i
invariant-loop-i l = Aimed l.fn.objects (coded l.fn.label) l.r l.i
