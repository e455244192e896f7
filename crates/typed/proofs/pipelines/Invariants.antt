-- `typed::pipelines` meets its contract. Assumes nothing.
use Rattle.std.proofs.Common.{length}
use Rattle.typed.specs.Working.{Going}
use Rattle.typed.proofs.pipelines.Given as goal

abbrev pub invariant-loop-behind : goal.invariant-loop-behind
invariant-loop-behind l = Going l.first.shell l.first.child l.first.pipe l.line l.initial.h l.h l.rest

abbrev pub decreases-loop-behind : goal.decreases-loop-behind
decreases-loop-behind l = length l.rest
