-- `flows::starts` meets its contract. Assumes nothing.
use Rattle.passes.specs.Working.{Started}
use Rattle.flows.proofs.starts.Given as goal

abbrev pub invariant-loop-i : goal.invariant-loop-i
invariant-loop-i l = Started l.fn.objects l.r l.i
