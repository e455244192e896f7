-- `groups::leads` meets its contract. Assumes nothing.
use Rattle.groups.proofs.Leading.{Led}
use Rattle.groups.proofs.leads.Given as goal

abbrev pub invariant-loop-s : goal.invariant-loop-s
invariant-loop-s l = Led l.x-items l.groups l.first l.r l.s
