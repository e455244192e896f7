-- `flows::spread` meets its contract. Assumes nothing.
use lib.ListN.{get_or}
use Rattle.tables.proofs.Maps.{Mapped}
use Rattle.passes.specs.Working.{lead_of}
use Rattle.flows.proofs.spread.Given as goal

abbrev pub invariant-loop-s : goal.invariant-loop-s
invariant-loop-s l = Mapped 0 (λ j x. get_or l.n (lead_of l.fn.leads j) 0) l.n l.r l.s
