-- `groups::taken` meets its contract. Assumes nothing.
use mathlib.Core.Bool.{◌&&◌}
use lib.ListN.{get_or}
use lib.Dec.{eqb}
use Rattle.handles.specs.Working.{Hits}
use Rattle.groups.specs.Groups.{stands}
use Rattle.groups.proofs.taken.Given as goal

abbrev pub invariant-loop-s : goal.invariant-loop-s
invariant-loop-s l = Hits (λ j v. stands l.x-items j && eqb (get_or l.groups j 0) v) 256 l.r l.s
