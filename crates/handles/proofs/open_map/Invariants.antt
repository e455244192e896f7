-- `handles::open_map` meets its contract. Assumes nothing.
use lib.ListN.{get_or}
use Rattle.tables.specs.Records.{no_handle}
use Rattle.handles.specs.Working.{on, Hits}
use Rattle.handles.proofs.open_map.Given as goal

abbrev pub invariant-loop-h : goal.invariant-loop-h
invariant-loop-h l = Hits (λ j. on (get_or l.h-items j no_handle)) 64 l.r l.h-index
