-- `mappings::readers` meets its contract. Assumes nothing.
use mathlib.Core.Bool.{◌&&◌}
use Prim.Native.Nat.{◌/◌, ◌%◌}
use lib.ListN.{get_or}
use lib.Dec.{eqb}
use Rattle.tables.specs.Records.{no_handle}
use Rattle.handles.specs.Working.{Hits}
use Rattle.mappings.specs.Working.{maps_on}
use Rattle.mappings.proofs.readers.Given as goal

abbrev pub invariant-loop-i : goal.invariant-loop-i
invariant-loop-i l = Hits (λ j s. maps_on (get_or l.h-items j no_handle) l.o && eqb (get_or l.leads (j / 16) 0 % 32) s) 32 l.r l.i
