-- The loop of `replay::records`: its invariant, and what falls at each turn. Assumes nothing.
use mathlib.Core.Path.{◌≡◌}
use Rattle.replay.specs.Replay.{largest_journal}
use Prim.Native.Nat.{◌-◌, ◌≤◌}
use lib.ListN.{length}
use Rattle.gatekeeper.specs.View.{view, Honest, Right}
use Rattle.tally.specs.Counting.{counts_of}
use Rattle.replay.specs.Stage.{Going}
use Rattle.replay.proofs.records.Given as goal

abbrev pub invariant-loop-start : goal.invariant-loop-start
invariant-loop-start l = ((length l.journal ≤ largest_journal) × Right l.m × Honest l.m × (l.m.sure ≡ 1)) × Going l.journal l.initial.out l.out (view l.m) (counts_of l.tally) l.at l.position l.used

abbrev pub decreases-loop-start : goal.decreases-loop-start
decreases-loop-start l = length l.journal - l.at
