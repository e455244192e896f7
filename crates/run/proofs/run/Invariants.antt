-- `run::run` meets its contract. Assumes nothing.
use mathlib.Core.Path.{◌≡◌}
use Prim.Native.Nat.{◌*◌, ◌≤◌}
use lib.ListN.{length}
use Rattle.gatekeeper.specs.View.{view, Honest, Right}
use Rattle.run.specs.Buffers.Laws.{SoFar}
use Rattle.run.proofs.run.Given as goal

abbrev pub invariant-loop-i : goal.invariant-loop-i
invariant-loop-i l = (l.i ≤ l.n) × (l.n * 7 ≤ length l.calls) × (l.n * 3 ≤ length l.initial.out) × (length l.out ≡ length l.initial.out) × SoFar l.calls l.initial.out l.out l.i (view l.m) × Right l.m × Honest l.m × (l.m.sure ≡ 1)
