-- `inplace::slot_in` meets its contract. Assumes nothing.
use Rattle.std.proofs.Common.{◌≡◌, ℕ, ◌-◌, ◌<◌, ◌≤◌, T, get_or}
use Rattle.tables.specs.Slots.{slot_used}
use Rattle.inplace.specs.Bytes.{objects_in}
use Rattle.inplace.proofs.slot_in.Given as goal

abbrev pub invariant-loop-i : goal.invariant-loop-i
invariant-loop-i l = (l.i ≤ 64) × ((j : ℕ) → j < l.i → T (slot_used (objects_in l.objects) j) → get_or l.numbers j 0 ≡ l.o → ⊥)

abbrev pub decreases-loop-i : goal.decreases-loop-i
decreases-loop-i l = 64 - l.i
