-- `tables::slots::free_slot` meets its contract. Assumes nothing.
use mathlib.Core.Path.{◌≡◌}
use Prim.Native.Nat.{ℕ, ◌<◌}
use lib.Dec.{T}
use Rattle.tables.specs.Slots.{slot_used}
use Rattle.tables.proofs.slots.free_slot.Given as goal

abbrev pub invariant-loop-i : goal.invariant-loop-i
invariant-loop-i l = (j : ℕ) → j < l.i → (j ≡ l.but → ⊥) → T (slot_used l.fn.objects j)
