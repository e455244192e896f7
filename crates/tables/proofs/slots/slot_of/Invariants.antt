-- `tables::slots::slot_of` meets its contract. Assumes nothing.
use mathlib.Core.Path.{◌≡◌}
use Prim.Native.Nat.{ℕ, ◌<◌}
use lib.Dec.{T}
use lib.ListN.{get_or}
use Rattle.tables.specs.Slots.{slot_used}
use Rattle.tables.proofs.slots.slot_of.Given as goal

abbrev pub invariant-loop-i : goal.invariant-loop-i
invariant-loop-i l = (j : ℕ) → j < l.i → T (slot_used l.objects j) → get_or l.numbers j 0 ≡ l.o → ⊥
