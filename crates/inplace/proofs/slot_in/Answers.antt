-- `inplace::slot_in` meets its contract. Assumes nothing.
use Rattle.std.proofs.Common.{◌≡◌, ℕ, T, get_or, refl, inl, inr, arith}
use Rattle.tables.specs.Slots.{slot_used}
use Rattle.tables.proofs.Seating.{here, missed, further}
use Rattle.inplace.specs.Bytes.{objects_in}
use Rattle.inplace.proofs.slot_in.Goals as goal

pub returns-then-is_at : goal.returns-then-is_at
returns-then-is_at c =
    let a = c.args in record {
      is = inl (here (objects_in a.objects.now) a.numbers.now a.o a.o _ _ c.is_at.ensures c.if-is_at.true refl);
    }

pub loop-i-init : goal.loop-i-init
loop-i-init c = (omega arith, λ j h. absurd (omega arith))

pub returns-then-is_at-2 : goal.returns-then-is_at-2
returns-then-is_at-2 c =
    let a = c.args in
    let i = c.loop-i.i in
    record { is = inl (here (objects_in a.objects.now) a.numbers.now a.o i i _ c.is_at-in-loop-i.ensures c.if-is_at-2.true (omega (arith, c.loop-i-test.true))) }

pub loop-i-preserved : goal.loop-i-preserved
loop-i-preserved c =
    let a = c.args in
    let i = c.loop-i.i in (
      omega arith,
      further (λ (j : ℕ). T (slot_used (objects_in a.objects.now) j) → get_or a.numbers.now j 0 ≡ a.o → ⊥) i c.loop-i.invariant.1
          (missed (objects_in a.objects.now) a.numbers.now a.o i _ (omega arith) c.is_at-in-loop-i.ensures c.if-is_at-2.false),
    )

pub returns : goal.returns
returns c = record { is = inr (λ j l. c.loop-i.invariant.1 j (omega arith), refl) }
