-- `tables::slots::from_on` meets its contract. Assumes nothing.
use mathlib.Core.Path.{◌≡◌, refl}
use native.Mathlib.Omega.{arith}
use borrow.Author.Tests.{tests}
use Rattle.std.proofs.Common.{rules}
use Rattle.tables.proofs.Seating.{nearer, no_nearer, first_of}
use Rattle.tables.proofs.slots.from_on.Goals as goal
use Rattle.tables.proofs.slots.from_on.Goals.{then-objects-i-ne-FREE+then-o-n+then-is_none_or, else-objects-i-ne-FREE, else-objects-i-ne-FREE-via-then-objects-i-ne-FREE+then-o-n+else-is_none_or, else-objects-i-ne-FREE-via-then-objects-i-ne-FREE+else-o-n, else-objects-i-ne-FREE-via-else-objects-i-ne-FREE}

pub loop-i-preserved : goal.loop-i-preserved
loop-i-preserved c =
    let a = c.args in
    let v = c.loop-i in
    elim c.if-objects-i-ne-FREE.branch [
      | then-objects-i-ne-FREE+then-o-n+then-is_none_or w ↦ rw w.nearest-is (nearer a.objects a.numbers a.o v.i _ refl v.nearest v.invariant (search (rules, tests)) (omega (arith, w.if-o-n.true)) (λ r q. search (rules, tests)))
      | else-objects-i-ne-FREE w ↦ rw w.nearest-is (no_nearer a.objects a.numbers a.o v.i _ refl v.nearest v.invariant (λ u l. elim w.else-objects-i-ne-FREE.branch [
        | else-objects-i-ne-FREE-via-then-objects-i-ne-FREE+then-o-n+else-is_none_or z ↦ (λ q. search (rules, tests), λ r q. search (rules, tests))
        | else-objects-i-ne-FREE-via-then-objects-i-ne-FREE+else-o-n z ↦ absurd (omega arith)
        | else-objects-i-ne-FREE-via-else-objects-i-ne-FREE z ↦ absurd (search (rules, tests))
      ]))
    ]

pub returns : goal.returns
returns c =
    let a = c.args in
    let e : c.loop-i.i ≡ 64 = omega arith in
    rw c.unwrap_or.ensures (first_of a.objects a.numbers a.o c.loop-i.nearest (rw e at c.loop-i.invariant))
