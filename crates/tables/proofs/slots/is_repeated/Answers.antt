-- `tables::slots::is_repeated` meets its contract. Assumes nothing.
use mathlib.Core.Path.{refl, ◌∙◌}
use native.Mathlib.Omega.{arith}
use borrow.Author.Tests.{tests, ne_eqb}
use Rattle.std.proofs.Common.{rules, get_or}
use Rattle.std.proofs.lemmas.Iterator.{YieldsList-from_range}
use Rattle.std.proofs.lemmas.Iterator.Search.{any_from_yields_List}
use Rattle.tables.proofs.Below.{any_below}
use Rattle.tables.proofs.Seating.{hit}
use Rattle.tables.proofs.slots.is_repeated.Goals as goal

pub returns-then-objects-i-ne-FREE : goal.returns-then-objects-i-ne-FREE
returns-then-objects-i-ne-FREE c =
    let a = c.args in
    rw (ne_eqb _ _ c.if-objects-i-ne-FREE.true) (any_from_yields_List (hit a.objects a.numbers (get_or a.numbers a.i 0)) _ _ _ c.any.ensures.ran
    (YieldsList-from_range 0 a.i a.i refl (omega arith)) (λ x b q k. search (rules, tests)) ∙ any_below a.i (hit a.objects a.numbers (get_or a.numbers a.i 0)))
