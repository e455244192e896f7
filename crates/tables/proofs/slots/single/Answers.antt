-- `tables::slots::single` meets its contract. Assumes nothing.
use mathlib.Core.Path.{◌≡◌, sym, ◌∙◌}
use mathlib.Core.Bool.{cond}
use native.Mathlib.Omega.{arith}
use borrow.Author.Tests.{tests}
use Rattle.std.proofs.Common.{rules}
use lib.ListN.{length, get_or}
use Rattle.tables.specs.Records.{no_object}
use Rattle.tables.specs.Slots.{repeated}
use Rattle.tables.proofs.Maps.{unmapped}
use Rattle.tables.proofs.Making.{made}
use Rattle.tables.proofs.Seating.{single_is, home_single}
use Rattle.tables.proofs.slots.single.Goals as goal

pub returns-then-are_home : goal.returns-then-are_home
returns-then-are_home c = home_single _ _ (search (rules, unmapped)) (c.are_home.ensures c.if-are_home.true)

pub returns : goal.returns
returns c =
    let a = c.args in
    let l : length a.objects ≡ 64 = search (rules, unmapped) in
    single_is a.objects a.numbers _ (c.from_fn.ensures.items.long ∙ sym l)
    (λ j h. made c.from_fn.ensures.items (λ i. cond (repeated a.objects a.numbers i) no_object (get_or a.objects i no_object)) (λ i r f k. search (rules, tests)) j (omega (arith, l, h)) no_object)
