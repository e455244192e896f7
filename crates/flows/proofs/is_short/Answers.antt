-- `flows::is_short` meets its contract. Assumes nothing.
use mathlib.Core.Path.{◌∙◌}
use native.Mathlib.Omega.{arith}
use borrow.Author.Rules.{rules}
use lib.ListN.{length-take, length-drop}
use lib.Seq.{get_or-take, get_or-drop}
use Rattle.tables.proofs.Maps.{unmapped}
use Rattle.flows.proofs.Short.{first_found, subjects_as, objects_as, short_first, short_second}
use Rattle.flows.proofs.is_short.Goals as goal

pub returns-then-some_short : goal.returns-then-some_short
returns-then-some_short c =
    let a = c.args in
    let q = first_found a.subjects a.n c.some_short.ensures (search (rules, length-take, length-drop)) (search (rules, length-take, length-drop))
    (λ i l. (grind (arith, length-take, get_or-take, get_or-drop), grind (arith, get_or-take, get_or-drop))) c.if-some_short.true in
    λ rest hs w d. c.if-some_short.true ∙ short_first rest _ _ hs a.n w d (search (rules, unmapped)) q

pub returns-else-some_short : goal.returns-else-some_short
returns-else-some_short c =
    let a = c.args in
    let q = subjects_as a.subjects a.n c.some_short.ensures (search (rules, length-take, length-drop)) (search (rules, length-take, length-drop))
    (λ i l. (grind (arith, get_or-take, get_or-drop), grind (arith, get_or-take, get_or-drop))) in
    let r = objects_as a.objects a.n c.some_short-else-some_short.ensures (search (rules, length-take, length-drop)) (search (rules, length-take, length-drop))
    (λ i l. (grind (arith, get_or-take, get_or-drop), search (rules, get_or-take, get_or-drop))) in
    λ rest hs w d. short_second rest _ _ hs a.n w d (search (rules, unmapped)) q r c.if-some_short.false
