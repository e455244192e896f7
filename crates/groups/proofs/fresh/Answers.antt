-- `groups::fresh` meets its contract. Assumes nothing.
use Rattle.std.proofs.Common.{rules, ◌≡◌, arith, take, sym}
use Rattle.std.proofs.lemmas.List.{length-take-le}
use borrow.Author.Tests.{tests}
use mathlib.Core.Bool.{true, false}
use Rattle.std.proofs.lemmas.Iterator.{YieldsList-from_slice, IsFirst-from_position}
use Rattle.tables.proofs.Maps.{unmapped}
use Rattle.groups.proofs.Counting.{first_low, first_free}
use Rattle.groups.proofs.fresh.Goals as goal

pub slice_bounds-iter-end : goal.slice_bounds-iter-end
slice_bounds-iter-end c = sym (length-take-le 32 c.taken-used.result (omega (arith, c.taken-used.ensures.long)))

pub overflow_cast-result : goal.overflow_cast-result
overflow_cast-result c = let a = c.args in
    let e = IsFirst-from_position _ _ c.position-lowest.result (λ u. u ≡ false) (λ u. u ≡ true) c.position-lowest.ensures.ran
    (YieldsList-from_slice (take 32 c.taken-used.result) cc) (λ x q k. search (rules, tests)) (λ x q k. search (rules, tests)) in
    let l = first_low a.subjects a.groups c.taken-used.result c.taken-used.ensures (search (rules, unmapped)) c.position-lowest.result e in
    record { fits = omega (arith, l, c.unwrap_or.ensures) }

pub returns : goal.returns
returns c = let a = c.args in
    let e = IsFirst-from_position _ _ c.position-lowest.result (λ u. u ≡ false) (λ u. u ≡ true) c.position-lowest.ensures.ran
    (YieldsList-from_slice (take 32 c.taken-used.result) cc) (λ x q k. search (rules, tests)) (λ x q k. search (rules, tests)) in
    rw c.unwrap_or.ensures (first_free a.subjects a.groups c.taken-used.result c.taken-used.ensures (search (rules, unmapped)) c.position-lowest.result e)
