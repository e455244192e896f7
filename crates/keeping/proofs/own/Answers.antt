-- `keeping::own` meets its contract. Assumes nothing.
use mathlib.Core.Path.{◌≡◌, ◌∙◌, ap}
use Prim.Native.Nat.{ℕ, ◌+◌, ◌%◌}
use mathlib.Core.Bool.{cond}
use native.Mathlib.Omega.{arith}
use borrow.Author.Rules.{rules}
use lib.ListN.{length, get_or}
use Rattle.labels.specs.Codes.{coded}
use Rattle.labels.specs.Codes.Laws.{coded_zero}
use Rattle.tables.specs.declared.Handle.{Handle}
use Rattle.tables.specs.Working.{writes_by}
use Rattle.tables.proofs.Maps.{unmapped}
use Rattle.passes.specs.Working.{all_below}
use Rattle.keeping.proofs.Joined.{joined_more, place_at, places_long, written_by, own_is}
use Rattle.keeping.proofs.own.Goals as goal

pub loop-h-init : goal.loop-h-init
loop-h-init c = coded_zero

pub loop-h-preserved : goal.loop-h-preserved
loop-h-preserved c =
    let a = c.args in
    let l : length a.handles ≡ 512 = search (rules, unmapped) in
    joined_more _ _ c.loop-h.h-index _ _ c.loop-h.invariant
    (ap coded (c.written.ensures ∙ ap (λ (h : Handle). cond (writes_by h.way) (get_or a.n (32 + h.object % 64) 0) 0) (place_at a.handles (a.s % 32) c.loop-h.h-index l (omega arith) c.loop-h-test.true)))
    c.joined-all.ensures

pub returns : goal.returns
returns c =
    let a = c.args in
    let l : length a.handles ≡ 512 = search (rules, unmapped) in
    let e : c.loop-h.h-index ≡ 16 = omega (arith, places_long a.handles (a.s % 32) l (omega arith)) in
    λ rest ss os lo ls w k. let q : a.s % 32 ≡ a.s = omega (arith, ls) in c.loop-h.invariant
    ∙ ap (λ (i : ℕ). all_below i (λ z. coded (written_by a.n a.handles (a.s % 32) z))) e
    ∙ ap (λ (i : ℕ). all_below 16 (λ z. coded (written_by a.n a.handles i z))) q ∙ own_is rest ss os _ a.n a.s lo w k
