-- `keeping::beside` meets its contract. Assumes nothing.
use mathlib.Core.Path.{◌≡◌, ◌∙◌, ap}
use Prim.Native.Nat.{◌%◌}
use native.Mathlib.Omega.{arith}
use borrow.Author.Rules.{rules}
use Rattle.labels.specs.Codes.Laws.{coded_zero}
use Rattle.tables.specs.declared.Handle.{Handle}
use Rattle.tables.specs.Records.{no_object}
use Rattle.passes.specs.Working.{upheld_by, beside_of}
use lib.ListN.{length, get_or}
use Rattle.tables.proofs.Maps.{unmapped}
use Rattle.keeping.proofs.Joined.{joined_more, place_at, places_long}
use Rattle.keeping.proofs.beside.Goals as goal

pub loop-h-init : goal.loop-h-init
loop-h-init c = coded_zero

pub loop-h-preserved : goal.loop-h-preserved
loop-h-preserved c =
    let a = c.args in
    let l : length a.handles ≡ 512 = search (rules, unmapped) in
    joined_more _ _ c.loop-h.h-index _ _ c.loop-h.invariant
    (c.upheld.ensures ∙ ap (λ (h : Handle). upheld_by h (get_or a.objects (h.object % 64) no_object)) (place_at a.handles a.s c.loop-h.h-index l (omega arith) c.loop-h-test.true)) c.joined-all.ensures

pub returns : goal.returns
returns c =
    let a = c.args in
    let l : length a.handles ≡ 512 = search (rules, unmapped) in
    let e : c.loop-h.h-index ≡ 16 = omega (arith, places_long a.handles a.s l (omega arith)) in
    c.loop-h.invariant ∙ ap (beside_of a.objects a.handles a.s) e
