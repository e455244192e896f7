-- `ways::nearest` meets its contract. Assumes nothing.
use mathlib.Core.Path.{sym, subst}
use Prim.Native.Nat.{◌+◌}
use native.Mathlib.Omega.{arith}
use Rattle.ways.specs.Paths.{Stands}
use Rattle.ways.specs.Working.{Below}
use Rattle.ways.proofs.Finding.{Says, none_found, found_by, best_found}
use Rattle.ways.proofs.nearest.Goals as goal

pub loop-x-init : goal.loop-x-init
loop-x-init c = none_found _ _ _ _ c.no_way-best.ensures (λ x a m. omega (arith, m.0))

pub loop-x-preserved : goal.loop-x-preserved
loop-x-preserved c =
    let a = c.args in
    let x = c.loop-x.x in
    subst (Says a.objects a.leads a.handles (Below (x + 1) (Stands a.subjects a.objects))) (sym c.shorter-best.ensures) (best_found x _ _ c.loop-x.invariant c.way_of.ensures)

pub returns : goal.returns
returns c =
    let a = c.args in
    let x = c.loop-x.x in
    found_by {may = Below x (Stands a.subjects a.objects)} {may' = Stands a.subjects a.objects} (λ y b m. m.1)
    (λ y b m. (omega (arith, m.low, c.loop-x-test.false), m)) c.loop-x.invariant
