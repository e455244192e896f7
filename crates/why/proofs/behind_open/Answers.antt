-- `why::behind_open` meets its contract. Assumes nothing.
use Prim.Native.Nat.{◌+◌, ◌*◌, ◌%◌}
use mathlib.Core.Path.{◌∙◌, ap}
use lib.ListN.{set}
use Rattle.tables.specs.declared.Handle.{Handle}
use Rattle.gatekeeper.proofs.Owned.{owned_long}
use Rattle.why.proofs.Sought.{open_tells}
use Rattle.why.proofs.behind_open.Goals as goal

pub returns : goal.returns
returns c =
    let a = c.args in
    let m = a.m in
    let g = owned_long m c.well_formed.0 in
    λ n rest. open_tells rest m.subjects m.groups m.objects m.handles g.subjects g.objects g.handles a.way a.s a.o a.p n c.with_handle-next.result
    (c.with_handle-next.ensures ∙ ap (λ (h : Handle). set m.handles (a.s % 32 * 16 + a.p % 16) h) c.joining.ensures) c.leads-leads.result c.leads-leads.ensures
    c.nearest.result c.nearest.ensures
