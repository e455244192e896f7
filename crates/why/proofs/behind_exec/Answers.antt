-- `why::behind_exec` meets its contract. Assumes nothing.
use mathlib.Core.Path.{refl}
use Rattle.gatekeeper.proofs.Owned.{owned_long}
use Rattle.why.proofs.Sought.{exec_tells}
use Rattle.why.proofs.behind_exec.Goals as goal

pub returns : goal.returns
returns c =
    let a = c.args in
    let m = a.m in
    let g = owned_long m c.well_formed.0 in
    λ rest d. exec_tells rest m.subjects m.groups m.objects m.handles g.subjects g.objects g.handles a.s a.o d c.alone-rest.result.subjects c.alone-rest.result.handles c.alone-rest.ensures.tables
    c.leads-leads.result c.leads-leads.ensures c.object_of.result c.object_of.ensures c.object_label-label.result c.object_label-label.ensures
    _ c.nearest_from-w.result.start c.nearest_from-w.ensures refl
