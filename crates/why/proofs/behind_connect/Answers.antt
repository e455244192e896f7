-- `why::behind_connect` meets its contract. Assumes nothing.
use Rattle.gatekeeper.proofs.Owned.{owned_long}
use Rattle.why.proofs.Sought.{connect_tells}
use Rattle.why.proofs.behind_connect.Goals as goal

pub returns : goal.returns
returns c =
    let a = c.args in
    let m = a.m in
    let g = owned_long m c.well_formed.0 in
    λ rest d. connect_tells rest m.subjects m.groups m.objects m.handles g.subjects g.objects g.handles a.s a.u a.a a.b a.p a.q d c.with_ends-joined.result c.with_ends-next.result
    c.with_ends-joined.ensures c.with_ends-next.ensures c.leads-leads.result c.leads-leads.ensures c.nearest.result c.nearest.ensures
