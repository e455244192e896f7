-- `host::seen::gatekeeper_put_right` meets its contract. Assumes nothing.
use Rattle.std.proofs.Common.{List, ℕ, subst}
use Rattle.stored.specs.State.{PutRight}
use Rattle.host.proofs.Sizing.{array_sized}
use Rattle.host.proofs.Seeing.{put_right}
use Rattle.host.proofs.seen.gatekeeper_put_right.Goals as goal

pub returns-clause-bytes : goal.returns-clause-bytes
returns-clause-bytes c =
    let k = c.in-Some.ensures.cases in
    let n = c.store_needs.ensures in
    λ _. subst (λ (s : List ℕ). PutRight s c.store_needs.new.state) k.same
    (put_right _ _ c.load_monitor.result c.righted-righted.result (array_sized k) c.load_monitor.ensures c.righted-righted.ensures n.all n.narrow n.bytes)
