-- `host::seen::store_needs` meets its contract. Assumes nothing.
use Rattle.std.proofs.Common.{arith}
use Rattle.stored.specs.State.{needs_at, need_bytes}
use Rattle.stored.proofs.Owned.{monitor_long, monitor_slim}
use Rattle.host.proofs.Seeing.{placed, count}
use Rattle.host.proofs.seen.store_needs.Goals as goal

pub returns : goal.returns
unfolding need_bytes
returns c =
    let s = c.args.state.now in
    let m = c.args.m in
    let long = (monitor_long m c.well_formed.1.0).needs in
    record {
      bytes = placed needs_at 736 (need_bytes m.needs) s _ c.told-state (omega (arith, count s m.needs c.told-state long)) c.store_part.ensures;
      all = long;
      narrow = (monitor_slim m c.well_formed.1.0).needs;
    }
