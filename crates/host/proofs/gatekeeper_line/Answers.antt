-- `host::gatekeeper_line` meets its contract. Assumes nothing.
use Rattle.std.proofs.Common.{ap, ◌∙◌}
use Rattle.stored.specs.State.{monitor_of, tally_of}
use Rattle.host.proofs.Typing.{types_still, types_moved}
use Rattle.host.proofs.gatekeeper_line.Goals as goal
use Rattle.host.proofs.gatekeeper_line.Goals.{then-out, else-out}

pub returns : goal.returns
returns c =
    let h = c.in-Some.ensures.cases in
    let r = c.counted_line-out in
    let em = c.load_monitor-monitor.ensures ∙ ap monitor_of h.same in
    let ey = c.load_tally-tally.ensures ∙ ap tally_of h.same in
    elim c.if-out.branch [
      | then-out w ↦ types_moved _ _ _ _ _ _ _ _ em ey r.ensures h.long w.if-out.true w.state-is w.store.ensures
      | else-out w ↦ types_still _ _ _ _ _ _ _ _ em ey r.ensures h.long w.if-out.false (w.state-is ∙ h.same)
    ]
