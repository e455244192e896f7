-- `host::gatekeeper_call` meets its contract. Assumes nothing.
use Rattle.std.proofs.Common.{ap, ◌∙◌}
use Rattle.stored.specs.State.{monitor_of, tally_of}
use Rattle.host.proofs.Calling.{made, granted_so, denied_so, granted_by_letter, denied_by_letter, called_refused, called_moved, called_unsized}
use Rattle.host.proofs.gatekeeper_call.Goals as goal
use Rattle.host.proofs.gatekeeper_call.Goals.{then-is_ok, else-is_ok}

pub returns-in_default : goal.returns-in_default
returns-in_default c = called_unsized _ _ c.in_default.ensures.cases

pub returns : goal.returns
returns c =
    let h = c.in-Some.ensures.cases in
    let k = c.lent_call-reply.ensures in
    let p = made c.args.state.now (c.load_monitor-monitor.ensures ∙ ap monitor_of h.same) (c.load_tally-tally.ensures ∙ ap tally_of h.same) k.0 k.1 in
    let n = c.to_number.ensures in
    elim c.if-is_ok.branch [
      | then-is_ok w ↦ called_moved p h.long n.number n.back (search (granted_so, granted_by_letter)) w.state-is w.store.ensures
      | else-is_ok w ↦ called_refused p h.long n.number n.back (search (denied_so, denied_by_letter)) (w.state-is ∙ h.same)
    ]
