-- `host::behind::gatekeeper_why` meets its contract. Assumes nothing.
use Rattle.std.proofs.Common.{ap, ◌∙◌}
use Rattle.stored.specs.State.{monitor_of}
use Rattle.host.proofs.Explaining.{unsized_why, sized_why}
use Rattle.host.proofs.behind.gatekeeper_why.Goals as goal

pub returns-in_default : goal.returns-in_default
returns-in_default c = unsized_why _ c.in_default.ensures.cases

pub returns : goal.returns
returns c =
    let h = c.in-Some.ensures.cases in
    sized_why c.args.state.now h.long (c.load_monitor.ensures ∙ ap monitor_of h.same) c.told.ensures.left c.told.ensures.tells
