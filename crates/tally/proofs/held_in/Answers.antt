-- `tally::held_in` meets its contract. Assumes nothing.
use Rattle.std.proofs.Common.{sym, ◌∙◌}
use Rattle.model.specs.Tables.{clean}
use Rattle.gatekeeper.specs.View.{slots, once}
use Rattle.gatekeeper.proofs.Owned.{owned_long}
use Rattle.gatekeeper.proofs.Keeping.{read_wf}
use Rattle.gatekeeper.proofs.Numbered.{once_long}
use Rattle.gatekeeper.proofs.Telling.{held_same}
use Rattle.tally.proofs.Counting.{held_as}
use Rattle.tally.proofs.held_in.Goals as goal

pub returns : goal.returns
returns c =
    let a = c.args in
    let m = a.monitor in
    let g = owned_long m c.well_formed.0 in
    λ h. c.held_by.ensures ∙ held_as (clean (slots (once m))) c.handles_by.result (c.handles_by.ensures h) a.s
    ∙ sym (held_same m g.objects (read_wf (once m) (once_long m g)) a.s)
