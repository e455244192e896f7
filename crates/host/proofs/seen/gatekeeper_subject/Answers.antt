-- `host::seen::gatekeeper_subject` meets its contract. Assumes nothing.
use Rattle.std.proofs.Common.{◌∙◌}
use Rattle.model.specs.Flow.{subject}
use Rattle.stored.specs.State.{state_view}
use Rattle.host.specs.Numbers.{seen_entry}
use Rattle.host.proofs.Sizing.{array_sized, sized_by}
use Rattle.host.proofs.Seeing.{subject_none, subject_some}
use Rattle.host.proofs.seen.gatekeeper_subject.Goals as goal

pub returns-then-x-eq0 : goal.returns-then-x-eq0
returns-then-x-eq0 c =
    let k = c.in-Some.ensures.cases in
    sized_by (λ u. seen_entry ((state_view u).at (subject c.args.s))) 0 k (subject_none _ (array_sized k) c.args.s _ c.subject_in-x.ensures c.if-x-eq0.true)

pub returns : goal.returns
returns c =
    let k = c.in-Some.ensures.cases in
    sized_by (λ u. seen_entry ((state_view u).at (subject c.args.s))) 0 k (c.packed.ensures ∙ subject_some _ (array_sized k) c.args.s _ c.subject_in-x.ensures c.if-x-eq0.false)
