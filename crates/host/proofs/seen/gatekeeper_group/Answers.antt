-- `host::seen::gatekeeper_group` meets its contract. Assumes nothing.
use Rattle.std.proofs.Common.{sym, ◌∙◌, subst₂, List, ℕ}
use Rattle.tables.specs.declared.Subject.{Subject}
use Rattle.groups.specs.Groups.{kin_of, Leads}
use Rattle.stored.specs.State.{state_bytes, groups_at, subjects_of, groups_of, state_view}
use Rattle.stored.proofs.Loading.{in_part}
use Rattle.host.specs.Numbers.{seen_group}
use Rattle.host.proofs.Sizing.{array_sized, sized_by}
use Rattle.host.proofs.Seeing.{group_none, group_lowest}
use Rattle.host.proofs.seen.gatekeeper_group.Goals as goal

pub returns-then-subject_in-eq0 : goal.returns-then-subject_in-eq0
returns-then-subject_in-eq0 c =
    let k = c.in-Some.ensures.cases in
    sized_by (λ u. seen_group (state_view u) c.args.s) 0 k (sym (group_none _ (array_sized k) c.args.s _ c.subject_in.ensures c.if-subject_in-eq0.true))

pub returns : goal.returns
unfolding subjects_of groups_of
returns c =
    let k = c.in-Some.ensures.cases in
    let t = c.in-Some.state.now in
    let leads =
    subst₂ (λ (ss : List Subject) (gs : List ℕ). Leads (kin_of ss gs) c.leads-leads.result) (c.load_part-subjects.ensures ∙ in_part _ _ _ 0 state_bytes t (array_sized k))
    (c.load_part-groups.ensures ∙ in_part _ _ _ groups_at 32 t (array_sized k)) c.leads-leads.ensures in
    sized_by (λ u. seen_group (state_view u) c.args.s) 0 k
    (c.packed.ensures ∙ sym (group_lowest t (array_sized k) c.args.s _ c.subject_in.ensures c.leads-leads.result c.if-subject_in-eq0.false leads))
