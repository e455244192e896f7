-- `host::seen::gatekeeper_subject_need` meets its contract. Assumes nothing.
use Rattle.std.proofs.Common.{ap, ◌∙◌, ◌<◌, arith}
use Rattle.gatekeeper.proofs.Keeping.{subject_dead, subject_told}
use Rattle.gatekeeper.specs.View.{once, kept_need}
use Rattle.gatekeeper.proofs.Telling.{subject_need}
use Rattle.stored.specs.State.{monitor_of, needs_of}
use Rattle.host.specs.Numbers.{seen_label}
use Rattle.host.proofs.Sizing.{array_sized, sized_by}
use Rattle.host.proofs.Seeing.{need_seen, objects_long, state_wf, subject_slot, subject_right}
use Rattle.host.proofs.seen.gatekeeper_subject_need.Goals as goal

pub returns-then-subject_in-eq0 : goal.returns-then-subject_in-eq0
returns-then-subject_in-eq0 c =
    let k = c.in-Some.ensures.cases in
    let t = c.in-Some.state.now in
    let size = array_sized k in
    let w = state_wf t size in
    let told = subject_need (monitor_of t) (objects_long t size) w c.args.s 0 (subject_dead (once (monitor_of t)) w c.args.s c.subject_in.result (subject_slot t size c.args.s _ c.subject_in.ensures) c.if-subject_in-eq0.true) in
    record {
      kept = sized_by (λ u. seen_label (kept_need (monitor_of u) c.args.s)) 0 k (ap seen_label told.0);
      right = λ h. subject_right k 0 _ (λ r. told.1 r);
    }

pub returns : goal.returns
unfolding needs_of
returns c =
    let k = c.in-Some.ensures.cases in
    let t = c.in-Some.state.now in
    let size = array_sized k in
    let w = state_wf t size in
    let n = c.one_in.result in
    let small : n < 65536 = omega arith in
    let told =
    subject_need (monitor_of t) (objects_long t size) w c.args.s n (subject_told (once (monitor_of t)) w c.args.s c.subject_in.result (subject_slot t size c.args.s _ c.subject_in.ensures) n c.if-subject_in-eq0.false (c.one_in.ensures 0)) in
    record {
      kept = sized_by (λ u. seen_label (kept_need (monitor_of u) c.args.s)) 0 k (c.number_of.ensures ∙ ap seen_label told.0);
      right = λ h. subject_right k _ _ (λ r. need_seen n _ small c.number_of.ensures ∙ told.1 r);
    }
