-- `gatekeeper::Monitor::need_of_subject` meets its contract. Assumes nothing.
use mathlib.Core.Path.{◌≡◌, refl, ◌∙◌}
use Prim.Native.Nat.{ℕ}
use Rattle.model.specs.Flow.{subject}
use Rattle.tables.specs.Records.{tables_of}
use Rattle.gatekeeper.specs.declared.Monitor.{Monitor}
use Rattle.gatekeeper.specs.View.{slots, once}
use Rattle.gatekeeper.proofs.Owned.{owned_long}
use Rattle.gatekeeper.proofs.Numbered.{once_long}
use Rattle.gatekeeper.proofs.Keeping.{read_wf, subject_dead, subject_told}
use Rattle.gatekeeper.proofs.Telling.{subject_need}
use Rattle.gatekeeper.proofs.Monitor.need_of_subject.Goals as goal

-- the subjects stand where they stood
unmoved : (m : Monitor) (s : ℕ) → (slots (once m)).at (subject s) ≡ (slots m).at (subject s)
unfolding tables_of
unmoved m s = refl

pub returns-then-x-eq0 : goal.returns-then-x-eq0
returns-then-x-eq0 c =
    let m = c.args.self in
    let g = owned_long m c.well_formed.0 in
    let w = read_wf (once m) (once_long m g) in
    let z = subject_need m g.objects w c.args.s 0 (subject_dead (once m) w _ c.subject-x.result (unmoved m c.args.s ∙ c.subject-x.ensures) c.if-x-eq0.true) in
    record { kept = z.0; right = z.1 }

pub returns : goal.returns
returns c =
    let m = c.args.self in
    let g = owned_long m c.well_formed.0 in
    let w = read_wf (once m) (once_long m g) in
    let z = subject_need m g.objects w c.args.s c.need.result (subject_told (once m) w _ c.subject-x.result (unmoved m c.args.s ∙ c.subject-x.ensures) _
    c.if-x-eq0.false c.need.ensures) in
    record { kept = z.0; right = z.1 }
