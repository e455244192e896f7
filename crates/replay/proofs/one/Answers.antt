-- `replay::one` meets its contract. Assumes nothing.
use mathlib.Core.Path.{refl, subst}
use Rattle.model.specs.Calls.{refused}
use Rattle.journal.specs.Answers.{Said}
use Rattle.answers.specs.Telling.{told}
use Rattle.replay.specs.One.{One}
use Rattle.replay.proofs.one.Goals as goal

pub returns-in-Ok : goal.returns-in-Ok
returns-in-Ok c =
    let a = c.args in
    let k = c.counted_call-c in
    subst (λ (s : Said). One a.m a.tally s c.in-Ok.call.code (told k.result.reply.answer) k.result.reply.monitor k.result.tally)
    c.in-Ok.ensures
    (refl, k.ensures.0, k.ensures.1)

pub returns-in-Err-Unknown : goal.returns-in-Err-Unknown
returns-in-Err-Unknown c =
    let a = c.args in
    subst (λ (s : Said). One a.m a.tally s c.in-Err-Unknown.code (refused 1) a.m a.tally) (rw c.in-Err-Unknown.field-0-is at c.in-Err-Unknown.ensures) (refl, refl, refl, refl)

pub returns-in-Err-Malformed : goal.returns-in-Err-Malformed
returns-in-Err-Malformed c =
    let a = c.args in
    subst (λ (s : Said). One a.m a.tally s c.in-Err-Malformed.code (refused 12) a.m a.tally) (rw c.in-Err-Malformed.field-0-is at c.in-Err-Malformed.ensures) (refl, refl, refl, refl)
