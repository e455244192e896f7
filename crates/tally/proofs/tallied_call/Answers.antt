-- `tally::tallied_call` meets its contract. Assumes nothing.
use Rattle.std.proofs.Common.{◌+◌, sym, refl, ap, ◌∙◌}
use Rattle.model.specs.Tables.{clean}
use Rattle.model.specs.Calls.{decode}
use Rattle.model.specs.Tally.{wrapped}
use Rattle.answers.specs.Telling.{told}
use Rattle.gatekeeper.specs.View.{view, direct_of}
use Rattle.tally.specs.Counting.{counts_of}
use Rattle.tally.proofs.Counting.{makes_is, removes_is, tally_same, tally_moved, not_refused}
use Rattle.tally.proofs.tallied_call.Goals as goal

pub returns-then-is_refused : goal.returns-then-is_refused
returns-then-is_refused c =
    let a = c.args in
    let k = c.call-reply in (
      k.ensures,
      record {
        same = λ n q. refl;
        counts = λ h. tally_same (told k.result.answer) (clean (view a.monitor)) (decode (direct_of a.call))
            (counts_of a.tally) (k.ensures.answered h) (sym c.is_refused.ensures ∙ c.if-is_refused.true);
      },
    )

pub returns : goal.returns
returns c =
    let a = c.args in
    let k = c.call-reply in
    let t = clean (view a.monitor) in (
      k.ensures,
      record {
        same = λ n q. absurd (not_refused (told k.result.answer) n q (sym c.is_refused.ensures ∙ c.if-is_refused.false));
        counts = λ h. tally_moved (told k.result.answer) t (decode (direct_of a.call)) (counts_of a.tally) _ _
            (k.ensures.answered h) (sym c.is_refused.ensures ∙ c.if-is_refused.false)
            (ap (λ n. wrapped (a.tally.made + n)) (c.made_by.ensures h ∙ sym (makes_is t a.call.code a.call.numbers.a a.call.numbers.b a.call.numbers.c a.call.numbers.d a.call.numbers.e a.call.numbers.f)))
            (ap (λ n. wrapped (a.tally.gone + n)) (c.gone_by.ensures h ∙ sym (removes_is t a.call.code a.call.numbers.a a.call.numbers.b a.call.numbers.c a.call.numbers.d a.call.numbers.e a.call.numbers.f)));
      },
    )
