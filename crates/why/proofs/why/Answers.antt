-- `why::why` meets its contract. Assumes nothing.
use mathlib.Core.Path.{sym, ◌∙◌, subst}
use native.Mathlib.Omega.{arith}
use Rattle.model.specs.Tables.{clean}
use Rattle.model.specs.Calls.{decode}
use Rattle.answers.specs.Telling.{told}
use Rattle.gatekeeper.specs.View.{view, direct_of}
use Rattle.gatekeeper.proofs.Lifting.{lifted}
use Rattle.gatekeeper.proofs.Owned.{owned_long}
use Rattle.why.specs.Why.{Explains}
use Rattle.why.proofs.Telling.{told_few}
use Rattle.why.proofs.Explaining.{apart, explained, answered_nine, answered_other}
use Rattle.why.proofs.why.Goals as goal

pub returns-then-not-is_nine : goal.returns-then-not-is_nine
returns-then-not-is_nine c =
    let a = c.args in
    let r = c.call-reply.result in record {
      few = rw c.none.ensures (omega arith);
      explains = λ h. subst (Explains (clean (view a.m)) (decode (direct_of a.call))) (sym c.none.ensures)
          (answered_other a.m r.monitor (decode (direct_of a.call)) (told r.answer) h c.call-reply.ensures
          (sym c.is_nine.ensures ∙ c.if-not-is_nine.true));
    }

pub returns : goal.returns
returns c =
    let a = c.args in
    let m = a.m in
    let g = owned_long m c.well_formed.0 in
    let t = c.assured-t.result in
    let s = c.located-s.result in
    let l = c.located-s.ensures in
    let n = a.call.numbers in
    let w = c.behind.result in
    let r = c.call-reply.result in
    let k = decode (direct_of a.call) in
    let j = decode (direct_of s.call) in
    let d = apart m t g.objects c.assured-t.ensures in record {
      few = rw c.numbered.ensures (told_few t.numbers w);
      explains = λ h. subst (Explains (clean (view m)) k) (sym c.numbered.ensures)
          (explained m t g.objects c.assured-t.ensures k j s.numbers (lifted _ _ _ a.call s.call l.rest (l.lift n.e n.f d))
          (answered_nine m r.monitor k (told r.answer) h c.call-reply.ensures (sym c.is_nine.ensures ∙ c.if-not-is_nine.false)) w c.behind.ensures);
    }
