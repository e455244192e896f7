-- `why::numbered` meets its contract. Assumes nothing.
use Rattle.why.proofs.Telling.{from_none, from_subject, from_object}
use Rattle.why.proofs.numbered.Goals as goal

pub returns-then-w-eq0 : goal.returns-then-w-eq0
returns-then-w-eq0 c = let a = c.args in from_none a.numbers a.w _ c.if-w-eq0.true c.none.ensures

pub returns-then-w-lt-SUBJECTS : goal.returns-then-w-lt-SUBJECTS
returns-then-w-lt-SUBJECTS c =
    let a = c.args in
    from_subject a.numbers a.w _ c.if-w-eq0.false c.if-w-lt-SUBJECTS.true c.number_of-high.ensures

pub returns : goal.returns
returns c =
    let a = c.args in
    from_object a.numbers a.w _ _ c.if-w-eq0.false c.if-w-lt-SUBJECTS.false c.number_of-high.ensures c.number_of.ensures
