-- `why::behind` meets its contract. Assumes nothing.
use native.Mathlib.Omega.{arith}
use Rattle.model.specs.Calls.{decode}
use Rattle.why.proofs.Sought.{none_other}
use Rattle.why.proofs.behind.Goals as goal

pub returns-in-5 : goal.returns-in-5
unfolding decode
returns-in-5 c = rw c.in-5.is (c.behind_open.ensures (λ e. omega (arith, e)))

pub returns-in-6 : goal.returns-in-6
unfolding decode
returns-in-6 c = rw c.in-6.is (c.behind_open-in-6.ensures (λ e. omega (arith, e)))

pub returns-in-10 : goal.returns-in-10
unfolding decode
returns-in-10 c = rw c.in-10.is c.behind_exec.ensures

pub returns-in-14 : goal.returns-in-14
unfolding decode
returns-in-14 c = rw c.in-14.is (c.behind_open-in-14.ensures (λ e. omega (arith, e)))

pub returns-in-17 : goal.returns-in-17
unfolding decode
returns-in-17 c = rw c.in-17.is c.behind_connect.ensures

pub returns-in_default : goal.returns-in_default
returns-in_default c =
    let a = c.args in
    let n = a.call.numbers in
    λ rest d. absurd (none_other a.call.code n.a n.b n.c n.d n.e n.f (omega arith) (omega arith) (omega arith) (omega arith) (omega arith) _ d.nine)
