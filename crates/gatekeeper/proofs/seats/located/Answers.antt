-- `gatekeeper::seats::located` meets its contract. Assumes nothing.
use Rattle.std.proofs.Common.{arith, rules, ◌≡◌, length, refl}
use Rattle.model.specs.Calls.{register, retire, decode}
use Rattle.model.specs.Label.{label}
use Rattle.gatekeeper.proofs.Lifting.{only_one, lift_noted, lift_rest, lift_named, lift_made, lift_second_named, lift_second_made, lift_both}
use Rattle.gatekeeper.proofs.seats.located.Goals as goal

pub returns-in-2-clause-lift : goal.returns-in-2-clause-lift
unfolding decode
returns-in-2-clause-lift c e f =
    let a = c.args in
    let n = a.call.numbers in
    let lo : length a.objects ≡ 64 = omega arith in
    let ln : length a.numbers ≡ 64 = omega arith in
    rw c.in-2.is (λ dd. lift_noted (search rules) (lift_made a.objects a.numbers lo ln dd (λ o. register o (label n.b n.c)) n.a c.makes-call.result
    c.makes-call.ensures.seat (λ ρ σ v l j. refl) (λ t i h. only_one _ _ h) (λ t r. r)))

pub returns-in-3-clause-lift : goal.returns-in-3-clause-lift
returns-in-3-clause-lift c e f =
    let a = c.args in
    let n = a.call.numbers in
    let lo : length a.objects ≡ 64 = omega arith in
    let ln : length a.numbers ≡ 64 = omega arith in
    λ dd. lift_noted (search rules) (lift_second_made a.objects a.numbers lo ln dd a.call.code n.a n.b n.c n.d e f c.makes-call-in-3.result
    (λ k. omega arith) c.makes-call-in-3.ensures.seat)

pub returns-in-5-clause-lift : goal.returns-in-5-clause-lift
returns-in-5-clause-lift c e f =
    let a = c.args in
    let n = a.call.numbers in
    let lo : length a.objects ≡ 64 = omega arith in
    let ln : length a.numbers ≡ 64 = omega arith in
    λ dd. lift_second_named a.objects a.numbers lo ln dd a.call.code n.a n.b n.c n.d e f c.slot_of-call-in-5.result (λ x y z. grind arith) c.slot_of-call-in-5.ensures

pub returns-in-13-clause-lift : goal.returns-in-13-clause-lift
unfolding decode
returns-in-13-clause-lift c e f =
    let a = c.args in
    let n = a.call.numbers in
    let lo : length a.objects ≡ 64 = omega arith in
    let ln : length a.numbers ≡ 64 = omega arith in
    rw c.in-13.is (λ dd. lift_named a.objects a.numbers lo ln dd (λ o. retire o) n.a c.slot_of-call.result c.slot_of-call.ensures (λ ρ σ v l j. refl)
    (λ t i h. h) (λ t. tt))

pub returns-in-17-clause-lift : goal.returns-in-17-clause-lift
unfolding decode
returns-in-17-clause-lift c e f =
    let a = c.args in
    let n = a.call.numbers in
    let lo : length a.objects ≡ 64 = omega arith in
    let ln : length a.numbers ≡ 64 = omega arith in
    rw (c.in-17.is, c.makes_both.ensures.noted) (λ dd. lift_both a.objects a.numbers lo ln dd n.a n.b n.c n.d c.makes_both.result.0 c.makes_both.result.1
    e f c.makes_both.ensures.seats)

pub returns-in_default-clause-lift : goal.returns-in_default-clause-lift
returns-in_default-clause-lift c e f =
    let a = c.args in
    let n = a.call.numbers in
    let lo : length a.objects ≡ 64 = omega arith in
    let ln : length a.numbers ≡ 64 = omega arith in
    λ dd. lift_rest a.objects a.numbers lo ln dd a.call.code n.a n.b n.c n.d e f
    (omega arith) (omega arith) (omega arith) (omega arith) (omega arith) (omega arith) (omega arith) (omega arith) (omega arith)

pub returns-in_default-2-clause-lift : goal.returns-in_default-2-clause-lift
returns-in_default-2-clause-lift c e f =
    let a = c.args in
    let n = a.call.numbers in
    let lo : length a.objects ≡ 64 = omega arith in
    let ln : length a.numbers ≡ 64 = omega arith in
    λ dd. lift_rest a.objects a.numbers lo ln dd a.call.code n.a n.b n.c n.d e f
    (omega arith) (omega arith) (omega arith) (omega arith) (omega arith) (grind arith) (omega arith) (grind arith) (omega arith)
