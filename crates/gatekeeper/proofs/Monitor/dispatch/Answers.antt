-- `gatekeeper::Monitor::dispatch` meets its contract. Assumes nothing.
use mathlib.Core.Path.{sym, subst}
use native.Mathlib.Omega.{arith}
use Rattle.model.specs.Calls.{Call, unknown, decode}
use Rattle.model.proofs.Calls.Codes.{decode_unknown, unknown_refused}
use Rattle.answers.specs.declared.Refusal.TheVariants.{UnknownCode}
use Rattle.answers.specs.Telling.{told}
use Rattle.gatekeeper.specs.View.{slots, direct_of}
use Rattle.gatekeeper.specs.Acting.{Acts}
use Rattle.gatekeeper.proofs.Acting.{halts, both, unroomed, either}
use Rattle.gatekeeper.proofs.Monitor.dispatch.Goals as goal

pub returns-in-1 : goal.returns-in-1
unfolding decode
returns-in-1 c = rw c.in-1.is (let z = unroomed c.admit.ensures in record { acts = z.0; keeps = z.1 })

pub returns-in-2 : goal.returns-in-2
unfolding decode
returns-in-2 c = rw c.in-2.is (let z = both c.register.ensures in record { acts = z.0; keeps = z.1 })

pub returns-in-3 : goal.returns-in-3
unfolding decode
returns-in-3 c = rw c.in-3.is (let z = both c.create.ensures in record { acts = z.0; keeps = z.1 })

pub returns-in-4 : goal.returns-in-4
unfolding decode
returns-in-4 c = rw c.in-4.is (let z = both c.pipe.ensures in record { acts = z.0; keeps = z.1 })

pub returns-in-5 : goal.returns-in-5
unfolding decode
returns-in-5 c = rw c.in-5.is (let z = either (c.open.ensures.acts, c.open.ensures.keeps) in record { acts = z.0; keeps = z.1 })

pub returns-in-6 : goal.returns-in-6
unfolding decode
returns-in-6 c = rw c.in-6.is (let z = either (c.open-in-6.ensures.acts, c.open-in-6.ensures.keeps) in record { acts = z.0; keeps = z.1 })

pub returns-in-7 : goal.returns-in-7
unfolding decode
returns-in-7 c = rw c.in-7.is (let z = unroomed c.read.ensures in record { acts = z.0; keeps = z.1 })

pub returns-in-8 : goal.returns-in-8
unfolding decode
returns-in-8 c = rw c.in-8.is (let z = unroomed c.write.ensures in record { acts = z.0; keeps = z.1 })

pub returns-in-9 : goal.returns-in-9
unfolding decode
returns-in-9 c = rw c.in-9.is (let z = unroomed c.fork.ensures in record { acts = z.0; keeps = z.1 })

pub returns-in-10 : goal.returns-in-10
unfolding decode
returns-in-10 c = rw c.in-10.is (let z = unroomed c.exec.ensures in record { acts = z.0; keeps = z.1 })

pub returns-in-11 : goal.returns-in-11
unfolding decode
returns-in-11 c = rw c.in-11.is (let z = unroomed c.close.ensures in record { acts = z.0; keeps = z.1 })

pub returns-in-12 : goal.returns-in-12
unfolding decode
returns-in-12 c = rw c.in-12.is (let z = unroomed c.exit.ensures in record { acts = z.0; keeps = z.1 })

pub returns-in-13 : goal.returns-in-13
unfolding decode
returns-in-13 c = rw c.in-13.is (let z = unroomed c.retire.ensures in record { acts = z.0; keeps = z.1 })

pub returns-in-14 : goal.returns-in-14
unfolding decode
returns-in-14 c = rw c.in-14.is (let z = either (c.map.ensures.acts, c.map.ensures.keeps) in record { acts = z.0; keeps = z.1 })

pub returns-in-15 : goal.returns-in-15
unfolding decode
returns-in-15 c = rw c.in-15.is (let z = unroomed c.mark.ensures in record { acts = z.0; keeps = z.1 })

pub returns-in-16 : goal.returns-in-16
unfolding decode
returns-in-16 c = rw c.in-16.is (let z = unroomed c.freeze.ensures in record { acts = z.0; keeps = z.1 })

pub returns-in-17 : goal.returns-in-17
unfolding decode
returns-in-17 c = rw c.in-17.is (let z = both c.connect.ensures in record { acts = z.0; keeps = z.1 })

pub returns-in-18 : goal.returns-in-18
unfolding decode
returns-in-18 c = rw c.in-18.is (let z = unroomed c.thread.ensures in record { acts = z.0; keeps = z.1 })

pub returns-in_default : goal.returns-in_default
returns-in_default c =
    let a = c.args in
    let e = decode_unknown (direct_of a.call) (
      omega arith,
      (
        omega arith,
        (
          omega arith,
          (
            omega arith,
            (
              omega arith,
              (
                omega arith,
                (
                  omega arith,
                  (
                    omega arith,
                    (
                      omega arith,
                      (
                        omega arith,
                        (
                          omega arith,
                          (
                            omega arith,
                            (
                              omega arith,
                              (
                                omega arith,
                                (
                                  omega arith,
                                  (
                                    omega arith,
                                    (
                                      omega arith,
                                      (
                                        omega arith,
                                        tt,
                                      ),
                                    ),
                                  ),
                                ),
                              ),
                            ),
                          ),
                        ),
                      ),
                    ),
                  ),
                ),
              ),
            ),
          ),
        ),
      ),
    ) in
    let z = both (λ w r. subst (λ (k : Call). Acts a.self k (told c.refuse.result.answer) c.refuse.result.monitor) (sym e)
    (halts {c = unknown} {e = UnknownCode} (unknown_refused (slots a.self)) c.refuse.ensures)) in
    record { acts = z.0; keeps = z.1 }
