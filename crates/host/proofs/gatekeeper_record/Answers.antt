-- `host::gatekeeper_record` meets its contract. Assumes nothing.
use mathlib.Core.Path.{◌∙◌, ap, sym}
use Rattle.std.specs.Prelude.{Err}
use Rattle.journal.specs.declared.RecordError.{RecordError}
use Rattle.journal.specs.Answers.{record_answer}
use mathlib.Core.List.{[], ◌∷◌}
use Prim.Native.Nat.{ℕ, zero, suc}
use mir.Val.{Fits}
use mir.Syntax.{w64}
use native.Mathlib.Omega.{arith}
use Rattle.number.specs.Leb.{AtMost, largest}
use Rattle.host.specs.Numbers.{record_number}
use Rattle.host.proofs.Answering.{record_roomy}
use Rattle.host.proofs.gatekeeper_record.Goals as goal

-- the six numbers are 64-bit ones
numbers : {a b c d e f : ℕ} → Fits w64 a → Fits w64 b → Fits w64 c → Fits w64 d → Fits w64 e → Fits w64 f → AtMost largest (a ∷ b ∷ c ∷ d ∷ e ∷ f ∷ [])
numbers ga gb gc gd ge gf zero = omega (arith, ga.fits)
numbers ga gb gc gd ge gf (suc zero) = omega (arith, gb.fits)
numbers ga gb gc gd ge gf (suc (suc zero)) = omega (arith, gc.fits)
numbers ga gb gc gd ge gf (suc (suc (suc zero))) = omega (arith, gd.fits)
numbers ga gb gc gd ge gf (suc (suc (suc (suc zero)))) = omega (arith, ge.fits)
numbers ga gb gc gd ge gf (suc (suc (suc (suc (suc zero))))) = omega (arith, gf.fits)
numbers ga gb gc gd ge gf (suc (suc (suc (suc (suc (suc i)))))) = omega arith

pub overflow_add-result : goal.overflow_add-result
overflow_add-result c = omega (arith, c.in-Ok.ensures.short)

pub returns-in-Ok : goal.returns-in-Ok
returns-in-Ok c =
    let w = c.in-Ok.ensures in
    let answered = ap record_number w.answer in
    record {
      answer = answered;
      buffer = w.buffer;
      room = λ h. answered ∙ record_roomy _ _ _ (numbers c.ranges.a c.ranges.b c.ranges.c c.ranges.d c.ranges.e c.ranges.f) h;
    }

pub returns-in-Err-UnknownCode : goal.returns-in-Err-UnknownCode
returns-in-Err-UnknownCode c =
    let w = c.in-Err-UnknownCode.ensures in
    let answered = ap (λ (e : RecordError). record_number (record_answer (Err e))) (sym c.in-Err-UnknownCode.field-0-is) ∙ ap record_number w.answer in
    record {
      answer = answered;
      buffer = w.buffer;
      room = λ h. answered ∙ record_roomy _ _ _ (numbers c.ranges.a c.ranges.b c.ranges.c c.ranges.d c.ranges.e c.ranges.f) h;
    }

pub returns-in-Err-TooLong : goal.returns-in-Err-TooLong
returns-in-Err-TooLong c =
    let w = c.in-Err-TooLong.ensures in
    let answered = ap (λ (e : RecordError). record_number (record_answer (Err e))) (sym c.in-Err-TooLong.field-0-is) ∙ ap record_number w.answer in
    record {
      answer = answered;
      buffer = w.buffer;
      room = λ h. answered ∙ record_roomy _ _ _ (numbers c.ranges.a c.ranges.b c.ranges.c c.ranges.d c.ranges.e c.ranges.f) h;
    }
