-- `journal::write_record` meets its contract: what is written is the length of the body, then the body. Assumes nothing.
use Rattle.std.proofs.Common.{ℕ, zero, suc, ◌≤◌, sym, ◌∙◌, subst, arith, length-take}
use Rattle.number.specs.Leb.{AtMost, largest}
use Rattle.calls.specs.declared.Numbers.{Numbers}
use Rattle.journal.specs.Answers.{Answer, numbers_of, length_in}
use Rattle.journal.specs.Calls.Laws.{arity_most}
use Rattle.journal.specs.Record.{longest_record}
use Rattle.journal.specs.Record.Laws.{recording_length}
use Rattle.journal.proofs.Writer.{record_refused, record_fitted, record_is}
use Rattle.journal.proofs.write_record.Goals as goal

-- each number is at most the largest
numbers : (ns : Numbers) → ns.a ≤ largest → ns.b ≤ largest → ns.c ≤ largest → ns.d ≤ largest → ns.e ≤ largest → ns.f ≤ largest
    → AtMost largest (numbers_of ns)
numbers ns a b c d e f zero = a
numbers ns a b c d e f (suc zero) = b
numbers ns a b c d e f (suc (suc zero)) = c
numbers ns a b c d e f (suc (suc (suc zero))) = d
numbers ns a b c d e f (suc (suc (suc (suc zero)))) = e
numbers ns a b c d e f (suc (suc (suc (suc (suc zero))))) = f
numbers ns a b c d e f (suc (suc (suc (suc (suc (suc i)))))) = omega arith

pub returns-then-n-eq0-clause-answer : goal.returns-then-n-eq0-clause-answer
returns-then-n-eq0-clause-answer c =
    let a = c.args in
    (record_refused a.call.code (numbers_of a.call.numbers) _ c.arity-n.ensures a.out.now c.if-n-eq0.true).0

pub returns-then-n-eq0-clause-buffer : goal.returns-then-n-eq0-clause-buffer
returns-then-n-eq0-clause-buffer c =
    let a = c.args in
    (record_refused a.call.code (numbers_of a.call.numbers) _ c.arity-n.ensures a.out.now c.if-n-eq0.true).1

pub overflow_add-body : goal.overflow_add-body
overflow_add-body c = omega (arith, c.arity-n.ensures, arity_most c.args.call.code)

pub slice_bounds-body-end : goal.slice_bounds-body-end
slice_bounds-body-end c = omega (arith, c.arity-n.ensures, arity_most c.args.call.code)

pub slice_bounds-numbers_len-end : goal.slice_bounds-numbers_len-end
slice_bounds-numbers_len-end c = simp length-take (omega (arith, c.arity-n.ensures, arity_most c.args.call.code))

pub overflow_add-all : goal.overflow_add-all
overflow_add-all c = omega (arith, c.arity-n.ensures, arity_most c.args.call.code)

pub slice_bounds-all-end : goal.slice_bounds-all-end
slice_bounds-all-end c = omega (arith, c.arity-n.ensures, arity_most c.args.call.code)

pub slice_bounds-write_all-end : goal.slice_bounds-write_all-end
slice_bounds-write_all-end c = simp length-take (omega (arith, c.arity-n.ensures, arity_most c.args.call.code))

pub returns-clause-answer : goal.returns-clause-answer
returns-clause-answer c =
    let code = c.args.call.code in
    let ns = numbers_of c.args.call.numbers in
    let len = c.numbers_len-len in
    let is = record_is code ns _ c.arity-n.ensures len.result len.ensures in
    c.write_all.ensures.answer ∙ (record_fitted code ns _ c.arity-n.ensures _ c.args.out.now c.if-n-eq0.false is).0

pub returns-clause-buffer : goal.returns-clause-buffer
returns-clause-buffer c =
    let code = c.args.call.code in
    let ns = numbers_of c.args.call.numbers in
    let len = c.numbers_len-len in
    let is = record_is code ns _ c.arity-n.ensures len.result len.ensures in
    c.write_all.ensures.buffer ∙ (record_fitted code ns _ c.arity-n.ensures _ c.args.out.now c.if-n-eq0.false is).1

pub returns-clause-short : goal.returns-clause-short
returns-clause-short c =
    let code = c.args.call.code in
    let ns = numbers_of c.args.call.numbers in
    let len = c.numbers_len-len in
    let is = record_is code ns _ c.arity-n.ensures len.result len.ensures in
    let answered = c.write_all.ensures.answer ∙ (record_fitted code ns _ c.arity-n.ensures _ c.args.out.now c.if-n-eq0.false is).0 in
    let short = recording_length code ns c.args.out.now (numbers c.args.call.numbers (omega arith) (omega arith) (omega arith) (omega arith) (omega arith) (omega arith)) in
    subst (λ (r : Answer ℕ). length_in r ≤ longest_record) (sym answered) short
