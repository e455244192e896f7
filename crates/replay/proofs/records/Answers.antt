-- `replay::records` meets its contract. Assumes nothing.
use mathlib.Core.Path.{◌≡◌, sym, ◌∙◌, ap, ap₂, subst}
use Rattle.replay.specs.Replay.{answer_line, last_line}
use Rattle.replay.specs.Replay.Laws.{bad_inside, right_more, honest_more, sure_more, one_turned}
use Prim.Native.Nat.{ℕ, ◌-◌, ◌≤◌}
use native.Mathlib.Omega.{arith}
use lib.ListN.{length, take, drop}
use Rattle.model.specs.Calls.{Answer}
use Rattle.number.specs.Put.{put, fitted}
use Rattle.text.specs.Parts.Laws.{put_after}
use Rattle.text.specs.Reply.{line, ending, longest_line, longest_end}
use Rattle.journal.specs.Answers.{body}
use Rattle.journal.specs.Answers.{answers as reads}
use Rattle.journal.specs.Journal.{entry_at, body_in}
use Rattle.replay.specs.One.{One, Turned}
use Rattle.journal.specs.Journal.Laws.{entry_next}
use Rattle.answers.specs.Telling.{told, letter_of, value_of, lost_of}
use Rattle.gatekeeper.specs.View.{view}
use Rattle.tally.specs.Counting.{counts_of}
use Rattle.replay.proofs.Demand3.Laws.{run_ended}
use Rattle.replay.specs.Stage.{Stopped, going_begun, record_turn, record_ends, broken_turn, broken_ends, end_turn, ended, end_short}
use Rattle.replay.proofs.records.Goals as goal
use Rattle.replay.proofs.records.Goals.{In-Ok-Some, After-write_line, Joined-entry_at, in-Ok-None, in-Err+in-Some-write_line}

-- the line that is written is that of the answer

same_line : (p code : ℕ) (x : Answer) {letter value lost : ℕ} → letter ≡ letter_of x → value ≡ value_of x → lost ≡ lost_of x
    → line p code letter value lost ≡ answer_line p code x
same_line p code x {letter} {value} {lost} e f g =
    ap₂ (λ u v. line p code u v lost) e f ∙ ap (λ w. line p code (letter_of x) (value_of x) w) g

-- the record that was found
stands : (c : In-Ok-Some) → entry_at c.args.journal.now c.loop-start.at ≡ reads (body c.in-Ok-Some.field-0-0.start c.in-Ok-Some.field-0-0.len c.in-Ok-Some.field-0-0.next)
stands c = sym (rw c.in-Ok-Some.field-0-is at c.in-Ok-Some.ensures)

-- what it does, and the line that is written for it
turned : (c : After-write_line) → let q = c.in-Ok-Some.field-0-0 in let k = c.one-r.result in
    Turned c.loop-start.m (counts_of c.loop-start.tally) (body_in (take q.len (drop q.start c.args.journal.now))) k.code (told k.answer) k.monitor (counts_of k.tally)
turned c =
    let l = c.loop-start in
    let q = c.in-Ok-Some.field-0-0 in
    let k = c.one-r.result in
    one_turned l.m k.monitor l.tally k.tally k.code (told k.answer) (body_in (take q.len (drop q.start c.args.journal.now))) l.invariant.0.2
    (subst (λ bs. One l.m l.tally (body_in bs) k.code (told k.answer) k.monitor k.tally) c.body_at.ensures.bytes c.one-r.ensures)

line_is : (c : After-write_line) → let k = c.one-r.result in
    line c.loop-start.position k.code c.letter-letter.result c.value-value.result c.lost-lost.result ≡ answer_line c.loop-start.position k.code (told k.answer)
line_is c = same_line c.loop-start.position c.one-r.result.code (told c.one-r.result.answer) c.letter-letter.ensures c.value-value.ensures c.lost-lost.ensures

-- where the run stops, because the journal ends or a line was written for what is no record
stops : (c : Joined-entry_at)
    → Stopped c.args.journal.now c.args.out.now c.match-entry_at.out (view c.loop-start.m) (counts_of c.loop-start.tally) c.loop-start.at c.loop-start.position c.match-entry_at.used
stops c =
    let l = c.loop-start in
    let a = c.args in
    let g = l.invariant.1 in
    elim c.match-entry_at.branch [
      | in-Ok-None w ↦ rw (w.out-is, w.used-is) (end_turn a.journal.now a.out.now l.out l.at l.position l.used l.m (counts_of l.tally) g
          (sym (rw w.in-Ok-None.field-0-is at w.in-Ok-None.ensures)))
      | in-Err+in-Some-write_line w ↦
          let e = sym w.in-Err.ensures in
          let v = w.write_line-in-Err in
          rw (w.out-is, w.used-is) (broken_turn a.journal.now a.out.now l.out l.at l.position l.used l.m (counts_of l.tally) g e (bad_inside _ _ _ e)
          v.ensures.short v.new.out w.in-Some-write_line.n w.in-Some-write_line.ensures.answer v.ensures.buffer)
    ]

pub loop-start-init : goal.loop-start-init
loop-start-init c =
    let a = c.args in
    ((c.requires, c.empty-m.ensures.needs, c.empty-m.ensures.honest, c.empty-m.ensures.sure), going_begun a.journal.now a.out.now (view c.empty-m.result) c.empty-m.ensures.tables)

pub loop-start-preserved : goal.loop-start-preserved
loop-start-preserved c =
    let l = c.loop-start in
    let a = c.args in
    let q = c.in-Ok-Some.field-0-0 in
    let e = stands ((goal.at.loop-start-preserved c).In-Ok-Some) in
    let k = c.one-r in
    let w = c.write_line in
    let x = told k.result.answer in
    let h = (goal.at.loop-start-preserved c).After-write_line in
    let o = turned h in
    let is = line_is h in
    let thin = subst (λ y. length y ≤ longest_line) is w.ensures.short in
    let rest = take (length l.out - l.used) (drop l.used l.out) in (
      (
        l.invariant.0.0,
        right_more l.m k.result.monitor (counts_of l.tally) (counts_of k.result.tally) k.result.code x
            (body_in (take q.len (drop q.start a.journal.now))) o l.invariant.0.1,
        honest_more l.m k.result.monitor (counts_of l.tally) (counts_of k.result.tally) k.result.code x
            (body_in (take q.len (drop q.start a.journal.now))) o l.invariant.0.2,
        sure_more l.m k.result.monitor (counts_of l.tally) (counts_of k.result.tally) k.result.code x
            (body_in (take q.len (drop q.start a.journal.now))) o l.invariant.0.3,
      ),
      record_turn a.journal.now a.out.now l.out l.at l.position l.used l.m (counts_of l.tally) l.invariant.1 q.start q.len q.next e
          k.result.monitor (counts_of k.result.tally) k.result.code x o thin w.new.out c.in-Some.n
          (c.in-Some.ensures.answer ∙ ap (λ y. fitted y rest) is) (w.ensures.buffer ∙ ap (λ y. put y rest) is),
    )

pub loop-start-smaller : goal.loop-start-smaller
loop-start-smaller c =
    let e = entry_next _ _ _ _ _ (stands ((goal.at.loop-start-smaller c).In-Ok-Some)) in
    omega (arith, e.0, e.1)

pub overflow_add-used : goal.overflow_add-used
overflow_add-used c =
    let g = c.loop-start.invariant.1 in
    let w = c.write_line in
    omega (arith, (put_after g.stage.over _ w.new.out c.in-Some.n c.in-Some.ensures.answer w.ensures.buffer).within, c.well_formed)

pub returns-in_default-clause-text : goal.returns-in_default-clause-text
returns-in_default-clause-text c =
    let l = c.loop-start in
    let a = c.args in
    let q = c.in-Ok-Some.field-0-0 in
    let e = stands ((goal.at.returns-in_default-clause-text c).In-Ok-Some) in
    let k = c.one-r in
    let w = c.write_line in
    let x = told k.result.answer in
    let h = (goal.at.returns-in_default-clause-text c).After-write_line in
    let o = turned h in
    let is = line_is h in
    let rest = take (length l.out - l.used) (drop l.used l.out) in
    let thin = subst (λ y. length y ≤ longest_line) is w.ensures.short in
    record_ends a.journal.now a.out.now l.out l.at l.position l.used l.m (counts_of l.tally) l.invariant.1 q.start q.len q.next e
    k.result.monitor (counts_of k.result.tally) k.result.code x o thin l.invariant.0.0 w.new.out
    (c.in_default.ensures.answer ∙ ap (λ y. fitted y rest) is) (w.ensures.buffer ∙ ap (λ y. put y rest) is)

pub overflow_add-used-in-Err : goal.overflow_add-used-in-Err
overflow_add-used-in-Err c =
    let g = c.loop-start.invariant.1 in
    let w = c.write_line-in-Err in
    omega (arith, (put_after g.stage.over _ w.new.out c.in-Some-write_line.n c.in-Some-write_line.ensures.answer w.ensures.buffer).within, c.well_formed)

pub returns-in_default-write_line-clause-text : goal.returns-in_default-write_line-clause-text
returns-in_default-write_line-clause-text c =
    let l = c.loop-start in
    let a = c.args in
    let e = sym c.in-Err.ensures in
    let w = c.write_line-in-Err in
    broken_ends a.journal.now a.out.now l.out l.at l.position l.used l.m (counts_of l.tally) l.invariant.1 e (bad_inside _ _ _ e)
    w.ensures.short l.invariant.0.0 w.new.out c.in_default-write_line.ensures.answer w.ensures.buffer

pub slice_bounds-write_end-count : goal.slice_bounds-write_end-count
slice_bounds-write_end-count c =
    let o = (stops ((goal.at.slice_bounds-write_end-count c).Joined-entry_at)).stage.over in
    omega (arith, o.within, o.size)

pub slice_bounds-write_end-start : goal.slice_bounds-write_end-start
slice_bounds-write_end-start c =
    let o = (stops ((goal.at.slice_bounds-write_end-start c).Joined-entry_at)).stage.over in
    omega (arith, o.within, o.size)

pub overflow_add-result : goal.overflow_add-result
overflow_add-result c =
    let g = stops ((goal.at.overflow_add-result c).Joined-entry_at) in
    let w = c.write_end in
    omega (arith, (put_after g.stage.over _ w.new.out c.in-Some-write_end.n c.in-Some-write_end.ensures.answer w.ensures.buffer).within, c.well_formed)

pub returns-clause-text : goal.returns-clause-text
returns-clause-text c =
    let l = c.loop-start in
    let a = c.args in
    let j = c.match-entry_at in
    let g = stops ((goal.at.returns-clause-text c).Joined-entry_at) in
    let w = c.write_end in
    let is : ending l.tally.made l.tally.gone c.open_now.result ≡ last_line (counts_of l.tally) = ap (λ d. ending l.tally.made l.tally.gone d) c.open_now.ensures in
    let rest = take (length j.out - j.used) (drop j.used j.out) in
    ended a.journal.now a.out.now j.out g.next j.used (view l.m) (counts_of l.tally) g.stage w.new.out c.in-Some-write_end.n
    (c.in-Some-write_end.ensures.answer ∙ ap (λ y. fitted y rest) is) (w.ensures.buffer ∙ ap (λ y. put y rest) is)

pub returns-clause-end : goal.returns-clause-end
returns-clause-end c k z =
    let l = c.loop-start in
    let g = stops ((goal.at.returns-clause-end c).Joined-entry_at) in
    run_ended c.args.journal.now l.invariant.0.0 (view l.m) (counts_of l.tally) g.stage.leads g.stage.counts

pub returns-in_default-write_end-clause-text : goal.returns-in_default-write_end-clause-text
returns-in_default-write_end-clause-text c =
    let l = c.loop-start in
    let a = c.args in
    let j = c.match-entry_at in
    let g = stops ((goal.at.returns-in_default-write_end-clause-text c).Joined-entry_at) in
    let w = c.write_end in
    let is : ending l.tally.made l.tally.gone c.open_now.result ≡ last_line (counts_of l.tally) = ap (λ d. ending l.tally.made l.tally.gone d) c.open_now.ensures in
    let rest = take (length j.out - j.used) (drop j.used j.out) in
    let thin = subst (λ y. length y ≤ longest_end) is w.ensures.short in
    end_short a.journal.now a.out.now j.out (view l.m) (counts_of l.tally) l.at l.position j.used g thin l.invariant.0.0 w.new.out
    (c.in_default-write_end.ensures.answer ∙ ap (λ y. fitted y rest) is) (w.ensures.buffer ∙ ap (λ y. put y rest) is)
