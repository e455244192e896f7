-- `typed::stages` meets its contract. Assumes nothing.
use Rattle.std.proofs.Common.{◌≡◌, ◌-◌, ◌<◌, ℕ, get_or, length, sym, ◌∙◌, subst, arith}
use mathlib.Core.Option.{some}
use Rattle.model.specs.Lists.{each}
use Rattle.lines.specs.Line.{all}
use Rattle.lines.specs.Line.{Stage as Stage-read}
use Rattle.lines.specs.Reading.{staged}
use Rattle.lines.specs.Told.{stage_of, ending}
use Rattle.lines.specs.Calls.{counted_from, stage_calls, no_stage}
use Rattle.typed.specs.Working.{Works}
use Rattle.typed.specs.Working.Laws.{works_none, works_more}
use Rattle.typed.proofs.Places.{left_all, next_read, next_is, left_next, is_read, same_many}
use Rattle.typed.proofs.stages.Goals as goal

pub loop-i-init : goal.loop-i-init
loop-i-init c = λ p e w. (left_all p e _ w, works_none c.args.hand)

pub unwrap-requires : goal.unwrap-requires
unwrap-requires c =
    let g = c.requires in
    let under : c.loop-i.i < length (all g.stages) = omega (arith, g.many, c.loop-i-test.true) in
    let x = next_read g.stages g.behind _ _ (c.loop-i.invariant g.stages g.behind g.read).0 under in
    is_read c.read_stage.result x.0 (c.read_stage.ensures.read ∙ x.1)

pub loop-i-preserved : goal.loop-i-preserved
loop-i-preserved c =
    let a = c.args in
    let g = c.requires in
    let l = c.loop-i in
    let s = c.unwrap.result in
    let read : staged l.rest.now ≡ some (record { stage = stage_of s.0; end = ending s.1 }) = sym (rw c.unwrap.ensures at c.read_stage.ensures.read) in
    λ p e w.
    let under : l.i < length (all p) = omega (arith, g.many, c.loop-i-test.true, same_many _ _ _ _ _ g.read w) in
    let k = l.invariant p e w in (
      rw c.behind-rest.ensures (left_next p e _ _ _ _ read k.0 under),
      works_more (λ j. stage_calls a.first.shell (a.n - 1) j (counted_from a.first.child j) (get_or (all p) j no_stage)) k.1
          (subst (λ (x : Stage-read). Works l.h (stage_calls a.first.shell (a.n - 1) l.i (counted_from a.first.child l.i) x) c.stage-h.result)
          (next_is p e _ _ _ _ read k.0 under) c.stage-h.ensures),
    )

pub returns : goal.returns
returns c =
    let a = c.args in
    let l = c.loop-i in
    let done : l.i ≡ a.n = omega (arith, c.loop-i-test.false) in
    λ p e w. subst (λ (m : ℕ). Works a.hand (each m (λ j. stage_calls a.first.shell (a.n - 1) j (counted_from a.first.child j) (get_or (all p) j no_stage))) l.h) done
    (l.invariant p e w).1
