-- `tally::count_of` meets its contract. Assumes nothing.
use Rattle.std.proofs.Common.{◌≡◌, ◌+◌, ◌≤◌, ℕ, length, refl, ap, ◌∙◌, arith}
use Rattle.model.specs.Lists.{each}
use Rattle.tally.proofs.Counting.{held_of, held_within, rows_more, row_held, row_not}
use Rattle.tally.proofs.count_of.Goals as goal
use Rattle.tally.proofs.count_of.Goals.{then-goes, else-goes}

pub loop-s-init : goal.loop-s-init
loop-s-init c = (refl, omega arith)

pub overflow_add-all : goal.overflow_add-all
overflow_add-all c =
    let few : c.count-all.result ≤ 16 = held_within c.args.handles c.args.gone c.loop-s.s c.row_of.result c.row_of.ensures c.count-all.result c.count-all.ensures in
    omega (arith, few, c.loop-s.invariant.1, c.loop-s-test.true)

pub loop-s-preserved : goal.loop-s-preserved
loop-s-preserved c =
    let l = c.loop-s in
    let a = c.args in
    elim c.if-goes.branch [
      | then-goes w ↦
          let few : w.count-all.result ≤ 16 = held_within a.handles a.gone l.s w.row_of.result w.row_of.ensures w.count-all.result w.count-all.ensures in (
            w.all-is ∙ rows_more (held_of a.handles a.gone) l.s l.all w.count-all.result l.invariant.0
                (row_held a.handles a.gone l.s w.row_of.result w.row_of.ensures w.count-all.result w.count-all.ensures w.if-goes.true),
            omega (arith, few, l.invariant.1, w.all-is),
          )
      | else-goes w ↦
          let same : c.if-goes.all ≡ l.all + 0 = omega (arith, w.all-is) in (
            same ∙ rows_more (held_of a.handles a.gone) l.s l.all 0 l.invariant.0 (row_not a.handles a.gone l.s w.if-goes.false),
            omega (arith, l.invariant.1, w.all-is),
          )
    ]

pub returns : goal.returns
returns c =
    let l = c.loop-s in
    let end : l.s ≡ 32 = omega (arith, c.loop-s-test.false) in
    record {
      few = omega (arith, l.invariant.1, end);
      count = l.invariant.0 ∙ ap (λ (n : ℕ). length (each n (held_of c.args.handles c.args.gone))) end;
    }
