-- `journal::write_numbers` meets its contract: one more number is a law of `Writer`. Assumes nothing.
use Rattle.std.proofs.Common.{refl, sym, ◌∙◌, ◌+◌, [], arith}
use Rattle.number.specs.Put.Laws.{put_fits}
use Rattle.journal.specs.Record.{encodes}
use Rattle.journal.specs.Record.Laws.{encodes_take}
use Rattle.journal.proofs.Writer.{Going, at_within, next_wrote, next_count, next_out}
use Rattle.journal.proofs.write_numbers.Goals as goal

pub loop-n-init : goal.loop-n-init
unfolding encodes
loop-n-init c = (refl, sym (put_fits [] _ (omega arith)))

pub slice_bounds-write_number-count : goal.slice_bounds-write_number-count
slice_bounds-write_number-count c =
    let l = c.loop-n in
    let g : Going c.args.numbers.now c.args.out.now l.n-index l.out l.at =
    record { next = c.loop-n-test.true; room = c.requires; written = l.invariant.1; count = l.invariant.0 } in
    at_within g

pub slice_bounds-write_number-start : goal.slice_bounds-write_number-start
slice_bounds-write_number-start c =
    let l = c.loop-n in
    let g : Going c.args.numbers.now c.args.out.now l.n-index l.out l.at =
    record { next = c.loop-n-test.true; room = c.requires; written = l.invariant.1; count = l.invariant.0 } in
    at_within g

pub unwrap-at-requires : goal.unwrap-at-requires
unwrap-at-requires c =
    let l = c.loop-n in
    let g : Going c.args.numbers.now c.args.out.now l.n-index l.out l.at =
    record { next = c.loop-n-test.true; room = c.requires; written = l.invariant.1; count = l.invariant.0 } in
    rw (next_wrote g _ c.write_number.ensures.answer) refl

pub overflow_add-at : goal.overflow_add-at
overflow_add-at c =
    let l = c.loop-n in
    let g : Going c.args.numbers.now c.args.out.now l.n-index l.out l.at =
    record { next = c.loop-n-test.true; room = c.requires; written = l.invariant.1; count = l.invariant.0 } in
    let counted = next_count g _ (sym c.unwrap-at.ensures ∙ c.write_number.ensures.answer) in
    omega (arith, counted, encodes_take c.args.numbers.now (l.n-index + 1), c.requires, c.well_formed)

pub loop-n-preserved : goal.loop-n-preserved
loop-n-preserved c =
    let l = c.loop-n in
    let g : Going c.args.numbers.now c.args.out.now l.n-index l.out l.at =
    record { next = c.loop-n-test.true; room = c.requires; written = l.invariant.1; count = l.invariant.0 } in
    let counted = next_count g _ (sym c.unwrap-at.ensures ∙ c.write_number.ensures.answer) in
    (counted, next_out g c.write_number.new.out c.write_number.ensures.buffer)
