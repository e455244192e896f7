-- `replay::too_long` meets its contract. Assumes nothing.
use native.Mathlib.Omega.{arith}
use Rattle.text.specs.Reply.{line, ending}
use Rattle.replay.specs.Stage.{all_ends, begun_inside, first_short, second_short, both_over, refusal_thin}
use Rattle.replay.proofs.too_long.Goals as goal

pub slice_bounds-write_end-count : goal.slice_bounds-write_end-count
slice_bounds-write_end-count c =
    let v = c.write_line in
    begun_inside (line 1 0 82 14 0) (ending 0 0 0) c.args.out.now refusal_thin v.new.out c.in_ok-n.n c.in_ok-n.ensures.answer v.ensures.buffer

pub slice_bounds-write_end-start : goal.slice_bounds-write_end-start
slice_bounds-write_end-start c =
    let v = c.write_line in
    begun_inside (line 1 0 82 14 0) (ending 0 0 0) c.args.out.now refusal_thin v.new.out c.in_ok-n.n c.in_ok-n.ensures.answer v.ensures.buffer

pub overflow_add-result : goal.overflow_add-result
overflow_add-result c =
    let v = c.write_line in
    let w = c.write_end in
    omega (
      arith,
      (both_over (line 1 0 82 14 0) (ending 0 0 0) c.args.out.now refusal_thin v.new.out c.in_ok-n.n c.in_ok-n.ensures.answer v.ensures.buffer
          w.new.out c.in_ok-k.k c.in_ok-k.ensures.answer w.ensures.buffer).within,
      c.well_formed,
    )

pub returns : goal.returns
returns c =
    let f = c.args.out.now in
    let v = c.write_line in
    let w = c.write_end in
    all_ends _ f _ _ (both_over (line 1 0 82 14 0) (ending 0 0 0) f refusal_thin v.new.out c.in_ok-n.n c.in_ok-n.ensures.answer v.ensures.buffer
    w.new.out c.in_ok-k.k c.in_ok-k.ensures.answer w.ensures.buffer)

pub returns-in_err-k : goal.returns-in_err-k
returns-in_err-k c =
    let v = c.write_line in
    let w = c.write_end in
    let e = second_short (line 1 0 82 14 0) (ending 0 0 0) c.args.out.now refusal_thin v.new.out c.in_ok-n.n c.in_ok-n.ensures.answer v.ensures.buffer w.new.out
    c.in_err-k.ensures.answer w.ensures.buffer in
    rw c.from_residual-in_err-k.ensures e

pub returns-in_err-n : goal.returns-in_err-n
returns-in_err-n c =
    let v = c.write_line in
    let e = first_short (line 1 0 82 14 0) (ending 0 0 0) c.args.out.now refusal_thin v.new.out c.in_err-n.ensures.answer v.ensures.buffer in
    rw c.from_residual.ensures e
