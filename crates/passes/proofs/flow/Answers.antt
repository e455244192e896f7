-- `passes::flow` meets its contract. Assumes nothing.
use mathlib.Core.Path.{sym, ◌∙◌, ap}
use mathlib.Core.Bool.{true, false}
use Rattle.passes.proofs.Listing.{empty_end, open_end}
use Rattle.passes.proofs.flow.Goals as goal
use Rattle.passes.proofs.flow.Goals.{then-is_reading, else-is_reading}

pub returns-then-h-eq-EMPTY : goal.returns-then-h-eq-EMPTY
returns-then-h-eq-EMPTY c =
    let z = c.if-h-eq-EMPTY.true in
    record { start = c.default.ensures.0 ∙ sym (empty_end c.args.h _ true z); end = c.default.ensures.1 ∙ sym (empty_end c.args.h _ false z) }

pub returns : goal.returns
returns c =
    elim c.if-is_reading.branch [
      | then-is_reading w ↦
          let q = sym w.if-is_reading.true ∙ c.is_reading.ensures in
          record {
            start = ap (λ e. e.0) w.result-is ∙ sym (open_end c.args.h _ true c.if-h-eq-EMPTY.false q);
            end = ap (λ e. e.1.0) w.result-is ∙ sym (open_end c.args.h _ false c.if-h-eq-EMPTY.false q);
          }
      | else-is_reading w ↦
          let q = sym w.if-is_reading.false ∙ c.is_reading.ensures in
          record {
            start = ap (λ e. e.0) w.result-is ∙ sym (open_end c.args.h _ true c.if-h-eq-EMPTY.false q);
            end = ap (λ e. e.1.0) w.result-is ∙ sym (open_end c.args.h _ false c.if-h-eq-EMPTY.false q);
          }
    ]
