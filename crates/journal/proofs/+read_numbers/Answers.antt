-- `journal::read_numbers` meets its contract: each way through it is a law of `Bodies`. Assumes nothing.
use Rattle.std.proofs.Common.{ap, ◌∙◌, arith}
use Rattle.std.specs.Prelude.{Some, None}
use Rattle.std.specs.Option.{option_map}
use Rattle.journal.specs.Answers.{numbers_of}
use Rattle.journal.specs.Calls.{filled}
use Rattle.journal.proofs.Bodies.{used_within, arguments_none, arguments_left, arguments_malformed, arguments_next}
use Rattle.journal.proofs.+read_numbers.Goals as goal

pub returns-then-body-eq0 : goal.returns-then-body-eq0
unfolding filled
returns-then-body-eq0 t c =
    let (x0, (x1, (x2, (x3, (x4, x5))))) = c.default.ensures in
    rw (x0, x1, x2, x3, x4, x5) (arguments_none _ _ c.if-n-eq0.true (omega (arith, c.if-body-eq0.true)))

pub returns-then-n-eq0 : goal.returns-then-n-eq0
returns-then-n-eq0 t c = arguments_left _ _ c.if-n-eq0.true (λ e. c.if-body-eq0.false (omega (arith, e)))

pub slice_bounds-read_numbers-count : goal.slice_bounds-read_numbers-count
slice_bounds-read_numbers-count t c = used_within _ _ _ c.in_ok-value.ensures

pub slice_bounds-read_numbers-start : goal.slice_bounds-read_numbers-start
slice_bounds-read_numbers-start t c = used_within _ _ _ c.in_ok-value.ensures

pub returns : goal.returns
returns t c =
    arguments_next _ _ c.if-n-eq0.false _ _ c.in_ok-value.ensures (Some (numbers_of c.in_ok-rest.rest)) c.in_ok-rest.ensures

pub returns-in_err-rest : goal.returns-in_err-rest
returns-in_err-rest t c =
    ap (option_map numbers_of) c.from_residual-in_err-rest.ensures ∙ arguments_next _ _ c.if-n-eq0.false _ _ c.in_ok-value.ensures None c.in_err-rest.ensures

pub returns-in_err-value : goal.returns-in_err-value
returns-in_err-value t c =
    ap (option_map numbers_of) c.from_residual.ensures ∙ arguments_malformed _ _ c.if-n-eq0.false c.in_err-value.ensures
