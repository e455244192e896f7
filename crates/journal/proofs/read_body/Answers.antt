-- `journal::read_body` meets its contract: each way through it is a law of `Bodies`. Assumes nothing.
use Rattle.std.specs.Prelude.{Some, None}
use Rattle.journal.specs.Answers.{numbers_of}
use Rattle.journal.proofs.Bodies.{used_within, body_malformed, body_unknown, body_known}
use Rattle.journal.proofs.read_body.Goals as goal

pub returns-then-n-eq0 : goal.returns-then-n-eq0
returns-then-n-eq0 c = body_unknown _ _ _ c.in-Some.ensures _ c.arity-n.ensures c.if-n-eq0.true

pub slice_bounds-read_numbers-count : goal.slice_bounds-read_numbers-count
slice_bounds-read_numbers-count c = used_within _ _ _ c.in-Some.ensures

pub slice_bounds-read_numbers-start : goal.slice_bounds-read_numbers-start
slice_bounds-read_numbers-start c = used_within _ _ _ c.in-Some.ensures

pub returns : goal.returns
returns c =
    body_known _ _ _ c.in-Some.ensures _ c.arity-n.ensures c.if-n-eq0.false (Some (numbers_of c.in-Some-read_numbers.numbers)) c.in-Some-read_numbers.ensures

pub returns-in_default-read_numbers : goal.returns-in_default-read_numbers
returns-in_default-read_numbers c = body_known _ _ _ c.in-Some.ensures _ c.arity-n.ensures c.if-n-eq0.false None c.in_default-read_numbers.ensures

pub returns-in_default : goal.returns-in_default
returns-in_default c = body_malformed _ c.in_default.ensures
