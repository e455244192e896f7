-- `refusals::of_pipe` meets its contract. Assumes nothing.
use mathlib.Core.Path.{◌≡◌}
use Rattle.std.proofs.Common.{rules}
use Rattle.answers.specs.Telling.{number_of, number_in}
use Rattle.refusals.proofs.Asking.{of_pipe}
use Rattle.refusals.proofs.of_pipe.Goals as goal

pub returns-in_err-made : goal.returns-in_err-made
returns-in_err-made c =
    let a = c.args in
    let e : number_in c.from_residual.result ≡ number_of c.in_err-made.field-0.0 = search rules in
    of_pipe a.o a.r a.w a.x a.y a.h a.k (search (rules, e))

pub returns-then-are_ends_used : goal.returns-then-are_ends_used
returns-then-are_ends_used c = let a = c.args in of_pipe a.o a.r a.w a.x a.y a.h a.k (search rules)

pub returns : goal.returns
returns c = let a = c.args in of_pipe a.o a.r a.w a.x a.y a.h a.k (search rules)
