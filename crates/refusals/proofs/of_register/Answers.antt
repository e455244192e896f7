-- `refusals::of_register` meets its contract. Assumes nothing.
use mathlib.Core.Path.{◌≡◌}
use Rattle.std.proofs.Common.{rules}
use Rattle.answers.specs.Telling.{number_of, number_in}
use Rattle.refusals.proofs.Asking.{of_register}
use Rattle.refusals.proofs.of_register.Goals as goal

pub returns-in_err-room : goal.returns-in_err-room
returns-in_err-room c =
    let a = c.args in
    let e : number_in c.from_residual.result ≡ number_of c.in_err-room.field-0.0 = search rules in
    of_register a.o a.level a.shops a.y (search (rules, e))

pub returns-then-is_off : goal.returns-then-is_off
returns-then-is_off c = let a = c.args in of_register a.o a.level a.shops a.y (search rules)

pub returns : goal.returns
returns c = let a = c.args in of_register a.o a.level a.shops a.y (search rules)
