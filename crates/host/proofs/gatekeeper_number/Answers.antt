-- `host::gatekeeper_number` meets its contract. Assumes nothing.
use Rattle.std.proofs.Common.{arith}
use Rattle.host.proofs.Answering.{number_short}
use Rattle.host.proofs.gatekeeper_number.Goals as goal

pub overflow_cast-result : goal.overflow_cast-result
overflow_cast-result c = omega (arith, number_short _ _ c.in-Some.ensures)
