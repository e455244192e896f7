-- `host::lent::gatekeeper_quick_open` meets its contract. Assumes nothing.
use Rattle.host.proofs.lent.gatekeeper_quick_open.Goals as goal

pub returns-in-Some : goal.returns-in-Some
returns-in-Some c = rw c.to_number.ensures.number c.in-Some.ensures
