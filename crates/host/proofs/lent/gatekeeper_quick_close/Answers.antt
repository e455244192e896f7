-- `host::lent::gatekeeper_quick_close` meets its contract. Assumes nothing.
use Rattle.host.proofs.lent.gatekeeper_quick_close.Goals as goal

pub returns-in-Some : goal.returns-in-Some
returns-in-Some c = λ ns h. rw c.to_number.ensures.number (c.in-Some.ensures ns h)
