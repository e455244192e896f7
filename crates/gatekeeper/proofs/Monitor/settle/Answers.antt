-- `gatekeeper::Monitor::settle` meets its contract. Assumes nothing.
use mathlib.Core.Path.{sym, ◌∙◌}
use Rattle.gatekeeper.proofs.Monitor.settle.Goals as goal

pub returns-then-is_refused : goal.returns-then-is_refused
returns-then-is_refused c = rw (sym c.is_refused.ensures ∙ c.if-is_refused.true)

pub returns : goal.returns
returns c = rw (sym c.is_refused.ensures ∙ c.if-is_refused.false)
