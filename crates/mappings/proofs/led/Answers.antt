-- `mappings::led` meets its contract. Assumes nothing.
use Rattle.std.proofs.Common.{rules, get_or, ◌%◌}
use mathlib.Core.Bool.{false}
use Rattle.tables.proofs.Making.{made}
use Rattle.mappings.proofs.led.Goals as goal

pub returns : goal.returns
returns c = let a = c.args in λ b l. made c.from_fn.ensures.items (λ i. get_or a.reads (get_or a.leads i 0 % 32) false) (λ i r f k. search rules) b l false
