-- `stored::U16Kept2::to_bytes` meets its contract. Assumes nothing.
use Rattle.std.proofs.Common.{◌∙◌}
use Rattle.stored.proofs.Numbers.{digits_2}
use Rattle.stored.proofs.U16Kept2.to_bytes.Goals as goal

pub returns : goal.returns
returns c = c.to_le_bytes.ensures ∙ digits_2 c.args.self
