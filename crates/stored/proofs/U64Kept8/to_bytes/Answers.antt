-- `stored::U64Kept8::to_bytes` meets its contract. Assumes nothing.
use Rattle.std.proofs.Common.{◌∙◌}
use Rattle.stored.proofs.Numbers.{digits_8}
use Rattle.stored.proofs.U64Kept8.to_bytes.Goals as goal

pub returns : goal.returns
returns c = c.to_le_bytes.ensures ∙ digits_8 c.args.self
