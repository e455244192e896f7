-- `stored::U64Kept8::from_bytes` meets its contract. Assumes nothing.
use Rattle.std.proofs.Common.{◌≡◌, ◌∙◌, length, rules}
use Rattle.stored.proofs.Numbers.{whole_8}
use Rattle.stored.proofs.U64Kept8.from_bytes.Goals as goal

pub returns : goal.returns
returns c = let long : length c.args.bytes.now ≡ 8 = search rules in c.from_le_bytes.ensures ∙ whole_8 c.args.bytes.now long
