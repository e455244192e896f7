-- `stored::U16Kept2::from_bytes` meets its contract. Assumes nothing.
use Rattle.std.proofs.Common.{◌≡◌, ◌∙◌, length, rules}
use Rattle.stored.proofs.Numbers.{whole_2}
use Rattle.stored.proofs.U16Kept2.from_bytes.Goals as goal

pub returns : goal.returns
returns c = let long : length c.args.bytes.now ≡ 2 = search rules in c.from_le_bytes.ensures ∙ whole_2 c.args.bytes.now long
