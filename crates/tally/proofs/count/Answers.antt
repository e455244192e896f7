-- `tally::count` meets its contract. Assumes nothing.
use Rattle.std.proofs.Common.{◌≡◌, length, ◌∙◌, rules}
use Rattle.std.specs.List.{count_by}
use Rattle.tally.proofs.Counting.{full, taken_all}
use Rattle.tally.proofs.count.Goals as goal

pub returns : goal.returns
returns c =
    let row = c.args.row in
    let counted : c.count.result ≡ count_by full row = search rules in
    let long : length row ≡ 16 = search rules in
    counted ∙ taken_all row long
