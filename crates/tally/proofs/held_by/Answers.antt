-- `tally::held_by` meets its contract. Assumes nothing.
use Rattle.model.specs.Tables.{empty, with_hand}
use Rattle.tables.specs.Records.{hands}
use Rattle.tally.proofs.Counting.{held_is}
use Rattle.tally.proofs.held_by.Goals as goal

pub returns : goal.returns
returns c = held_is (with_hand empty (hands c.args.handles)) c.args.s c.row_by.result c.row_by.ensures c.count.result c.count.ensures
