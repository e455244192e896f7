-- `tally::dropped_by` meets its contract. Assumes nothing.
use Rattle.model.specs.Tables.{Tables, empty, with_hand}
use Rattle.tables.specs.Records.{hands}
use Rattle.tally.proofs.Counting.{rest_within, drops_few, drops_is}
use Rattle.tally.proofs.dropped_by.Goals as goal

pub overflow_sub-result : goal.overflow_sub-result
overflow_sub-result c =
    let t : Tables = with_hand empty (hands c.args.handles) in
    rest_within t c.args.s c.row_by-row.result c.row_by-row.ensures c.lasting.result _ _ c.lasting.ensures c.count.ensures c.count-2.ensures

pub returns : goal.returns
returns c =
    let t : Tables = with_hand empty (hands c.args.handles) in
    record {
      few = drops_few t c.args.s c.row_by-row.result c.row_by-row.ensures c.lasting.result _ _ c.lasting.ensures c.count.ensures c.count-2.ensures;
      drops = drops_is t c.args.s c.row_by-row.result c.row_by-row.ensures c.lasting.result _ _ c.lasting.ensures c.count.ensures c.count-2.ensures;
    }
