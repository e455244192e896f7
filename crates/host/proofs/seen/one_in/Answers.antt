-- `host::seen::one_in` meets its contract. Assumes nothing.
use Rattle.std.proofs.Common.{◌<◌}
use Rattle.host.proofs.Seeing.{one_read}
use Rattle.host.proofs.seen.one_in.Goals as goal

pub returns : goal.returns
returns g c = let wide : 0 < g.row.W = g.met.T.Kept.few.0 in
    one_read g.T.Kept.of g.row.W g.row.N c.args.at c.args.i c.args.state.now _ _ _ wide c.requires.there c.requires.room c.told-state c.as_chunks.ensures.front c.index-values-i.is c.from_bytes.ensures
