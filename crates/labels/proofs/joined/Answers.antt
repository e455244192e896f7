-- `labels::joined` meets its contract. Assumes nothing.
use Rattle.labels.specs.Codes.Laws.{join_is}
use Rattle.labels.proofs.joined.Goals as goal

pub returns : goal.returns
returns c = join_is c.args.a c.args.b c.max.result c.max.ensures
