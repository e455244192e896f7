-- `journal::arity` meets its contract: its table is that of `Calls`. Assumes nothing.
use Rattle.std.proofs.Common.{rules}
use Rattle.journal.specs.Calls.{arity_of}
use Rattle.journal.proofs.arity.Goals as goal

pub returns : goal.returns
unfolding arity_of
returns c = search rules
