-- `handles::lasting` meets its contract. Assumes nothing.
use Rattle.std.proofs.Common.{rules}
use Rattle.tables.specs.Records.{no_handle}
use Rattle.handles.proofs.Rows.{lasting_along}
use Rattle.handles.proofs.lasting.Goals as goal

pub returns : goal.returns
returns c = lasting_along _ _ (λ p l. let (f, g, k) = c.map.ensures.items.at p no_handle no_handle l in search rules)
