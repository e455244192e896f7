-- `handles::vacated` meets its contract. Assumes nothing.
use Rattle.std.proofs.Common.{rules, ◌≡◌}
use lib.ListN.{replicate}
use Rattle.tables.specs.Records.{no_handle}
use Rattle.handles.proofs.Rows.{rowed_as, no_places}
use Rattle.handles.proofs.vacated.Goals as goal

pub returns : goal.returns
returns c = let e : c.default.result ≡ no_handle = search rules in
    λ rest ss os. rowed_as rest ss os c.args.handles _ _ (replicate 16 no_handle) _ no_places (rw e at (c.with_row.ensures rest ss os))
