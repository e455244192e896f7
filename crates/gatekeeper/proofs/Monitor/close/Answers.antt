-- `gatekeeper::Monitor::close` meets its contract. Assumes nothing.
use borrow.Author.Rules.{rules}
use mathlib.Core.Path.{◌≡◌}
use Rattle.tables.specs.Records.{no_handle}
use Rattle.gatekeeper.proofs.Acting.{stops}
use Rattle.gatekeeper.proofs.Owned.{owned_long}
use Rattle.gatekeeper.proofs.Storing.{closes}
use Rattle.gatekeeper.proofs.Monitor.close.Goals as goal

pub returns-in-Err : goal.returns-in-Err
returns-in-Err c = λ w. stops (c.in-Err.ensures _ _ _ w c.subject-x.ensures c.handle-h.ensures).0 c.refuse.ensures

pub returns : goal.returns
returns c =
    λ w.
    let e : c.default.result ≡ no_handle = search rules in
    closes _ (owned_long _ c.well_formed.0) _ _ _ _ _ _ _ _ _ w (c.in_default.ensures _ _ _ w c.subject-x.ensures c.handle-h.ensures).0.said c.subject-x.ensures c.handle-h.ensures c.object-y.ensures.is
    (rw e at c.with_handle-handles.ensures) c.outlived-left.ensures c.with_object-rest.ensures c.closed-needs.ensures
