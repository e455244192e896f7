-- `gatekeeper::Monitor::exit` meets its contract. Assumes nothing.
use borrow.Author.Rules.{rules}
use mathlib.Core.Path.{◌≡◌}
use Rattle.tables.specs.Records.{no_subject}
use Rattle.gatekeeper.proofs.Acting.{stops}
use Rattle.gatekeeper.proofs.Owned.{owned_long}
use Rattle.gatekeeper.proofs.Storing.{exits}
use Rattle.gatekeeper.proofs.Monitor.exit.Goals as goal

pub returns-in-Err : goal.returns-in-Err
returns-in-Err c = λ w. stops (c.in-Err.ensures _ _ w c.subject-x.ensures) c.refuse.ensures

pub returns : goal.returns
returns c =
    λ w.
    let e : c.default.result ≡ no_subject = search rules in
    exits _ (owned_long _ c.well_formed.0) _ _ _ _ _ _ w (c.in_default.ensures _ _ w c.subject-x.ensures).said c.subject-x.ensures
    (rw e at c.with_subject-rest.ensures) c.vacated-after.ensures c.reaped-left.ensures c.vacated-needs.ensures
