-- `gatekeeper::Monitor::admit` meets its contract. Assumes nothing.
use Rattle.gatekeeper.proofs.Acting.{stops}
use Rattle.gatekeeper.proofs.Owned.{owned_long}
use Rattle.gatekeeper.proofs.Storing.{admits}
use Rattle.gatekeeper.proofs.Monitor.admit.Goals as goal

pub returns-in-Err : goal.returns-in-Err
returns-in-Err c = λ w. stops (c.in-Err.ensures _ w c.subject-x.ensures) c.refuse.ensures

pub returns : goal.returns
returns c = λ w. admits _ (owned_long _ c.well_formed.0) _ _ _ _ _ _ _ w (c.in_default.ensures _ w c.subject-x.ensures).said c.with_subject-after.ensures
    c.fresh-own.ensures c.with-alone.ensures c.with_need-needs.ensures
