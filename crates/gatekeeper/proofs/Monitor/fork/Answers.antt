-- `gatekeeper::Monitor::fork` meets its contract. Assumes nothing.
use Rattle.gatekeeper.proofs.Acting.{stops}
use Rattle.gatekeeper.proofs.Owned.{owned_long}
use Rattle.gatekeeper.proofs.Storing.{forks}
use Rattle.gatekeeper.proofs.Monitor.fork.Goals as goal

pub returns-in-Err : goal.returns-in-Err
returns-in-Err c = λ w. stops (c.in-Err.ensures _ _ w c.subject-x.ensures c.subject-z.ensures).0 c.refuse.ensures

pub returns : goal.returns
returns c = λ w. forks _ (owned_long _ c.well_formed.0) _ _ _ _ _ _ _ _ _ w (c.in_default.ensures _ _ w c.subject-x.ensures c.subject-z.ensures).0.said c.subject-x.ensures
    c.with_subject-after.ensures c.fresh-own.ensures c.with-alone.ensures c.forked-all.ensures c.own-needed.ensures c.with_need-needs.ensures
