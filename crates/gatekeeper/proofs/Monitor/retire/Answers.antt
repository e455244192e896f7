-- `gatekeeper::Monitor::retire` meets its contract. Assumes nothing.
use borrow.Author.Rules.{rules}
use mathlib.Core.Path.{◌≡◌}
use Rattle.tables.specs.Records.{no_object}
use Rattle.gatekeeper.proofs.Acting.{stops, ends}
use Rattle.gatekeeper.proofs.Owned.{owned_long}
use Rattle.gatekeeper.proofs.Storing.{retire_late, retires}
use Rattle.gatekeeper.proofs.Monitor.retire.Goals as goal

pub returns-in-Err : goal.returns-in-Err
returns-in-Err c = λ w. stops (c.in-Err.ensures _ _ w c.object-y.ensures.stands) c.refuse.ensures

pub returns-in-Err-last : goal.returns-in-Err-last
returns-in-Err-last c =
    λ w.
    let z = c.in_default.ensures _ _ w c.object-y.ensures.stands in
    ends (c.in-Err-last.ensures _ _ z (retire_late _ (owned_long _ c.well_formed.0) _ z _ c.is_open-busy.ensures)) c.refuse-in-Err-last.ensures

pub returns : goal.returns
returns c =
    λ w.
    let g = owned_long _ c.well_formed.0 in
    let z = c.in_default.ensures _ _ w c.object-y.ensures.stands in
    let e : c.default.result ≡ no_object = search rules in
    retires _ g _ z _ _ w c.object-y.ensures.stands (c.in_default-last.ensures _ _ z (retire_late _ g _ z _ c.is_open-busy.ensures)).is
    (rw e at c.with_object-rest.ensures)
