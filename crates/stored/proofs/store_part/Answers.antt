-- `stored::store_part` meets its contract. Assumes nothing.
use Rattle.std.proofs.Common.{◌≡◌, ◌*◌, get_or, length, rules, ap, arith}
use Rattle.std.proofs.lemmas.List.{take_all}
use Rattle.stored.proofs.Storing.{laid_none, laid_over, copied}
use Rattle.stored.proofs.store_part.Goals as goal

pub loop-i-init : goal.loop-i-init
loop-i-init g c =
    let long : length c.args.part ≡ g.row.N = search rules in
    laid_none g.T.Kept.to g.row.W 0 g.row.N _ _ g.met.T.Kept.wide long (omega (arith, c.requires))

pub loop-i-preserved : goal.loop-i-preserved
loop-i-preserved g c =
    let w = g.row.W in
    let at = w * c.loop-i.i in
    let part = c.copy_from_slice.new.self in
    let is : part ≡ g.T.Kept.to (get_or c.args.part c.loop-i.i c.x-item.result) = search (rules, take_all) in
    let long : length part ≡ w = omega (arith, ap length is, g.met.T.Kept.wide (get_or c.args.part c.loop-i.i c.x-item.result)) in
    laid_over c.loop-i.invariant at part c.x-item.result _ (omega (arith, c.loop-i-test.true, c.type_inv.x-items)) (omega arith) is (copied c.loop-i.to at _ part (grind arith))
