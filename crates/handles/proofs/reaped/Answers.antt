-- `handles::reaped` meets its contract. Assumes nothing.
use Rattle.std.proofs.Common.{rules, get_or}
use Rattle.tables.specs.Records.{no_object}
use Rattle.tables.proofs.Maps.{unmapped}
use Rattle.handles.proofs.Ending.{left_at, reaped_tables}
use Rattle.tables.proofs.Making.{made}
use Rattle.handles.proofs.reaped.Goals as goal

pub returns : goal.returns
returns c =
    λ rest ss t e.
    let a = c.args in let was = c.open_map-was.result in let is = c.open_map-is.result in
    reaped_tables rest ss _ _ a.before a.after _ was is (search (rules, unmapped)) c.from_fn.ensures.items.long
    (λ o l. made c.from_fn.ensures.items (λ i. left_at was is i (get_or a.objects i no_object)) (λ i r f k. search rules) o l no_object)
    c.open_map-was.ensures c.open_map-is.ensures e
