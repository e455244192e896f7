-- `handles::with_row` meets its contract. Assumes nothing.
use Rattle.std.proofs.Common.{rules, ◌≡◌, length}
use mathlib.Core.Logic.{⊎_elim}
use Rattle.std.proofs.lemmas.List.{places}
use Rattle.tables.proofs.Maps.{unmapped}
use Rattle.handles.proofs.Rows.{rowed_tables}
use Rattle.handles.proofs.with_row.Goals as goal

pub returns : goal.returns
returns c = let e : length c.args.handles ≡ 512 = search (rules, unmapped) in let f : length c.args.places ≡ 16 = search (rules, unmapped) in
    rowed_tables c.args.handles _ c.args.places c.args.s (λ q l. search (rules, places)) (λ j o. ⊎_elim (λ l. search (rules, places)) (λ l. search (rules, places)) o)
