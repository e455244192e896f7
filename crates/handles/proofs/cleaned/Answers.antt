-- `handles::cleaned` meets its contract. Assumes nothing.
use Rattle.std.proofs.Common.{rules, get_or}
use Rattle.tables.specs.Records.{no_handle}
use Rattle.tables.proofs.Maps.{unmapped}
use Rattle.handles.proofs.Cleaning.{kept_at, cleaned_tables}
use Rattle.tables.proofs.Making.{made}
use Rattle.handles.proofs.cleaned.Goals as goal

pub returns : goal.returns
returns c = let a = c.args in
    λ rest. cleaned_tables rest _ _ _ _ c.from_fn.ensures.items.long (search (rules, unmapped))
    (λ j l. made c.from_fn.ensures.items (λ i. kept_at a.subjects a.objects i (get_or a.handles i no_handle)) (λ i r f k. search rules) j l no_handle)
