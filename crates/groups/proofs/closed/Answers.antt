-- `groups::closed` meets its contract. Assumes nothing.
use Rattle.std.proofs.Common.{rules, ◌≡◌, ℕ, ◌<◌, get_or, ◌/◌}
use mathlib.Core.Bool.{false, cond}
use Rattle.tables.specs.Records.{no_handle}
use Rattle.tables.proofs.Maps.{unmapped}
use Rattle.tables.proofs.Making.{made}
use Rattle.groups.proofs.Closing.{closed_tables}
use Rattle.groups.proofs.closed.Goals as goal

pub returns : goal.returns
returns c = let a = c.args in
    let each : (i : ℕ) → i < 512 → get_or c.from_fn.result i no_handle ≡ cond (get_or a.gone (i / 16) false) no_handle (get_or a.handles i no_handle)
    = (λ i l. made c.from_fn.ensures.items (λ i. cond (get_or a.gone (i / 16) false) no_handle (get_or a.handles i no_handle)) (λ i r f k. search rules) i l no_handle) in
    λ rest ss os. closed_tables rest ss os a.handles _ a.gone (search (rules, unmapped)) c.from_fn.ensures.items.long each
