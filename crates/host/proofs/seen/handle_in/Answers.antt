-- `host::seen::handle_in` meets its contract. Assumes nothing.
use Rattle.std.proofs.Common.{ap, ◌∙◌, get_or, ℕ}
use Rattle.tables.specs.Records.{no_handle}
use Rattle.tables.specs.Working.{handle_at}
use Rattle.stored.specs.State.{handles_of}
use Rattle.host.proofs.seen.handle_in.Goals as goal

pub returns : goal.returns
unfolding handles_of
returns c =
    let a = c.args in
    c.handle_at.ensures ∙ ap (handle_at a.s a.p) (c.one_in.ensures no_handle ∙ ap (λ (j : ℕ). get_or (handles_of a.state.now) j no_handle) c.slot_of.ensures)
