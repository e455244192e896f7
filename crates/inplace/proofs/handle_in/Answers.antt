-- `inplace::handle_in` meets its contract. Assumes nothing.
use Rattle.std.proofs.Common.{◌%◌, ◌+◌, ◌*◌, get_or, List, ℕ, sym, ap, ◌∙◌, arith}
use Rattle.tables.specs.Working.{handle_at}
use Rattle.inplace.specs.Bytes.{handle_of}
use Rattle.inplace.specs.Bytes.Laws.{handle_there}
use Rattle.inplace.proofs.handle_in.Goals as goal

pub returns : goal.returns
returns c =
    let a = c.args in
    c.handle_at.ensures ∙ ap (λ (b : List ℕ). handle_at a.s a.p (record { way = get_or b 0 0; object = get_or b 1 0; mark = get_or b 2 0 })) c.record_in.ensures
    ∙ ap (handle_at a.s a.p) (ap (handle_of a.handles.now) c.slot_of.ensures ∙ sym (handle_there a.handles.now (a.s % 32 * 16 + a.p % 16) (omega arith)))
