-- `host::seen::kept_in` meets its contract. Assumes nothing.
use Rattle.std.proofs.Common.{sym, ◌∙◌, ap, ap₂, ℕ, List, ◌%◌, get_or}
use Rattle.tables.specs.declared.Object.{Object}
use Rattle.tables.specs.Records.{held, no_object}
use Rattle.tables.specs.Working.{object_at}
use Rattle.host.proofs.Seeing.{handle_counted}
use Rattle.host.proofs.seen.kept_in.Goals as goal

pub returns : goal.returns
returns c =
    let a = c.args in
    ap held c.kept.ensures ∙ sym (handle_counted a.state.now c.told-state a.s a.p _ _ _ c.subject_in.ensures c.handle_in-h.ensures
    (c.object_of.ensures ∙ ap₂ (λ (i : ℕ) (os : List Object). object_at i (get_or os (i % 64) no_object)) c.from.ensures c.slots_in.ensures.objects))
