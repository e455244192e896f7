-- `inplace::subject_in` meets its contract. Assumes nothing.
use Rattle.std.proofs.Common.{◌%◌, get_or, List, ℕ, sym, ap, ◌∙◌, arith}
use Rattle.tables.specs.Working.{subject_at}
use Rattle.inplace.specs.Bytes.Laws.{subject_there}
use Rattle.inplace.proofs.subject_in.Goals as goal

pub returns-clause-there : goal.returns-clause-there
returns-clause-there c =
    let a = c.args in
    c.subject_at.ensures ∙ ap (λ (b : List ℕ). subject_at a.s (record { live = get_or b 0 0; level = get_or b 1 0; shops = get_or b 2 0 })) c.record_in.ensures
    ∙ ap (subject_at a.s) (sym (subject_there a.subjects.now (a.s % 32) (omega arith)))
