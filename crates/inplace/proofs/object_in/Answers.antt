-- `inplace::object_in` meets its contract. Assumes nothing.
use Rattle.std.proofs.Common.{◌%◌, get_or, List, ℕ, sym, ap, ◌∙◌, arith}
use Rattle.tables.specs.Working.{object_at}
use Rattle.inplace.specs.Bytes.Laws.{object_there}
use Rattle.inplace.proofs.object_in.Goals as goal

pub returns-clause-there : goal.returns-clause-there
returns-clause-there c =
    let a = c.args in
    c.object_at.ensures ∙ ap (λ (b : List ℕ). object_at a.o (record { kind = get_or b 0 0; level = get_or b 1 0; shops = get_or b 2 0 })) c.record_in.ensures
    ∙ ap (object_at a.o) (sym (object_there a.objects.now (a.o % 64) (omega arith)))
