-- `handles::with_ends` meets its contract. Assumes nothing.
use mathlib.Core.Path.{◌∙◌, ap, ap₂}
use mathlib.Core.List.{List}
use Prim.Native.Nat.{◌+◌, ◌*◌, ◌%◌}
use lib.ListN.{set}
use Rattle.tables.specs.declared.Handle.{Handle}
use Rattle.tables.specs.Records.{tables_of}
use Rattle.tables.proofs.Maps.{unmapped}
use Rattle.handles.proofs.Rows.{ends_tables}
use borrow.Author.Rules.{rules}
use Rattle.handles.proofs.with_ends.Goals as goal

pub returns : goal.returns
returns c =
    let a = c.args in
    λ rest ss os. ap (tables_of rest ss os) (c.with_handle.ensures
    ∙ ap₂ (λ (l : List Handle) (h : Handle). set l (a.s % 32 * 16 + a.q % 16) h)
    (c.with_handle-one.ensures ∙ ap (set a.handles (a.s % 32 * 16 + a.p % 16)) c.joining.ensures) c.joining-2.ensures)
    ∙ ends_tables rest ss os a.handles a.s a.p a.q a.from a.to (search (rules, unmapped))
