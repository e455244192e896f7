-- `handles::is_open` meets its contract. Assumes nothing.
use Rattle.std.proofs.Common.{rules, ◌∙◌}
use borrow.Author.Tests.{tests}
use Rattle.std.proofs.lemmas.Iterator.{YieldsList-from_slice}
use Rattle.std.proofs.lemmas.Iterator.Search.{any_from_yields_List}
use Rattle.tables.proofs.Maps.{unmapped}
use Rattle.handles.specs.Working.{on}
use Rattle.handles.proofs.Opening.{any_open}
use Rattle.handles.proofs.is_open.Goals as goal

pub returns : goal.returns
returns c = let a = c.args in
    any_from_yields_List (λ h. on h a.o) _ _ _ c.any.ensures.ran (YieldsList-from_slice a.handles cc) (λ x b q k. search (rules, tests))
    ∙ any_open a.handles a.o (search (rules, unmapped))
