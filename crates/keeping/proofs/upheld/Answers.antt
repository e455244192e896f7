-- `keeping::upheld` meets its contract. Assumes nothing.
use mathlib.Core.Path.{sym, ◌∙◌}
use Rattle.labels.specs.Codes.Laws.{coded_zero}
use Rattle.keeping.proofs.upheld.Goals as goal

pub returns-else-is_writing : goal.returns-else-is_writing
returns-else-is_writing c = rw (sym c.is_writing.ensures ∙ c.if-is_writing.false) coded_zero
