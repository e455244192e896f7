-- `keeping::backing` meets its contract. Assumes nothing.
use mathlib.Core.Path.{sym, ◌∙◌}
use Rattle.labels.specs.Codes.Laws.{coded_zero}
use Rattle.keeping.proofs.backing.Goals as goal

pub returns-else-is_reading : goal.returns-else-is_reading
returns-else-is_reading c = rw (sym c.is_reading.ensures ∙ c.if-is_reading.false) coded_zero
