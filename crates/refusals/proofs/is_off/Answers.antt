-- `refusals::is_off` meets its contract. Assumes nothing.
use Rattle.std.proofs.Common.{rules}
use Rattle.model.proofs.Label.Laws.{off_scale}
use Rattle.refusals.proofs.is_off.Goals as goal

pub returns-then-level-gt-HIGHEST : goal.returns-then-level-gt-HIGHEST
returns-then-level-gt-HIGHEST c = rw (off_scale c.args.level c.args.shops) (search rules)

pub returns-else-level-gt-HIGHEST : goal.returns-else-level-gt-HIGHEST
returns-else-level-gt-HIGHEST c = rw (off_scale c.args.level c.args.shops) (search rules)
