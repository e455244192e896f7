-- `flows::starts` meets its contract. Assumes nothing.
use borrow.Author.Rules.{rules}
use Rattle.flows.proofs.Starting.{none_started}
use Rattle.flows.proofs.starts.Goals as goal

pub loop-i-init : goal.loop-i-init
loop-i-init c = none_started _ (search rules)
