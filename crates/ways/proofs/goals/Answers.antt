-- `ways::goals` meets its contract. Assumes nothing.
use borrow.Author.Rules.{rules}
use Rattle.ways.proofs.Aiming.{none_aimed}
use Rattle.ways.proofs.goals.Goals as goal

pub loop-i-init : goal.loop-i-init
loop-i-init c = none_aimed _ _ (search rules)
