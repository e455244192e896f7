-- `tally::count_of` meets its contract. Assumes nothing.
use Rattle.std.proofs.Common.{◌≡◌, ◌*◌, ◌≤◌, length}
use Rattle.model.specs.Lists.{each}
use Rattle.tally.proofs.Counting.{held_of}
use Rattle.tally.proofs.count_of.Given as goal

abbrev pub invariant-loop-s : goal.invariant-loop-s
invariant-loop-s l = (l.all ≡ length (each l.s (held_of l.handles l.fn.gone))) × (l.all ≤ 16 * l.s)
