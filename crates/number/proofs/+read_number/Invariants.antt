-- The measure of the calls of `read_number` is the length of what is left to read. Assumes nothing.
use Rattle.std.proofs.Common.{length}
use Rattle.number.proofs.+read_number.Given as goal

abbrev pub decreases-read_number : goal.decreases-read_number
decreases-read_number l = length l.from.now
