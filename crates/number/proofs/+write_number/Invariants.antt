-- The measure of the calls of `write_number` is the length of what is left of the buffer. Assumes nothing.
use Rattle.std.proofs.Common.{length}
use Rattle.number.proofs.+write_number.Given as goal

abbrev pub decreases-write_number : goal.decreases-write_number
decreases-write_number l = length l.out.now
