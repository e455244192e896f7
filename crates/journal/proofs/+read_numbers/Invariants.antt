-- The measure of the calls of `read_numbers` is how many numbers are left. Assumes nothing.
use Rattle.journal.proofs.+read_numbers.Given as goal

abbrev pub decreases-read_numbers : goal.decreases-read_numbers
decreases-read_numbers l = l.n
