-- The measure of the calls of `number_len` is the number. Assumes nothing.
use Rattle.number.proofs.+number_len.Given as goal

abbrev pub decreases-number_len : goal.decreases-number_len
decreases-number_len l = l.n
