-- The invariant of `numbers_len`: the sum is the length of the numbers so far, one after the other, and at most `longest` for each.
-- Assumes nothing.
use Rattle.std.proofs.Common.{◌≡◌, ◌*◌, ◌≤◌, length, take}
use Rattle.number.specs.Leb.{longest}
use Rattle.journal.specs.Record.{encodes}
use Rattle.journal.proofs.numbers_len.Given as goal

abbrev pub invariant-loop-n : goal.invariant-loop-n
invariant-loop-n l = (l.sum ≡ length (encodes (take l.n-index l.numbers))) × (l.sum ≤ longest * l.n-index)
