-- The invariant of `write_numbers`: the numbers so far were written, one after the other, and end at the offset `at`. Assumes nothing.
use Rattle.std.proofs.Common.{◌≡◌, length, take}
use Rattle.number.specs.Put.{put}
use Rattle.journal.specs.Record.{encodes}
use Rattle.journal.proofs.write_numbers.Given as goal

abbrev pub invariant-loop-n : goal.invariant-loop-n
invariant-loop-n l = (l.at ≡ length (encodes (take l.n-index l.numbers))) × (l.out ≡ put (encodes (take l.n-index l.numbers)) l.initial.out)
