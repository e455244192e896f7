-- `serve::fill`: it reads while there is a read to make, and each takes something of what is left. Assumes nothing.
use Rattle.std.proofs.Common.{length}
use Rattle.ports.specs.Ports.Laws.{left}
use Rattle.serve.specs.Serving.Laws.{Reading}
use Rattle.serve.proofs.fill.Given as goal

abbrev pub invariant-loop-host : goal.invariant-loop-host
invariant-loop-host l = Reading l.at l.fn.buf l.buf

abbrev pub decreases-loop-host : goal.decreases-loop-host
decreases-loop-host l = left l.at (length l.fn.buf)
