-- `keeping::beside` meets its contract. Assumes nothing.
use mathlib.Core.Path.{◌≡◌}
use Rattle.labels.specs.Codes.{coded}
use Rattle.passes.specs.Working.{beside_of}
use Rattle.keeping.proofs.beside.Given as goal

abbrev pub invariant-loop-h : goal.invariant-loop-h
invariant-loop-h l = coded l.all ≡ beside_of l.fn.objects l.fn.handles l.fn.s l.h-index
