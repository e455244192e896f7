-- `keeping::own` meets its contract. Assumes nothing.
use mathlib.Core.Path.{◌≡◌}
use Prim.Native.Nat.{◌%◌}
use Rattle.labels.specs.Codes.{coded}
use Rattle.passes.specs.Working.{all_below}
use Rattle.keeping.proofs.Joined.{written_by}
use Rattle.keeping.proofs.own.Given as goal

abbrev pub invariant-loop-h : goal.invariant-loop-h
invariant-loop-h l = coded l.all ≡ all_below l.h-index (λ q. coded (written_by l.fn.n l.fn.handles (l.fn.s % 32) q))
