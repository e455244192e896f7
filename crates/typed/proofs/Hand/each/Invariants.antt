-- `typed::Hand::each` meets its contract. Assumes nothing.
use Rattle.std.proofs.Common.{ℕ, ◌<◌, List}
use Rattle.model.specs.Lists.{each}
use Rattle.model.specs.Calls.{Raw}
use Rattle.typed.specs.declared.Hand.{Hand}
use Rattle.typed.specs.Working.{Works}
use Rattle.typed.proofs.Hand.each.Given as goal

abbrev pub invariant-loop-i : goal.invariant-loop-i
invariant-loop-i g l = (f : ℕ → List Raw) → ((h : Hand) (i : ℕ) (k : Hand) → i < l.n → goal.F-post g l.make h i k → Works h (f i) k) → Works l.initial.h (each l.i f) l.h
