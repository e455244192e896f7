-- The figures to start from, before any object. Assumes nothing.
use mathlib.Core.Path.{◌≡◌}
use mathlib.Core.List.{List}
use Prim.Native.Nat.{ℕ}
use native.Mathlib.Omega.{arith}
use lib.ListN.{length, replicate, get_or-replicate}
use Rattle.tables.specs.declared.Object.{Object}
use Rattle.passes.specs.Working.{Started}

pub none_started : (os : List Object) → length {A = ℕ} (replicate 96 0) ≡ 96 → Started os (replicate 96 0) 0
none_started os l = record {
  long = l;
  subjects = λ i h. get_or-replicate 96 i 0 0 (omega arith);
  objects = λ i h. absurd (omega arith);
}
