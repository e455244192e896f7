-- `ways::walk` meets its contract. Assumes nothing.
use mathlib.Core.Path.{◌≡◌}
use Prim.Native.Nat.{◌+◌, ◌<◌}
use lib.ListN.{length, take}
use Rattle.passes.specs.Listing.{start_at, end_at}
use Rattle.ways.specs.Near.{figure, Walk}
use Rattle.ways.proofs.walk.Given as goal

abbrev pub invariant-loop-i : goal.invariant-loop-i
invariant-loop-i l = record {
  low : l.at < 96;
  so_far : l.count + figure l.fn.dist l.at ≡ figure l.fn.dist l.fn.x;
  long : length l.steps ≡ 95;
  walked : Walk (start_at l.fn.arcs) (end_at l.fn.arcs) (figure l.fn.dist) l.fn.x (take l.count l.steps) l.at;
}

abbrev pub decreases-loop-i : goal.decreases-loop-i
decreases-loop-i l = figure l.fn.dist l.at
