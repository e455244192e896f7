-- Writing some bytes after others into one buffer, by lending `&mut out[at..]` for each part; the bytes behind the last one
-- stay (RULES J23, P20). The laws are in Parts/Laws. Assumes nothing.
use Rattle.std.specs.Prelude.{◌≡◌, ℕ, ◌≤◌, List, length, take, drop}
pub mod Laws

-- b has become out: `done` stands in its first `at` bytes, and those after it keep their values
pub record Over (b done : List ℕ) (at : ℕ) (out : List ℕ) : Type 0 where
  pub within : at ≤ length b
  pub size : length out ≡ length b
  pub front : take at out ≡ done
  pub after : drop at out ≡ drop at b
