-- Bytes stored over others, from an index on: what the inner functions leave in the lent bytes. No host needs it. The laws are in Over/Laws. Assumes
-- nothing.
use Rattle.std.specs.Prelude.{List, ◌++◌, ℕ, ◌+◌, length, take, drop}
pub mod Laws

-- e over the bytes of b from index `at` on
unfoldable pub over : ℕ → List ℕ → List ℕ → List ℕ
over at e b = take at b ++ (e ++ drop (at + length e) b)
