-- Writing over the front of a buffer: the bytes behind what is written stay, and a refusal leaves the buffer as it was
-- (RULES J23, R104, R13). The laws are in Put/Laws. Assumes nothing.
use Rattle.std.specs.Prelude.{ℕ, cond, Option, Some, None, List, ◌++◌, leb, length, drop}
pub mod Laws

-- RULES J23, R104: e over the front of b, where it fits; else b as it was
unfoldable pub put : List ℕ → List ℕ → List ℕ
put e b = cond (leb (length e) (length b)) (e ++ drop (length e) b) b

-- RULES R13: how many bytes that writes; none where e does not fit
unfoldable pub fitted : List ℕ → List ℕ → Option ℕ
fitted e b = cond (leb (length e) (length b)) (Some (length e)) None
