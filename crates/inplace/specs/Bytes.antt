-- Records as the bytes that they are in memory, one after the other. States RULES H24 of them. Assumes nothing.
use Rattle.std.specs.Prelude.{◌≡◌, ℕ, zero, suc, ◌+◌, ◌*◌, ◌<◌, true, List, [], ◌∷◌, slice_index, slice_index_or}
use Rattle.tables.specs.declared.Subject.{Subject}
use Rattle.tables.specs.declared.Object.{Object}
use Rattle.tables.specs.declared.Handle.{Handle}
use Rattle.tables.specs.Records.{no_handle}
use Rattle.handles.specs.Working.{on}
pub mod Laws

-- f k, and so on: n of them
unfoldable pub from : {A : Type 0} → (ℕ → A) → ℕ → ℕ → List A
from f k zero = []
from f k (suc n) = f k ∷ from f (suc k) n

-- RULES H24: a record's bytes in the order of its fields, one after the other
abbrev pub subject_of : List ℕ → ℕ → Subject
subject_of b i = record { live = slice_index b (3 * i); level = slice_index b (3 * i + 1); shops = slice_index b (3 * i + 1 + 1) }

abbrev pub object_of : List ℕ → ℕ → Object
object_of b i = record { kind = slice_index b (3 * i); level = slice_index b (3 * i + 1); shops = slice_index b (3 * i + 1 + 1) }

abbrev pub handle_of : List ℕ → ℕ → Handle
handle_of b i = record { way = slice_index b (3 * i); object = slice_index b (3 * i + 1); mark = slice_index b (3 * i + 1 + 1) }

unfoldable pub subjects_in : List ℕ → List Subject
subjects_in b = from (subject_of b) 0 32

unfoldable pub objects_in : List ℕ → List Object
objects_in b = from (object_of b) 0 64

unfoldable pub handles_in : List ℕ → List Handle
handles_in b = from (handle_of b) 0 512

-- ── inner functions alone cite this ──
-- a handle other than that at index `at` is on object o
pub record Beside (hs : List Handle) (o at : ℕ) : Type 0 where
  pub index : ℕ
  pub below : index < 512
  pub apart : index ≡ at → ⊥
  pub is_on : on (slice_index_or hs index no_handle) o ≡ true
