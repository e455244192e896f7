-- What the inner functions of this crate work out, on its records. No caller of a public function needs these, but for the records at a number
-- (`subject_at` and the like), which `looks` cites. Assumes nothing.
use Rattle.std.specs.Prelude.{◌≡◌, Bool, true, false, not, ◌&&◌, ◌||◌, cond, List, ℕ, zero, suc, ◌%◌, min, ltb, leb, eqb}
use Rattle.std.specs.Int.Bits.{bit_and}
use Rattle.model.specs.Tables.{empty, with_hand, handles, open_on}
use Rattle.tables.specs.declared.Subject.{Subject}
use Rattle.tables.specs.declared.Object.{Object}
use Rattle.tables.specs.declared.Handle.{Handle}
use Rattle.tables.specs.Records.{reads_by, no_subject, no_object, no_handle, hands}

abbrev pub some_below : ℕ → (ℕ → Bool) → Bool
some_below zero f = false
some_below (suc n) f = some_below n f || f n

-- ── the record at a number ──
abbrev pub subject_at : ℕ → Subject → Subject
subject_at s x = cond (ltb s 32) x no_subject

abbrev pub object_at : ℕ → Object → Object
object_at o y = cond (ltb o 64) y no_object

abbrev pub handle_at : ℕ → ℕ → Handle → Handle
handle_at s p h = cond (ltb s 32) (cond (ltb p 16) h no_handle) no_handle

-- a record of this way on object o, not marked
abbrev pub joining : ℕ → ℕ → Handle
joining way o = record { way = way; object = o % 64; mark = 0 }

-- ── falling ──
abbrev pub fallen_by : Subject → ℕ → ℕ → Subject
fallen_by x l m = record { live = x.live; level = min x.level l; shops = bit_and x.shops m }

abbrev pub sunken_by : Object → ℕ → ℕ → Object
sunken_by y l m = cond (eqb y.kind 1) y (record { kind = y.kind; level = min y.level l; shops = bit_and y.shops m })

-- ── tests ──
abbrev pub used_subject : ℕ → Subject → Bool
used_subject s x = cond (ltb s 32) (not (eqb x.live 0)) true

abbrev pub used_object : Object → Bool
used_object y = not (eqb y.kind 0)

abbrev pub used_place : ℕ → Handle → Bool
used_place p h = cond (ltb p 16) (not (eqb h.way 0)) true

-- a handle of this way is for writing; an empty place has none
abbrev pub writes_by : ℕ → Bool
writes_by w = cond (eqb w 0) false (not (reads_by w))

abbrev pub frozen_by : ℕ → Bool → Object → Bool
frozen_by f reads y = cond reads false (ltb f 16 && (eqb y.kind 1 && leb f y.level))

-- ── the end of a pipe ──
-- r is the record of object o, which was y, by whether a handle is open on it: only a pipe ends
pub record Outlives (hs : List Handle) (y : Object) (o : ℕ) (r : Object) : Type 0 where
  pub is : r ≡ cond (ltb y.kind 2) y (cond (open_on (handles (with_hand empty (hands hs))) o) y no_object)
