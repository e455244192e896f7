-- What each way through the record reader answers: no record left; a malformed length; a length that runs past the end; a whole
-- record. Assumes nothing.
use mathlib.Core.Path.{◌≡◌, sym, ap, ◌∙◌}
use Prim.Native.Nat.{ℕ, ◌+◌, ◌-◌, ◌≤◌, ◌<◌}
use native.Mathlib.Omega.{arith}
use Rattle.std.specs.Prelude.{None}
use mathlib.Core.List.{List}
use lib.ListN.{length, take, drop, length-drop}
use borrow.Author.Tests.{lt-ltb, le-ltb}
use Rattle.number.specs.Leb.{largest, Reading, good, number}
use Rattle.number.specs.Leb.Laws.{number_within}
use Rattle.number.specs.Put.Laws.{rest_is}
use Rattle.journal.specs.Answers.{answers, refused, body, end}
use Rattle.journal.specs.Journal.{sized, entry_at}

pub entry_end : (s : List ℕ) (at : ℕ) → length s ≤ at → answers end ≡ entry_at s at
unfolding entry_at
entry_end s at h = simp (le-ltb at (length s) h)

-- the number that was read at an offset
pub record Read (s : List ℕ) (at : ℕ) (r : Reading) : Type 0 where
  pub full : at < length s
  pub is : r ≡ number largest (take (length s - at) (drop at s))

module _ {s : List ℕ} {at : ℕ} {r : Reading} (read : Read s at r) where
  here : r ≡ number largest (drop at s)
  here = read.is ∙ ap (number largest) (rest_is at s)

  entry_is : sized s at r ≡ entry_at s at
  unfolding entry_at
  entry_is = simp (lt-ltb at (length s) read.full) (ap (sized s at) here)

pub entry_malformed : {s : List ℕ} {at : ℕ} → Read s at None → refused 11 ≡ entry_at s at
entry_malformed read = entry_is read

module _ {s : List ℕ} {at len k : ℕ} (read : Read s at (good len k)) where
  pub entry_start : at + k ≤ length s
  entry_start = omega (arith, (number_within largest (drop at s) len k (sym (here read))).1, length-drop at s, read.full)

  pub entry_long : length s - (at + k) < len → refused 11 ≡ entry_at s at
  entry_long l = sym (simp (lt-ltb (length s) (at + k + len) (omega (arith, entry_start)))) ∙ entry_is read

  pub entry_whole : len ≤ length s - (at + k) → answers (body (at + k) len (at + k + len)) ≡ entry_at s at
  entry_whole l = sym (simp (le-ltb (length s) (at + k + len) (omega (arith, entry_start)))) ∙ entry_is read
