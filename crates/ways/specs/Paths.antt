-- Chains of handle records: things are numbers below 96, a group being its lead, and the flow of the i-th record leads from `source` to `target` (crate `passes`). What a
-- search for a shortest chain to a file that its start must not reach finds. States RULES A10, A11 and A13 on arrays. Assumes nothing.
use Rattle.std.specs.Prelude.{◌≡◌, not, cond, List, [], ◌∷◌, ℕ, ◌+◌, ◌-◌, ◌≤◌, ◌<◌, length, get_or, take, T, eqb, ltb}
use Rattle.std.proofs.Math.Option.{some}
use Rattle.model.specs.Label.{Label, leq}
use Rattle.model.specs.Flow.{Thing, subject, object}
use Rattle.model.specs.Tables.{Entry, is_file}
use Rattle.tables.specs.declared.Subject.{Subject}
use Rattle.tables.specs.declared.Object.{Object}
use Rattle.tables.specs.declared.Handle.{Handle}
use Rattle.tables.specs.Records.{entries, object_entry, no_object, no_handle}
use Rattle.passes.specs.Working.{source, target}

-- the thing of a number
abbrev pub thing : ℕ → Thing
thing n = cond (ltb n 32) (subject n) (object (n - 32))

-- RULES A10: the handle records l lead from thing x to thing y, each from where the one before it ends
pub data Path (ld : List ℕ) (hs : List Handle) : ℕ → List ℕ → ℕ → Type 0 where
  end : {x y : ℕ} → x ≡ y → Path ld hs x [] y
  via : {x y : ℕ} {l : List ℕ} (i : ℕ) → i < 512 → T (not (eqb (get_or hs i no_handle).way 0)) → source ld hs i ≡ x → Path ld hs (target ld hs i) l y → Path ld hs x (i ∷ l) y

-- thing x is live, and has label a
pub record Stands (ss : List Subject) (os : List Object) (x : ℕ) (a : Label) : Type 0 where
  pub low : x < 96
  pub entry : Entry
  pub there : entries ss os (thing x) ≡ some entry
  pub label_is : entry.label ≡ a

-- the one thing x, with label a
abbrev pub Is : ℕ → Label → ℕ → Label → Type 0
Is s b x a = (x ≡ s) × (a ≡ b)

-- thing y is a live file, which what has label a must not reach
pub record Goal (os : List Object) (a : Label) (y : ℕ) : Type 0 where
  pub slot : ℕ
  pub low : slot < 64
  pub is : y ≡ 32 + slot
  pub entry : Entry
  pub there : object_entry (get_or os slot no_object) ≡ some entry
  pub is_a_file : T (is_file (object slot) entry.kind)
  pub higher : T (not (leq entry.label a))

-- a chain from a thing that may start one to a file that it must not reach
pub record Trail (may : ℕ → Label → Type 0) (os : List Object) (ld : List ℕ) (hs : List Handle) (x : ℕ) (l : List ℕ) (y : ℕ) : Type 0 where
  pub label : Label
  pub starts : may x label
  pub goal : Goal os label y
  pub path : Path ld hs x l y

-- RULES A11, A13: of all such chains the first `count` of these records are one with the fewest, and of those one from the lowest thing; a count of 0 where each has more than 95
pub record Found (may : ℕ → Label → Type 0) (os : List Object) (ld : List ℕ) (hs : List Handle) (start : ℕ) (steps : List ℕ) (count end : ℕ) : Type 0 where
  pub few : count ≤ 95
  pub none : count ≡ 0 → (x y : ℕ) (l : List ℕ) → Trail may os ld hs x l y → 95 < length l
  pub trail : 0 < count → Trail may os ld hs start (take count steps) end
  pub fewest : 0 < count → (x y : ℕ) (l : List ℕ) → Trail may os ld hs x l y → count ≤ length l
  pub lowest : 0 < count → (x y : ℕ) (l : List ℕ) → x < start → Trail may os ld hs x l y → count < length l
