-- A call by number, and the same call by slot: what a renumbering has to give (RULES T39, T42, T43). Of the public functions `seats::located` alone
-- goes by these. Assumes nothing.
use Rattle.std.specs.Prelude.{◌≡◌, cond, ◌⊎◌, List, ℕ, ◌%◌, ◌<◌, get_or, set, T, ltb}
use Rattle.model.specs.Lists.{In}
use Rattle.model.specs.Flow.{object}
use Rattle.model.specs.Tables.{Tables}
use Rattle.model.specs.Calls.{Call, made, steps}
use Rattle.model.proofs.Calls.Renaming.{Renumbers, call}
use Rattle.tables.specs.declared.Object.{Object}
use Rattle.tables.specs.Records.{object_entry, no_object}
use Rattle.refusals.specs.Refusing.{Room}
use Rattle.tables.specs.Slots.{slot_used, Seated}
use Rattle.gatekeeper.specs.View.{used_slots}

-- RULES T39, T42: the numbers ns, but o beside slot i where that is one of the 64
abbrev pub noted : List ℕ → ℕ → ℕ → List ℕ
noted ns i o = cond (ltb i 64) (set ns (i % 64) o) ns

-- two slots for two new objects: one where they have one number, and else two
pub record Both (os : List Object) (ns : List ℕ) (c d x y : ℕ) : Type 0 where
  pub one : c ≡ d → x ≡ y
  pub first : Seated os ns c 64 x
  pub second : (c ≡ d → ⊥) → (z : ℕ) × Seated os ns d x z × (y ≡ cond (ltb z 64) z 65)

-- RULES T43: call c by number is call k by slot, where os are the objects and ns their numbers; ns' are the numbers once it is made
pub record Lift (os : List Object) (ns : List ℕ) (c k : Call) (ns' : List ℕ) : Type 0 where
  pub ρ : ℕ → ℕ
  pub σ : ℕ → ℕ
  pub one_to_one : Renumbers ρ σ
  pub names : (i : ℕ) → i < 64 → T (slot_used os i) → ρ i ≡ get_or ns i 0
  pub call_is : (l : List ℕ) → call ρ σ one_to_one l k ≡ c
  pub after : (t : Tables) (i : ℕ) → i < 64 → T (slot_used os i) ⊎ In i (made (steps t k)) → ρ i ≡ get_or ns' i 0
  pub room : (t : Tables) → ((i : ℕ) → t.at (object i) ≡ object_entry (get_or os i no_object)) → t.numbers ≡ used_slots os → Room t k
