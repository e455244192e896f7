-- Tables by number: what a monitor's slots, with a number beside each, are as tables. States RULES T39 and T40, and of F19 and T41 that numbers
-- differ. Assumes nothing.
use Rattle.std.specs.Prelude.{◌≡◌, Bool, ◌&&◌, cond, List, ℕ, zero, suc, ◌<◌, T, eqb}
use Rattle.std.proofs.Math.Option.{Option, none, some}
use Rattle.model.specs.Flow.{Thing, subject, object}
use Rattle.model.specs.Tables.{Entry, Handle, Tables}

-- the slots in use, and the number beside each slot
module _ (live : ℕ → Bool) (N : ℕ → ℕ) where
  -- RULES T41, F19: the slots in use have numbers that differ
  abbrev pub Distinct : ℕ → Type 0
  Distinct k = (i j : ℕ) → i < j → j < k → T (live i) → T (live j) → N i ≡ N j → ⊥

  -- slot i is in use, and has the number n
  abbrev pub hit : ℕ → ℕ → Bool
  hit n i = live i && eqb (N i) n

  -- RULES T39: what stands in the slot below k that has the number n
  abbrev pub look : (ℕ → Option Entry) → ℕ → ℕ → Option Entry
  look a zero n = none
  look a (suc k) n = cond (hit n k) (a k) (look a k n)

  -- RULES T39: the entries by number
  abbrev pub entries : (Thing → Option Entry) → ℕ → Thing → Option Entry
  entries a k (subject s) = a (subject s)
  entries a k (object n) = look (λ i. a (object i)) k n

  -- RULES T40: a handle that names a slot is on the object that has the number beside it
  abbrev pub numbered : Handle → Handle
  numbered h = record { dir = h.dir; to = N h.to; marked = h.marked; mapped = h.mapped }

  abbrev pub holding : Option Handle → Option Handle
  holding none = none
  holding (some h) = some (numbered h)

  -- RULES T39, T40: tables by slot t, of k slots, read by number, l being the list of the numbers
  abbrev pub by_number : Tables → ℕ → List ℕ → Tables
  by_number t k l = record { at = entries t.at k; hand = λ s p. holding (t.hand s p); freeze = t.freeze; numbers = l; kin = t.kin }
