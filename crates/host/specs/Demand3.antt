-- A host's calls as demand 3 speaks of them (RULES B24 to B28): one `gatekeeper_call` as it is promised, a list
-- of them on the same bytes, and the answers as the host reads them off the numbers that were returned. The laws are in Demand3/Laws. Assumes nothing.
use Rattle.std.specs.Prelude.{◌≡◌, List, [], ◌∷◌, ℕ}
use Rattle.model.specs.Tables.{clean}
use Rattle.model.specs.Calls.{Raw, decode, Answer, answer}
use Rattle.stored.specs.State.{Sized, state_view, Stored}
use Rattle.host.specs.Numbers.{answer_in, call_number}
pub mod Laws

-- `gatekeeper_call` of the call r on the bytes s returned n, and left the bytes s'
pub record Called (s : List ℕ) (r : Raw) (n : ℕ) (s' : List ℕ) : Type 0 where
  -- RULES H12, H11: the rules' answer as a number, 0 where the bytes have another length
  pub returned : n ≡ call_number s (decode r)
  -- the header's three functions read the rules' answer off it, whichever the bytes are
  pub told : Sized s → answer_in n ≡ answer (clean (state_view s)) (decode r)
  pub stored : Sized s → Stored s (decode r) s'
  -- RULES H11: bytes of another length are not touched
  pub other : (Sized s → ⊥) → s' ≡ s

-- RULES B24: a list of calls, each on the bytes that the one before left, with the numbers that they returned
pub data Calls : List ℕ → List Raw → List ℕ → List ℕ → Type 0 where
  done : {s : List ℕ} → Calls s [] [] s
  then : {s s' s'' : List ℕ} {r : Raw} {rs : List Raw} {n : ℕ} {ns : List ℕ} → Called s r n s' → Calls s' rs ns s'' → Calls s (r ∷ rs) (n ∷ ns) s''

abbrev pub answers_in : List ℕ → List Answer
answers_in [] = []
answers_in (n ∷ ns) = answer_in n ∷ answers_in ns
