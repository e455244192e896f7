-- The chain behind a refusal 9 as a host is handed it, over a struct that it lends: what is returned, and what stands there then. States RULES A12 and A14. Nothing else is lent to be
-- changed: the bytes and the struct of a state are read. The laws are in Behind/Laws. Assumes nothing.
use Rattle.std.specs.Prelude.{◌≡◌, List, ℕ, ◌<◌, ◌≤◌}
use Rattle.std.proofs.Math.Option.{some}
use Rattle.model.specs.Tables.{Tables, clean}
use Rattle.model.specs.Invariant.{Safe, Even}
use Rattle.model.specs.Calls.{Raw, Call, decode, refusal}
use Rattle.why.specs.declared.Chain.{Chain}
use Rattle.why.specs.Why.{Shown}
use Rattle.stored.specs.State.{Sized, state_view}
use Rattle.host.specs.declared.lent.State.{State}
use Rattle.host.specs.Lending.{lent_view, lent_honest}
pub mod Laws

-- RULES A14: n was returned, with the chain k lent and k' left there: n is the count of what stands there, or 0, and then nothing is touched
pub record Left (k : Chain) (n : ℕ) (k' : Chain) : Type 0 where
  pub few : n ≤ 95
  pub count : 0 < n → n ≡ k'.count
  pub same : n ≡ 0 → k' ≡ k

-- RULES A12: of tables in which no label is below its need and the members of a group have one, as are all to which calls lead, a chain where the call is refused with 9; and
-- of all tables 0 where it is not
pub record Tells (t : Tables) (c : Call) (n : ℕ) (k : Chain) : Type 0 where
  pub none : (refusal t c ≡ some 9 → ⊥) → n ≡ 0
  pub some : refusal t c ≡ some 9 → Safe t → Even t → (0 < n) × Shown t c k

-- `gatekeeper_why` of the call r on the bytes s returned n, with the chain k lent and k' left there
pub record WhyBytes (s : List ℕ) (r : Raw) (k : Chain) (n : ℕ) (k' : Chain) : Type 0 where
  pub left : Left k n k'
  pub tells : Sized s → Tells (clean (state_view s)) (decode r) n k'
  -- RULES H11: bytes of another length
  pub other : (Sized s → ⊥) → n ≡ 0

-- `gatekeeper_monitor_why` of the call r on the state x, likewise
pub record WhyLent (x : State) (r : Raw) (k : Chain) (n : ℕ) (k' : Chain) : Type 0 where
  pub left : Left k n k'
  pub tells : lent_honest x → Tells (clean (lent_view x)) (decode r) n k'
