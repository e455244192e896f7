-- The chain behind a refusal 9 as a struct. States RULES A12. Assumes nothing.
use Rattle.std.specs.Prelude.{◌≡◌, cond, List, ℕ, ◌<◌, take, replicate, eqb}
use Rattle.std.proofs.Math.Option.{some}
use Rattle.model.specs.Flow.{Thing, subject, object}
use Rattle.model.specs.Tables.{Tables}
use Rattle.model.specs.Invariant.{Safe, Even}
use Rattle.model.specs.Calls.{Call, effect, refusal}
use Rattle.attack.specs.Attack.{Attack, Fewest, acts}
use Rattle.attack.specs.Attack.{Chain as Behind}
use Rattle.why.specs.declared.Chain.{Chain}

-- the thing at its front, the file at its end, and its places
abbrev pub low_of : Chain → Thing
low_of r = cond (eqb r.kind 1) (subject r.low) (object r.low)

abbrev pub high_of : Chain → Thing
high_of r = object r.high

abbrev pub places_of : Chain → List ℕ
places_of r = take r.count r.steps

-- where there is nothing to tell
abbrev pub no_chain : Chain
no_chain = record { low = 0; high = 0; steps = replicate 95 0; count = 0; kind = 0 }

-- RULES A11, A12: the struct is a chain behind the call, with the fewest handles, and the reads and writes on them are an attack
pub record Shown (t : Tables) (c : Call) (r : Chain) : Type 0 where
  pub some : 0 < r.count
  pub chain : Behind t c (low_of r) (high_of r) (places_of r)
  pub fewest : Fewest t c (places_of r)
  pub attack : Attack t c (low_of r) (high_of r) (acts (effect t c) (places_of r))

-- RULES A12: of tables in which no label is below its need and the members of a group have one, as are all to which calls lead, a chain where the call is refused with 9; and
-- of all tables none where it is not
pub record Explains (t : Tables) (c : Call) (r : Chain) : Type 0 where
  pub none : (refusal t c ≡ some 9 → ⊥) → r ≡ no_chain
  pub some : refusal t c ≡ some 9 → Safe t → Even t → Shown t c r
