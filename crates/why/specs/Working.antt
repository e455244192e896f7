-- A chain behind a call, objects by slot: what the search of crate `ways` comes to on the tables as the call would leave them. States RULES A10 and A11 by slot. No caller
-- of a public function needs these. Assumes nothing.
use Rattle.std.specs.Prelude.{◌≡◌, Bool, ◌&&◌, cond, List, ℕ, ◌+◌, ◌-◌, ◌/◌, ◌%◌, ◌≤◌, ◌<◌, length, get_or, take, eqb, ltb}
use Rattle.std.proofs.Math.Option.{some}
use Rattle.model.specs.Flow.{Thing, subject, object}
use Rattle.model.specs.Tables.{reading, writing, Tables}
use Rattle.model.specs.Calls.{Call, opens, maps, refusal, Answer}
use Rattle.model.specs.Invariant.{Wf, Even}
use Rattle.attack.specs.Attack.{Chain, Fewest}
use Rattle.refusals.specs.Refusing.{Room}
use Rattle.tables.specs.declared.Subject.{Subject}
use Rattle.tables.specs.declared.Object.{Object}
use Rattle.tables.specs.declared.Handle.{Handle}
use Rattle.tables.specs.Records.{tables_of}
use Rattle.groups.specs.Groups.{kin_of}
use Rattle.answers.specs.Telling.{value_of, refuses}
use Rattle.ways.specs.declared.Way.{Way}
use Rattle.why.specs.declared.Chain.{Chain as Told}
use Rattle.why.specs.Why.{no_chain}

-- the thing at the front of a chain: the subject whose handle its first step is, or the object in a slot; the file at its end; and its places
abbrev pub front_of : Way → Thing
front_of w = cond (ltb w.start 32) (subject (get_or w.steps 0 0 / 16)) (object (w.start - 32))

abbrev pub end_of : Way → Thing
end_of w = object (w.end - 32)

abbrev pub steps_of : Way → List ℕ
steps_of w = take w.count w.steps

-- w is a chain behind call c with the fewest handles; a count of 0 where each has more than 95
pub record Tells (t : Tables) (c : Call) (w : Way) : Type 0 where
  pub few : w.count ≤ 95
  pub none : w.count ≡ 0 → (low high : Thing) (m : List ℕ) → Chain t c low high m → 95 < length m
  pub chain : 0 < w.count → Chain t c (front_of w) (end_of w) (steps_of w)
  pub fewest : 0 < w.count → Fewest t c (steps_of w)
  pub ends : 0 < w.count → 32 ≤ w.end

-- the arrays are tables in which nothing dangles and the members of a group have one label, and call c is refused with 9 in them
pub record Due (rest : Tables) (ss : List Subject) (gs : List ℕ) (os : List Object) (hs : List Handle) (c : Call) : Type 0 where
  pub kin : rest.kin ≡ kin_of ss gs
  pub wf : Wf (tables_of rest ss os hs)
  pub even : Even (tables_of rest ss os hs)
  pub room : Room (tables_of rest ss os hs) c
  pub nine : refusal (tables_of rest ss os hs) c ≡ some 9

-- w is what is to be told of call c then
abbrev pub DueTells : List Subject → List ℕ → List Object → List Handle → Call → Way → Type 0
DueTells ss gs os hs c w = (rest : Tables) → Due rest ss gs os hs c → Tells (tables_of rest ss os hs) c w

-- the call that seeks a handle of this way: an open for reading or for writing, or a map
abbrev pub seeking : ℕ → ℕ → ℕ → ℕ → Call
seeking way s o p = cond (eqb way 3) (maps s o p) (opens (cond (eqb way 1) reading writing) s o p)

-- ── by number ──
-- the number of the object that is this one of the 96 things
abbrev pub number_at : List ℕ → ℕ → ℕ
number_at ns x = get_or ns ((x % 64 + 32) % 64) 0

-- the struct for a chain by slot, where the objects have these numbers
abbrev pub telling : List ℕ → Way → Told
telling ns w = record {
  low = cond (ltb w.start 32) (get_or w.steps 0 0 / 16) (number_at ns w.start);
  high = number_at ns w.end;
  steps = w.steps;
  count = w.count % 96;
  kind = cond (ltb w.start 32) 1 2;
}

-- and for none
abbrev pub told_by : List ℕ → Way → Told
told_by ns w = cond (eqb w.count 0) no_chain (telling ns w)

-- an answer that is a refusal 9
abbrev pub nine_in : Answer → Bool
nine_in a = refuses a && eqb (value_of a) 9
