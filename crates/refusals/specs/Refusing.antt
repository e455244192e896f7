-- The refusal of a call, as it is worked out from the few records that the call looks at, and from what whole tables were asked. Assumes nothing.
use Rattle.std.specs.Prelude.{◌≡◌, Bool, ◌||◌, cond, List, [], ◌∷◌, ℕ, eqb, leb}
use Rattle.std.proofs.Math.Option.{none, some}
use Rattle.model.specs.Tables.{Tables, Dir, reading, writing}
use Rattle.model.specs.Flow.{object}
use Rattle.model.specs.Calls.{Call, admit, register, create, make_pipe, opens, maps, access, connect, fork, thread, exec, close, mark, exit, retire, freeze, unknown, roomy, broken, tests, breaks, first, refusal}

-- the rows that are asked when those have passed, in their order
abbrev pub late : List ℕ
late = 15 ∷ 9 ∷ 10 ∷ []

-- n is the number of the call's refusal; or n is 0, and what refuses it, if anything, is one of the late rows
pub record Refuses (t : Tables) (c : Call) (n : ℕ) : Type 0 where
  pub said : refusal t c ≡ cond (eqb n 0) (first t (tests c) late) (some n)

-- what the tests of each late row come to: some thing would be short, a handle is open, the file is frozen
pub record Late (t : Tables) (c : Call) (short busy frozen : Bool) : Type 0 where
  pub nine : breaks t 9 (tests c) ≡ short
  pub ten : breaks t 10 (tests c) ≡ busy
  pub fifteen : breaks t 15 (tests c) ≡ frozen

-- n is the number of the call's refusal, 0 where it is not refused
pub record Refused (t : Tables) (c : Call) (n : ℕ) : Type 0 where
  pub is : refusal t c ≡ cond (eqb n 0) none (some n)

-- an open for reading, or for writing
abbrev pub direction : Bool → Dir
direction reads = cond reads reading writing

-- RULES R17: slots for the objects that a call makes: those of the 64 where there is room, and else one that is not of them
abbrev pub Room : Tables → Call → Type 0
Room t (register o n) = t.at (object o) ≡ none → broken t (roomy 1) ≡ leb 64 o
Room t (create s o) = t.at (object o) ≡ none → broken t (roomy 1) ≡ leb 64 o
Room t (make_pipe s o r w) = t.at (object o) ≡ none → broken t (roomy 1) ≡ leb 64 o
Room t (connect s u a b p q) = t.at (object a) ≡ none → t.at (object b) ≡ none → (a ≡ b → ⊥) → broken t (roomy 2) ≡ (leb 64 a || leb 64 b)
Room t (admit s n) = Unit {0}
Room t (opens d s o p) = Unit {0}
Room t (maps s o p) = Unit {0}
Room t (access d s p) = Unit {0}
Room t (fork s c) = Unit {0}
Room t (thread s c) = Unit {0}
Room t (exec s o) = Unit {0}
Room t (close s p) = Unit {0}
Room t (mark s p) = Unit {0}
Room t (exit s) = Unit {0}
Room t (retire o) = Unit {0}
Room t (freeze n) = Unit {0}
Room t unknown = Unit {0}
