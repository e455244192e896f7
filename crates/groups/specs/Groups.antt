-- Groups of subjects as bytes, one beside each subject, and what is worked out from them. States RULES T47, and of T45 which byte says what. Assumes nothing.
use Rattle.std.specs.Prelude.{◌≡◌, Bool, not, ◌||◌, ◌&&◌, cond, List, ℕ, ◌≤◌, ◌<◌, get_or, T, eqb}
use Rattle.tables.specs.declared.Subject.{Subject}
use Rattle.tables.specs.Records.{no_subject}
use Rattle.tables.specs.Working.{fallen_by}
pub mod Laws

-- subject a is live
abbrev pub stands : List Subject → ℕ → Bool
stands ss a = not (eqb (get_or ss a no_subject).live 0)

-- RULES T47: two subjects are in one group where both are live and their bytes are equal
abbrev pub kin_of : List Subject → List ℕ → ℕ → ℕ → Bool
kin_of ss gs a b = eqb a b || (stands ss a && (stands ss b && eqb (get_or gs a 0) (get_or gs b 0)))

-- a is in the group of s, and is not s
abbrev pub mate_of : List Subject → List ℕ → ℕ → ℕ → Bool
mate_of ss gs s a = not (eqb s a) && kin_of ss gs s a

-- the lowest number in the group of each subject
pub record Leads (kin : ℕ → ℕ → Bool) (ld : List ℕ) : Type 0 where
  pub low : (s : ℕ) → s < 32 → get_or ld s 0 < 32
  pub member : (s : ℕ) → s < 32 → T (kin s (get_or ld s 0))
  pub lowest : (s a : ℕ) → s < 32 → a < 32 → T (kin s a) → get_or ld s 0 ≤ a

-- no live subject has this byte
abbrev pub Fresh : List Subject → List ℕ → ℕ → Type 0
Fresh ss gs v = (a : ℕ) → T (stands ss a) → get_or gs a 0 ≡ v → ⊥

-- x, or x once it has taken in something of level l and set m
abbrev pub taken_by : Subject → Bool → ℕ → ℕ → Subject
taken_by x takes l m = cond takes (fallen_by x l m) x

-- x, or a record that is not live
abbrev pub ousted_by : Subject → Bool → Subject
ousted_by x goes = cond goes no_subject x
