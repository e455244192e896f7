-- The tally: how many handles were made and how many are gone, over the calls so far. States RULES Y1 to Y9, Y13 and Y14. Assumes nothing.
use Rattle.std.specs.Prelude.{cond, List, [], ◌∷◌, ℕ, ◌+◌, ◌-◌, ◌%◌, ◌^◌, length}
use Rattle.std.proofs.Math.Option.{Option, none, some}
use Rattle.model.specs.Lists.{each}
use Rattle.model.specs.Flow.{subject}
use Rattle.model.specs.Tables.{Handle, Tables, subjects, places, mates, one, handles_of}
use Rattle.model.specs.Calls.{Call, admit, register, create, make_pipe, opens, access, fork, thread, exec, close, exit, retire, maps, mark, freeze, connect, unknown, ends_at_exec, Raw, decode, refusal, next}

-- RULES Y4, Y6, Y11: how many handles s holds
abbrev pub held : Tables → ℕ → ℕ
held t s = length (handles_of t s)

-- the handle at a place where an exec closes it
abbrev pub dropped : Option Handle → Option Handle
dropped none = none
dropped (some k) = cond (ends_at_exec k) (some k) none

-- RULES Y13: how many handles s holds that an exec drops
abbrev pub drops : Tables → ℕ → ℕ
drops t s = length (each places (λ p. one (dropped (t.hand s p))))

-- how many handles the other members of the group of s hold
abbrev pub ousted : Tables → ℕ → ℕ
ousted t s = length (each subjects (λ m. cond (mates t s (subject m)) (handles_of t m) []))

-- RULES Y2, Y3, Y4, Y7, Y14: what a call adds to made
abbrev pub makes : Tables → Call → ℕ
makes t (admit s n) = 0
makes t (register o n) = 0
makes t (create s o) = 0
makes t (make_pipe s o r w) = 2
makes t (opens d s o p) = 1
makes t (access d s p) = 0
makes t (fork s c) = held t s
makes t (thread s c) = 0
makes t (exec s o) = 0
makes t (close s p) = 0
makes t (exit s) = 0
makes t (retire o) = 0
makes t (maps s o p) = 1
makes t (mark s p) = 0
makes t (freeze n) = 0
makes t (connect s u a b p q) = 4
makes t unknown = 0

-- RULES Y5, Y6, Y7, Y13: what a call adds to gone
abbrev pub removes : Tables → Call → ℕ
removes t (admit s n) = 0
removes t (register o n) = 0
removes t (create s o) = 0
removes t (make_pipe s o r w) = 0
removes t (opens d s o p) = 0
removes t (access d s p) = 0
removes t (fork s c) = 0
removes t (thread s c) = 0
removes t (exec s o) = drops t s + ousted t s
removes t (close s p) = 1
removes t (exit s) = held t s
removes t (retire o) = 0
removes t (maps s o p) = 0
removes t (mark s p) = 0
removes t (freeze n) = 0
removes t (connect s u a b p q) = 0
removes t unknown = 0

-- RULES Y9: a count has 64 bits
abbrev pub wrapped : ℕ → ℕ
wrapped n = n % 2 ^ 64

-- RULES Y1
pub record Tally : Type 0 where
  pub made : ℕ
  pub gone : ℕ

-- RULES Y8
abbrev pub zeroed : Tally
zeroed = record { made = 0; gone = 0 }

-- RULES Y7, R103: a refused call leaves the tally as it was
unfoldable pub tallied : Tables → Call → Tally → Tally
tallied t c y = elim (refusal t c) [ none ↦ record { made = wrapped (y.made + makes t c); gone = wrapped (y.gone + removes t c) } | some n ↦ y ]

-- RULES Y1: over a list of calls
abbrev pub tally : Tables → Tally → List Raw → Tally
tally t y [] = y
tally t y (r ∷ rs) = tally (next t (decode r)) (tallied t (decode r) y) rs

-- RULES Y9: made minus gone, modulo 2 to the 64th
abbrev pub difference : Tally → ℕ
difference y = wrapped (y.made + 2 ^ 64 - y.gone)
