-- The monitor seen as the tables of the rules, and the needs that it keeps beside them. States RULES T13, T15, T33, T39 to T41, T44, T47, F10 to F12, F15, F16,
-- F19 to F21 and C106. A reader goes by `view`, which reads the numbers off the struct; `slots` is what the methods go by. Assumes nothing.
use Rattle.std.specs.Prelude.{◌≡◌, cond, List, [], ◌∷◌, map, ◌⊎◌, ℕ, ◌+◌, length, get_or}
use Rattle.model.specs.Lists.{each, keep, inserts}
use Rattle.model.specs.Tables.Numbers.{by_number, Distinct}
use Rattle.tables.specs.declared.Object.{Object}
use Rattle.model.specs.Flow.{subject}
use Rattle.model.specs.Tables.{Tables, empty, with_freeze, with_kin, live, clean, safe, with_numbers}
use Rattle.model.specs.Calls.{Raw}
use Rattle.model.specs.Invariant.{Wf, Safe}
use Rattle.model.specs.Figures.{Ready}
use Rattle.model.specs.Promise.{Kind}
use Rattle.tables.specs.Records.{tables_of}
use Rattle.tables.specs.Slots.{slot_used, Absent, Here, single}
use Rattle.tables.specs.Needs.{node, figure_of}
use Rattle.groups.specs.Groups.{kin_of}
use Rattle.calls.specs.declared.Call.{Call}
use Rattle.gatekeeper.specs.declared.Monitor.{Monitor}
pub mod Laws

-- ── the monitor ──
-- the slots in use, rising
abbrev pub used_slots : List Object → List ℕ
used_slots os = each (length os) (λ i. keep (slot_used os i) i [])

-- RULES T13, T47: what the tables by slot have beside the three arrays: the freeze, the slots in use as their list, and the groups
abbrev pub beside : Monitor → Tables
beside m = with_kin (with_numbers (with_freeze empty m.freeze) (used_slots m.objects)) (kin_of m.subjects m.groups)

-- RULES T13, T33: the three arrays and the freeze, each byte as it is: the tables by slot
abbrev pub slots : Monitor → Tables
slots m = tables_of (beside m) m.subjects m.objects m.handles

-- RULES T39: an object has the number that stands beside its slot
abbrev pub called : Monitor → ℕ → ℕ
called m i = get_or m.numbers i 0

-- RULES T44: the numbers of the slots in use, rising
abbrev pub numbers_of : Monitor → List ℕ
numbers_of m = inserts (map (called m) (used_slots m.objects)) []

-- RULES T39, T40: the tables by number, where the slots in use have numbers that differ; what dangles has no number, and is left out
unfoldable pub straight_view : Monitor → Tables
straight_view m = by_number (slot_used m.objects) (called m) (clean (slots m)) 64 (numbers_of m)

-- RULES T41: of slots in use that have one number the first counts, and any other is free
abbrev pub once : Monitor → Monitor
once m = record { subjects = m.subjects; objects = single m.objects m.numbers; handles = m.handles; freeze = m.freeze; needs = m.needs; groups = m.groups; sure = m.sure; numbers = m.numbers }

-- RULES T13, T41: the tables of a monitor
abbrev pub view : Monitor → Tables
view m = straight_view (once m)

-- RULES F19: the slots in use have numbers that differ
abbrev pub Apart : Monitor → Type 0
Apart m = Distinct (slot_used m.objects) (called m) 64

-- ── kept needs ──
-- RULES F11: a monitor is right if the kept need of each live thing is its need, worked out on the tables as RULES T17 and T18 read them
abbrev pub Right : Monitor → Type 0
Right m = Ready (clean (slots (once m))) (figure_of m.needs)

-- ── what a monitor claims of itself ──
-- RULES F19: nothing dangles, and no level is below its need
pub record Steady (t : Tables) : Type 0 where
  pub wf : Wf t
  pub safe : Safe t

-- RULES F19: a monitor is honest if, where it says that it is sure, its numbers differ, its tables are steady and its kept needs right
abbrev pub Honest : Monitor → Type 0
Honest m = m.sure ≡ 1 → Apart m × Steady (slots m) × Ready (slots m) (figure_of m.needs)

-- RULES T19: no two slots in use have one number, and nothing dangles
abbrev pub Whole : Monitor → Type 0
Whole m = Apart m × Wf (slots m)

-- RULES F12: and tidy if, where it says so, it is whole
abbrev pub Tidy : Monitor → Type 0
Tidy m = m.sure ≡ 1 → Whole m

-- RULES T15, F11, F12, F19, F20: the struct as a kind of monitor
abbrev pub monitors : Kind Monitor
monitors = record { view = view; honest = Honest; whole = Whole; tidy = Tidy; right = Right; claim = λ m. m.sure }

-- RULES F16: the kept need of subject s where that is live, 0 where it is not
abbrev pub kept_need : Monitor → ℕ → ℕ
kept_need m s = cond (live (slots m) (subject s)) (get_or m.needs (node (subject s)) 0) 0

-- RULES F16: and that of object o: the one at its slot, 0 where there is none
abbrev pub KeptAt : Monitor → ℕ → ℕ → Type 0
KeptAt m o r = ((i : ℕ) × Here (single m.objects m.numbers) m.numbers o i × (r ≡ get_or m.needs (32 + i) 0)) ⊎ (Absent (single m.objects m.numbers) m.numbers o × (r ≡ 0))

-- RULES F15: n is m with its kept needs put right
pub record Righted (m n : Monitor) : Type 0 where
  pub same : n ≡ record { subjects = m.subjects; objects = m.objects; handles = m.handles; freeze = m.freeze; needs = n.needs; groups = m.groups; sure = m.sure; numbers = m.numbers }
  pub right : Right n

-- RULES F21: n is m with each place emptied that counts as empty and its kept needs put right. It says that it is sure exactly where it has earned that: where no
-- level is below its need. What stands beside an empty place, and which of the bytes that mean the same a handle has, is free (RULES T23)
pub record Assured (m n : Monitor) : Type 0 where
  pub same : n ≡ record { subjects = m.subjects; objects = single m.objects m.numbers; handles = n.handles; freeze = m.freeze; needs = n.needs; groups = m.groups; sure = n.sure; numbers = m.numbers }
  pub tables : view n ≡ clean (view m)
  pub emptied : Wf (slots n)
  pub right : Right n
  pub claim : n.sure ≡ cond (safe (clean (view m))) 1 0
  pub honest : Honest n

-- ── direct calls ──
-- RULES C106: a code and six numbers
abbrev pub direct : ℕ → ℕ → ℕ → ℕ → ℕ → ℕ → ℕ → Raw
direct code a b c d e f = record { code = code; numbers = a ∷ b ∷ c ∷ d ∷ e ∷ f ∷ [] }

-- and the struct that has them
abbrev pub direct_of : Call → Raw
direct_of k = let n = k.numbers in direct k.code n.a n.b n.c n.d n.e n.f
