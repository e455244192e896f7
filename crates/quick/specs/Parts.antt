-- A monitor's parts as the bytes that they are in memory, and a call that was done on them. States RULES H24 and H12, and T15, Y9 and R102 of such a call. Assumes nothing.
use Rattle.std.specs.Prelude.{◌≡◌, List, ℕ, ◌+◌, ◌*◌, ◌<◌, length, get_or, T, Option, Some, None}
use Rattle.std.proofs.Math.Option.{none, some}
use Rattle.model.specs.Label.{Label, bot}
use Rattle.model.specs.Lists.{In}
use Rattle.model.specs.Flow.{Thing, subject, object}
use Rattle.model.specs.Tables.{Dir, reading, writing, Tables, live, flow, demand, needs}
use Rattle.model.specs.Tables.{Handle as Held}
use Rattle.model.specs.Calls.{Call, opens, close, Raw, decode, refusal, effect, Answer}
use Rattle.model.specs.Promise.{Meets}
use Rattle.passes.specs.Working.{spare_by}
use Rattle.answers.specs.Telling.{Answered, told, letter_of, value_of, lost_of}
use Rattle.gatekeeper.specs.declared.Monitor.{Monitor}
use Rattle.gatekeeper.specs.View.{view, Honest, monitors}
use Rattle.tally.specs.declared.Tally.{Tally}
use Rattle.tally.specs.Counting.{Tallies}
use Rattle.inplace.specs.Bytes.{subjects_in, objects_in, handles_in}

-- ── parts ──
-- RULES H24: each part has its bytes, and there are 64 numbers, 96 needs and two counts
pub record Whole (ns sb ob hb nb cs : List ℕ) : Type 0 where
  pub numbers : length ns ≡ 64
  pub subjects : length sb ≡ 96
  pub objects : length ob ≡ 192
  pub handles : length hb ≡ 1536
  pub needs : length nb ≡ 96
  pub counts : length cs ≡ 2

-- the groups are not lent: no open and no close looks at them
abbrev pub monitor_in : (groups numbers subjects objects handles needs : List ℕ) (freeze sure : ℕ) → Monitor
monitor_in groups numbers subjects objects handles needs freeze sure = record {
  numbers = numbers;
  subjects = subjects_in subjects;
  objects = objects_in objects;
  handles = handles_in handles;
  freeze = freeze;
  needs = needs;
  groups = groups;
  sure = sure;
}

abbrev pub tally_in : List ℕ → Tally
tally_in counts = record { made = get_or counts 0 0; gone = get_or counts 1 0 }

-- ── a call ──
-- the call r on monitor m with tally y was done: it is answered, n is that answer's number, and m' and y' are what it left
pub record Done (m : Monitor) (y : Tally) (r : Raw) (n : ℕ) (m' : Monitor) (y' : Tally) : Type 0 where
  pub answer : Answer
  -- RULES H12
  pub number : n ≡ 65536 * lost_of answer + 256 * letter_of answer + value_of answer
  pub small : value_of answer < 256
  -- RULES T15, R102
  pub meets : Meets monitors m (decode r) answer m'
  -- RULES Y9, R103
  pub counts : Tallies m y (decode r) answer y'

-- RULES H24, H12: the number that C is told: that of the answer, and 0 where nothing was done
abbrev pub tried_number : Option Answered → ℕ
tried_number None = 0
tried_number (Some a) = 65536 * lost_of (told a) + 256 * letter_of (told a) + value_of (told a)

-- ── what is settled ──
-- what is live in t needs the same in u
abbrev pub NeedsStay : Tables → Tables → Type 0
NeedsStay t u = (x : Thing) → T (live t x) → needs u x ≡ needs t x

-- what the source of the flow of handle k demands by itself: where k reads a file, that file's label
abbrev pub demanded_at : Tables → Held → Label
demanded_at t k = elim k.dir [ reading ↦ demand (object k.to) (t.at (object k.to)) | writing ↦ bot ]

-- the ends of handle k of subject s tell that its close changes no need, part by part: of the need of its flow's end, the set is in that of what the source
-- demands by itself, and the level is at most the level of that, or below the level that the source needs
abbrev pub Loose : Tables → ℕ → Held → Type 0
Loose t s k = T (spare_by (needs t (flow (subject s) k).dst) (needs t (flow (subject s) k).src) (demanded_at t k))

-- RULES H24: n was returned for call c on tables t. Free is the rest, which may be done or left (n is 0): an open by which some need changes, be it
-- in order or refused with 9; a close by which a pipe ends; and a close whose ends do not tell that it changes none
pub record Settles (t : Tables) (c : Call) (n : ℕ) : Type 0 where
  -- what the rules refuse, but for 9, is refused with that number
  pub refusing : (k : ℕ) → refusal t c ≡ some k → (k ≡ 9 → ⊥) → n ≡ 256 * 82 + k
  -- an open that is in order and changes no need is done
  pub opening : (d : Dir) (s o p : ℕ) → c ≡ opens d s o p → refusal t c ≡ none → NeedsStay t (effect t c) → 0 < n
  -- a close that is in order, whose ends tell that it changes no need, and that ends no pipe, is done
  pub closing : (s p : ℕ) (k : Held) → c ≡ close s p → refusal t c ≡ none → t.hand s p ≡ some k → Loose t s k
      → (effect t c).at (object k.to) ≡ t.at (object k.to) → 0 < n

-- RULES H24: the call r was tried on these parts, n was returned, and hb' and cs' are the handles and counts left: any number but 0 is the answer to
-- a call that was done, on parts that are whole; 0 says that all is as it was; and a call of one of these codes, on whole parts of a monitor that is
-- sure and honest, is settled as above. Whatever the groups are, which are not lent
abbrev pub Tried : (codes ns sb ob hb nb cs : List ℕ) (fz su : ℕ) (r : Raw) (n : ℕ) (hb' cs' : List ℕ) → Type 0
Tried codes ns sb ob hb nb cs fz su r n hb' cs' = (gs : List ℕ) → length gs ≡ 32 →
    (0 < n → Whole ns sb ob hb nb cs × Done (monitor_in gs ns sb ob hb nb fz su) (tally_in cs) r n (monitor_in gs ns sb ob hb' nb fz su) (tally_in cs'))
    × (n ≡ 0 → (hb' ≡ hb) × (cs' ≡ cs))
    × (In r.code codes → Whole ns sb ob hb nb cs → su ≡ 1 → Honest (monitor_in gs ns sb ob hb nb fz su)
    → Settles (view (monitor_in gs ns sb ob hb nb fz su)) (decode r) n)
