-- A monitor and its tally as the bytes that a host lends. States RULES H4 to H10, H15, H16, H21, H26 and H30, and F11, F12 and F15 of the bytes. Every value
-- of the monitor goes by the rules (RULES T16), so that every byte string of the length is one.
--
-- The layout: the subjects, the objects and the handles, three bytes each; then made and gone, eight bytes
-- each, lowest first; then the freeze, one byte; then the kept needs, two bytes each, of the subjects and of the slots; then the objects' numbers, eight bytes
-- each, lowest first; then the groups, one byte each. In order: where the parts stand; records of bytes; one record of each kind; numbers; from bytes, and to bytes; the empty state, and what a
-- call leaves. The laws are in State/Laws. Assumes nothing.
use Rattle.std.specs.Prelude.{◌≡◌, cond, List, [], ◌∷◌, ◌++◌, ℕ, zero, suc, ◌+◌, ◌*◌, ◌/◌, ◌%◌, ◌^◌, ◌<◌, ltb, eqb, length, take, drop, get_or, replicate}
use Rattle.std.proofs.Math.Option.{none}
use Rattle.model.specs.Tables.{subjects, objects, places, no_freeze, Tables, empty, clean}
use Rattle.model.specs.Calls.{Call, refusal, answer}
use Rattle.model.specs.Promise.{Kind, Meets}
use Rattle.model.specs.Tally.{zeroed, tallied}
use Rattle.tables.specs.declared.Subject.{Subject}
use Rattle.tables.specs.declared.Object.{Object}
use Rattle.tables.specs.declared.Handle.{Handle}
use Rattle.gatekeeper.specs.declared.Monitor.{Monitor}
use Rattle.tally.specs.declared.Tally.{Tally}
use Rattle.gatekeeper.specs.View.{view, Right, Whole}
use Rattle.tally.specs.Counting.{counts_of}
pub mod Laws

-- RULES H4
abbrev pub state_bytes : ℕ
state_bytes = 3 * subjects + 3 * objects + 3 * (subjects * places) + 2 * 8 + 1 + 2 * (subjects + objects) + 8 * objects + subjects

-- RULES H10: bytes that are a state
abbrev pub Sized : List ℕ → Type 0
Sized s = length s ≡ state_bytes

-- ── where the parts stand ──
-- RULES H5: in how many bytes a record is kept
abbrev pub subject_width : ℕ
subject_width = 3

abbrev pub object_width : ℕ
object_width = 3

abbrev pub handle_width : ℕ
handle_width = 3

abbrev pub byte_width : ℕ
byte_width = 1

abbrev pub need_width : ℕ
need_width = 2

abbrev pub number_width : ℕ
number_width = 8

-- and at which index each part starts; the subjects start at 0
abbrev pub objects_at : ℕ
objects_at = subject_width * subjects

abbrev pub handles_at : ℕ
handles_at = objects_at + object_width * objects

abbrev pub made_at : ℕ
made_at = handles_at + handle_width * (subjects * places)

abbrev pub gone_at : ℕ
gone_at = made_at + 8

abbrev pub freeze_at : ℕ
freeze_at = gone_at + 8

abbrev pub needs_at : ℕ
needs_at = freeze_at + 1

abbrev pub numbers_at : ℕ
numbers_at = needs_at + need_width * (subjects + objects)

abbrev pub groups_at : ℕ
groups_at = numbers_at + number_width * objects

-- ── records of bytes ──
-- n records of w bytes each, from the front of s; f reads one from its bytes
unfoldable pub records : {A : Type 0} → (List ℕ → A) → ℕ → ℕ → List ℕ → List A
records f w zero s = []
records f w (suc n) s = f (take w s) ∷ records f w n (drop w s)

-- the bytes of each record, one after the other
unfoldable pub flat : {A : Type 0} → (A → List ℕ) → List A → List ℕ
flat g [] = []
flat g (x ∷ l) = g x ++ flat g l

-- ── one record, from its bytes and to them ──
-- RULES H6, H15: 1 is live, anything else is not; 1 is marked, anything else is not
abbrev pub live_of : ℕ → ℕ
live_of n = cond (eqb n 1) 1 0

-- RULES H7, H8: a byte below k is what it says, anything else is 0: of an object, 1 is a file, 2 a pipe, anything else free; of a handle, 1 reads,
-- 2 writes, 3 is a mapping, anything else is an empty place
abbrev pub sort_of : ℕ → ℕ → ℕ
sort_of k n = cond (ltb n k) n 0

abbrev pub kinds : ℕ
kinds = 3

abbrev pub ways : ℕ
ways = 4

-- as what byte each is stored
abbrev pub live_byte : ℕ → ℕ
live_byte n = cond (eqb n 0) 0 1

abbrev pub sort_byte : ℕ → ℕ → ℕ
sort_byte k n = cond (ltb n k) n 2

-- RULES H6 to H9, H15: the first byte, the second and the third
abbrev pub subject_of : List ℕ → Subject
subject_of b = record { live = live_of (get_or b 0 0); level = get_or b 1 0; shops = get_or b 2 0 }

abbrev pub subject_record : Subject → List ℕ
subject_record x = live_byte x.live ∷ x.level ∷ x.shops ∷ []

abbrev pub object_of : List ℕ → Object
object_of b = record { kind = sort_of kinds (get_or b 0 0); level = get_or b 1 0; shops = get_or b 2 0 }

abbrev pub object_record : Object → List ℕ
object_record x = sort_byte kinds x.kind ∷ x.level ∷ x.shops ∷ []

abbrev pub handle_of : List ℕ → Handle
handle_of b = record { way = sort_of ways (get_or b 0 0); object = get_or b 1 0; mark = live_of (get_or b 2 0) }

abbrev pub handle_record : Handle → List ℕ
handle_record x = sort_byte ways x.way ∷ x.object ∷ live_byte x.mark ∷ []

-- RULES H30: a group is one byte, as it is
abbrev pub byte_of : List ℕ → ℕ
byte_of b = get_or b 0 0

abbrev pub byte_record : ℕ → List ℕ
byte_record n = n ∷ []

-- ── numbers, lowest byte first ──
unfoldable pub whole : List ℕ → ℕ
whole [] = 0
whole (b ∷ l) = b + 256 * whole l

-- n as k bytes
unfoldable pub digits : ℕ → ℕ → List ℕ
digits zero n = []
digits (suc k) n = n % 256 ∷ digits k (n / 256)

-- ── from bytes ──
unfoldable pub subjects_of : List ℕ → List Subject
subjects_of s = records subject_of subject_width subjects s

unfoldable pub objects_of : List ℕ → List Object
objects_of s = records object_of object_width objects (drop objects_at s)

unfoldable pub handles_of : List ℕ → List Handle
handles_of s = records handle_of handle_width (subjects * places) (drop handles_at s)

unfoldable pub made_of : List ℕ → ℕ
made_of s = whole (take 8 (drop made_at s))

unfoldable pub gone_of : List ℕ → ℕ
gone_of s = whole (take 8 (drop gone_at s))

unfoldable pub freeze_of : List ℕ → ℕ
freeze_of s = get_or s freeze_at 0

-- RULES H16: a kept need is two bytes, its set and then its level
unfoldable pub needs_of : List ℕ → List ℕ
needs_of s = records whole need_width (subjects + objects) (drop needs_at s)

-- RULES H26: eight bytes each
unfoldable pub numbers_of : List ℕ → List ℕ
numbers_of s = records whole number_width objects (drop numbers_at s)

-- RULES H30: in the order of the subjects
unfoldable pub groups_of : List ℕ → List ℕ
groups_of s = records byte_of byte_width subjects (drop groups_at s)

-- RULES H5, H9, H16, H26, H30
abbrev pub monitor_of : List ℕ → Monitor
monitor_of s = record {
  numbers = numbers_of s;
  subjects = subjects_of s;
  objects = objects_of s;
  handles = handles_of s;
  freeze = freeze_of s;
  needs = needs_of s;
  groups = groups_of s;
  sure = 0;
}

abbrev pub tally_of : List ℕ → Tally
tally_of s = record { made = made_of s; gone = gone_of s }

-- ── to bytes ──
unfoldable pub subject_bytes : List Subject → List ℕ
subject_bytes l = flat subject_record l

unfoldable pub object_bytes : List Object → List ℕ
object_bytes l = flat object_record l

unfoldable pub handle_bytes : List Handle → List ℕ
handle_bytes l = flat handle_record l

unfoldable pub need_bytes : List ℕ → List ℕ
need_bytes l = flat (digits 2) l

unfoldable pub number_bytes : List ℕ → List ℕ
number_bytes l = flat (digits 8) l

unfoldable pub group_bytes : List ℕ → List ℕ
group_bytes l = flat byte_record l

-- each number is w bits wide
abbrev pub Narrow : ℕ → List ℕ → Type 0
Narrow w [] = Unit {0}
Narrow w (n ∷ l) = (n < 2 ^ w) × Narrow w l

-- RULES H5, H9, H16, H26, H30
unfoldable pub bytes_of : Monitor → Tally → List ℕ
bytes_of m y = subject_bytes m.subjects ++ object_bytes m.objects ++ handle_bytes m.handles ++ digits 8 y.made ++ digits 8 y.gone ++
    (m.freeze ∷ []) ++ need_bytes m.needs ++ number_bytes m.numbers ++ group_bytes m.groups

-- the bytes s are those of a monitor and a tally, and stand for them: for the monitor's tables, for kept needs that are right where its are, and for the tally
pub record Stands (s : List ℕ) (m : Monitor) (y : Tally) : Type 0 where
  pub size : Sized s
  pub bytes : s ≡ bytes_of m y
  pub again : s ≡ bytes_of (monitor_of s) (tally_of s)
  pub tables : view (monitor_of s) ≡ view m
  pub right : Right m → Right (monitor_of s)
  pub whole : Whole m → Whole (monitor_of s)
  pub tally : tally_of s ≡ y

-- ── the empty state, and a call ──
-- the tables that the bytes stand for
abbrev pub state_view : List ℕ → Tables
state_view s = view (monitor_of s)

-- RULES F11: the kept needs that stand in the bytes are right
abbrev pub state_right : List ℕ → Type 0
state_right s = Right (monitor_of s)

-- RULES F19: bytes say nothing of themselves, so that all of them are honest: a call on them works out what it goes by
abbrev pub state_honest : List ℕ → Type 0
state_honest s = Unit {0}

-- RULES F19: the bytes as a kind of monitor, which claims nothing
abbrev pub stored_kind : Kind (List ℕ)
stored_kind = record { view = state_view; honest = state_honest; whole = λ s. Whole (monitor_of s); tidy = state_honest; right = state_right; claim = λ s. 0 }

-- as what it is stored: the freeze says that there is none, and all else is 0
unfoldable pub blank_bytes : List ℕ
blank_bytes = replicate freeze_at 0 ++ (no_freeze ∷ replicate (need_width * (subjects + objects) + number_width * objects + subjects) 0)

-- RULES T12, F12, Y8: empty tables, kept needs that are right, and counts of 0
pub record Blank (s : List ℕ) : Type 0 where
  pub size : Sized s
  pub tables : state_view s ≡ empty
  pub right : state_right s
  pub counts : counts_of (tally_of s) ≡ zeroed

-- RULES T16, T23, F12, R102, R103: call c on the bytes s leaves the bytes s'. They meet the rules as a monitor does, so that a refused call
-- leaves every byte; the tally in them is the history's; and what an allowed or lowered call leaves is the bytes of a monitor and a tally.
-- Which label, kept need and group byte a subject has that is not live, which byte a group has, which label, kept need and number a free slot has, which slot an object
-- stands in, and which slot and mark stand at an empty place, is the free part of `Promise`.
pub record Stored (s : List ℕ) (c : Call) (s' : List ℕ) : Type 0 where
  pub size : Sized s'
  pub meets : Meets stored_kind s c (answer (clean (state_view s)) c) s'
  pub counts : counts_of (tally_of s') ≡ tallied (clean (state_view s)) c (counts_of (tally_of s))
  pub exact : refusal (clean (state_view s)) c ≡ none → s' ≡ bytes_of (monitor_of s') (tally_of s')

-- RULES F15, H21: the bytes s with their kept needs put right are s': the bytes before those and after them are as they were
pub record PutRight (s s' : List ℕ) : Type 0 where
  pub size : Sized s'
  pub others : take needs_at s' ≡ take needs_at s
  pub behind : drop numbers_at s' ≡ drop numbers_at s
  pub tables : state_view s' ≡ state_view s
  pub tally : tally_of s' ≡ tally_of s
  pub right : state_right s'
