-- What comes of a run of the program over standard input (RULES P1, P15 to P21). Two things are left to the host and are
-- free here: what the reads bring, and whether the writes take all that they are handed. What is made of the bytes that
-- were read, what is handed to which port, and what is said is settled. In order: reading that is over; the reply to some
-- bytes; a run. The ports are in Ports, the laws in Serving/Laws. Assumes nothing.
use Rattle.std.specs.Prelude.{ℕ, ◌+◌, ◌≤◌, ◌<◌, ◌≡◌, true, false, List, Result, Ok, Err, length, take}
use Rattle.number.specs.Put.{put}
use Rattle.replay.specs.Replay.{reply, Begun, largest_journal, reply_room}
use Rattle.ports.specs.Ports.{goes, filled, Sending, Saying}
use Rattle.ports.specs.declared.Port.TheVariants.{Input, Output, Error}
use Rattle.ports.specs.declared.Intake.{Intake}
use Rattle.ports.specs.declared.Sent.{Sent}
use Rattle.ports.specs.declared.Filled.{Filled}
use Rattle.ports.specs.declared.Filled.TheVariants.{Ended, Full, Failed}
use Rattle.ports.specs.declared.Message.TheVariants as message_is
use Rattle.serve.specs.declared.Run.{Run}
use Rattle.serve.specs.declared.Failure.{Failure}
use Rattle.serve.specs.declared.Failure.TheVariants.{Unwritten, NoRoom, Unended, Unread}
pub mod Laws

-- what came of what was read: a reply that was written, or why there is none
abbrev pub Served : Type 0
Served = Result Sent Failure

-- ── reading that is over ──
-- bytes that were read before the input ended lie inside the buffer, and do not fill it
abbrev pub Within : Filled → List ℕ → Type 0
Within (Ended n) journal = n < length journal
Within Full journal = Unit {0}
Within Failed journal = Unit {0}

-- RULES P1: it is standard input that was read, and no read is left to make
pub record Finished (at : Intake) (journal : List ℕ) : Type 0 where
  pub from : at.from ≡ Input
  pub over : goes at (length journal) ≡ false
  pub room : at.done ≤ length journal
  pub within : Within (filled at) journal

-- ── the reply ──
-- to the first n bytes of `journal`: it stands in the buffer that was `first`
pub record Whole (n : ℕ) (journal first out : List ℕ) : Type 0 where
  pub fits : length (reply (take n journal)) ≤ length first
  pub wrote : out ≡ put (reply (take n journal)) first

-- RULES P20: there was no room for it: only its front stands there
pub record Cut (n : ℕ) (journal first out : List ℕ) : Type 0 where
  pub long : length first < length (reply (take n journal))
  pub small : length first < reply_room
  pub begun : Begun (reply (take n journal)) first out

-- RULES P1: it was handed to standard output, whole
abbrev pub Handed : ℕ → Sent → List ℕ → Type 0
Handed n s journal = Sending Output n (length (reply (take n journal))) s

-- a run that replies to these n bytes, and to no others. RULES P16: what fails is said on standard error
abbrev pub Replying : ℕ → Served → (journal first out : List ℕ) → Type 0
Replying n (Ok s) journal first out = (s.whole ≡ true) × Handed n s journal × Whole n journal first out
Replying n (Err (Unwritten s d)) journal first out =
    (s.whole ≡ false) × Saying Error message_is.Unwritten d × Handed n s journal × Whole n journal first out
Replying n (Err (NoRoom m d)) journal first out = (m ≡ n) × Saying Error message_is.NoRoom d × Cut n journal first out
Replying n (Err (Unended d)) journal first out = ⊥
Replying n (Err (Unread d)) journal first out = ⊥

-- ── a run ──
-- the journal's buffer is full and too short to tell: that is said, and nothing is run
abbrev pub Stopped : Served → (first out : List ℕ) → Type 0
Stopped (Ok s) first out = ⊥
Stopped (Err (Unwritten s d)) first out = ⊥
Stopped (Err (NoRoom m d)) first out = ⊥
Stopped (Err (Unended d)) first out = Saying Error message_is.Unended d × (out ≡ first)
Stopped (Err (Unread d)) first out = ⊥

-- RULES P15: a read failed: that is said, and nothing is run
abbrev pub Blind : Served → (first out : List ℕ) → Type 0
Blind (Ok s) first out = ⊥
Blind (Err (Unwritten s d)) first out = ⊥
Blind (Err (NoRoom m d)) first out = ⊥
Blind (Err (Unended d)) first out = ⊥
Blind (Err (Unread d)) first out = Saying Error message_is.Unread d × (out ≡ first)

-- RULES P1, P15, P17, P18: by what reading came to. A full buffer is a journal that is too long, or says nothing of where
-- the journal ends
abbrev pub AnsweringBy : Filled → Served → (journal first out : List ℕ) → Type 0
AnsweringBy (Ended n) r journal first out = Replying n r journal first out
AnsweringBy Full r journal first out = (length journal ≤ largest_journal → Stopped r first out)
    × (largest_journal < length journal → Replying (length journal) r journal first out)
AnsweringBy Failed r journal first out = Blind r first out

abbrev pub Answering : Intake → Served → (journal first out : List ℕ) → Type 0
Answering at r journal first out = AnsweringBy (filled at) r journal first out

-- for the buffers of a run
pub record Serving (r : Run) (journal first out : List ℕ) : Type 0 where
  pub finished : Finished r.read journal
  pub answered : Answering r.read r.came journal first out

-- RULES P19: room for the longest journal and one byte more
abbrev pub journal_room : ℕ
journal_room = 1 + largest_journal

-- an array of n bytes. A record, so that nothing computes the length of a long one
pub record Sized (n : ℕ) (bytes : List ℕ) : Type 0 where
  pub size : n ≡ length bytes

-- for buffers of the run's own, with room for every journal and every reply
pub record Ran (r : Run) : Type 0 where
  pub journal : List ℕ
  pub first : List ℕ
  pub out : List ℕ
  pub long : Sized journal_room journal
  pub wide : Sized reply_room first
  pub served : Serving r journal first out

-- RULES P19, P21: a run that never lacks room, for the journal or for the reply
abbrev pub RoomyBy : Served → Type 0
RoomyBy (Ok s) = Unit {0}
RoomyBy (Err (Unwritten s d)) = Unit {0}
RoomyBy (Err (NoRoom m d)) = ⊥
RoomyBy (Err (Unended d)) = ⊥
RoomyBy (Err (Unread d)) = Unit {0}

abbrev pub Roomy : Run → Type 0
Roomy r = RoomyBy r.came
