-- Laws of the program's buffers. In order: zeros of any number; reading, step by step; the reply, as it is handed on; a
-- run with room for everything. Assumes nothing.
use Rattle.std.specs.Prelude.{ℕ, zero, suc, ◌+◌, ◌≤◌, ◌<◌, ◌≡◌, refl, Bool, true, false, Some, None, Ok, Err, List, leb, ℤ, pos, negsuc, length, take, drop, replicate}
use Rattle.std.proofs.Common.{zero-le, arith, sym, ap, subst, ◌∙◌, leb-true, leb-false, take_at, length-take-le}
use Rattle.std.proofs.lemmas.List.{length-replicate}
use Rattle.number.specs.Put.{put, fitted}
use Rattle.number.specs.Put.Laws.{fits, fits_not, put_fits}
use Rattle.replay.specs.Replay.{reply, Begun, reply_room}
use Rattle.ports.specs.Ports.{step, brought_by, begun, Advanced, goes, filled_by, filled, Sending}
use Rattle.ports.specs.Ports.Laws.{goes_room}
use Rattle.ports.specs.declared.Port.TheVariants.{Input, Output}
use Rattle.ports.specs.declared.Sent.{Sent}
use Rattle.ports.specs.declared.Intake.{Intake}
use Rattle.ports.specs.declared.Filled.{Filled}
use Rattle.ports.specs.declared.Filled.TheVariants.{Ended, Full, Failed}
use Rattle.serve.specs.declared.Run.{Run}
use Rattle.serve.specs.declared.Failure.TheVariants.{Unwritten, NoRoom, Unended, Unread}
use Rattle.serve.specs.Serving.{Served, Within, Finished, Whole, Cut, Handed, Replying, Blind, AnsweringBy}
use Rattle.serve.specs.Serving.{Sized, Ran, Roomy, RoomyBy}

pub zeros_sized : (n : ℕ) → Sized n (replicate n 0)
zeros_sized n = record { size = sym (length-replicate n 0) }

-- ── reading ──
-- in the midst of it: of standard input, within the buffer
pub record Reading (at : Intake) (buf₀ buf : List ℕ) : Type 0 where
  pub from : at.from ≡ Input
  pub room : at.done ≤ length buf
  pub within : Within (filled at) buf
  pub size : length buf ≡ length buf₀

pub reading_begun : (buf : List ℕ) → Reading (begun Input) buf buf
reading_begun buf = record { from = refl; room = zero-le; within = tt; size = refl }

-- a read where there is one to make
pub reading_next : (at r : Intake) (buf₀ buf buf' : List ℕ) → length buf' ≡ length buf → goes at (length buf) ≡ true
    → Advanced at r buf buf' → Reading at buf₀ buf → Reading r buf₀ buf'
reading_next at r buf₀ buf buf' long g a h = record {
  from = ap (λ (i : Intake). i.from) a.next ∙ h.from;
  room = omega (arith, a.room, long);
  within = subst (λ (i : Intake). Within (filled i) buf') (sym a.next) (by a.number);
  size = long ∙ h.size;
}
  where
    by : (z : ℤ) → Within (filled_by (step z) (at.done + brought_by (step z))) buf'
    by (negsuc k) = tt
    by (pos zero) = omega (arith, goes_room at (length buf) g, long)
    by (pos (suc k)) = tt

-- where there is none, it is over
pub reading_over : (at : Intake) (buf₀ buf : List ℕ) → Reading at buf₀ buf → goes at (length buf) ≡ false → Finished at buf
reading_over at buf₀ buf h e = record { from = h.from; over = e; room = h.room; within = h.within }

-- ── the reply ──
module _ (n : ℕ) (journal first out : List ℕ) where
  -- it was written, and has k bytes
  abbrev pub Put : ℕ → Type 0
  Put k = (Some k ≡ fitted (reply (take n journal)) first) × (out ≡ put (reply (take n journal)) first)

  -- what is handed to the write
  pub sent_is : (k : ℕ) → Put k → take k out ≡ reply (take n journal)
  sent_is k w =
      let (count, room) = fits (reply (take n journal)) first k (sym w.0) in
      ap (take k) (w.1 ∙ put_fits (reply (take n journal)) first room)
      ∙ take_at (reply (take n journal)) (drop (length (reply (take n journal))) first) k (sym count)

  -- and that it was handed on
  pub handed_as : (k : ℕ) → n ≤ length journal → Put k → (s : Sent)
      → Sending Output (length (take n journal)) (length (take k out)) s → Handed n s journal × Whole n journal first out
  handed_as k inside w s h = (
    record { port = h.port; read = h.read ∙ length-take-le n journal inside; wrote = h.wrote ∙ ap length (sent_is k w) },
    let (count, room) = fits (reply (take n journal)) first k (sym w.0) in record { fits = room; wrote = w.1 },
  )

  pub cut_as : None ≡ fitted (reply (take n journal)) first → Begun (reply (take n journal)) first out
      → (reply_room ≤ length first → length (reply (take n journal)) ≤ length first) → Cut n journal first out
  cut_as answer begun room =
      let long = fits_not (reply (take n journal)) first (sym answer) in
      record { long = long; small = small (length first) (length (reply (take n journal))) long room; begun = begun }
    where
      small : (a b : ℕ) → a < b → (reply_room ≤ a → b ≤ a) → a < reply_room
      small a b long room = go (leb reply_room a) refl
        where
          go : (t : Bool) → leb reply_room a ≡ t → a < reply_room
          go true q = absurd (omega (arith, room (leb-true reply_room a q), long))
          go false q = leb-false reply_room a q

-- ── a run with room for everything ──
replying_roomy : (n : ℕ) (r : Served) (journal first out : List ℕ) → Replying n r journal first out → reply_room ≡ length first → RoomyBy r
replying_roomy n (Ok s) journal first out a e = tt
replying_roomy n (Err (Unwritten s d)) journal first out a e = tt
replying_roomy n (Err (NoRoom m d)) journal first out a e = absurd (omega (arith, a.2.small, e))
replying_roomy n (Err (Unended d)) journal first out a e = a
replying_roomy n (Err (Unread d)) journal first out a e = tt

blind_roomy : (r : Served) (first out : List ℕ) → Blind r first out → RoomyBy r
blind_roomy (Ok s) first out a = tt
blind_roomy (Err (Unwritten s d)) first out a = tt
blind_roomy (Err (NoRoom m d)) first out a = a
blind_roomy (Err (Unended d)) first out a = a
blind_roomy (Err (Unread d)) first out a = tt

pub ran_roomy : (r : Run) → Ran r → Roomy r
ran_roomy r n = go (filled r.read) n.served.answered
  where
    go : (f : Filled) → AnsweringBy f r.came n.journal n.first n.out → Roomy r
    go (Ended m) a = replying_roomy m r.came n.journal n.first n.out a n.wide.size
    go Full a = replying_roomy (length n.journal) r.came n.journal n.first n.out (a.1 (omega (arith, n.long.size))) n.wide.size
    go Failed a = blind_roomy r.came n.first n.out a
