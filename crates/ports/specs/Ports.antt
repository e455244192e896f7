-- What the program's ports come to (RULES P1, P15, P16). In order: the ports; reading; writing; messages. The laws are in
-- Ports/Laws. Assumes nothing.
use Rattle.std.specs.Prelude.{ℕ, zero, suc, ◌+◌, ◌≤◌, ◌≡◌, Bool, false, List, [], ◌∷◌, ltb, ℤ, pos, negsuc, length, take}
use Prim.Native.String.{String, [] as []ˢ, ◌∷◌ as ◌∷ˢ◌}
use Prim.Native.Char.{code}
use Rattle.ports.specs.declared.Port.{Port}
use Rattle.ports.specs.declared.Port.TheVariants.{Input, Output, Error}
use Rattle.ports.specs.declared.Step.{Step}
use Rattle.ports.specs.declared.Step.TheVariants as step_is
use Rattle.ports.specs.declared.Step.TheVariants.{Brought}
use Rattle.ports.specs.declared.Filled.{Filled}
use Rattle.ports.specs.declared.Filled.TheVariants.{Ended, Full, Failed}
use Rattle.ports.specs.declared.Intake.{Intake}
use Rattle.ports.specs.declared.Sent.{Sent}
use Rattle.ports.specs.declared.Said.{Said}
use Rattle.ports.specs.declared.Message.{Message}
use Rattle.ports.specs.declared.Message.TheVariants.{Unread, Unended, NoRoom, Unwritten}
pub mod Laws

-- ── the ports ──
-- POSIX's numbers
abbrev pub number_of : Port → ℤ
number_of Input = pos 0
number_of Output = pos 1
number_of Error = pos 2

-- ── reading ──
-- what a read that is lent n bytes may answer: -1, or how many bytes it brought, at most n
abbrev pub Moved : ℕ → ℤ → Type 0
Moved n (pos k) = k ≤ n
Moved n (negsuc k) = k ≡ 0

-- RULES P1, P15: what the number means that a read answers. Below 0 it failed, at 0 the input has ended, any other is
-- so many bytes more
abbrev pub step : ℤ → Step
step (negsuc k) = step_is.Failed
step (pos zero) = step_is.Ended
step (pos (suc k)) = Brought (suc k)

abbrev pub brought_by : Step → ℕ
brought_by step_is.Failed = 0
brought_by step_is.Ended = 0
brought_by (Brought n) = n

-- before the first read
abbrev pub begun : Port → Intake
begun p = record { from = p; done = 0; last = Brought 0 }

-- one read more: it answered `number`; what it brought stands behind the bytes that stood in the buffer, which stay
pub record Advanced (at r : Intake) (buf buf' : List ℕ) : Type 0 where
  pub number : ℤ
  pub next : r ≡ record { from = at.from; done = at.done + brought_by (step number); last = step number }
  pub room : r.done ≤ length buf
  pub kept : take at.done buf' ≡ take at.done buf

-- RULES P1: whether reading goes on, with so much room: while reads bring bytes, and there is room
abbrev pub goes_by : Step → ℕ → ℕ → Bool
goes_by step_is.Failed done room = false
goes_by step_is.Ended done room = false
goes_by (Brought n) done room = ltb done room

abbrev pub goes : Intake → ℕ → Bool
goes at room = goes_by at.last at.done room

-- RULES P1, P15: what reading came to that does not go on
abbrev pub filled_by : Step → ℕ → Filled
filled_by step_is.Failed done = Failed
filled_by step_is.Ended done = Ended done
filled_by (Brought n) done = Full

abbrev pub filled : Intake → Filled
filled at = filled_by at.last at.done

-- ── writing ──
-- a reply of k bytes to n bytes, handed to a port
pub record Sending (to : Port) (n k : ℕ) (r : Sent) : Type 0 where
  pub port : r.to ≡ to
  pub read : r.read ≡ n
  pub wrote : r.wrote ≡ k

-- ── messages ──
abbrev pub bytes : String → List ℕ
bytes []ˢ = []
bytes (c ∷ˢ s) = code c ∷ bytes s

-- RULES P15, P16: the line that is said where something fails
abbrev pub words : Message → List ℕ
words Unread = bytes "payrun: standard input could not be read\n"
words Unended = bytes "payrun: the journal may go on after the room for it\n"
words NoRoom = bytes "payrun: the reply is longer than the room for it\n"
words Unwritten = bytes "payrun: standard output could not be written\n"

-- a message, handed to a port
abbrev pub Saying : Port → Message → Said → Type 0
Saying to m r = r ≡ record { to = to; message = m }
