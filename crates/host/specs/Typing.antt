-- A typed line on the bytes that a host lends: what it came to, and the bytes that it left. States RULES H29, and L13, L14, R18, R19, R102 to R104 and R125 of the bytes. Bytes say
-- nothing of themselves, so that all that the rules settle holds of every byte string of the length. The laws are in Typing/Laws. Assumes nothing.
use Rattle.std.specs.Prelude.{◌≡◌, true, false, List, [], ◌∷◌, ◌++◌, ℕ}
use Rattle.model.specs.Tables.{Tables, clean}
use Rattle.model.specs.Calls.{Raw, Answer, answers, after}
use Rattle.model.specs.Tally.{tally}
use Rattle.gatekeeper.specs.View.{Whole}
use Rattle.tally.specs.Counting.{counts_of}
use Rattle.stored.specs.State.{Sized, monitor_of, tally_of, bytes_of, state_view, state_right}
use Rattle.lines.specs.Line.{Reading, Line, short}
use Rattle.lines.specs.Calls.{calls_of}
use Rattle.typed.specs.declared.Outcome.{Outcome}
use Rattle.typed.specs.Typed.{outcome_of, refused_line, moves}
use Rattle.host.specs.Demand3.{Called}
use Rattle.host.specs.Numbers.{answer_in}
pub mod Laws

-- the tables that the bytes stand for, as RULES T17, T18 and T41 read them
abbrev pub read_tables : List ℕ → Tables
read_tables s = clean (state_view s)

-- RULES L13, L14: these calls, made one after the other on the bytes s, came to out, and left the bytes s'
pub record Leaves (s : List ℕ) (rs : List Raw) (out : Outcome) (s' : List ℕ) : Type 0 where
  pub told : out ≡ outcome_of (answers (read_tables s) rs)
  pub size : Sized s'
  pub tables : read_tables s' ≡ after (read_tables s) rs
  pub counts : counts_of (tally_of s') ≡ tally (read_tables s) (counts_of (tally_of s)) rs
  -- RULES F12
  pub right : state_right s → state_right s'
  -- RULES R102 to R104: where each of them is refused, every byte stays
  pub same : moves (answers (read_tables s) rs) ≡ false → s' ≡ s
  -- RULES T19: where one is not, nothing dangles, and the bytes are those of a monitor and a tally
  pub moved : moves (answers (read_tables s) rs) ≡ true → (state_view s' ≡ after (read_tables s) rs) × Whole (monitor_of s') × (s' ≡ bytes_of (monitor_of s') (tally_of s'))

-- `gatekeeper_line` of the bytes bs on the bytes s, with the numbers of the shell, of the first child and of the first pipe, returned out, and left the bytes s'
pub record Types (s bs : List ℕ) (shell child pipe : ℕ) (out : Outcome) (s' : List ℕ) : Type 0 where
  -- RULES R18, R19, R125
  pub no_line : Sized s → ((l : Reading) → Line l bs → ⊥) → (out ≡ refused_line 18) × (s' ≡ s)
  pub too_long : Sized s → (l : Reading) → Line l bs → short l ≡ false → (out ≡ refused_line 19) × (s' ≡ s)
  pub ran : Sized s → (l : Reading) → Line l bs → short l ≡ true → Leaves s (calls_of shell child pipe l) out s'
  -- RULES H29
  pub other : (Sized s → ⊥) → (out ≡ refused_line 255) × (s' ≡ s)

-- RULES L16: calls and lines on the same bytes, one after the other: the list of all calls, with the answers that the host reads and those that the rules give to the calls of a line
pub data Session : List ℕ → List Raw → List Answer → List ℕ → Type 0 where
  ended : {s : List ℕ} → Session s [] [] s
  called : {s s' s'' : List ℕ} {r : Raw} {rs : List Raw} {n : ℕ} {l : List Answer} → Called s r n s' → Session s' rs l s'' → Session s (r ∷ rs) (answer_in n ∷ l) s''
  lined : {s s' s'' bs : List ℕ} {shell child pipe : ℕ} {out : Outcome} {rs : List Raw} {l : List Answer} → Types s bs shell child pipe out s' → (k : Reading) → Line k bs → short k ≡ true
      → Session s' rs l s'' → Session s (calls_of shell child pipe k ++ rs) (answers (read_tables s) (calls_of shell child pipe k) ++ l) s''
  unlined : {s s' s'' : List ℕ} {rs : List Raw} {l : List Answer} → s' ≡ s → Session s' rs l s'' → Session s rs l s''
