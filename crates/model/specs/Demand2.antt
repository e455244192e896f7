-- Demand 2, the flow rule both ways: what RULES R9, R109, R110 and R121 say, in terms of chains of flows (RULES F4); what a file that is frozen is (RULES R15), and an
-- open whose numbers are all in order (RULES R2, R4, R7).
-- `Demand2.Laws` proves that the refusals of the definitions are exactly these. Assumes nothing.
use Rattle.std.specs.Prelude.{◌≡◌, not, ℕ, ◌≤◌, ◌<◌, T}
use Rattle.std.proofs.Math.Option.{some}
use Rattle.model.specs.Label.{Label, leq, level}
use Rattle.model.specs.Flow.{Thing, object, Reaches}
use Rattle.model.specs.Tables.{Dir, Entry, handle, Tables, no_freeze, live, label_of, is_file, edges}
use Rattle.model.specs.Steps.{hold, apply}
use Rattle.model.specs.Calls.{alive, present, vacant, broken}

-- RULES F4, R9: x reaches, through open handles, a file that a thing of label a must not reach: one whose label a is not at least
pub record Leaks (u : Tables) (a : Label) (x : Thing) : Type 0 where
  pub high : Thing
  pub high_entry : Entry
  pub high_live : u.at high ≡ some high_entry
  pub high_file : T (is_file high high_entry.kind)
  pub higher : T (not (leq high_entry.label a))
  pub reaches : Reaches (edges u) x high

-- RULES R9, R109: some live thing reaches a file whose label its own is not at least
pub record Offends (u : Tables) : Type 0 where
  pub low : Thing
  pub low_live : T (live u low)
  pub leaks : Leaks u (label_of (u.at low)) low

-- the tables after an open, and for R119 of a map the tables after the open for reading of the same numbers
abbrev pub opened : Tables → Dir → ℕ → ℕ → ℕ → Tables
opened t d s o p = apply (hold s p (some (handle d o))) t

-- RULES R15, T32: o is a live file whose level is at or above the freeze, which is set
pub record Closed (t : Tables) (o : ℕ) : Type 0 where
  pub entry : Entry
  pub there : t.at (object o) ≡ some entry
  pub is_a_file : T (is_file (object o) entry.kind)
  pub set : t.freeze < no_freeze
  pub at_or_above : t.freeze ≤ level entry.label

-- RULES R2, R4, R7: subject s is live, object o is live and place p of s is empty, so that of an open of these numbers no row before R15 and R9 speaks
pub record Named (t : Tables) (s o p : ℕ) : Type 0 where
  pub caller : T (not (broken t (alive s)))
  pub file : T (not (broken t (present o)))
  pub place : T (not (broken t (vacant s p)))
