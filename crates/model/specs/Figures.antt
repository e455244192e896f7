-- Needs that are kept: a figure for each thing; and what a need says to those who look at it. States RULES F11 and F17. Assumes nothing.
use Rattle.std.specs.Prelude.{◌≡◌, List, [], ◌∷◌, ℕ, T}
use Rattle.std.proofs.Math.Option.{some}
use Rattle.model.specs.Label.{Label}
use Rattle.model.specs.Flow.{Thing}
use Rattle.model.specs.Tables.{Handle, Tables, live, needs}
use Rattle.model.specs.Calls.{Raw, decode, next}

-- RULES F11: the figure of each live thing is its need
pub record Ready (t : Tables) (figure : Thing → Label) : Type 0 where
  pub need_is : (x : Thing) → T (live t x) → figure x ≡ needs t x

-- RULES F17: no handle of t has gone in u. One that stays has its place, its direction and its object; it may have got a mark
pub record Lasts (t u : Tables) : Type 0 where
  pub still : (s p : ℕ) (k : Handle) → t.hand s p ≡ some k → (j : Handle) × (u.hand s p ≡ some j) × (j.dir ≡ k.dir) × (j.to ≡ k.to)

-- RULES F17: over a list of calls no handle goes, and x stays
abbrev pub Lasting : Thing → Tables → List Raw → Type 0
Lasting x t [] = Unit {0}
Lasting x t (r ∷ rs) = Lasts t (next t (decode r)) × T (live (next t (decode r)) x) × Lasting x (next t (decode r)) rs
