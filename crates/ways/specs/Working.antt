-- What the inner functions of this crate work out from records: the arcs of the handles, the goals of a label, and who may start. No caller needs these.
-- Assumes nothing.
use Rattle.std.specs.Prelude.{◌≡◌, Bool, not, ◌&&◌, ◌||◌, cond, List, ℕ, ◌+◌, ◌-◌, ◌<◌, length, get_or, eqb, ltb}
use Rattle.model.specs.Label.{Label, label, leq}
use Rattle.tables.specs.declared.Subject.{Subject}
use Rattle.tables.specs.declared.Object.{Object}
use Rattle.tables.specs.declared.Handle.{Handle}
use Rattle.tables.specs.Records.{no_subject, no_object}
use Rattle.passes.specs.declared.edge.Edge.{Edge}
use Rattle.passes.specs.Listing.{start_at, end_at}
use Rattle.passes.specs.Working.{source, target}
use Rattle.ways.specs.Near.{figure}

-- each of the first k arcs is the flow of the handle with its slot
pub record Drawn (ld : List ℕ) (hs : List Handle) (es : List Edge) (k : ℕ) : Type 0 where
  pub long : length es ≡ 512
  pub starts : (i : ℕ) → i < k → start_at es i ≡ source ld hs i
  pub ends : (i : ℕ) → i < k → end_at es i ≡ target ld hs i

-- the figure to start from, of an object: 0 for a file whose label is not at most a
abbrev pub goal_by : Object → Label → ℕ
goal_by x a = cond (eqb x.kind 1) (cond (leq (label x.level x.shops) a) 255 0) 255

-- and of all things, of which the first k objects have been looked at
pub record Aimed (os : List Object) (a : Label) (r : List ℕ) (k : ℕ) : Type 0 where
  pub long : length r ≡ 96
  pub subjects : (i : ℕ) → i < 32 → figure r i ≡ 255
  pub objects : (i : ℕ) → i < k → figure r (32 + i) ≡ goal_by (get_or os i no_object) a

-- thing x is live, and its label
abbrev pub live_at : List Subject → List Object → ℕ → Bool
live_at ss os x = cond (ltb x 32) (not (eqb (get_or ss x no_subject).live 0)) (not (eqb (get_or os (x - 32) no_object).kind 0))

abbrev pub label_at : List Subject → List Object → ℕ → Label
label_at ss os x = cond (ltb x 32) (label (get_or ss x no_subject).level (get_or ss x no_subject).shops) (label (get_or os (x - 32) no_object).level (get_or os (x - 32) no_object).shops)

-- of those who may start a chain the one thing k, and those below k
abbrev pub Alone : ℕ → (ℕ → Label → Type 0) → ℕ → Label → Type 0
Alone k may x a = (x ≡ k) × may x a

abbrev pub Below : ℕ → (ℕ → Label → Type 0) → ℕ → Label → Type 0
Below k may x a = (x < k) × may x a

-- a chain of n handles is shorter than the best so far, of m; 0 is none
abbrev pub shorter_by : ℕ → ℕ → Bool
shorter_by n m = not (eqb n 0) && (eqb m 0 || ltb n m)
