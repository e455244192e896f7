-- A call on tables in which nothing dangles, and how its reply is settled for any monitor. No caller of a public function needs these. Assumes nothing.
use Rattle.std.specs.Prelude.{◌≡◌, Bool, cond, ◌⊎◌, T, ℕ, Err}
use Rattle.std.proofs.Math.Option.{none, some}
use Rattle.model.specs.Lists.{In}
use Rattle.model.specs.Tables.{clean}
use Rattle.model.specs.Calls.{Call, made, steps, refusal, effect, answer}
use Rattle.model.specs.Calls.{Answer as Told}
use Rattle.model.specs.Invariant.{Wf, Safe}
use Rattle.model.specs.Figures.{Ready}
use Rattle.model.specs.Promise.{Kind}
use Rattle.tables.specs.Needs.{figure_of}
use Rattle.tables.specs.Slots.{slot_used}
use Rattle.gatekeeper.specs.declared.Monitor.{Monitor}
use Rattle.gatekeeper.specs.declared.Reply.{Reply}
use Rattle.answers.specs.declared.Refusal.{Refusal}
use Rattle.answers.specs.Telling.{told, refuses}
use Rattle.gatekeeper.specs.View.{slots, Steady}

-- ── what holds by slot ──
-- kept needs are right, a monitor that says that it is sure is steady and right, nothing dangles in it: as `Right`, `Honest` and `Tidy` have it, but on the tables by slot
abbrev pub Fit : Monitor → Type 0
Fit m = Ready (clean (slots m)) (figure_of m.needs)

abbrev pub Sound : Monitor → Type 0
Sound m = m.sure ≡ 1 → Steady (slots m) × Ready (slots m) (figure_of m.needs)

abbrev pub Neat : Monitor → Type 0
Neat m = m.sure ≡ 1 → Wf (slots m)

abbrev pub slotted : Kind Monitor
slotted = record { view = slots; honest = Sound; whole = λ m. Wf (slots m); tidy = Neat; right = Fit; claim = λ m. m.sure }

-- nothing dangles in the tables of m, and where it says that it is sure, its needs are right and no level is below one
pub record Firm (m : Monitor) : Type 0 where
  pub wf : Wf (slots m)
  pub safe : m.sure ≡ 1 → Safe (slots m) × Ready (slots m) (figure_of m.needs)

-- call c on monitor m, as its tables stand, is answered a, and monitor n is handed back
pub record Acts (m : Monitor) (c : Call) (a : Told) (n : Monitor) : Type 0 where
  pub answered : a ≡ answer (slots m) c
  pub unchanged : (k : ℕ) → refusal (slots m) c ≡ some k → n ≡ m
  pub moved : refusal (slots m) c ≡ none → slots n ≡ effect (slots m) c
  pub kept : Ready (slots m) (figure_of m.needs) → Ready (slots n) (figure_of n.needs)
  pub says : n.sure ≡ m.sure
  pub numbered : n.numbers ≡ m.numbers

-- call c on monitor m hands n back: whatever m says of itself, nothing dangles in n, it says what m said, keeps needs that are right where those of m were, and has the numbers of m
pub record Keeps (m : Monitor) (c : Call) (n : Monitor) : Type 0 where
  pub whole : Wf (slots n)
  pub kept : Ready (slots m) (figure_of m.needs) → Ready (slots n) (figure_of n.needs)
  pub says : n.sure ≡ m.sure
  pub numbered : n.numbers ≡ m.numbers
  -- a slot that is in use was so, or c makes an object there
  pub came : (i : ℕ) → T (slot_used n.objects i) → T (slot_used m.objects i) ⊎ In i (made (steps (slots m) c))

-- a refusal, and the monitor as it came
abbrev pub back : Monitor → Refusal → Reply
back m e = record { monitor = m; answer = Err e }

-- the reply, or the monitor as it came where that is a refusal
abbrev pub settled : Monitor → Reply → Reply
settled m r = record { monitor = cond (refuses (told r.answer)) m r.monitor; answer = r.answer }

-- the way of the handle of an open
abbrev pub way_by : Bool → ℕ
way_by r = cond r 1 2
