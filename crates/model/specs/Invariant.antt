-- What all tables have to which a list of calls leads from empty ones, and what every answer has. States RULES F8, T25, T26, T27, T34, T38, T45 and T48.
-- Proved of every list of calls in `Calls.Kept` and `Calls.Sayable`. Assumes nothing.
use Rattle.std.specs.Prelude.{◌≡◌, not, List, [], ◌∷◌, ℕ, ◌<◌, ◌≤◌, T, eqb}
use Rattle.std.proofs.Math.Option.{some}
use Rattle.model.specs.Label.{Label, highest, every_shop, shops, in_scale, ◌⊑◌}
use Rattle.model.specs.Lists.{In}
use Rattle.model.specs.Flow.{Thing, subject, object}
use Rattle.model.specs.Tables.{reading, Entry, Handle, Tables, no_freeze, places, in_range, live, label_of, a_file, is_pipe, cell, handles, open_on, needs}
use Rattle.model.specs.Calls.{Call, admit, register, create, make_pipe, opens, access, fork, thread, exec, close, exit, retire, maps, mark, freeze, connect, unknown, Raw, decode}
use Rattle.model.specs.Calls.{Answer, allowed, lowered, refused, order}

-- the handle k at place p of s joins a place in range of a live subject to a live object
pub record Ends (t : Tables) (s p : ℕ) (k : Handle) : Type 0 where
  pub from : T (live t (subject s))
  pub to : T (live t (object k.to))
  pub place : p < places

-- RULES T45: who is in a group with another is live, and each subject is in one group
pub record Teams (t : Tables) : Type 0 where
  pub itself : (a : ℕ) → T (t.kin a a)
  pub both_ways : (a b : ℕ) → T (t.kin a b) → T (t.kin b a)
  pub shared : (a b c : ℕ) → T (t.kin a b) → T (t.kin b c) → T (t.kin a c)
  pub only : (a b : ℕ) → T (t.kin a b) → T (not (eqb a b)) → T (live t (subject a))

-- RULES T25: no handle dangles, and what is live has a number in range
pub record Wf (t : Tables) : Type 0 where
  pub ends : (s p : ℕ) (k : Handle) → t.hand s p ≡ some k → Ends t s p k
  pub ranged : (x : Thing) (e : Entry) → t.at x ≡ some e → T (in_range x)
  pub teams : Teams t

-- RULES F8: each live thing's label is at least its need
pub record Safe (t : Tables) : Type 0 where
  pub above : (x : Thing) (e : Entry) → t.at x ≡ some e → needs t x ⊑ e.label

-- RULES T48: the members of a group have one label
pub record Even (t : Tables) : Type 0 where
  pub one_level : (a b : ℕ) → T (t.kin a b) → label_of (t.at (subject a)) ≡ label_of (t.at (subject b))

-- RULES T26: a live pipe has a handle
pub record Piped (t : Tables) : Type 0 where
  pub joined : (o : ℕ) → T (is_pipe (object o) (t.at (object o))) → T (open_on (handles t) o)

-- each live thing's label is a P
pub record Labelled (P : Label → Type 0) (t : Tables) : Type 0 where
  pub within : (x : Thing) (e : Entry) → t.at x ≡ some e → P e.label

-- RULES T27: one that a call may name: its level is 0 to 15, and its set 0 to 255
abbrev pub Scaled : Tables → Type 0
Scaled = Labelled (λ a. T (in_scale a))

-- RULES T53: one with every mark
abbrev pub Vouched : Tables → Type 0
Vouched = Labelled (λ a. shops a ≡ every_shop)

-- RULES T34: the freeze is a level or says that there is none
pub record Frozen (t : Tables) : Type 0 where
  pub bounded : t.freeze ≤ no_freeze

-- RULES T37, T38: the handle k of s, a mapping, is for reading and on a file, and the label of s is at most the file's
pub record Maps (t : Tables) (s : ℕ) (k : Handle) : Type 0 where
  pub for_reading : k.dir ≡ reading
  pub on_file : T (a_file (object k.to) (t.at (object k.to)))
  pub under : label_of (t.at (cell t s)) ⊑ label_of (t.at (object k.to))

pub record Mapped (t : Tables) : Type 0 where
  pub each : (s p : ℕ) (k : Handle) → t.hand s p ≡ some k → T k.mapped → Maps t s k

pub record Kept (t : Tables) : Type 0 where
  pub wf : Wf t
  pub safe : Safe t
  pub piped : Piped t
  pub scaled : Scaled t
  pub frozen : Frozen t
  pub mapped : Mapped t
  pub even : Even t

-- RULES T27: the highest number that a call's answer gives where it is not refused
abbrev pub topmost : Call → ℕ
topmost (admit s n) = highest
topmost (register o n) = highest
topmost (create s o) = highest
topmost (make_pipe s o r w) = highest
topmost (opens d s o p) = highest
topmost (access d s p) = highest
topmost (fork s c) = highest
topmost (thread s c) = highest
topmost (exec s o) = highest
topmost (close s p) = highest
topmost (exit s) = highest
topmost (retire o) = highest
topmost (maps s o p) = highest
topmost (mark s p) = highest
topmost (freeze n) = no_freeze
topmost (connect s u a b p q) = highest
topmost unknown = highest

-- RULES T27, R112: the answer to a call gives a level of 0 to 15 and at most eight marks lost, to a freeze 0 to 16, or the number of a refusal that calls have
abbrev pub Sayable : Call → Answer → Type 0
Sayable c (allowed l) = l ≤ topmost c
Sayable c (lowered l k) = (l ≤ highest) × (k ≤ 8)
Sayable c (refused n) = In n order

-- and so in a list of calls with their answers
abbrev pub AllSayable : List Raw → List Answer → Type 0
AllSayable [] l = Unit {0}
AllSayable (r ∷ rs) [] = Unit {0}
AllSayable (r ∷ rs) (a ∷ l) = Sayable (decode r) a × AllSayable rs l
