-- No needless refusals: what is behind a refusal 9. States RULES A1 to A8, A10 and A11.
--
-- The one handling of data that carries; a call let through; a file that a thing must not reach; the list of reads and writes that carries what the thing holds into
-- the file (`Attack`); chains of handles, which are such lists, and the fewest handles. `Attack.Laws` proves that there is one behind every answer 9 in calls from
-- empty tables. Assumes nothing.
use Rattle.std.specs.Prelude.{◌≡◌, not, List, [], ◌∷◌, ℕ, suc, ◌≤◌, ◌/◌, ◌%◌, length, T}
use Rattle.std.proofs.Math.Option.{Option, none, some}
use Rattle.model.specs.Lists.{In}
use Rattle.model.specs.Label.{leq}
use Rattle.model.specs.Flow.{Thing, subject, object}
use Rattle.model.specs.Tables.{reading, writing, Entry, Handle, Tables, is_file, whole, flow}
use Rattle.model.specs.Calls.{Call, admit, register, create, make_pipe, opens, access, fork, thread, exec, close, exit, retire, maps, mark, freeze, connect, unknown, Raw, decode, steps, effect, refusal}
use Rattle.model.specs.Book.{Contents, Book, Handling, Outside, carries, book_from}
use Rattle.model.specs.Demand3.{Held}

-- ── a call let through ──
-- RULES A7: the one handling of data: whoever takes in takes over what the source holds, in a read, a write and a run alike
abbrev pub copying : Handling
copying i m receiver source own taken = taken

-- RULES A8: had the call been let through, at position i: its effect, and what it does to contents
abbrev pub let_through : Handling → Outside → ℕ → Book → Call → Book
let_through h out i b c = record { tables = effect b.tables c; content = carries h i (out i) b.tables (steps b.tables c) b.content }

abbrev pub book_of : Tables → Contents → Book
book_of t c = record { tables = t; content = c }

-- ── an attack ──
-- RULES A2: a live thing, and a live file that it must not reach: one whose label its own is not at least
pub record Barred (t : Tables) (low high : Thing) : Type 0 where
  pub low_entry : Entry
  pub low_live : t.at low ≡ some low_entry
  pub high_entry : Entry
  pub high_live : t.at high ≡ some high_entry
  pub high_file : T (is_file high high_entry.kind)
  pub insufficient : T (not (leq high_entry.label low_entry.label))

-- RULES A3, A8: in which thing x is what `low` holds once the call is let through: an exec asks of its program file alone, and has run it
abbrev pub Begins : Call → Thing → Thing → Type 0
Begins (admit s l) low x = low ≡ x
Begins (register o l) low x = low ≡ x
Begins (create s o) low x = low ≡ x
Begins (make_pipe s o r w) low x = low ≡ x
Begins (opens d s o p) low x = low ≡ x
Begins (access d s p) low x = low ≡ x
Begins (fork s c) low x = low ≡ x
Begins (thread s c) low x = low ≡ x
Begins (exec s o) low x = (low ≡ object o) × (subject s ≡ x)
Begins (close s p) low x = low ≡ x
Begins (exit s) low x = low ≡ x
Begins (retire o) low x = low ≡ x
Begins (maps s o p) low x = low ≡ x
Begins (mark s p) low x = low ≡ x
Begins (freeze n) low x = low ≡ x
Begins (connect s u a b p q) low x = low ≡ x
Begins unknown low x = low ≡ x

-- RULES A4: how many reads and writes at most: of 95 steps, the first of an exec is the run itself
abbrev pub most : Call → ℕ
most (admit s l) = 95
most (register o l) = 95
most (create s o) = 95
most (make_pipe s o r w) = 95
most (opens d s o p) = 95
most (access d s p) = 95
most (fork s c) = 95
most (thread s c) = 95
most (exec s o) = 94
most (close s p) = 95
most (exit s) = 95
most (retire o) = 95
most (maps s o p) = 95
most (mark s p) = 95
most (freeze n) = 95
most (connect s u a b p q) = 95
most unknown = 95

-- RULES A6: no call of the list is refused, though labels fall on the way
abbrev pub NoneRefused : Tables → List Raw → Type 0
NoneRefused u [] = Unit {0}
NoneRefused u (r ∷ rs) = (refusal u (decode r) ≡ none) × NoneRefused (effect u (decode r)) rs

-- RULES A2 to A8: had call c, refused in tables t, been let through, this list would have carried what `low` holds into the file `high`
pub record Attack (t : Tables) (c : Call) (low high : Thing) (list : List Raw) : Type 0 where
  pub barred : Barred t low high
  pub holder : Thing
  pub begins : Begins c low holder
  pub few : length list ≤ most c
  -- RULES A5: each a read or a write on a handle that was open then or that the call seeks
  pub on_handles : (r : Raw) → In r list → Held (book_of (effect t c) (λ x. 0)) r
  pub none_refused : NoneRefused (effect t c) list
  -- whatever all things held before the call, wherever the call stood and whatever came in from outside
  pub carried : (out : Outside) (i : ℕ) (held : Contents) →
      (book_from copying out (suc i) (let_through copying out i (book_of t held) c) list).content high ≡ held low

-- RULES A1
pub record Behind (t : Tables) (c : Call) : Type 0 where
  pub low : Thing
  pub high : Thing
  pub list : List Raw
  pub attack : Attack t c low high list

-- ── chains of handles ──
-- RULES A10: the handles at places l, where 16 s + p is place p of subject s, lead from x to y: each takes from a thing, and the next one from what it leads to, or
-- from a member of its group
pub data Way (u : Tables) : Thing → List ℕ → Thing → Type 0 where
  end : {x y : Thing} → x ≡ y → Way u x [] y
  via : {x y : Thing} {l : List ℕ} (i : ℕ) (k : Handle) (z : Thing) → u.hand (i / 16) (i % 16) ≡ some k → (flow (subject (i / 16)) k).src ≡ x
      → T (whole u (flow (subject (i / 16)) k).dst z) → Way u z l y → Way u x (i ∷ l) y

-- RULES A10: a chain behind the call: by handles that are open then or that the call seeks, from a thing to a file that it must not reach
pub record Chain (t : Tables) (c : Call) (low high : Thing) (l : List ℕ) : Type 0 where
  pub barred : Barred t low high
  pub start : Thing
  pub begins : Begins c low start
  pub way : Way (effect t c) start l high

-- RULES A11: no chain behind the call has fewer
abbrev pub Fewest : Tables → Call → List ℕ → Type 0
Fewest t c l = (low high : Thing) (m : List ℕ) → Chain t c low high m → length l ≤ length m

-- RULES A10: the reads and writes of a chain, as direct calls
abbrev pub act : Option Handle → ℕ → Raw
act none i = record { code = 0; numbers = [] }
act (some k) i = record { code = elim k.dir [ reading ↦ 7 | writing ↦ 8 ]; numbers = i / 16 ∷ i % 16 ∷ [] }

abbrev pub acts : Tables → List ℕ → List Raw
acts u [] = []
acts u (i ∷ l) = act (u.hand (i / 16) (i % 16)) i ∷ acts u l
