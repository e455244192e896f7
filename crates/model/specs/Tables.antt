-- The tables, and what the rules read off them. States RULES T1 to T3, T6 to T12, T17, T18, T20, T24, T32, T35, T37 and T44 to T46, RULES F1 to F3,
-- F5 to F8 and F22, and RULES C114.
--
-- What is kept (live things with kind and label, handles by place, the freeze, the live objects by number, the groups); what is in use and live; the lists of live things, of
-- handles and of flows; the need of a thing and the test that every live thing has enough; and `clean`, which reads tables that
-- no calls made. Tables are functions, so that equality of tables is an equation. Assumes nothing.
use Rattle.std.specs.Prelude.{Bool, true, false, not, ◌&&◌, cond, List, [], ◌∷◌, ◌++◌, ℕ, eqb, ltb}
use Rattle.std.proofs.Math.Option.{Option, none, some}
use Rattle.model.specs.Label.{Label, leq, bot}
use Rattle.model.specs.Lists.{each, keep, any}
use Rattle.model.specs.Flow.{Thing, subject, object, same, Edge, need}
pub mod Numbers

-- ── what is kept ──
-- RULES T2, T24: subjects are running steps, objects are files and pipes. A subject's kind is never looked at.
pub data Kind : Type 0 where
  running file pipe : Kind

-- RULES T10: what a handle is for
pub data Dir : Type 0 where
  reading writing : Dir

-- RULES T7, T8, T9: what a live thing has
pub record Entry : Type 0 where
  pub kind : Kind
  pub label : Label

-- RULES T10, T35, T37: a handle stands at one place of one subject; at its place, the direction and the object, whether it is marked, and
-- whether it is a mapping
pub record Handle : Type 0 where
  pub dir : Dir
  pub to : ℕ
  pub marked : Bool
  pub mapped : Bool

-- RULES T6, T11, T32, T44, T45, T46: the entries under the numbers in use; at each place of each subject one handle or none; the freeze; the numbers of the objects in
-- use, rising, which say nothing beside the entries (Calls/Listed); and of each two subjects whether they are of one group
pub record Tables : Type 0 where
  pub at : Thing → Option Entry
  pub hand : ℕ → ℕ → Option Handle
  pub freeze : ℕ
  pub numbers : List ℕ
  pub kin : ℕ → ℕ → Bool

-- RULES T32: the freeze where no file is frozen
abbrev pub no_freeze : ℕ
no_freeze = 16

-- RULES T12
abbrev pub empty : Tables
empty = record { at = λ x. none; hand = λ s p. none; freeze = no_freeze; numbers = []; kin = eqb }

-- an entry, a handle, and tables with one part changed are built here alone
abbrev pub entry : Kind → Label → Entry
entry k l = record { kind = k; label = l }

-- RULES T35, T37: one that is placed anew is not marked; a mapping is for reading
abbrev pub handle : Dir → ℕ → Handle
handle d o = record { dir = d; to = o; marked = false; mapped = false }

abbrev pub mapping : ℕ → Handle
mapping o = record { dir = reading; to = o; marked = false; mapped = true }

abbrev pub with_mark : Handle → Handle
with_mark k = record { dir = k.dir; to = k.to; marked = true; mapped = k.mapped }

abbrev pub with_at : Tables → (Thing → Option Entry) → Tables
with_at t a = record { at = a; hand = t.hand; freeze = t.freeze; numbers = t.numbers; kin = t.kin }

abbrev pub with_hand : Tables → (ℕ → ℕ → Option Handle) → Tables
with_hand t h = record { at = t.at; hand = h; freeze = t.freeze; numbers = t.numbers; kin = t.kin }

abbrev pub with_freeze : Tables → ℕ → Tables
with_freeze t f = record { at = t.at; hand = t.hand; freeze = f; numbers = t.numbers; kin = t.kin }

abbrev pub with_numbers : Tables → List ℕ → Tables
with_numbers t l = record { at = t.at; hand = t.hand; freeze = t.freeze; numbers = l; kin = t.kin }

abbrev pub with_kin : Tables → (ℕ → ℕ → Bool) → Tables
with_kin t k = record { at = t.at; hand = t.hand; freeze = t.freeze; numbers = t.numbers; kin = k }

-- ── ranges, in use, live ──
-- RULES T1, T2, T3: how many there are of each. The numbers of subjects and places are those below; an object has any number, and so many may be live at a time
abbrev pub subjects : ℕ
subjects = 32

abbrev pub objects : ℕ
objects = 64

abbrev pub places : ℕ
places = 16

abbrev pub in_range : Thing → Bool
in_range (subject n) = ltb n subjects
in_range (object n) = true

abbrev pub is_some : {A : Type 0} → Option A → Bool
is_some none = false
is_some (some a) = true

-- RULES T6, C101: in use, and live; a number is new where it is in range and not in use
unfoldable pub used : Tables → Thing → Bool
used t x = is_some (t.at x)

abbrev pub live : Tables → Thing → Bool
live t x = in_range x && used t x

-- ── kinds and labels ──
-- the least label where there is no entry
abbrev pub label_of : Option Entry → Label
label_of none = bot
label_of (some e) = e.label

-- RULES T2: an object that is no pipe is a file
abbrev pub is_file : Thing → Kind → Bool
is_file (subject n) k = false
is_file (object n) running = true
is_file (object n) file = true
is_file (object n) pipe = false

abbrev pub a_file : Thing → Option Entry → Bool
a_file x none = false
a_file x (some e) = is_file x e.kind

abbrev pub is_pipe : Thing → Option Entry → Bool
is_pipe (subject n) o = false
is_pipe (object n) none = false
is_pipe (object n) (some e) = elim e.kind [ running ↦ false | file ↦ false | pipe ↦ true ]

-- where the label and the content of a subject stand
unfoldable pub cell : Tables → ℕ → Thing
cell t s = subject s

-- RULES C114: who takes in what x takes in: of a subject its group, of an object itself
unfoldable pub whole : Tables → Thing → Thing → Bool
whole t (subject a) (subject b) = t.kin a b
whole t (subject a) (object b) = false
whole t (object a) y = same (object a) y

-- RULES T45: the other members of the group of s
abbrev pub mates : Tables → ℕ → Thing → Bool
mates t s (subject m) = not (eqb s m) && t.kin s m
mates t s (object o) = false

-- ── the lists of live things and of handles ──
-- RULES F8: of the live objects those on which a handle is: no other has a need above its own label, or a label that falls (Calls/Sound, `idle_need`)
abbrev pub named : Tables → Option Handle → List Thing
named t none = []
named t (some k) = keep (used t (object k.to)) (object k.to) []

abbrev pub live_objects : Tables → List Thing
live_objects t = each subjects (λ s. each places (λ p. named t (t.hand s p)))

abbrev pub live_subjects : Tables → List Thing
live_subjects t = each subjects (λ s. keep (used t (subject s)) (cell t s) [])

unfoldable pub things : Tables → List Thing
things t = live_subjects t ++ live_objects t

abbrev pub one : {A : Type 0} → Option A → List A
one none = []
one (some a) = a ∷ []

-- the handles of s, and all handles
abbrev pub handles_of : Tables → ℕ → List Handle
handles_of t s = each places (λ p. one (t.hand s p))

unfoldable pub handles : Tables → List Handle
handles t = each subjects (handles_of t)

-- a handle is open on object o
abbrev pub open_on : List Handle → ℕ → Bool
open_on hs o = any (λ k. eqb k.to o) hs

-- ── flows and needs ──
-- RULES F1, F2: a writing handle is a flow from its subject to its object, a reading handle one from its object to its subject
abbrev pub arc : Dir → Thing → Thing → Edge
arc reading x y = record { src = y; dst = x }
arc writing x y = record { src = x; dst = y }

abbrev pub flow : Thing → Handle → Edge
flow x k = arc k.dir x (object k.to)

-- as what a subject stands in the flows, if its handles make any
unfoldable pub speaks : Tables → ℕ → Option Thing
unfolding cell
speaks t s = some (cell t s)

abbrev pub flows_of : Option Thing → Option Handle → List Edge
flows_of none v = []
flows_of (some x) none = []
flows_of (some x) (some k) = flow x k ∷ []

-- RULES F22: among the members of a group data flows freely
abbrev pub share : ℕ → ℕ → Edge
share a b = record { src = subject a; dst = subject b }

abbrev pub shares_of : Tables → ℕ → List Edge
shares_of t a = each subjects (λ b. keep (mates t a (subject b)) (share a b) [])

-- RULES F3, F22: the flows are those of the handles and those among the members of a group, and no others
unfoldable pub edges : Tables → List Edge
edges t = each subjects (λ s. each places (λ p. flows_of (speaks t s) (t.hand s p))) ++ each subjects (shares_of t)

-- RULES F5, F6, F7: what a thing demands of all that reach it, a file its label, any other thing nothing; and the need of a thing, by the
-- handles that there are now
abbrev pub demand : Thing → Option Entry → Label
demand x none = bot
demand x (some e) = cond (is_file x e.kind) e.label bot

abbrev pub needs : Tables → Thing → Label
needs t x = need (λ y. demand y (t.at y)) (edges t) x

-- RULES F8, R9, R109: no live thing has a label below its need
unfoldable pub safe : Tables → Bool
safe t = let es : List Edge = edges t in not (any (λ x. not (leq (need (λ y. demand y (t.at y)) es x) (label_of (t.at x)))) (things t))

-- ── tables that no calls made ──
-- RULES T17, T18, T20: a handle whose object is not live, or that stands at a place beyond 15 or of a subject that is not live, is taken for
-- an empty place
abbrev pub counted : Bool → (ℕ → Bool) → Option Handle → Option Handle
counted b f none = none
counted b f (some k) = cond (b && f k.to) (some k) none

unfoldable pub clean : Tables → Tables
clean t = with_hand t (λ s p. counted (ltb p places && live t (subject s)) (λ o. live t (object o)) (t.hand s p))
