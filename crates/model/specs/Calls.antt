-- The eighteen calls: what each asks, what it tests, what it does, what it answers. States RULES C1 to C18, C101 to C113 and C116 to C118, R1 to R10 and R15 to R17,
-- of the sentences about all refusals RULES R101, R102, R105, R108, R110 and R117 to R123, and RULES T44.
--
-- In order: the calls by code; the effect of each row as a list of steps; the conditions of the refusals and which of them each call
-- tests; the refusal; the tables after; the answer. A new call is a row in `rows`, `steps`, `tests`,
-- `shown`, in `makes` and `removes` of `Tally`, and in `topmost` of `Invariant`. Assumes nothing.
use Rattle.std.specs.Prelude.{Bool, true, false, not, ◌||◌, ◌&&◌, cond, List, [], ◌∷◌, ◌++◌, ℕ, ◌+◌, get_or, length, T, eqb, ltb, leb}
use Rattle.std.proofs.Math.Option.{Option, none, some}
use Rattle.model.specs.Label.{Label, leq, label, level, in_scale, marks_lost}
use Rattle.model.specs.Lists.{In, each, keep, any, inserts, only}
use Rattle.model.specs.Flow.{Thing, subject, object, same}
use Rattle.model.specs.Tables.{running, file, pipe, Dir, reading, writing, Entry, entry, Handle, handle, mapping, with_mark, Tables, with_numbers, no_freeze, subjects, objects, places, in_range, is_some, used, live, label_of, is_file, a_file, is_pipe, cell, things, handles_of, handles, open_on, needs, safe, mates}
use Rattle.model.specs.Steps.{outside, blank, copied, reads, writes, runs, Step, enter, leave, hold, holds, mix, quits, freezes, applies, reap, binds}

-- ── the calls ──
pub data Call : Type 0 where
  admit register : ℕ → Label → Call
  create : ℕ → ℕ → Call
  make_pipe : ℕ → ℕ → ℕ → ℕ → Call
  opens : Dir → ℕ → ℕ → ℕ → Call
  maps : ℕ → ℕ → ℕ → Call
  access : Dir → ℕ → ℕ → Call
  connect : ℕ → ℕ → ℕ → ℕ → ℕ → ℕ → Call
  fork thread exec close mark : ℕ → ℕ → Call
  exit retire freeze : ℕ → Call
  unknown : Call

-- RULES C106, C107: a direct call, its code and its numbers; the call uses the first ones
pub record Raw : Type 0 where
  pub code : ℕ
  pub numbers : List ℕ

-- RULES C108: a number that is not given is 0
abbrev pub arg : ℕ → Raw → ℕ
arg i r = get_or r.numbers i 0

pub record Row : Type 0 where
  pub code : ℕ
  pub call : Call

abbrev pub coded : ℕ → Call → Row
coded n c = record { code = n; call = c }

-- RULES C1 to C18: the code, the call and its numbers
abbrev pub rows : Raw → List Row
rows r = let a : ℕ = arg 0 r in let b : ℕ = arg 1 r in let c : ℕ = arg 2 r in let d : ℕ = arg 3 r in let e : ℕ = arg 4 r in let f : ℕ = arg 5 r in
    coded 1 (admit a (label b c))
    ∷ coded 2 (register a (label b c))
    ∷ coded 3 (create a b)
    ∷ coded 4 (make_pipe a b c d)
    ∷ coded 5 (opens reading a b c)
    ∷ coded 6 (opens writing a b c)
    ∷ coded 7 (access reading a b)
    ∷ coded 8 (access writing a b)
    ∷ coded 9 (fork a b)
    ∷ coded 10 (exec a b)
    ∷ coded 11 (close a b)
    ∷ coded 12 (exit a)
    ∷ coded 13 (retire a)
    ∷ coded 14 (maps a b c)
    ∷ coded 15 (mark a b)
    ∷ coded 16 (freeze a)
    ∷ coded 17 (connect a b c d e f)
    ∷ coded 18 (thread a b)
    ∷ []

abbrev pub lookup : ℕ → List Row → Call
lookup n [] = unknown
lookup n (k ∷ ks) = elim (eqb k.code n) [ true ↦ k.call | false ↦ lookup n ks ]

-- RULES C1 to C18, R1: the call that a code asks for, `unknown` where no row has the code
unfoldable pub decode : Raw → Call
decode r = lookup r.code (rows r)

-- ── effects ──
-- the object of the handle at a place; only taken places are asked
abbrev pub target : Option Handle → Thing
target none = subject 0
target (some k) = object k.to

abbrev pub moves : Dir → Thing → Thing → Thing → Step
moves reading s c o = mix reads s o c o
moves writing s c o = mix writes o s o c

-- RULES C110: s has x mapped
abbrev pub has_mapped : Tables → Thing → ℕ → Bool
has_mapped t x s = any (λ k. k.mapped && same (object k.to) x) (handles_of t s)

-- RULES C8, C111, C117, B29: the reads that follow a write to x, where it is a file: one by each subject that has it mapped, the lowest number first
unfoldable pub rereads : Tables → Thing → List Step
rereads t x = elim (a_file x (t.at x)) [
  | true ↦ each subjects (λ s. keep (has_mapped t x s) (mix reads (subject s) x (cell t s) x) [])
  | false ↦ []
]

abbrev pub followed : Tables → Dir → Thing → List Step
followed t reading x = []
followed t writing x = rereads t x

-- RULES C15: a place with its handle marked
abbrev pub marking : Option Handle → Option Handle
marking none = none
marking (some k) = some (with_mark k)

-- RULES C10: a handle that an exec closes, and a place without its handle where that is one
abbrev pub ends_at_exec : Handle → Bool
ends_at_exec k = k.marked || k.mapped

abbrev pub lasting : Option Handle → Option Handle
lasting none = none
lasting (some k) = cond (ends_at_exec k) none (some k)

-- RULES C10, C116, R110: what an exec drops before it runs: the other members of the group of s, then the marked handles and the mappings of s
unfoldable pub sheds : Tables → ℕ → List Step
sheds t s = quits (mates t s) ∷ holds s (λ p. lasting (t.hand s p)) ∷ []

-- RULES C17, C112, whose t is u here: the two pipes of a channel between s and u, then the ends of s and those of u: each reads the other's pipe at p and writes its own at q
abbrev pub channel : Tables → ℕ → ℕ → ℕ → ℕ → ℕ → ℕ → List Step
channel t s u a b p q =
    enter (object a) (entry pipe (label_of (t.at (cell t s)))) blank
    ∷ enter (object b) (entry pipe (label_of (t.at (cell t u)))) blank
    ∷ hold s p (some (handle reading b))
    ∷ hold s q (some (handle writing a))
    ∷ hold u p (some (handle reading a))
    ∷ hold u q (some (handle writing b))
    ∷ []

-- RULES C1 to C18, C113: the effect, row by row; who is new is in a group of its own, but for a thread
abbrev pub steps : Tables → Call → List Step
steps t (admit s l) = enter (subject s) (entry running l) outside ∷ []
steps t (register o l) = enter (object o) (entry file l) outside ∷ []
steps t (create s o) = enter (object o) (entry file (label_of (t.at (cell t s)))) blank ∷ []
steps t (make_pipe s o r w) = enter (object o) (entry pipe (label_of (t.at (cell t s)))) blank ∷ hold s r (some (handle reading o)) ∷ hold s w (some (handle writing o)) ∷ []
steps t (opens d s o p) = hold s p (some (handle d o)) ∷ []
steps t (access d s p) = moves d (subject s) (cell t s) (target (t.hand s p)) ∷ followed t d (target (t.hand s p))
steps t (fork s c) = enter (subject c) (entry running (label_of (t.at (cell t s)))) (copied (cell t s)) ∷ holds c (t.hand s) ∷ []
steps t (thread s c) = enter (subject c) (entry running (label_of (t.at (cell t s)))) (copied (cell t s)) ∷ binds c s ∷ []
steps t (exec s o) = sheds t s ++ (mix runs (subject s) (object o) (cell t s) (object o) ∷ [])
steps t (close s p) = hold s p none ∷ []
steps t (exit s) = quits (same (subject s)) ∷ []
steps t (retire o) = leave (object o) ∷ []
steps t (maps s o p) = hold s p (some (mapping o)) ∷ mix reads (subject s) (object o) (cell t s) (object o) ∷ []
steps t (mark s p) = hold s p (marking (t.hand s p)) ∷ []
steps t (freeze n) = freezes n ∷ []
steps t (connect s u a b p q) = channel t s u a b p q
steps t unknown = []

-- RULES T44: the objects that steps make
abbrev pub made_by : Thing → List ℕ → List ℕ
made_by (subject s) l = l
made_by (object o) l = o ∷ l

abbrev pub made : List Step → List ℕ
made [] = []
made (enter x e g ∷ ks) = made_by x (made ks)
made (leave x ∷ ks) = made ks
made (hold s p v ∷ ks) = made ks
made (holds s r ∷ ks) = made ks
made (mix m a b y x ∷ ks) = made ks
made (quits q ∷ ks) = made ks
made (binds c s ∷ ks) = made ks
made (freezes n ∷ ks) = made ks

-- RULES C102: the steps of the row, and the end of the pipes that they leave without a handle
abbrev pub stepped : Tables → Call → Tables
stepped t c = reap (handles t) (applies (steps t c) t)

-- RULES T44: the numbers of the live objects once tables t have become u: those of before and the new ones, as far as they are live
abbrev pub relisted : Tables → Call → Tables → Tables
relisted t c u = with_numbers u (only (λ o. used u (object o)) (inserts (made (steps t c)) t.numbers))

-- RULES C102, C109, T44: that, the live objects listed anew, and nothing else
unfoldable pub effect : Tables → Call → Tables
effect t c = relisted t c (stepped t c)

-- ── refusals ──
pub data Test : Type 0 where
  known : Test
  alive present no_pipe freezable : ℕ → Test
  leveled : Label → Test
  new : Thing → Test
  vacant taken apart unlike others : ℕ → ℕ → Test
  facing : Dir → ℕ → ℕ → Test
  enough : Call → Test
  suits : ℕ → ℕ → Test
  idle : ℕ → Test
  thawed : Dir → ℕ → Test
  roomy : ℕ → Test

-- RULES R1 to R10, R15 to R17: the number of the refusal that the test is of
abbrev pub number : Test → ℕ
number known = 1
number (alive s) = 2
number (new x) = 3
number (unlike a b) = 3
number (present o) = 4
number (no_pipe o) = 5
number (leveled n) = 6
number (freezable n) = 6
number (vacant s p) = 7
number (taken s p) = 7
number (apart r w) = 7
number (facing d s p) = 8
number (enough c) = 9
number (suits s o) = 9
number (idle o) = 10
number (thawed d o) = 15
number (others s u) = 16
number (roomy k) = 17

abbrev pub faces : Dir → Dir → Bool
faces reading reading = true
faces reading writing = false
faces writing reading = false
faces writing writing = true

-- RULES R8, R108: a handle for the other direction; an empty place has none
abbrev pub turned : Dir → Option Handle → Bool
turned d none = false
turned d (some k) = not (faces d k.dir)

-- RULES R15, T32, T33: a file whose level is at or above the freeze; a freeze that is not below 16 freezes none
abbrev pub frozen : ℕ → Thing → Option Entry → Bool
frozen f x none = false
frozen f x (some e) = ltb f no_freeze && (is_file x e.kind && leb f (level e.label))

-- RULES R118: it is asked of opens for writing alone
abbrev pub shut : ℕ → Dir → Thing → Option Entry → Bool
shut f reading x v = false
shut f writing x v = frozen f x v

-- RULES R1 to R10, R15 to R17, R123: the test fails, as the row says; `roomy k` where k objects more would make more than 64 live
abbrev pub broken : Tables → Test → Bool
-- (asked of unknown codes alone)
broken t known = true
broken t (alive s) = not (live t (subject s))
broken t (new x) = not (in_range x) || used t x
broken t (unlike a b) = eqb a b
broken t (present o) = not (live t (object o))
broken t (no_pipe o) = is_pipe (object o) (t.at (object o))
broken t (leveled l) = not (in_scale l)
broken t (freezable n) = ltb no_freeze n
broken t (vacant s p) = not (ltb p places) || is_some (t.hand s p)
broken t (taken s p) = not (ltb p places) || not (is_some (t.hand s p))
broken t (apart r w) = eqb r w
broken t (facing d s p) = turned d (t.hand s p)
broken t (enough c) = not (safe (applies (steps t c) t))
broken t (suits s o) = not (leq (needs (applies (sheds t s) t) (cell t s)) (label_of (t.at (object o))))
broken t (idle o) = open_on (handles t) o
broken t (thawed d o) = shut t.freeze d (object o) (t.at (object o))
broken t (others s u) = eqb s u
broken t (roomy k) = ltb objects (length t.numbers + k)

-- RULES R1 to R10, R15 to R17, R121, C101, C103: which conditions speak of which call
abbrev pub tests : Call → List Test
tests (admit s n) = new (subject s) ∷ leveled n ∷ []
tests (register o n) = new (object o) ∷ leveled n ∷ roomy 1 ∷ []
tests (create s o) = alive s ∷ new (object o) ∷ roomy 1 ∷ []
tests (make_pipe s o r w) = alive s ∷ new (object o) ∷ vacant s r ∷ vacant s w ∷ apart r w ∷ roomy 1 ∷ []
tests (opens d s o p) = alive s ∷ present o ∷ vacant s p ∷ enough (opens d s o p) ∷ thawed d o ∷ []
tests (access d s p) = alive s ∷ taken s p ∷ facing d s p ∷ []
tests (fork s c) = alive s ∷ new (subject c) ∷ []
tests (thread s c) = alive s ∷ new (subject c) ∷ []
tests (exec s o) = alive s ∷ present o ∷ no_pipe o ∷ suits s o ∷ []
tests (close s p) = alive s ∷ taken s p ∷ []
tests (exit s) = alive s ∷ []
tests (retire o) = present o ∷ no_pipe o ∷ idle o ∷ []
-- RULES R119: a map is tested as the open for reading is
tests (maps s o p) = alive s ∷ present o ∷ no_pipe o ∷ vacant s p ∷ enough (opens reading s o p) ∷ []
tests (mark s p) = alive s ∷ taken s p ∷ []
tests (freeze n) = freezable n ∷ []
tests (connect s u a b p q) =
    alive s ∷ alive u ∷ others s u ∷ new (object a) ∷ new (object b) ∷ unlike a b
    ∷ vacant s p ∷ vacant s q ∷ vacant u p ∷ vacant u q ∷ apart p q ∷ enough (connect s u a b p q) ∷ roomy 2 ∷ []
tests unknown = known ∷ []

-- RULES R105, R117, R120, R122: the smallest number first, but that 16 comes after 2, 17 after 3, and 15 just before 9
abbrev pub order : List ℕ
order = 1 ∷ 2 ∷ 16 ∷ 3 ∷ 17 ∷ 4 ∷ 5 ∷ 6 ∷ 7 ∷ 8 ∷ 15 ∷ 9 ∷ 10 ∷ []

-- some test of this number fails
abbrev pub breaks : Tables → ℕ → List Test → Bool
breaks t n [] = false
breaks t n (d ∷ ds) = (elim (eqb (number d) n) as (λ _. Bool) [ true ↦ broken t d | false ↦ false ]) || breaks t n ds

abbrev pub first : Tables → List Test → List ℕ → Option ℕ
first t ds [] = none
first t ds (n ∷ ns) = elim (breaks t n ds) [ true ↦ some n | false ↦ first t ds ns ]

-- m stands before n in the order
abbrev pub earlier : ℕ → ℕ → List ℕ → Bool
earlier m n [] = false
earlier m n (k ∷ ks) = not (eqb k n) && (eqb k m || earlier m n ks)

-- all tests of the call that come before number n pass
abbrev pub InOrder : Tables → Call → ℕ → Type 0
InOrder t c n = (e : Test) → In e (tests c) → T (earlier (number e) n order) → T (not (broken t e))

unfoldable pub refusal : Tables → Call → Option ℕ
refusal t c = first t (tests c) order

-- RULES R102: refused, the tables as they were; else the effect
abbrev pub next : Tables → Call → Tables
next t c = elim (refusal t c) [ none ↦ effect t c | some n ↦ t ]

-- ── answers ──
-- what an answer gives: the level of a thing, or a number of the call
pub data Shown : Type 0 where
  level_at : Thing → Shown
  given : ℕ → Shown

-- RULES C1 to C18: of which thing the answer gives the level, or which number it gives
abbrev pub shown : Tables → Call → Shown
shown t (admit s n) = level_at (subject s)
shown t (register o n) = level_at (object o)
shown t (create s o) = level_at (object o)
shown t (make_pipe s o r w) = level_at (object o)
shown t (opens d s o p) = level_at (object o)
shown t (access reading s p) = level_at (cell t s)
shown t (access writing s p) = level_at (target (t.hand s p))
shown t (fork s c) = level_at (subject c)
shown t (thread s c) = level_at (subject c)
shown t (exec s o) = level_at (cell t s)
shown t (close s p) = level_at (cell t s)
shown t (exit s) = level_at (cell t s)
shown t (retire o) = level_at (object o)
shown t (maps s o p) = level_at (cell t s)
shown t (mark s p) = level_at (cell t s)
shown t (freeze n) = given n
shown t (connect s u a b p q) = level_at (cell t s)
shown t unknown = given 0

-- the outcome with the level in the answer, of a lowered one also with the number of marks lost, or the number of the refusal (whose level is 0)
pub data Answer : Type 0 where
  allowed refused : ℕ → Answer
  lowered : ℕ → ℕ → Answer

-- what is there before and after, and whose label is not kept: its level is smaller, or a mark is lost
abbrev pub smaller : Option Entry → Option Entry → Bool
smaller none a = false
smaller (some b) none = false
smaller (some b) (some a) = not (leq b.label a.label)

-- RULES C104: some thing that is live in t has a smaller label in u
unfoldable pub lowers : Tables → Tables → Bool
lowers t u = any (λ x. smaller (t.at x) (u.at x)) (things t)

-- the label after, of a thing that is gone the last one
abbrev pub last_label : Option Entry → Option Entry → Label
last_label b none = label_of b
last_label b (some a) = a.label

-- RULES C118: how many marks what is there before and after has lost
abbrev pub fewer : Option Entry → Option Entry → ℕ
fewer none a = 0
fewer (some b) none = 0
fewer (some b) (some a) = marks_lost b.label a.label

-- RULES C104, C105, C118: lowered, with the marks lost, or allowed
abbrev pub outcome : Bool → ℕ → ℕ → Answer
outcome b n k = cond b (lowered n k) (allowed n)

-- what is said of tables t that became u
abbrev pub said : Tables → Tables → Shown → Answer
said t u (level_at x) = outcome (lowers t u) (level (last_label (t.at x) (u.at x))) (fewer (t.at x) (u.at x))
said t u (given n) = allowed n

-- RULES R101, C104, C105: the refusal's number, or the outcome
unfoldable pub answer : Tables → Call → Answer
answer t c = elim (refusal t c) [ none ↦ said t (effect t c) (shown t c) | some n ↦ refused n ]

-- ── lists of calls ──
abbrev pub after : Tables → List Raw → Tables
after t [] = t
after t (r ∷ rs) = after (next t (decode r)) rs

abbrev pub answers : Tables → List Raw → List Answer
answers t [] = []
answers t (r ∷ rs) = answer t (decode r) ∷ answers (next t (decode r)) rs
