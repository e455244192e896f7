-- The primitive steps that calls are made of, and what each does to the tables. States RULES C102 and C114 to C116, and how a label falls (T51) in
-- RULES C7, C8, C10 and C14. What a step does to contents is in `Book`. Assumes nothing.
use Rattle.std.specs.Prelude.{Bool, true, false, not, ◌||◌, ◌&&◌, cond, List, [], ◌∷◌, ℕ, eqb}
use Rattle.std.proofs.Math.Option.{Option, none, some}
use Rattle.model.specs.Label.{Label, meet}
use Rattle.model.specs.Flow.{Thing, subject, object, same}
use Rattle.model.specs.Tables.{Kind, running, file, pipe, Entry, entry, Handle, Tables, with_at, with_hand, with_freeze, with_kin, is_pipe, whole, handles, open_on}

-- RULES B11, B12, B16: where a new thing's content comes from
pub data Origin : Type 0 where
  outside blank : Origin
  copied : Thing → Origin

-- RULES B19: the three ways in which data moves
pub data Access : Type 0 where
  reads writes runs : Access

pub data Step : Type 0 where
  -- a thing is new
  enter : Thing → Entry → Origin → Step
  -- a thing is gone
  leave : Thing → Step
  -- place p of s holds this handle, or is empty
  hold : ℕ → ℕ → Option Handle → Step
  -- all places of s at once
  holds : ℕ → (ℕ → Option Handle) → Step
  -- data moves: how, the receiver's and the source's name, and where the receiver's and the source's label and content stand
  mix : Access → Thing → Thing → Thing → Thing → Step
  -- these subjects end: their places are emptied, and they are gone
  quits : (Thing → Bool) → Step
  -- the first becomes a member of the second's group
  binds : ℕ → ℕ → Step
  -- the freeze is this number
  freezes : ℕ → Step

-- ── one part of the tables changed ──
abbrev pub put : (Thing → Option Entry) → Thing → Option Entry → Thing → Option Entry
put a x v y = cond (same x y) v (a y)

abbrev pub row : (ℕ → ℕ → Option Handle) → ℕ → (ℕ → Option Handle) → ℕ → ℕ → Option Handle
row h s r s' p = cond (eqb s s') (r p) (h s' p)

abbrev pub place : (ℕ → ℕ → Option Handle) → ℕ → ℕ → Option Handle → ℕ → ℕ → Option Handle
place h s p v = row h s (λ q. cond (eqb p q) v (h s q))

-- things gone, and the places of subjects emptied
abbrev pub without : (Thing → Bool) → Tables → Tables
without gone t = with_at t (λ x. cond (gone x) none (t.at x))

abbrev pub vacated : (Thing → Bool) → (ℕ → ℕ → Option Handle) → ℕ → ℕ → Option Handle
vacated gone h s p = cond (gone (subject s)) none (h s p)

-- RULES C18, C115, C116: who is gone is in no group, and who joins is what the other is
abbrev pub parted : (Thing → Bool) → (ℕ → ℕ → Bool) → ℕ → ℕ → Bool
parted gone k a b = eqb a b || (not (gone (subject a)) && (not (gone (subject b)) && k a b))

abbrev pub stand_in : ℕ → ℕ → ℕ → ℕ
stand_in c s a = cond (eqb c a) s a

abbrev pub bound : ℕ → ℕ → (ℕ → ℕ → Bool) → ℕ → ℕ → Bool
bound c s k a b = k (stand_in c s a) (stand_in c s b)

-- ── falling ──
-- RULES T7, T8, T9: whose label may fall; a file's stays
abbrev pub falls : Thing → Kind → Bool
falls (subject n) k = true
falls (object n) running = false
falls (object n) file = false
falls (object n) pipe = true

-- RULES C7, C8, C10, C14: a subject and a pipe take the smaller of their label and that of what they take in
abbrev pub sunk : Thing → Kind → Label → Label → Label
sunk x k a b = cond (falls x k) (meet a b) a

abbrev pub fall : Thing → Option Entry → Option Entry → Option Entry
fall x none d = none
fall x (some e) none = some e
fall x (some e) (some d) = some (entry e.kind (sunk x e.kind e.label d.label))

-- RULES C114: the entries once x, and who takes in what x does, took in what has entry d
abbrev pub sink : Tables → Thing → Option Entry → Thing → Option Entry
sink t x d y = cond (whole t x y) (fall y (t.at y) d) (t.at y)

-- ── what a step does to the tables ──
abbrev pub apply : Step → Tables → Tables
apply (enter x e g) t = with_at t (put t.at x (some e))
apply (leave x) t = with_at t (put t.at x none)
apply (hold s p v) t = with_hand t (place t.hand s p v)
apply (holds s r) t = with_hand t (row t.hand s r)
apply (mix m a b y x) t = with_at t (sink t y (t.at x))
apply (quits g) t = with_kin (without g (with_hand t (vacated g t.hand))) (parted g t.kin)
apply (binds c s) t = with_kin t (bound c s t.kin)
apply (freezes n) t = with_freeze t n

abbrev pub applies : List Step → Tables → Tables
applies [] t = t
applies (k ∷ ks) t = applies ks (apply k t)

-- ── a pipe ends ──
-- RULES C102, T22: a pipe that had a handle and has none any more. The handles before and after the steps tell.
unfoldable pub ended : List Handle → List Handle → Thing → Option Entry → Bool
ended before after (subject n) o = false
ended before after (object n) o = elim (is_pipe (object n) o) [ true ↦ open_on before n && not (open_on after n) | false ↦ false ]

abbrev pub reap : List Handle → Tables → Tables
reap before t = let after : List Handle = handles t in with_at t (λ x. cond (ended before after x (t.at x)) none (t.at x))
