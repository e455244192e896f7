-- What the records that a call looks at tell of its tests. Nothing dangles in t, and each record is the one at the number that the call names. Assumes
-- nothing.
use mathlib.Core.Path.{◌≡◌, refl, sym, ◌∙◌, ap, ap₂, subst}
use mathlib.Core.Bool.{Bool, true, false, not, ◌&&◌, ◌||◌, cond}
use mathlib.Core.Option.{Option, none, some}
use Prim.Native.Nat.{ℕ}
use native.Mathlib.Omega.{arith}
use native.Mathlib.Decide.{ℕ_discrete}
use borrow.Author.Tests.{lt-ltb, le-leb, ne_eqb}
use lib.Dec.{T, ltb, leb, eqb}
use Rattle.model.specs.Bools.{is_true}
use Rattle.model.proofs.Label.Laws.{level_label}
use Rattle.model.specs.Flow.{Thing, subject, object}
use Rattle.model.specs.Label.{label, in_scale}
use Rattle.model.specs.Tables.{file, pipe, entry, Dir, reading, writing, Entry, Tables, in_range, live, is_pipe}
use Rattle.model.specs.Tables.{Handle as Held}
use Rattle.model.proofs.Tables.Laws.{used_is}
use Rattle.model.specs.Invariant.{Wf}
use Rattle.model.specs.Calls.{alive, new, present, no_pipe, leveled, freezable, vacant, taken, facing, thawed, turned, frozen, broken}
use Rattle.tables.specs.declared.Subject.{Subject}
use Rattle.tables.specs.declared.Object.{Object}
use Rattle.tables.specs.declared.Handle.{Handle}
use Rattle.tables.specs.Records.{subject_entry, object_entry, reads_by, held}
use Rattle.refusals.specs.Refusing.{direction}
use Rattle.tables.specs.Working.{used_subject, used_object, used_place, writes_by, frozen_by}

and_false : (a : Bool) → (a && false) ≡ false
and_false true = refl
and_false false = refl

or_true : (a : Bool) → (a || true) ≡ true
or_true true = refl
or_true false = refl

-- ── things ──
module _ (t : Tables) (w : Wf t) where
  not_live_is : (x : Thing) (b : Bool) (e : Entry) → t.at x ≡ cond b none (some e) → not (live t x) ≡ b
  not_live_is x true e q = rw (used_is t x, q) (ap not (and_false (in_range x)))
  not_live_is x false e q = rw (used_is t x, q, is_true (in_range x) (w.ranged x e q))

  pub alive_is : (s : ℕ) (x : Subject) → t.at (subject s) ≡ subject_entry x → broken t (alive s) ≡ eqb x.live 0
  alive_is s x q = not_live_is (subject s) (eqb x.live 0) _ q

  pub present_is : (o : ℕ) (y : Object) → t.at (object o) ≡ object_entry y → broken t (present o) ≡ eqb y.kind 0
  present_is o y q = not_live_is (object o) (eqb y.kind 0) _ q

new_is : (t : Tables) (x : Thing) (b r : Bool) (e : Entry) → in_range x ≡ r → t.at x ≡ cond b none (some e) → broken t (new x) ≡ cond r (not b) true
new_is t x true true e i q = rw (used_is t x, q, i)
new_is t x false true e i q = rw (used_is t x, q, i)
new_is t x b false e i q = rw i

pub new_subject_is : (t : Tables) (s : ℕ) (x : Subject) → t.at (subject s) ≡ subject_entry x → broken t (new (subject s)) ≡ used_subject s x
new_subject_is t s x q = new_is t (subject s) (eqb x.live 0) (ltb s 32) _ refl q

pub or-false : (a b : Bool) → (a || b) ≡ false → (a ≡ false) × (b ≡ false)
or-false true b h = absurd (subst T h tt)
or-false false b h = (refl, h)

pub new_object_is : (t : Tables) (o : ℕ) (y : Object) → t.at (object o) ≡ object_entry y → broken t (new (object o)) ≡ used_object y
new_object_is t o y q = new_is t (object o) (eqb y.kind 0) true _ refl q

-- where the record says that it is free, there is no entry
pub free_is : (t : Tables) (o : ℕ) (y : Object) (b : Bool) → t.at (object o) ≡ object_entry y → b ≡ used_object y → b ≡ false → t.at (object o) ≡ none
free_is t o y b q e n = q ∙ go (eqb y.kind 0) (sym e ∙ n)
  where
    go : (a : Bool) → not a ≡ false → cond a none (some (entry (cond (eqb y.kind 1) file pipe) (label y.level y.shops))) ≡ none
    go true h = refl
    go false h = absurd (subst T h tt)

pub pipe_is : (t : Tables) (o : ℕ) (y : Object) → t.at (object o) ≡ object_entry y → broken t (no_pipe o) ≡ leb 2 y.kind
pipe_is t o y q = ap (is_pipe (object o)) q ∙ go (ℕ_discrete y.kind 0) (ℕ_discrete y.kind 1)
  where
    go : Dec (y.kind ≡ 0) → Dec (y.kind ≡ 1) → is_pipe (object o) (object_entry y) ≡ leb 2 y.kind
    go (yes e) d = rw e
    go (no n) (yes e) = rw e
    go (no n) (no m) = rw (ne_eqb y.kind 0 n, ne_eqb y.kind 1 m, le-leb 2 y.kind (omega arith))

-- ── places ──
module _ (t : Tables) (s p : ℕ) (h : Handle) (q : t.hand s p ≡ held h) where
  pub vacant_is : broken t (vacant s p) ≡ used_place p h
  vacant_is = go (eqb h.way 0) (ltb p 16) refl _ q
    where
      go : (b r : Bool) → ltb p 16 ≡ r → (k : Held) → t.hand s p ≡ cond b none (some k) → broken t (vacant s p) ≡ cond r (not b) true
      go true true i k e = rw (i, e)
      go false true i k e = rw (i, e)
      go b false i k e = rw i

  pub taken_is : Wf t → broken t (taken s p) ≡ eqb h.way 0
  taken_is w = go (eqb h.way 0) _ q
    where
      go : (b : Bool) (k : Held) → t.hand s p ≡ cond b none (some k) → broken t (taken s p) ≡ b
      go true k e = rw e (or_true (not (ltb p 16)))
      go false k e = rw (e, lt-ltb p 16 (w.ends s p k e).place)

  facing_is : (d : Dir) (b : Bool) → turned d (held h) ≡ b → broken t (facing d s p) ≡ b
  facing_is d b e = ap (turned d) q ∙ e

  pub faces_out : broken t (facing reading s p) ≡ writes_by h.way
  faces_out = facing_is reading (writes_by h.way) (go (eqb h.way 0) (reads_by h.way))
    where
      go : (a b : Bool) → turned reading (cond a none (some (record { dir = cond b reading writing; to = h.object; marked = not (eqb h.mark 0); mapped = eqb h.way 3 })))
          ≡ cond a false (not b)
      go true b = refl
      go false true = refl
      go false false = refl

  pub faces_in : broken t (facing writing s p) ≡ reads_by h.way
  faces_in = facing_is writing (reads_by h.way) (go (ℕ_discrete h.way 0))
    where
      of : (b : Bool) → turned writing (some (record { dir = cond b reading writing; to = h.object; marked = not (eqb h.mark 0); mapped = eqb h.way 3 })) ≡ b
      of true = refl
      of false = refl

      go : Dec (h.way ≡ 0) → turned writing (held h) ≡ reads_by h.way
      go (yes e) = rw e
      go (no n) = rw (ne_eqb h.way 0 n) (of (reads_by h.way))

-- ── labels ──
pub off_is : (t : Tables) (n m : ℕ) → broken t (leveled (label n m)) ≡ not (in_scale (label n m))
off_is t n m = refl

pub beyond_is : (t : Tables) (n : ℕ) → broken t (freezable n) ≡ ltb 16 n
beyond_is t n = refl

-- ── the freeze ──
pub frozen_is : (t : Tables) (o f : ℕ) (reads : Bool) (y : Object) → t.freeze ≡ f → t.at (object o) ≡ object_entry y
    → broken t (thawed (direction reads) o) ≡ frozen_by f reads y
frozen_is t o f true y e q = refl
frozen_is t o f false y e q = ap₂ (λ (n : ℕ) (v : Option Entry). frozen n (object o) v) e q ∙ go (ℕ_discrete y.kind 0) (ℕ_discrete y.kind 1)
  where
    go : Dec (y.kind ≡ 0) → Dec (y.kind ≡ 1) → frozen f (object o) (object_entry y) ≡ frozen_by f false y
    go (yes k) d = rw k (sym (and_false (ltb f 16)))
    go (no n) (yes k) = rw (k, level_label y.level y.shops)
    go (no n) (no m) = rw (ne_eqb y.kind 0 n, ne_eqb y.kind 1 m)
