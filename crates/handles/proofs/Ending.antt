-- The end of a pipe: which objects have a handle open, worked out handle by handle, is what the rules ask; and the objects with the ended pipes
-- freed are the tables after `reap`. Assumes nothing.
use mathlib.Core.Path.{◌≡◌, refl, sym, ◌∙◌, ap, subst₂, fun_ext}
use mathlib.Core.Bool.{Bool, true, false, not, ◌&&◌, cond}
use mathlib.Core.Option.{none, some}
use mathlib.Core.List.{List}
use Prim.Native.Nat.{ℕ, zero, suc, ◌≤◌, ◌<◌}
use native.Mathlib.Omega.{arith}
use native.Mathlib.Decide.{dec_lt}
use borrow.Author.Tests.{le-ltb, ne_eqb}
use lib.ListN.{length, get_or, get_or-eq_default}
use lib.Dec.{eqb}
use Rattle.model.specs.Label.{label}
use Rattle.model.specs.Flow.{Thing, subject, object}
use Rattle.model.specs.Tables.{pipe, entry, Tables, empty, with_at, with_hand, handles, open_on}
use Rattle.model.specs.Tables.{Handle as Held}
use Rattle.model.specs.Steps.{ended, reap}
use Rattle.tables.specs.declared.Subject.{Subject}
use Rattle.tables.specs.declared.Object.{Object}
use Rattle.tables.specs.declared.Handle.{Handle}
use Rattle.tables.specs.Records.{object_entry, no_object, no_handle, entries, hands, tables_of}
use Rattle.handles.specs.Working.{on, Hits, outlived_by}
use Rattle.handles.proofs.Opening.{open_is}

-- ── the map of open objects ──
-- a record off the objects is on none of them
pub on_none : (h : Handle) (o : ℕ) → o < 64 → 64 ≤ h.object → on h o ≡ false
on_none h o l g = go (eqb h.way 0)
  where
    go : (v : Bool) → cond v false (eqb h.object o) ≡ false
    go true = refl
    go false = ne_eqb h.object o (λ e. omega arith)

-- what is marked is what is open
pub open_hits : (hs : List Handle) (r : List Bool) → Hits (λ j. on (get_or hs j no_handle)) 64 r 512 → (o : ℕ) → o < 64
    → get_or r o false ≡ open_on (handles (with_hand empty (hands hs))) o
open_hits hs r m o l = m.at o l ∙ open_is hs o

-- ── the end of a pipe ──
ended_entry : (before after : List Held) (n : ℕ) (x : Object) (was is : Bool) → was ≡ open_on before n → is ≡ open_on after n
    → object_entry (outlived_by x was is) ≡ cond (ended before after (object n) (object_entry x)) none (object_entry x)
unfolding ended
ended_entry before after n x was is p q =
    subst₂ (λ a b. object_entry (outlived_by x a b) ≡ cond (ended before after (object n) (object_entry x)) none (object_entry x)) (sym p) (sym q)
    (go x.kind x.level x.shops)
  where
    go : (k l m : ℕ) → object_entry (outlived_by (record { kind = k; level = l; shops = m }) (open_on before n) (open_on after n))
        ≡ cond (ended before after (object n) (object_entry (record { kind = k; level = l; shops = m }))) none
        (object_entry (record { kind = k; level = l; shops = m }))
    go zero l m = refl
    go (suc zero) l m = refl
    go (suc (suc k)) l m = rw (le-ltb (suc (suc k)) 2 (omega arith), pipe_is) (inner (open_on before n) (open_on after n))
      where
        y : Object
        y = record { kind = suc (suc k); level = l; shops = m }

        pipe_is : object_entry y ≡ some (entry pipe (label l m))
        pipe_is = rw (ne_eqb (suc (suc k)) 0 (λ e. omega arith), ne_eqb (suc (suc k)) 1 (λ e. omega arith))

        inner : (a b : Bool) → object_entry (cond b y (cond a no_object y)) ≡ cond (a && not b) none (some (entry pipe (label l m)))
        inner false true = pipe_is
        inner false false = pipe_is
        inner true true = pipe_is
        inner true false = refl

-- object record j by whether it was and is open
abbrev pub left_at : List Bool → List Bool → ℕ → Object → Object
left_at was is j x = outlived_by x (get_or was j false) (get_or is j false)

pub reaped_tables : (rest : Tables) (ss : List Subject) (os r : List Object) (hs₀ hs : List Handle) (before : List Held) (was is : List Bool) → length os ≡ 64 → length r ≡ 64
    → ((o : ℕ) → o < 64 → get_or r o no_object ≡ left_at was is o (get_or os o no_object))
    → Hits (λ j. on (get_or hs₀ j no_handle)) 64 was 512 → Hits (λ j. on (get_or hs j no_handle)) 64 is 512
    → before ≡ handles (with_hand empty (hands hs₀))
    → tables_of rest ss r hs ≡ reap before (tables_of rest ss os hs)
unfolding tables_of handles ended
reaped_tables rest ss os r hs₀ hs before was is lo lr m pw pi eb = ap (with_at (tables_of rest ss os hs)) (fun_ext at)
  where
    after : List Held
    after = handles (tables_of rest ss os hs)

    open_before : (o : ℕ) → o < 64 → get_or was o false ≡ open_on before o
    open_before o l = rw eb (open_hits hs₀ was pw o l)

    at : (x : Thing) → entries ss r x ≡ cond (ended before after x (entries ss os x)) none (entries ss os x)
    at (subject n) = refl
    at (object n) = go (dec_lt n 64)
      where
        go : Dec (n < 64) → object_entry (get_or r n no_object) ≡ cond (ended before after (object n) (object_entry (get_or os n no_object))) none
            (object_entry (get_or os n no_object))
        go (yes l) = ap object_entry (m n l) ∙ ended_entry before after n (get_or os n no_object) (get_or was n false) (get_or is n false)
            (open_before n l) (open_hits hs is pi n l)
        go (no nl) = rw (get_or-eq_default r no_object {n = n} (omega arith), get_or-eq_default os no_object {n = n} (omega arith))
