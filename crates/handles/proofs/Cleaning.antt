-- Cleaning: the handle records, each kept or emptied, are the clean tables. Assumes nothing.
use mathlib.Core.Path.{◌≡◌, refl, sym, ◌∙◌, ap, fun_ext}
use mathlib.Core.Bool.{Bool, true, false, not, ◌&&◌, cond}
use mathlib.Core.Option.{Option, none, some}
use mathlib.Core.List.{List}
use Prim.Native.Nat.{ℕ, ◌+◌, ◌*◌, ◌/◌, ◌%◌, ◌<◌}
use native.Mathlib.Omega.{arith}
use native.Mathlib.Decide.{dec_lt}
use borrow.Author.Tests.{lt-ltb, le-ltb, ltb-true, ltb-false}
use lib.ListN.{length, get_or, get_or-eq_default}
use lib.Dec.{ltb, eqb}
use Rattle.model.specs.Flow.{subject, object}
use Rattle.model.specs.Tables.{Tables, with_hand, places, is_some, used, live, counted, clean}
use Rattle.model.specs.Tables.{Handle as Held}
use Rattle.model.proofs.Tables.Laws.{used_is}
use Rattle.tables.specs.declared.Subject.{Subject}
use Rattle.tables.specs.declared.Object.{Object}
use Rattle.tables.specs.declared.Handle.{Handle}
use Rattle.tables.specs.Records.{joins, held, no_subject, no_object, no_handle, hands, tables_of}
use Rattle.handles.specs.Working.{kept_of}

-- handle record j, kept or emptied
abbrev pub kept_at : List Subject → List Object → ℕ → Handle → Handle
kept_at ss os j h = kept_of h (get_or ss (j / 16) no_subject) (get_or os (h.object % 64) no_object)

-- ── one record ──
pub counted_held : (h : Handle) (b c : Bool) (f : ℕ → Bool) → f h.object ≡ c → counted b f (held h) ≡ cond (b && c) (held h) none
counted_held h b c f e = go (eqb h.way 0)
  where
    nothing : (z : Bool) → ◌≡◌ {A = Option Held} none (cond z none none)
    nothing true = refl
    nothing false = refl

    go : (v : Bool) → counted b f (cond v none (some (joins h))) ≡ cond (b && c) (cond v none (some (joins h))) none
    go true = nothing (b && c)
    go false = rw e

-- its subject is not live, its object is in range, its object is free
pub kept_held : (h : Handle) (l a k : Bool) → held (cond l no_handle (cond a (cond k no_handle h) no_handle)) ≡ cond (not l && (a && not k)) (held h) none
kept_held h true a k = refl
kept_held h false false k = refl
kept_held h false true true = refl
kept_held h false true false = refl

-- ── the tables ──
some_cond : {A : Type 0} (b : Bool) (a : A) → is_some (cond b none (some a)) ≡ not b
some_cond true a = refl
some_cond false a = refl

module _ (rest : Tables) (ss : List Subject) (os : List Object) (hs r : List Handle) (lr : length r ≡ 512) (lo : length os ≡ 64)
    (m : (j : ℕ) → j < 512 → get_or r j no_handle ≡ kept_at ss os j (get_or hs j no_handle)) where
  f : ℕ → Bool
  f o = live (tables_of rest ss os hs) (object o)

  -- the object that a record names, and the one at that number modulo 64
  named : (h : Handle) → f h.object ≡ (ltb h.object 64 && not (eqb (get_or os (h.object % 64) no_object).kind 0))
  unfolding f tables_of
  named h = go (ltb h.object 64) refl
    where
      go : (b : Bool) → ltb h.object 64 ≡ b → used (tables_of rest ss os hs) (object h.object) ≡
          (b && not (eqb (get_or os (h.object % 64) no_object).kind 0))
      go true q = let e : h.object % 64 ≡ h.object = omega (arith, ltb-true h.object 64 q) in rw (used_is (tables_of rest ss os hs) (object h.object), e)
          (some_cond (eqb (get_or os h.object no_object).kind 0) _)
      go false q = rw (used_is (tables_of rest ss os hs) (object h.object), get_or-eq_default os no_object {n = h.object} (omega (arith, ltb-false h.object 64 q)))

  at_place : (s q : ℕ) → q < 16 → Dec (s < 32) → held (get_or r (s * 16 + q) no_handle) ≡ counted (live (tables_of rest ss os hs) (subject s)) f
      (held (get_or hs (s * 16 + q) no_handle))
  unfolding f tables_of
  at_place s q lq (yes h) = let d : (s * 16 + q) / 16 ≡ s = omega arith in
      rw (m (s * 16 + q) (omega arith), d, lt-ltb s 32 h, used_is (tables_of rest ss os hs) (subject s), some_cond (eqb (get_or ss s no_subject).live 0))
      (kept_held k (eqb (get_or ss s no_subject).live 0) (ltb k.object 64) (eqb (get_or os (k.object % 64) no_object).kind 0)
      ∙ sym (counted_held k (not (eqb (get_or ss s no_subject).live 0)) _ f (named k)))
    where
      k : Handle
      k = get_or hs (s * 16 + q) no_handle
  at_place s q lq (no n) = rw (le-ltb s 32 (omega arith), get_or-eq_default r no_handle {n = s * 16 + q} (omega arith))
      (sym (counted_held (get_or hs (s * 16 + q) no_handle) false _ f refl))

  hand_is : (s q : ℕ) (b : Bool) → ltb q 16 ≡ b → hands r s q ≡ counted (ltb q places && live (tables_of rest ss os hs) (subject s)) f (hands hs s q)
  hand_is s q true e = rw e (at_place s q (ltb-true q 16 e) (dec_lt s 32))
  hand_is s q false e = rw e

  pub cleaned_tables : tables_of rest ss os r ≡ clean (tables_of rest ss os hs)
  unfolding tables_of clean f
  cleaned_tables = ap (with_hand (tables_of rest ss os hs)) (fun_ext (λ s. fun_ext (λ q. hand_is s q (ltb q 16) refl)))
