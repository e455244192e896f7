-- The handles of some subjects emptied, record by record, are the tables without their places. Assumes nothing.
use mathlib.Core.Path.{◌≡◌, refl, ◌∙◌, ap, fun_ext}
use mathlib.Core.Bool.{Bool, true, false, cond}
use mathlib.Core.Option.{Option, none}
use mathlib.Core.List.{List}
use Prim.Native.Nat.{ℕ, ◌+◌, ◌*◌, ◌/◌, ◌<◌}
use native.Mathlib.Omega.{arith}
use native.Mathlib.Decide.{dec_lt}
use borrow.Author.Tests.{ltb-true}
use lib.ListN.{length, get_or, get_or-eq_default}
use lib.Dec.{ltb}
use Rattle.model.specs.Tables.{Tables, with_hand}
use Rattle.model.specs.Tables.{Handle as Held}
use Rattle.tables.specs.declared.Subject.{Subject}
use Rattle.tables.specs.declared.Object.{Object}
use Rattle.tables.specs.declared.Handle.{Handle}
use Rattle.tables.specs.Records.{held, no_handle, hands, tables_of}

pub closed_tables : (rest : Tables) (ss : List Subject) (os : List Object) (hs r : List Handle) (gone : List Bool) → length hs ≡ 512 → length r ≡ 512
    → ((j : ℕ) → j < 512 → get_or r j no_handle ≡ cond (get_or gone (j / 16) false) no_handle (get_or hs j no_handle))
    → tables_of rest ss os r ≡ with_hand (tables_of rest ss os hs) (λ s p. cond (get_or gone s false) none (hands hs s p))
unfolding tables_of
closed_tables rest ss os hs r gone lh lr m = ap (with_hand (tables_of rest ss os hs)) (fun_ext (λ s. fun_ext (λ p. at s p (ltb p 16) refl)))
  where
    emptied : (b : Bool) (h : Handle) → held (cond b no_handle h) ≡ cond b none (held h)
    emptied true h = refl
    emptied false h = refl

    none_either : (b : Bool) → ◌≡◌ {A = Option Held} none (cond b none none)
    none_either true = refl
    none_either false = refl

    inside : (s p : ℕ) → p < 16 → Dec (s * 16 + p < 512) → held (get_or r (s * 16 + p) no_handle) ≡ cond (get_or gone s false) none (held (get_or hs (s * 16 + p) no_handle))
    inside s p l (yes h) = let q : (s * 16 + p) / 16 ≡ s = omega arith in
        ap held (m (s * 16 + p) (omega arith)) ∙ ap (λ (z : ℕ). held (cond (get_or gone z false) no_handle (get_or hs (s * 16 + p) no_handle))) q
        ∙ emptied (get_or gone s false) (get_or hs (s * 16 + p) no_handle)
    inside s p l (no h) = rw (get_or-eq_default r no_handle {n = s * 16 + p} (omega arith), get_or-eq_default hs no_handle {n = s * 16 + p} (omega arith))
        (none_either (get_or gone s false))

    at : (s p : ℕ) (b : Bool) → ltb p 16 ≡ b → cond b (held (get_or r (s * 16 + p) no_handle)) none ≡ cond (get_or gone s false) none (cond b (held (get_or hs (s * 16 + p) no_handle)) none)
    at s p true e = inside s p (ltb-true p 16 e) (dec_lt (s * 16 + p) 512)
    at s p false e = none_either (get_or gone s false)
