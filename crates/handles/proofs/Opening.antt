-- Open handles: what a scan of the handle records finds is what the rules ask. Assumes nothing.
use mathlib.Core.Path.{◌≡◌, refl, sym, ◌∙◌, ap, subst}
use mathlib.Core.Bool.{Bool, true, false, cond}
use mathlib.Core.Option.{none, some, none-ne-some, some-injective}
use mathlib.Core.List.{List}
use Prim.Native.Nat.{ℕ, ◌+◌, ◌*◌, ◌/◌, ◌%◌, ◌<◌}
use native.Mathlib.Omega.{arith}
use borrow.Author.Tests.{lt-ltb, eq-eqb}
use lib.ListN.{length, get_or}
use lib.Dec.{T, eqb, eqb→eq}
use Rattle.std.specs.List.{list_any}
use Rattle.std.proofs.lemmas.List.{get_or_default}
use Rattle.std.proofs.lemmas.List.Folds.{list_any_at, Any-from_list_any}
use Rattle.model.specs.Bools.{is_true}
use Rattle.model.specs.Tables.{empty, with_hand, handles, open_on}
use Rattle.model.specs.Tables.{Handle as Held}
use Rattle.model.proofs.Tables.Laws.{open_here, open_at}
use Rattle.tables.specs.declared.Handle.{Handle}
use Rattle.tables.specs.Records.{joins, held, no_handle, hands}
use Rattle.handles.specs.Working.{on, open_by}
use Rattle.tables.proofs.Below.{some_at, none_below, some_of_below, below_some, same_test}

module _ (hs : List Handle) (o : ℕ) where
  on_held : (h : Handle) → T (on h o) → (k : Held) × (held h ≡ some k) × (k.to ≡ o)
  on_held h t = go (eqb h.way 0) t
    where
      go : (b : Bool) → T (cond b false (eqb h.object o)) → (k : Held) × (cond b none (some (joins h)) ≡ some k) × (k.to ≡ o)
      go true t = absurd t
      go false t = (_, refl, eqb→eq h.object o t)

  held_on : (h : Handle) (k : Held) → held h ≡ some k → k.to ≡ o → T (on h o)
  held_on h k e z = go (eqb h.way 0) e
    where
      go : (b : Bool) → cond b none (some (joins h)) ≡ some k → T (cond b false (eqb h.object o))
      go true q = absurd (none-ne-some k q)
      go false q = subst T (sym (eq-eqb h.object o (ap (λ (w : Held). w.to) (some-injective _ k q) ∙ z))) tt

  pub open_is : open_by hs 512 o ≡ open_on (handles (with_hand empty (hands hs))) o
  open_is = same_test _ _ (λ t. there (some_of_below 512 (λ i. on (get_or hs i no_handle) o) t))
      (λ t. back (open_at (with_hand empty (hands hs)) o t))
    where
      there : (i : ℕ) × (i < 512) × T (on (get_or hs i no_handle) o) → T (open_on (handles (with_hand empty (hands hs))) o)
      there r = let i = r.0 in let k = on_held (get_or hs i no_handle) r.2 in let d : i / 16 * 16 + i % 16 ≡ i = omega arith in
          subst (λ (z : ℕ). T (open_on (handles (with_hand empty (hands hs))) z)) k.2
          (open_here (with_hand empty (hands hs)) (i / 16) (i % 16) k.0 (omega (arith, r.1)) (omega arith)
          (rw (lt-ltb (i % 16) 16 (omega arith), d) k.1))

      back : (s : ℕ) × (p : ℕ) × (k : Held) × (s < 32) × (p < 16) × (hands hs s p ≡ some k) × (k.to ≡ o) → T (open_by hs 512 o)
      back r = below_some 512 (λ i. on (get_or hs i no_handle) o) (r.0 * 16 + r.1) (omega (arith, r.3, r.4))
          (held_on (get_or hs (r.0 * 16 + r.1) no_handle) r.2 (rw (lt-ltb r.1 16 r.4) at r.5) r.6)

  -- a record on o is found ..
  pub found : (i : ℕ) → i < 512 → on (get_or hs i no_handle) o ≡ true → true ≡ open_on (handles (with_hand empty (hands hs))) o
  found i l e = sym (some_at 512 (λ j. on (get_or hs j no_handle) o) i l e) ∙ open_is

  -- .. or there is none
  pub none_found : ((i : ℕ) → i < 512 → on (get_or hs i no_handle) o ≡ false) → false ≡ open_on (handles (with_hand empty (hands hs))) o
  none_found h = sym (none_below 512 (λ j. on (get_or hs j no_handle) o) h) ∙ open_is

  -- one of the records is on o, or none is
  pub any_open : length hs ≡ 512 → list_any (λ h. on h o) hs ≡ open_on (handles (with_hand empty (hands hs))) o
  any_open l = same_test _ _ there back ∙ open_is
    where
      there : T (list_any (λ h. on h o) hs) → T (open_by hs 512 o)
      there t = let (i, h, b, e, q) = Any-from_list_any (λ h. on h o) hs (is_true (list_any (λ h. on h o) hs) t) in
          below_some 512 (λ j. on (get_or hs j no_handle) o) i (omega arith)
          (subst (λ (x : Handle). T (on x o)) (sym e ∙ get_or_default hs i h no_handle b) (subst T (sym q) tt))

      back : T (open_by hs 512 o) → T (list_any (λ h. on h o) hs)
      back t = let (i, b, q) = some_of_below 512 (λ j. on (get_or hs j no_handle) o) t in
          subst T (sym (list_any_at (λ h. on h o) hs i no_handle (omega arith) (is_true (on (get_or hs i no_handle) o) q))) tt
