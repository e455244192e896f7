-- The row of one subject: sixteen places without those that an exec drops, and sixteen stored that are a row of the tables; and two of its places
-- stored as the ends of pipes. Assumes nothing.
use mathlib.Core.Path.{◌≡◌, refl, sym, ◌∙◌, ap, ap₂, fun_ext}
use mathlib.Core.Bool.{Bool, true, false, not, ◌||◌, cond}
use mathlib.Core.Option.{Option, none, some}
use mathlib.Core.Logic.{◌⊎◌, inl, inr}
use mathlib.Core.List.{List}
use Prim.Native.Nat.{ℕ, ◌+◌, ◌*◌, ◌%◌, ◌≤◌, ◌<◌}
use native.Mathlib.Omega.{arith}
use native.Mathlib.Decide.{ℕ_discrete, dec_lt}
use borrow.Author.Tests.{eq-eqb, ne_eqb, ltb-true}
use lib.ListN.{length, get_or, set, length-set, replicate, get_or-replicate}
use lib.Dec.{ltb, eqb}
use Rattle.model.specs.Tables.{reading, writing, handle, Tables, with_hand}
use Rattle.model.specs.Tables.{Handle as Held}
use Rattle.model.specs.Steps.{row, place}
use Rattle.tables.specs.declared.Subject.{Subject}
use Rattle.tables.specs.declared.Object.{Object}
use Rattle.tables.specs.declared.Handle.{Handle}
use Rattle.model.specs.Calls.{lasting}
use Rattle.tables.specs.Records.{joins, held, no_handle, hands, along, tables_of}
use Rattle.tables.specs.Working.{joining}
use Rattle.handles.specs.Working.{lasting_of}
use Rattle.tables.specs.Records.Laws.{store_handle}

-- ── without those that an exec drops ──
lasting_held : (h : Handle) → held (lasting_of h) ≡ lasting (held h)
lasting_held h = go (eqb h.mark 0) (eqb h.way 3) ∙ sym (dropped (eqb h.way 0))
  where
    -- the handle, or none where it is dropped
    dropped : (z : Bool) → lasting (cond z none (some (joins h))) ≡ cond (not (eqb h.mark 0) || eqb h.way 3) none (cond z none (some (joins h)))
    dropped false = refl
    dropped true = either (not (eqb h.mark 0) || eqb h.way 3)
      where
        either : (b : Bool) → ◌≡◌ {A = Option Held} none (cond b none none)
        either true = refl
        either false = refl

    go : (a d : Bool) → held (cond a (cond d no_handle h) no_handle) ≡ cond (not a || d) none (held h)
    go true true = refl
    go true false = refl
    go false d = refl

pub lasting_along : (l r : List Handle) → ((p : ℕ) → p < 16 → get_or r p no_handle ≡ lasting_of (get_or l p no_handle)) → (p : ℕ) → along r p ≡ lasting (along l p)
lasting_along l r m p = go (ltb p 16) refl
  where
    go : (b : Bool) → ltb p 16 ≡ b → along r p ≡ lasting (along l p)
    go true e = rw (e, m p (ltb-true p 16 e)) (lasting_held (get_or l p no_handle))
    go false e = rw e

-- ── storing ──
module _ (hs r places : List Handle) (c : ℕ) (inside : (q : ℕ) → q < 16 → get_or r (c * 16 + q) no_handle ≡ get_or places q no_handle)
    (outside : (j : ℕ) → (j < c * 16) ⊎ (c * 16 + 16 ≤ j) → get_or r j no_handle ≡ get_or hs j no_handle) where
  row_at : (s q : ℕ) (b : Bool) → ltb q 16 ≡ b → Dec (c ≡ s) → hands r s q ≡ row (hands hs) c (along places) s q
  row_at s q true e (yes z) = rw (← z, eq-eqb c c refl, e, inside q (ltb-true q 16 e))
  row_at s q true e (no nz) = rw (ne_eqb c s nz, e, outside (s * 16 + q) (apart (ltb-true q 16 e)))
    where
      apart : q < 16 → (s * 16 + q < c * 16) ⊎ (c * 16 + 16 ≤ s * 16 + q)
      apart l = elim (dec_lt s c) [ yes h ↦ inl (omega arith) | no h ↦ inr (omega arith) ]
  row_at s q false e (yes z) = rw (← z, eq-eqb c c refl, e)
  row_at s q false e (no nz) = rw (ne_eqb c s nz, e)

  pub rowed_tables : (rest : Tables) (ss : List Subject) (os : List Object) → tables_of rest ss os r ≡ with_hand (tables_of rest ss os hs) (row (hands hs) c (along places))
  unfolding tables_of
  rowed_tables rest ss os = ap (with_hand (tables_of rest ss os hs)) (fun_ext (λ s. fun_ext (λ q. row_at s q (ltb q 16) refl (ℕ_discrete c s))))

-- ── the ends of pipes ──
pub ends_tables : (rest : Tables) (ss : List Subject) (os : List Object) (hs : List Handle) (s p q from to : ℕ) → length hs ≡ 512
    → tables_of rest ss os (set (set hs (s % 32 * 16 + p % 16) (joining 1 from)) (s % 32 * 16 + q % 16) (joining 2 to))
    ≡ with_hand (tables_of rest ss os hs) (place (place (hands hs) (s % 32) (p % 16) (some (handle reading (from % 64)))) (s % 32) (q % 16)
    (some (handle writing (to % 64))))
unfolding tables_of
ends_tables rest ss os hs s p q from to l =
    let i : s % 32 % 32 * 16 + p % 16 % 16 ≡ s % 32 * 16 + p % 16 = omega arith in
    let j : s % 32 % 32 * 16 + q % 16 % 16 ≡ s % 32 * 16 + q % 16 = omega arith in
    ap₂ (λ (a b : ℕ). tables_of rest ss os (set (set hs a (joining 1 from)) b (joining 2 to))) (sym i) (sym j)
    ∙ store_handle rest ss os (set hs (s % 32 % 32 * 16 + p % 16 % 16) (joining 1 from)) (s % 32) (q % 16) (joining 2 to) (simp length-set l)
    (omega arith) (omega arith)
    ∙ ap (λ (u : Tables). with_hand u (place u.hand (s % 32) (q % 16) (some (handle writing (to % 64)))))
    (store_handle rest ss os hs (s % 32) (p % 16) (joining 1 from) l (omega arith) (omega arith))

-- ── a row of places ──
-- the row that is stored, place by place
pub rowed_as : (rest : Tables) (ss : List Subject) (os : List Object) (hs after : List Handle) (s : ℕ) (places : List Handle) (f : ℕ → Option Held)
    → ((p : ℕ) → along places p ≡ f p) → tables_of rest ss os after ≡ with_hand (tables_of rest ss os hs) (row (hands hs) s (along places))
    → tables_of rest ss os after ≡ with_hand (tables_of rest ss os hs) (row (hands hs) s f)
rowed_as rest ss os hs after s places f q e = e ∙ ap (λ (g : ℕ → Option Held). with_hand (tables_of rest ss os hs) (row (hands hs) s g)) (fun_ext q)

-- a row of empty places
pub no_places : (p : ℕ) → along (replicate 16 no_handle) p ≡ none
no_places p = go (ltb p 16) refl
  where
    go : (b : Bool) → ltb p 16 ≡ b → ◌≡◌ {A = Option Held} (cond b (held (get_or (replicate 16 no_handle) p no_handle)) none) none
    go true q = ap held (get_or-replicate 16 p no_handle no_handle (ltb-true p 16 q))
    go false q = refl
