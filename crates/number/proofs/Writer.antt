-- What each way through the number writer answers and leaves in the buffer: no room at all; one byte; a first group before
-- what the call of itself wrote to the rest. Assumes nothing.
use mathlib.Core.Path.{◌≡◌, refl, sym, ap, ◌∙◌}
use Prim.Native.Nat.{ℕ, suc, ◌+◌, ◌-◌, ◌≤◌, ◌<◌}
use native.Mathlib.Omega.{arith}
use native.Mathlib.Numerals.{add-one}
use Rattle.std.specs.Prelude.{Some, None}
use mathlib.Core.List.{List, [], ◌∷◌, ◌++◌}
use lib.ListN.{length, take, drop, set, length-drop, take-append-drop}
use borrow.Rule.Slice.PartMut.{put_mid, same_len_mid}
use Rattle.number.specs.Put.{put, fitted}
use Rattle.number.specs.Put.Laws.{rest_is, back, put_fits, put_none, fitted_fits, fitted_none, fits, fits_not, length_put}

pub no_room : (e b : List ℕ) → length b < length e → (None ≡ fitted e b) × (b ≡ put e b)
no_room e b h = (sym (fitted_none e b h), sym (put_none e b h))

set_front : (x : ℕ) (b : List ℕ) → 0 < length b → set b 0 x ≡ x ∷ drop 1 b
set_front x [] h = absurd (omega arith)
set_front x (y ∷ b) h = refl

pub one_byte : (x : ℕ) (b : List ℕ) → 0 < length b → (Some 1 ≡ fitted (x ∷ []) b) × (set b 0 x ≡ put (x ∷ []) b)
one_byte x b h = (sym (fitted_fits (x ∷ []) b h), set_front x b h ∙ sym (put_fits (x ∷ []) b h))

-- e was to be written to the rest of b, which was lent and is now ys
pub record Lent (e b ys : List ℕ) : Type 0 where
  pub full : 0 < length b
  pub wrote : ys ≡ put e (take (length b - 1) (drop 1 b))

-- ---- the whole buffer again, and then a group g before what was written

module _ {e b ys : List ℕ} (lent : Lent e b ys) where
  pub lent_length : length (put_mid 1 (length b - 1) b ys) ≡ length b
  lent_length = same_len_mid 1 (length b - 1) b ys (ap length lent.wrote ∙ length_put e (take (length b - 1) (drop 1 b)))

  returned : put_mid 1 (length b - 1) b ys ≡ take 1 b ++ put e (drop 1 b)
  returned = back 1 b ys lent.full ∙ ap (λ (t : List ℕ). take 1 b ++ t) (lent.wrote ∙ ap (put e) (rest_is 1 b))

  pub lent_none : None ≡ fitted e (take (length b - 1) (drop 1 b)) → (g : ℕ)
      → (None ≡ fitted (g ∷ e) b) × (put_mid 1 (length b - 1) b ys ≡ put (g ∷ e) b)
  lent_none q g =
      let short = fits_not e (drop 1 b) (ap (fitted e) (sym (rest_is 1 b)) ∙ sym q) in
      let (answer, same) = no_room (g ∷ e) b (omega (arith, short, length-drop 1 b)) in
      (answer, returned ∙ ap (λ (t : List ℕ). take 1 b ++ t) (put_none e (drop 1 b) short) ∙ take-append-drop 1 b ∙ same)

  module _ (k : ℕ) (q : Some k ≡ fitted e (take (length b - 1) (drop 1 b))) where
    room : (k ≡ length e) × (length e ≤ length (drop 1 b))
    room = fits e (drop 1 b) k (ap (fitted e) (sym (rest_is 1 b)) ∙ sym q)

    pub lent_fits : k < length b
    lent_fits = omega (arith, room, length-drop 1 b, lent.full)

    pub lent_wrote : (g : ℕ) → (Some (k + 1) ≡ fitted (g ∷ e) b) × (set (put_mid 1 (length b - 1) b ys) 0 g ≡ put (g ∷ e) b)
    lent_wrote g =
        let all : length (g ∷ e) ≤ length b = omega (arith, room, length-drop 1 b, lent.full) in (
          ap Some (add-one k ∙ ap suc room.0) ∙ sym (fitted_fits (g ∷ e) b all),
          ap (λ (t : List ℕ). set t 0 g) (returned ∙ ap (λ (t : List ℕ). take 1 b ++ t) (put_fits e (drop 1 b) room.1))
              ∙ front b lent.full ∙ sym (put_fits (g ∷ e) b all),
        )
      where
        front : (b : List ℕ) → 0 < length b → set (take 1 b ++ (e ++ drop (length e) (drop 1 b))) 0 g ≡ g ∷ e ++ drop (length (g ∷ e)) b
        front [] h = absurd (omega arith)
        front (y ∷ b) h = refl
