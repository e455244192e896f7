-- What the writers of lines answer and leave in the buffer. Each line has four parts. In order: that they fit; the
-- buffer once a part of it is back; a line that does not fit, and one that does. Assumes nothing.
use mathlib.Core.Path.{◌≡◌, sym, ap, ◌∙◌}
use Prim.Native.Nat.{ℕ, ◌+◌, ◌-◌, ◌≤◌, ◌<◌}
use native.Mathlib.Omega.{arith}
use mathlib.Core.List.{List, ◌++◌}
use Rattle.std.specs.Prelude.{Some, None}
use lib.ListN.{length, take, drop, length-append, length-drop}
use borrow.Rule.Slice.PartMut.{put_mid}
use Rattle.number.specs.Put.{put, fitted}
use Rattle.number.specs.Put.Laws.{put_fits, put_none, fitted_fits, fitted_none}
use Rattle.text.specs.Parts.{Over}
use Rattle.text.specs.Parts.Laws.{put_over, over_count, over_put, part_after}

-- ---- four parts that fit into b

pub record Fit (d e f g b : List ℕ) : Type 0 where
  pub one : length d ≤ length b
  pub two : length (d ++ e) ≤ length b
  pub three : length (d ++ e ++ f) ≤ length b
  pub four : length (d ++ e ++ f ++ g) ≤ length b

pub fit : (d e f g b : List ℕ) → length (d ++ e ++ f ++ g) ≤ length b → Fit d e f g b
fit d e f g b all =
    let three : length (d ++ e ++ f) ≤ length b = omega (arith, length-append (d ++ e ++ f) g) in
    let two : length (d ++ e) ≤ length b = omega (arith, length-append (d ++ e) f) in
    record { one = omega (arith, length-append d e); two = two; three = three; four = all }

-- ---- `out`, once its rest from `at` on, which was lent, is back as ys

abbrev pub joined : ℕ → List ℕ → List ℕ → List ℕ
joined at out ys = put_mid at (length out - at) out ys

-- what is lent of it
abbrev pub lent : ℕ → List ℕ → List ℕ
lent at out = take (length out - at) (drop at out)

-- what was copied over its front was put there
pub copied : (f r w : List ℕ) → w ≡ f ++ drop (length f) r → length w ≡ length r → w ≡ put f r
copied f r w wrote same =
    wrote ∙ sym (put_fits f r (omega (arith, ap length wrote, length-append f (drop (length f) r), length-drop (length f) r, same)))

-- ---- the four parts, of i, j, k and l bytes, put one after the other

pub four_written : {d e f g b : List ℕ} → Fit d e f g b → {i j k l : ℕ} {u v w x : List ℕ}
    → i ≡ length d → u ≡ put d b
    → j ≡ length e → v ≡ put e (lent i u)
    → k ≡ length f → w ≡ put f (lent (i + j) (joined i u v))
    → l ≡ length g → x ≡ put g (lent (i + j + k) (joined (i + j) (joined i u v) w))
    → Over b (d ++ e ++ f ++ g) (i + j + k + l) (joined (i + j + k) (joined (i + j) (joined i u v) w) x)
four_written {d} {e} {f} {g} {b} fits {i} {j} {k} {l} {u} {v} {w} {x} ci pu cj pv ck pw cl px =
    let first = put_over d b u i ci (omega (arith, ci, fits.one)) pu in
    let second = part_after first e v j cj fits.two pv in
    let third = part_after second f w k ck fits.three pw in
    part_after third g x l cl fits.four px

-- ---- a line e of at most `most` bytes

module _ (e b : List ℕ) (most : ℕ) (short : length e ≤ most) where
  pub no_room : length b < length e → (None ≡ fitted e b) × ((b ≡ put e b) × (length e ≤ most))
  no_room h = (sym (fitted_none e b h), (sym (put_none e b h), short))

  pub all_written : (at : ℕ) (out : List ℕ) → Over b e at out → (Some at ≡ fitted e b) × ((out ≡ put e b) × (length e ≤ most))
  all_written at out o =
      let count = over_count o in
      (ap Some count ∙ sym (fitted_fits e b (omega (arith, o.within))), (over_put o, short))
