-- Laws of writing over the front of a buffer. In order: the part of a slice from an offset, and the whole once a lent part
-- is back; what is written where it fits and where it does not; a number that was written is read back. Assumes nothing.
use Rattle.std.specs.Prelude.{◌≡◌, ℕ, ◌-◌, ◌≤◌, ◌<◌, Bool, Some, None, List, ◌++◌, take}
use Rattle.std.proofs.Math.Path.{refl}
use Rattle.std.proofs.Common.{sym, ap, ◌∙◌, arith, append-nil, length-take, take_all, drop_at}
use Rattle.std.proofs.Math.Bool.{true, false, cond}
use Rattle.std.proofs.Math.Dec.{leb}
use Rattle.std.proofs.Math.ListN.{length, drop, length-drop, length-append}
use Rattle.std.proofs.Math.Seq.{drop-length}
use borrow.Author.Tests.{leb-true, leb-false, le-leb, lt-leb}
use borrow.Rule.Slice.PartMut.{put_mid, Post-is}
use Rattle.number.specs.Leb.{encode, good, number}
use Rattle.number.specs.Leb.Laws.{clash, number_encode}
use Rattle.number.specs.Put.{put, fitted}

-- ---- a part `&b[at..]`, and the whole once it is back

pub rest_is : (at : ℕ) (b : List ℕ) → take (length b - at) (drop at b) ≡ drop at b
rest_is at b = take_all (length b - at) (drop at b) (omega (arith, length-drop at b))

pub back : (at : ℕ) (b ys : List ℕ) → at ≤ length b → put_mid at (length b - at) b ys ≡ take at b ++ ys
back at b ys h =
    ap (λ (p : List ℕ). take at b ++ (ys ++ p)) (Post-is at (length b) b h ∙ drop-length b)
    ∙ ap (λ (l : List ℕ). take at b ++ l) (append-nil ys)

-- ---- put and fitted

module _ (e b : List ℕ) where
  pub put_fits : length e ≤ length b → put e b ≡ e ++ drop (length e) b
  unfolding put
  put_fits h = simp (le-leb (length e) (length b) h)

  pub put_none : length b < length e → put e b ≡ b
  unfolding put
  put_none h = simp (lt-leb (length e) (length b) h)

  pub fitted_fits : length e ≤ length b → fitted e b ≡ Some (length e)
  unfolding fitted
  fitted_fits h = simp (le-leb (length e) (length b) h)

  pub fitted_none : length b < length e → fitted e b ≡ None
  unfolding fitted
  fitted_none h = simp (lt-leb (length e) (length b) h)

  -- and back
  pub fits : (k : ℕ) → fitted e b ≡ Some k → (k ≡ length e) × (length e ≤ length b)
  unfolding fitted
  fits k = by_test (leb (length e) (length b)) refl
    where
      by_test : (t : Bool) → leb (length e) (length b) ≡ t → cond t (Some (length e)) None ≡ Some k → (k ≡ length e) × (length e ≤ length b)
      by_test true q p = (cc, leb-true (length e) (length b) q)
      by_test false q p = clash (cc)

  pub fits_not : fitted e b ≡ None → length b < length e
  unfolding fitted
  fits_not = by_test (leb (length e) (length b)) refl
    where
      by_test : (t : Bool) → leb (length e) (length b) ≡ t → cond t (Some (length e)) None ≡ None → length b < length e
      by_test true q p = clash (cc)
      by_test false q p = leb-false (length e) (length b) q

  pub length_put : length (put e b) ≡ length b
  unfolding put
  length_put = by_test (leb (length e) (length b)) refl
    where
      by_test : (t : Bool) → leb (length e) (length b) ≡ t → length (cond t (e ++ drop (length e) b) b) ≡ length b
      by_test true q = omega (arith, length-append e (drop (length e) b), length-drop (length e) b, leb-true (length e) (length b) q)
      by_test false q = refl

-- what was written lies inside, and `&out[..k]` has its bytes
pub put_within : (e b out : List ℕ) (k : ℕ) → Some k ≡ fitted e b → out ≡ put e b → k ≤ length out
put_within e b out k q w = let (count, room) = fits e b k (sym q) in omega (arith, ap length w, length_put e b)

pub prefix_size : (k : ℕ) (l : List ℕ) → k ≤ length l → k ≡ length (take k l)
prefix_size k l h = omega (arith, length-take k l)

-- ---- a number in a buffer

-- a number that was written is read back, and what follows it is untouched
pub number_put : (most n : ℕ) (b : List ℕ) (k : ℕ) → n ≤ most → fitted (encode n) b ≡ Some k
    → (number most (put (encode n) b) ≡ good n k) × (drop k (put (encode n) b) ≡ drop k b)
number_put most n b k h q =
    let (count, room) = fits (encode n) b k q in
    let written = put_fits (encode n) b room in (
      ap (number most) written ∙ number_encode most n (drop (length (encode n)) b) h ∙ ap (good n) (sym count),
      ap (drop k) written ∙ drop_at (encode n) (drop (length (encode n)) b) k (sym count) ∙ ap (λ (j : ℕ). drop j b) (sym count),
    )
