-- What each way through the number reader answers. In order: nothing to read, and a last group; a first group before the
-- rest; two bytes; a limit that is asked about afterwards; the rest as the call of itself reads it, and what is made of that
-- call's answer. Assumes nothing.
use mathlib.Core.Path.{◌≡◌, refl, sym, ap, ◌∙◌}
use mathlib.Core.Logic.{⊎_elim}
use Prim.Native.Nat.{ℕ, zero, suc, ◌+◌, ◌-◌, ◌*◌, ◌/◌, ◌%◌, ◌≤◌, ◌<◌}
use native.Mathlib.Omega.{arith}
use native.Mathlib.Numerals.{add-one}
use mathlib.Core.Bool.{Bool, true, false, cond, ◌||◌}
use Rattle.std.specs.Prelude.{Option, Some, None}
use Rattle.std.specs.Option.{option_map}
use mathlib.Core.List.{List, [], ◌∷◌}
use lib.Dec.{ltb, leb-suc-suc}
use lib.ListN.{length, take, drop, get_or, length-take, length-drop}
use lib.Seq.{get_or-take, get_or-drop}
use borrow.Author.Tests.{lt-ltb, le-ltb}
use Rattle.std.proofs.lemmas.Option.{some_pair_parts}
use Rattle.number.specs.Leb.{largest, longest, encode, Reading, good, numeral, value, padded, judged, number}
use Rattle.number.specs.Leb.Laws.{split, clash, encode_one, encode_next, numeral_some, number_within, number_take}
use Rattle.number.specs.Put.Laws.{rest_is}

-- ---- nothing to read, and a last group

pub number_nil : (most : ℕ) (s : List ℕ) → length s ≡ 0 → number most s ≡ None
unfolding number numeral
number_nil most [] e = refl
number_nil most (b ∷ s) e = absurd (omega arith)

judged_one : (most b : ℕ) → b < 128 → judged most (Some (b ∷ [])) ≡ cond (ltb most b) None (good b 1)
unfolding value padded
judged_one most b l =
    let worth : b % 128 + 128 * 0 ≡ b = omega arith in
    rw worth (rw (encode_one b l) (by_test (ltb most b)))
  where
    by_test : (t : Bool) → cond (t || ltb 1 1) None (good b 1) ≡ cond t None (good b 1)
    by_test true = refl
    by_test false = refl

pub number_one : (most : ℕ) (s : List ℕ) → 0 < length s → get_or s 0 0 < 128 → get_or s 0 0 ≤ most
    → number most s ≡ good (get_or s 0 0) 1
unfolding number numeral
number_one most [] h l fits = absurd (omega arith)
number_one most (b ∷ s) h l fits = simp (lt-ltb b 128 l) (judged_one most b l ∙ simp (le-ltb most b fits))

-- ---- a first group g, then the rest

-- RULES J3: the first group and 128 times the value of the rest, which is not 0
abbrev joined : ℕ → Reading → Reading
joined g None = None
joined g (Some (zero, k)) = None
joined g (Some (suc v, k)) = good (g + 128 * suc v) (k + 1)

joined_zero : (g v k : ℕ) → v < 1 → joined g (good v k) ≡ None
joined_zero g zero k h = refl
joined_zero g (suc v) k h = absurd (omega arith)

joined_some : (g v k : ℕ) → 0 < v → joined g (good v k) ≡ good (g + 128 * v) (k + 1)
joined_some g zero k h = absurd (omega arith)
joined_some g (suc v) k h = refl

-- what is joined so is not 0
joined_worth : (g : ℕ) (r : Reading) (v k : ℕ) → joined g r ≡ good v k → 0 < v
joined_worth g None v k e = clash (cc)
joined_worth g (Some (zero, j)) v k e = clash (cc)
joined_worth g (Some (suc w, j)) v k e = omega (arith, (some_pair_parts (g + 128 * suc w) v (j + 1) k e).0)

-- what is left of a limit for the rest
over_rest : (most g v : ℕ) → g ≤ most → ltb most (g + 128 * v) ≡ ltb ((most - g) / 128) v
over_rest most g v h = ⊎_elim
    (λ l. lt-ltb most (g + 128 * v) (omega arith) ∙ sym (lt-ltb ((most - g) / 128) v l))
    (λ l. le-ltb most (g + 128 * v) (omega arith) ∙ sym (le-ltb ((most - g) / 128) v l))
    (split ((most - g) / 128) v)

-- the tests of a number pass where those of its rest do, and the rest is not 0
judged_more : (most g : ℕ) (bs : List ℕ) → g < 128 → g ≤ most → 0 < length bs
    → judged most (Some ((g + 128) ∷ bs)) ≡ joined g (judged ((most - g) / 128) (Some bs))
unfolding value padded
judged_more most g bs small fits full = rw worth (⊎_elim nothing something (split (value bs) 1))
  where
    worth : (g + 128) % 128 + 128 * value bs ≡ g + 128 * value bs
    worth = omega arith

    whole : ℕ → Reading
    whole n = cond (ltb most n || ltb (length (encode n)) (suc (length bs))) None (good n (suc (length bs)))

    rest : Reading
    rest = judged ((most - g) / 128) (Some bs)

    either : (over : Bool) (r : Reading) → cond (over || true) None r ≡ None
    either true r = refl
    either false r = refl

    zero_rest : (t : Bool) → value bs < 1 → None ≡ joined g (cond t None (good (value bs) (length bs)))
    zero_rest true z = refl
    zero_rest false z = sym (joined_zero g (value bs) (length bs) z)

    nothing : value bs < 1 → whole (g + 128 * value bs) ≡ joined g rest
    nothing z =
        let one = ap length (encode_one (g + 128 * value bs) (omega arith)) in
        rw one
        (simp (lt-ltb 1 (suc (length bs)) (omega arith))
        (either (ltb most (g + 128 * value bs)) (good (g + 128 * value bs) (suc (length bs)))
        ∙ zero_rest (ltb ((most - g) / 128) (value bs) || ltb (length (encode (value bs))) (length bs)) z))

    some_rest : (t : Bool) → 1 ≤ value bs
        → cond t None (good (g + 128 * value bs) (suc (length bs))) ≡ joined g (cond t None (good (value bs) (length bs)))
    some_rest true p = refl
    some_rest false p = ap (good (g + 128 * value bs)) (sym (add-one (length bs))) ∙ sym (joined_some g (value bs) (length bs) p)

    something : 1 ≤ value bs → whole (g + 128 * value bs) ≡ joined g rest
    something p =
        let next = ap length (encode_next g (value bs) small p) in
        rw next
        (rw (leb-suc-suc (suc (length (encode (value bs)))) (length bs))
        (rw (over_rest most g (value bs) fits)
        (some_rest (ltb ((most - g) / 128) (value bs) || ltb (length (encode (value bs))) (length bs)) p)))

number_more : (most : ℕ) (s : List ℕ) → 0 < length s → 128 ≤ get_or s 0 0 → get_or s 0 0 < 256 → get_or s 0 0 - 128 ≤ most
    → number most s ≡ joined (get_or s 0 0 - 128) (number ((most - (get_or s 0 0 - 128)) / 128) (drop 1 s))
unfolding number numeral
number_more most [] h l byte fits = absurd (omega arith)
number_more most (b ∷ s) h l byte fits = simp (le-ltb b 128 l) (by_numeral (numeral s) refl)
  where
    by_numeral : (o : Option (List ℕ)) → numeral s ≡ o
        → judged most (option_map (λ (t : List ℕ). b ∷ t) o) ≡ joined (b - 128) (judged ((most - (b - 128)) / 128) o)
    by_numeral None q = refl
    by_numeral (Some bs) q =
        ap (λ (x : ℕ). judged most (Some (x ∷ bs))) (omega arith) ∙ judged_more most (b - 128) bs (omega arith) fits (numeral_some s bs q)

-- ---- two bytes

pub number_cut : (most : ℕ) (s : List ℕ) → length s ≡ 1 → 128 ≤ get_or s 0 0 → number most s ≡ None
unfolding number numeral
number_cut most [] e l = absurd (omega arith)
number_cut most (b ∷ []) e l = simp (le-ltb b 128 l)
number_cut most (b ∷ d ∷ s) e l = absurd (omega arith)

-- the first of two bytes or more, which is not the last
pub record Begun (s : List ℕ) : Type 0 where
  pub full : 2 ≤ length s
  pub long : 128 ≤ get_or s 0 0
  pub byte : get_or s 0 0 < 256

-- its group, and what that leaves of the limit for the rest
abbrev pub group : List ℕ → ℕ
group s = get_or s 0 0 - 128

abbrev pub left : List ℕ → ℕ
left s = (largest - group s) / 128

second : (s : List ℕ) → get_or (drop 1 s) 0 0 ≡ get_or s 1 0
second s = get_or-drop 1 s 0 0

module _ {s : List ℕ} (b : Begun s) where
  begun_more : (r : Reading) → number (left s) (drop 1 s) ≡ r → number largest s ≡ joined (group s) r
  begun_more r e =
      number_more largest s (omega (arith, b.full)) b.long b.byte (omega (arith, b.byte)) ∙ ap (joined (group s)) e

  rest_one : get_or s 1 0 < 128 → number (left s) (drop 1 s) ≡ good (get_or s 1 0) 1
  rest_one last =
      number_one (left s) (drop 1 s) (omega (arith, b.full, length-drop 1 s)) (omega (arith, second s))
      (omega (arith, second s, b.byte))
      ∙ ap (λ (x : ℕ). good x 1) (second s)

  pub number_padded : get_or s 1 0 ≡ 0 → number largest s ≡ None
  number_padded z =
      begun_more (good (get_or s 1 0) 1) (rest_one (omega arith)) ∙ joined_zero (group s) (get_or s 1 0) 1 (omega arith)

  pub number_two : get_or s 1 0 < 128 → 0 < get_or s 1 0 → number largest s ≡ good (group s + 128 * get_or s 1 0) 2
  number_two last p = begun_more (good (get_or s 1 0) 1) (rest_one last) ∙ joined_some (group s) (get_or s 1 0) 1 p

-- ---- a limit that is asked about afterwards

-- what is read within a larger limit, held to a smaller one
abbrev held : ℕ → Reading → Reading
held less None = None
held less (Some (v, k)) = cond (ltb less v) None (good v k)

number_held : (less most : ℕ) (s : List ℕ) → less ≤ most → number less s ≡ held less (number most s)
unfolding number
number_held less most s h = by_numeral (numeral s)
  where
    by_tests : (bs : List ℕ) (long : Bool)
        → cond (ltb less (value bs) || long) None (good (value bs) (length bs))
        ≡ held less (cond (ltb most (value bs) || long) None (good (value bs) (length bs)))
    by_tests bs long = ⊎_elim
        (λ over. simp (lt-ltb most (value bs) over, lt-ltb less (value bs) (omega arith)))
        (λ fits. simp (le-ltb most (value bs) fits) (by_test long (ltb less (value bs)) refl))
        (split most (value bs))
      where
        by_test : (long over : Bool) → ltb less (value bs) ≡ over
            → cond (over || long) None (good (value bs) (length bs))
            ≡ held less (cond long None (good (value bs) (length bs)))
        by_test true true q = refl
        by_test true false q = refl
        by_test false true q = simp q
        by_test false false q = simp q

    by_numeral : (o : Option (List ℕ)) → judged less o ≡ held less (judged most o)
    by_numeral None = refl
    by_numeral (Some bs) = by_tests bs (padded bs)

-- ---- the rest, as the call of itself reads it

-- what the call is handed: the rest of the slice, up to the longest good number
abbrev pub rest : List ℕ → List ℕ
rest s = take (length (take longest s) - 1) (drop 1 s)

module _ {s : List ℕ} (b : Begun s) where
  -- no byte past it matters: what is left of the limit takes a byte less than the limit
  reached : number (left s) (rest s) ≡ number (left s) (drop 1 s)
  reached = ⊎_elim
      (λ more.
      let less : length (take longest s) - 1 ≡ longest - 1 = omega (arith, length-take longest s) in
      ap (λ (k : ℕ). number (left s) (take k (drop 1 s))) less ∙ number_take (left s) (longest - 1) (drop 1 s) (omega arith) (omega arith))
      (λ all.
      let whole : length (take longest s) - 1 ≡ length s - 1 = omega (arith, length-take longest s) in
      ap (λ (k : ℕ). number (left s) (take k (drop 1 s))) whole ∙ ap (number (left s)) (rest_is 1 s))
      (split longest (length s))

  rest_full : 0 < length (rest s)
  rest_full =
      omega (arith, b.full, length-take longest s, length-drop 1 s, length-take (length (take longest s) - 1) (drop 1 s))

  pub rest_shorter : length (rest s) < length s
  rest_shorter =
      omega (arith, b.full, length-take longest s, length-drop 1 s, length-take (length (take longest s) - 1) (drop 1 s))

  rest_front : get_or (rest s) 0 0 ≡ get_or s 1 0
  rest_front = get_or-take (length (take longest s) - 1) (drop 1 s) 0 0 (omega (arith, b.full, length-take longest s)) ∙ second s

  -- RULES J3, J5
  number_rest : (r : Reading) → r ≡ number largest (rest s) → joined (group s) (held (left s) r) ≡ number largest s
  number_rest r e =
      ap (λ (x : Reading). joined (group s) (held (left s) x)) e
      ∙ ap (joined (group s)) (sym (number_held (left s) largest (rest s) (omega arith)) ∙ reached)
      ∙ sym (begun_more b (number (left s) (drop 1 s)) refl)

  pub rest_malformed : None ≡ number largest (rest s) → None ≡ number largest s
  rest_malformed e = number_rest None e

  module _ (v u : ℕ) (e : good v u ≡ number largest (rest s)) where
    pub rest_over : left s < v → None ≡ number largest s
    rest_over over = simp (lt-ltb (left s) v over) at (number_rest (good v u) e)

    pub rest_used : u < length s
    rest_used = omega (arith, number_within largest (rest s) v u (sym e), rest_shorter)

    module _ (long : 128 ≤ get_or s 1 0) (byte : get_or s 1 0 < 256) where
      -- a number of two bytes or more is not 0
      rest_some : 0 < v
      rest_some =
          joined_worth (group (rest s)) (number (left (rest s)) (drop 1 (rest s))) v u
          (sym (number_more largest (rest s) rest_full (omega (arith, rest_front)) (omega (arith, rest_front)) (omega (arith, rest_front))) ∙ sym e)

      pub rest_good : v ≤ left s → good (group s + 128 * v) (u + 1) ≡ number largest s
      rest_good fits =
          sym (joined_some (group s) v u rest_some) ∙ (simp (le-ltb (left s) v fits) at (number_rest (good v u) e))
