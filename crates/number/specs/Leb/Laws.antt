-- Laws of the journal's numbers, over every limit. In order: the coding by its first group, and its length; the bytes of a
-- number at the front of others; a number that was written is read back, whatever follows it; what a good reading says; bytes
-- that read as a number are its one coding; no byte past the longest good number matters; the bounds of the format.
-- Assumes nothing.
use Rattle.std.specs.Prelude.{◌≡◌, refl, ◌⊎◌, ℕ, zero, suc, ◌+◌, ◌*◌, ◌/◌, ◌%◌, ◌^◌, ◌≤◌, ◌<◌, Bool, true, false, cond, ◌||◌, Option, Some, None, List, [], ◌∷◌, ◌++◌, leb, ltb, length, take, drop}
use Rattle.std.specs.Option.{option_map}
use Rattle.std.proofs.Common.{sym, ap, ◌∙◌, subst, inl, inr, ⊎_elim, arith, div-lt_iff_lt-mul, pow-suc, get_or-drop, ltb-true, ltb-false, leb-false, lt-ltb, le-ltb, le-leb}
use Rattle.std.proofs.Math.Dec.{leb-suc-suc}
use Rattle.std.proofs.lemmas.Bool.{lt-leb}
use Rattle.std.proofs.lemmas.Option.{some_pair_parts}
use Rattle.number.specs.Leb.{AtMost, AreBytes, largest, longest, groups, encode, good, numeral, value, padded, judged, number}

-- ---- two numbers, in order or not

pub split : (a b : ℕ) → (a < b) ⊎ (b ≤ a)
split a b = by_test (ltb a b) refl
  where
    by_test : (t : Bool) → ltb a b ≡ t → (a < b) ⊎ (b ≤ a)
    by_test true e = inl (ltb-true a b e)
    by_test false e = inr (ltb-false a b e)

-- what `cc` makes of two constructors that are said to be equal
pub clash : {A : Type 0} → ◌≡◌ {A = ℕ} 0 1 → A
clash e = absurd (omega arith)

-- ---- lists of numbers of at most m

pub at_most_take : (m k : ℕ) (ns : List ℕ) → AtMost m ns → AtMost m (take k ns)
at_most_take m zero ns are i = omega arith
at_most_take m (suc k) [] are i = omega arith
at_most_take m (suc k) (n ∷ ns) are zero = are 0
at_most_take m (suc k) (n ∷ ns) are (suc i) = at_most_take m k ns (λ j. are (suc j)) i

pub at_most_drop : (m k : ℕ) (ns : List ℕ) → AtMost m ns → AtMost m (drop k ns)
at_most_drop m k ns are i = rw (get_or-drop k ns i 0) (are (k + i))

-- ---- the coding, by its first group

-- any fuel that is at least the number gives the same
groups_fuel : (f g n : ℕ) → n ≤ f → n ≤ g → groups f n ≡ groups g n
unfolding groups
groups_fuel zero zero n h k = refl
groups_fuel zero (suc g) n h k = simp (lt-ltb n 128 (omega arith))
groups_fuel (suc f) zero n h k = simp (lt-ltb n 128 (omega arith))
groups_fuel (suc f) (suc g) n h k = ⊎_elim
    (λ l. simp (lt-ltb n 128 l))
    (λ l. simp (le-ltb n 128 l) (ap (λ (t : List ℕ). (n % 128 + 128) ∷ t) (groups_fuel f g (n / 128) (omega arith) (omega arith))))
    (split n 128)

pub encode_one : (n : ℕ) → n < 128 → encode n ≡ n ∷ []
unfolding encode groups
encode_one zero h = refl
encode_one (suc n) h = simp (lt-ltb (suc n) 128 h)

pub encode_more : (n : ℕ) → 128 ≤ n → encode n ≡ (n % 128 + 128) ∷ encode (n / 128)
unfolding encode groups
encode_more zero h = absurd (omega arith)
encode_more (suc n) h =
    simp (le-ltb (suc n) 128 h)
    (ap (λ (t : List ℕ). (suc n % 128 + 128) ∷ t) (groups_fuel n (suc n / 128) (suc n / 128) (omega arith) (omega arith)))

-- induction on a number's groups
by_groups : (P : ℕ → Type 0) → ((n : ℕ) → n < 128 → P n) → ((n : ℕ) → 128 ≤ n → P (n / 128) → P n) → (n : ℕ) → P n
by_groups P last more n = go n n (omega arith)
  where
    go : (fuel m : ℕ) → m ≤ fuel → P m
    go zero m h = last m (omega arith)
    go (suc fuel) m h = ⊎_elim (λ l. last m l) (λ l. more m l (go fuel (m / 128) (omega arith))) (split m 128)

pub encode_some : (n : ℕ) → 0 < length (encode n)
encode_some = by_groups (λ n. 0 < length (encode n)) (λ n l. rw (encode_one n l) (omega arith)) (λ n l e. rw (encode_more n l) (omega arith))

-- k groups are enough for a number below 128 to the power k
pub encode_length : (k n : ℕ) → 0 < k → n < 128 ^ k → length (encode n) ≤ k
encode_length zero n p h = absurd (omega arith)
encode_length (suc zero) n p h = rw (encode_one n h) (omega arith)
encode_length (suc (suc k)) n p h = ⊎_elim
    (λ l. rw (encode_one n l) (omega arith))
    (λ l. rw (encode_more n l)
    (let rest = encode_length (suc k) (n / 128) (omega arith) ((div-lt_iff_lt-mul (omega arith)).1 (rw (← pow-suc 128 (suc k)) h)) in omega arith))
    (split n 128)

-- a group before a number that is not 0
pub encode_next : (g v : ℕ) → g < 128 → 0 < v → encode (g + 128 * v) ≡ (g + 128) ∷ encode v
encode_next g v h p =
    encode_more (g + 128 * v) (omega arith)
    ∙ ap (λ (x : ℕ). (x + 128) ∷ encode ((g + 128 * v) / 128)) (omega arith)
    ∙ ap (λ (x : ℕ). (g + 128) ∷ encode x) (omega arith)

-- ---- the bytes of a number at the front of others

-- bs are the bytes of the number at the front of s
data Front : List ℕ → List ℕ → Type 0 where
  last : {b : ℕ} {s : List ℕ} → b < 128 → Front (b ∷ s) (b ∷ [])
  more : {b : ℕ} {s bs : List ℕ} → 128 ≤ b → Front s bs → Front (b ∷ s) (b ∷ bs)

numeral_front : (s bs : List ℕ) → numeral s ≡ Some bs → Front s bs
unfolding numeral
numeral_front [] bs e = clash (cc)
numeral_front (b ∷ s) bs e = by_test (λ ns q. numeral_front s ns q) (ltb b 128) refl e
  where
    by_rest : ((ns : List ℕ) → numeral s ≡ Some ns → Front s ns) → 128 ≤ b → (o : Option (List ℕ)) → numeral s ≡ o
        → option_map (λ (t : List ℕ). b ∷ t) o ≡ Some bs → Front (b ∷ s) bs
    by_rest ih l None q e = clash (cc)
    by_rest ih l (Some ns) q e = let p : b ∷ ns ≡ bs = cc in subst (Front (b ∷ s)) p (more l (ih ns q))

    by_test : ((ns : List ℕ) → numeral s ≡ Some ns → Front s ns) → (t : Bool) → ltb b 128 ≡ t
        → cond t (Some (b ∷ [])) (option_map (λ (t : List ℕ). b ∷ t) (numeral s)) ≡ Some bs → Front (b ∷ s) bs
    by_test ih true q e = let p : b ∷ [] ≡ bs = cc in subst (Front (b ∷ s)) p (last (ltb-true b 128 q))
    by_test ih false q e = by_rest ih (ltb-false b 128 q) (numeral s) refl e

front_some : {s bs : List ℕ} → Front s bs → 0 < length bs
front_some (last l) = omega arith
front_some (more l f) = omega arith

pub numeral_some : (s bs : List ℕ) → numeral s ≡ Some bs → 0 < length bs
numeral_some s bs e = front_some (numeral_front s bs e)

front_take : {s bs : List ℕ} → Front s bs → take (length bs) s ≡ bs
front_take (last l) = refl
front_take (more {b} l f) = ap (λ (t : List ℕ). b ∷ t) (front_take f)

front_within : {s bs : List ℕ} → Front s bs → length bs ≤ length s
front_within (last l) = omega arith
front_within (more l f) = let rest = front_within f in omega arith

-- ---- a number that was written is read back

value_encode : (n : ℕ) → value (encode n) ≡ n
unfolding value
value_encode = by_groups (λ n. value (encode n) ≡ n)
    (λ n l. rw (encode_one n l) (omega arith))
    (λ n l e. rw (encode_more n l) (omega (arith, e)))

numeral_encode : (rest : List ℕ) (n : ℕ) → numeral (encode n ++ rest) ≡ Some (encode n)
unfolding numeral
numeral_encode rest = by_groups (λ n. numeral (encode n ++ rest) ≡ Some (encode n))
    (λ n l. rw (encode_one n l) (simp (lt-ltb n 128 l)))
    (λ n l e. rw (encode_more n l)
    (simp (le-ltb (n % 128 + 128) 128 (omega arith)) (ap (option_map (λ (t : List ℕ). (n % 128 + 128) ∷ t)) e)))

pub number_encode : (most n : ℕ) (rest : List ℕ) → n ≤ most → number most (encode n ++ rest) ≡ good n (length (encode n))
unfolding number padded
number_encode most n rest h =
    rw (numeral_encode rest n)
    (rw (value_encode n)
    (simp (le-ltb most n h, le-ltb (length (encode n)) (length (encode n)) (omega arith))))

-- ---- what a good reading says

-- the number's bytes bs at the front of s, and that they pass
pub record IsGood (most : ℕ) (s : List ℕ) (n k : ℕ) (bs : List ℕ) : Type 0 where
  pub front : numeral s ≡ Some bs
  pub worth : value bs ≡ n
  pub bytes : length bs ≡ k
  pub fits : n ≤ most
  pub short : k ≤ length (encode n)

pub number_good : (most : ℕ) (s : List ℕ) (n k : ℕ) → number most s ≡ good n k → (bs : List ℕ) × IsGood most s n k bs
unfolding number padded
number_good most s n k = by_numeral (numeral s) refl
  where
    by_tests : (bs : List ℕ) → numeral s ≡ Some bs → (over long : Bool) → ltb most (value bs) ≡ over
        → ltb (length (encode (value bs))) (length bs) ≡ long
        → cond (over || long) None (good (value bs) (length bs)) ≡ good n k → (ns : List ℕ) × IsGood most s n k ns
    by_tests bs q true long o l e = clash (cc)
    by_tests bs q false true o l e = clash (cc)
    by_tests bs q false false o l e =
        let (v, u) = some_pair_parts (value bs) n (length bs) k (cc) in (
          bs,
          record {
            front = q;
            worth = v;
            bytes = u;
            fits = omega (arith, ltb-false most (value bs) o);
            short = omega (arith, ltb-false (length (encode (value bs))) (length bs) l, ap (λ (x : ℕ). length (encode x)) v);
          },
        )

    by_numeral : (o : Option (List ℕ)) → numeral s ≡ o → judged most o ≡ good n k → (ns : List ℕ) × IsGood most s n k ns
    by_numeral None q e = clash (cc)
    by_numeral (Some bs) q e = by_tests bs q (ltb most (value bs)) (ltb (length (encode (value bs))) (length bs)) refl refl e

-- ---- bytes that read as a number are its one coding

front_only : {s bs : List ℕ} → AreBytes s → Front s bs → length bs ≤ length (encode (value bs)) → bs ≡ encode (value bs)
unfolding value
front_only are (last {b} l) h = sym (encode_one b l) ∙ ap encode (omega arith)
front_only are (more {b} {s} {bs} l f) h = ⊎_elim nothing (something (λ g. front_only (λ i. are (suc i)) f g)) (split (value bs) 1)
  where
    nothing : value bs < 1 → b ∷ bs ≡ encode (b % 128 + 128 * value bs)
    nothing z = absurd (let short = ap length (encode_one (b % 128 + 128 * value bs) (omega arith)) in omega (arith, short, front_some f))

    something : (length bs ≤ length (encode (value bs)) → bs ≡ encode (value bs)) → 1 ≤ value bs → b ∷ bs ≡ encode (b % 128 + 128 * value bs)
    something ih p =
        let next = encode_next (b % 128) (value bs) (omega arith) p in
        let rest = ih (omega (arith, ap length next)) in
        ap (λ (t : List ℕ). b ∷ t) rest ∙ ap (λ (x : ℕ). x ∷ encode (value bs)) (omega (arith, are 0)) ∙ sym next

-- a good number takes a byte at least, and lies within the bytes read
pub number_within : (most : ℕ) (s : List ℕ) (n k : ℕ) → number most s ≡ good n k → (0 < k) × (k ≤ length s)
number_within most s n k e =
    let (bs, is) = number_good most s n k e in
    let f = numeral_front s bs is.front in
    (omega (arith, front_some f, is.bytes), omega (arith, front_within f, is.bytes))

pub number_only : (most : ℕ) (s : List ℕ) → AreBytes s → (n k : ℕ) → number most s ≡ good n k → take k s ≡ encode n
number_only most s are n k e =
    let (bs, is) = number_good most s n k e in
    let f = numeral_front s bs is.front in
    let short : length bs ≤ length (encode (value bs)) = omega (arith, is.short, is.bytes, ap (λ (x : ℕ). length (encode x)) is.worth) in
    ap (λ (j : ℕ). take j s) (sym is.bytes) ∙ front_take f ∙ front_only are f short ∙ ap encode is.worth

-- ---- no byte past the longest number matters

-- a number of more than k bytes is cut off in the first k
abbrev kept : ℕ → Option (List ℕ) → Option (List ℕ)
kept k None = None
kept k (Some bs) = cond (leb (length bs) k) (Some bs) None

kept_map : (k b : ℕ) (o : Option (List ℕ)) → option_map (λ (t : List ℕ). b ∷ t) (kept k o) ≡ kept (suc k) (option_map (λ (t : List ℕ). b ∷ t) o)
kept_map k b None = refl
kept_map k b (Some bs) = rw (leb-suc-suc (length bs) k) (by_test (leb (length bs) k))
  where
    by_test : (t : Bool) → option_map (λ (t : List ℕ). b ∷ t) (cond t (Some bs) None) ≡ cond t (Some (b ∷ bs)) None
    by_test true = refl
    by_test false = refl

numeral_take : (k : ℕ) (s : List ℕ) → numeral (take k s) ≡ kept k (numeral s)
unfolding numeral
numeral_take zero s = by_numeral (numeral s) refl
  where
    by_numeral : (o : Option (List ℕ)) → numeral s ≡ o → None ≡ kept 0 o
    by_numeral None q = refl
    by_numeral (Some bs) q = simp (lt-leb (length bs) 0 (numeral_some s bs q))
numeral_take (suc k) [] = refl
numeral_take (suc k) (b ∷ s) = ⊎_elim
    (λ l. simp (lt-ltb b 128 l, le-leb 1 (suc k) (omega arith)))
    (λ l. simp (le-ltb b 128 l) (ap (option_map (λ (t : List ℕ). b ∷ t)) (numeral_take k s) ∙ kept_map k b (numeral s)))
    (split b 128)

-- k bytes are enough where the limit is below 128 to the power k
pub number_take : (most k : ℕ) (s : List ℕ) → 0 < k → most < 128 ^ k → number most (take k s) ≡ number most s
unfolding number padded
number_take most k s p h = ap (judged most) (numeral_take k s) ∙ by_numeral (numeral s)
  where
    too_long : (bs : List ℕ) → k < length bs → None ≡ judged most (Some bs)
    too_long bs l = ⊎_elim
        (λ over. simp (lt-ltb most (value bs) over))
        (λ fits.
        let below : value bs < 128 ^ k = omega arith in
        let short : length (encode (value bs)) < length bs = omega (arith, encode_length k (value bs) p below) in
        simp (le-ltb most (value bs) fits, lt-ltb (length (encode (value bs))) (length bs) short))
        (split most (value bs))

    by_test : (bs : List ℕ) (t : Bool) → leb (length bs) k ≡ t → judged most (cond t (Some bs) None) ≡ judged most (Some bs)
    by_test bs true e = refl
    by_test bs false e = too_long bs (leb-false (length bs) k e)

    by_numeral : (o : Option (List ℕ)) → judged most (kept k o) ≡ judged most o
    by_numeral None = refl
    by_numeral (Some bs) = by_test bs (leb (length bs) k) refl

-- ---- the bounds of the format

-- RULES J7: a good number has 1 to 10 bytes, as it is written, and as it is read
pub encode_bytes : (n : ℕ) → n ≤ largest → (1 ≤ length (encode n)) × (length (encode n) ≤ longest)
encode_bytes n h = (encode_some n, encode_length longest n (omega arith) (omega arith))

pub number_bytes : (s : List ℕ) (n k : ℕ) → number largest s ≡ good n k → (1 ≤ k) × (k ≤ longest)
number_bytes s n k e =
    let (bs, is) = number_good largest s n k e in
    ((number_within largest s n k e).0, omega (arith, is.short, encode_bytes n is.fits))
