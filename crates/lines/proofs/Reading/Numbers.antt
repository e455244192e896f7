-- A number, read and written. In order: the tests; the digits by the last one; bytes that are read as a number are its digits and what stands behind
-- them; the digits of a number are read, where no digit stands behind them. Assumes nothing.
use Rattle.std.specs.Prelude.{◌≡◌, refl, ◌≢◌, Bool, true, false, not, ◌&&◌, List, [], ◌∷◌, ◌++◌, ℕ, zero, suc, ◌+◌, ◌-◌, ◌*◌, ◌/◌, ◌%◌, ◌≤◌, ◌<◌, eqb, leb, ltb}
use Rattle.std.proofs.Common.{sym, ◌∙◌, ap, ap₂, append_assoc, arith, leb-true, ltb-true, ltb-false, le-leb, ne_eqb}
use Rattle.std.proofs.Math.Option.{Option, none, some}
use Rattle.std.proofs.lemmas.Bool.{eqb-false, not-true}
use Rattle.text.specs.Decimal.{digit, decimal}
use Rattle.text.specs.Decimal.Laws.{decimal_one, decimal_more}
use Rattle.lines.specs.Line.{largest}
use Rattle.lines.specs.Reading.{Got, got, is_digit, grows, digits, numeral}

-- what `cc` makes of two constructors that are said to be equal
pub clash : {A : Type 0} → ◌≡◌ {A = ℕ} 0 1 → A
clash e = absurd (omega arith)

pub got_same : {A : Type 0} {x y : A} {l m : List ℕ} → some (got x l) ≡ some (got y m) → (x ≡ y) × (l ≡ m)
got_same {A} {x} {y} {l} {m} e =
    let q : got x l ≡ got y m = cc in
    (ap (λ (g : Got A). g.value) q, ap (λ (g : Got A). g.rest) q)

-- ── the tests ──
both : (a b : Bool) → (a && b) ≡ true → (a ≡ true) × (b ≡ true)
both true true e = (refl, refl)
both true false e = clash (cc)
both false b e = clash (cc)

is_digit_true : (b : ℕ) → is_digit b ≡ true → (48 ≤ b) × (b ≤ 57)
is_digit_true b e = let (l, r) = both (leb 48 b) (leb b 57) e in (leb-true 48 b l, leb-true b 57 r)

digit_is : (d : ℕ) → d < 10 → is_digit (d + 48) ≡ true
digit_is d h =
    let low : 48 ≤ d + 48 = omega arith in
    let high : d + 48 ≤ 57 = omega arith in
    ap₂ ◌&&◌ (le-leb 48 (d + 48) low) (le-leb (d + 48) 57 high)

grows_true : (v d : ℕ) → grows v d ≡ true → (0 < v) × (v * 10 + d ≤ largest)
grows_true v d e =
    let (l, r) = both (not (eqb v 0)) (leb (v * 10 + d) largest) e in
    let h : v ≢ 0 = eqb-false v 0 (not-true (eqb v 0) l) in
    (omega arith, leb-true (v * 10 + d) largest r)

grows_is : (v d : ℕ) → 0 < v → v * 10 + d ≤ largest → grows v d ≡ true
grows_is v d p h =
    let first : v ≢ 0 = omega arith in
    ap₂ ◌&&◌ (ap not (ne_eqb v 0 first)) (le-leb (v * 10 + d) largest h)

-- ── the digits, by the last one ──
pub decimal_digit : (v d : ℕ) → 0 < v → d < 10 → decimal (v * 10 + d) ≡ decimal v ++ digit d
decimal_digit v d p h =
    let q : (v * 10 + d) / 10 ≡ v = omega arith in
    let r : (v * 10 + d) % 10 ≡ d = omega arith in
    decimal_more (v * 10 + d) (omega arith) ∙ ap₂ (λ (x y : ℕ). decimal x ++ digit y) q r

-- ── what is read ──
-- more digits: the number's are those that gave v, and more
digits_read : (v : ℕ) (bs : List ℕ) → v ≤ largest → (n : ℕ) (rest : List ℕ) → digits v bs ≡ some (got n rest)
    → (decimal v ++ bs ≡ decimal n ++ rest) × (n ≤ largest)
digits_read v [] h n rest e =
    let (p, q) = got_same e in
    (ap₂ (λ (m : ℕ) (l : List ℕ). decimal m ++ l) p q, omega arith)
digits_read v (b ∷ bs) h n rest e = by_digit (digits_read (v * 10 + (b - 48)) bs) (is_digit b) refl e
  where
    Read : Type 0
    Read = (decimal v ++ b ∷ bs ≡ decimal n ++ rest) × (n ≤ largest)

    Later : Type 0
    Later = v * 10 + (b - 48) ≤ largest → (m : ℕ) (l : List ℕ) → digits (v * 10 + (b - 48)) bs ≡ some (got m l)
        → (decimal (v * 10 + (b - 48)) ++ bs ≡ decimal m ++ l) × (m ≤ largest)

    next : Bool → Option (Got ℕ)
    next g = elim g as (λ _. Option (Got ℕ)) [ true ↦ digits (v * 10 + (b - 48)) bs | false ↦ none ]

    by_growth : Later → is_digit b ≡ true → (g : Bool) → grows v (b - 48) ≡ g → next g ≡ some (got n rest) → Read
    by_growth later d false g e = clash (cc)
    by_growth later d true g e =
        let (low, high) = is_digit_true b d in
        let (first, small) = grows_true v (b - 48) g in
        let (same, fits) = later small n rest e in
        let one : (b - 48) + 48 ≡ b = omega arith in
        let apart : decimal (v * 10 + (b - 48)) ≡ decimal v ++ b ∷ [] =
        decimal_digit v (b - 48) first (omega arith) ∙ ap (λ (x : ℕ). decimal v ++ x ∷ []) one in
        (sym (append_assoc (decimal v) (b ∷ []) bs) ∙ ap (λ (l : List ℕ). l ++ bs) (sym apart) ∙ same, fits)

    by_digit : Later → (d : Bool) → is_digit b ≡ d
        → elim d as (λ _. Option (Got ℕ)) [ false ↦ some (got v (b ∷ bs)) | true ↦ next (grows v (b - 48)) ] ≡ some (got n rest) → Read
    by_digit later true d e = by_growth later d (grows v (b - 48)) refl e
    by_digit later false d e =
        let (p, q) = got_same e in
        (ap₂ (λ (m : ℕ) (l : List ℕ). decimal m ++ l) p q, omega arith)

pub numeral_read : (bs : List ℕ) (n : ℕ) (rest : List ℕ) → numeral bs ≡ some (got n rest) → (bs ≡ decimal n ++ rest) × (n ≤ largest)
numeral_read [] n rest e = clash (cc)
numeral_read (b ∷ bs) n rest e = by_digit (is_digit b) refl e
  where
    by_digit : (d : Bool) → is_digit b ≡ d → elim d as (λ _. Option (Got ℕ)) [ true ↦ digits (b - 48) bs | false ↦ none ] ≡ some (got n rest)
        → (b ∷ bs ≡ decimal n ++ rest) × (n ≤ largest)
    by_digit false d e = clash (cc)
    by_digit true d e =
        let (low, high) = is_digit_true b d in
        let (same, fits) = digits_read (b - 48) bs (omega arith) n rest e in
        let one : (b - 48) + 48 ≡ b = omega arith in
        let apart : decimal (b - 48) ≡ b ∷ [] = decimal_one (b - 48) (omega arith) ∙ ap (λ (x : ℕ). x ∷ []) one in
        (ap (λ (l : List ℕ). l ++ bs) (sym apart) ∙ same, fits)

-- ── and how it is read ──
first_digit : (d : ℕ) (bs : List ℕ) → d < 10 → numeral ((d + 48) ∷ bs) ≡ digits d bs
first_digit d bs h =
    let same : d + 48 - 48 ≡ d = omega arith in
    simp (numeral, digit_is d h, same)

next_digit : (v d : ℕ) (bs : List ℕ) → 0 < v → d < 10 → v * 10 + d ≤ largest → digits v ((d + 48) ∷ bs) ≡ digits (v * 10 + d) bs
next_digit v d bs p h k =
    let same : d + 48 - 48 ≡ d = omega arith in
    simp (digits, digit_is d h, same, grows_is v d p k)

-- a number's digits bring the reader to what stands behind them
decimal_on : (fuel n : ℕ) → n ≤ fuel → n ≤ largest → (bs : List ℕ) → numeral (decimal n ++ bs) ≡ digits n bs
decimal_on zero n h k bs = rw (decimal_one n (omega arith)) (first_digit n bs (omega arith))
decimal_on (suc fuel) n h k bs = by_size (decimal_on fuel (n / 10)) (ltb n 10) refl
  where
    by_size : (n / 10 ≤ fuel → n / 10 ≤ largest → (cs : List ℕ) → numeral (decimal (n / 10) ++ cs) ≡ digits (n / 10) cs) → (t : Bool) → ltb n 10 ≡ t
        → numeral (decimal n ++ bs) ≡ digits n bs
    by_size ih true q = let l : n < 10 = ltb-true n 10 q in rw (decimal_one n l) (first_digit n bs l)
    by_size ih false q =
        let l : 10 ≤ n = ltb-false n 10 q in
        let whole : n / 10 * 10 + n % 10 ≡ n = omega arith in
        ap (λ (cs : List ℕ). numeral (cs ++ bs)) (decimal_more n l)
        ∙ ap numeral (append_assoc (decimal (n / 10)) (digit (n % 10)) bs)
        ∙ ih (omega arith) (omega arith) ((n % 10 + 48) ∷ bs)
        ∙ next_digit (n / 10) (n % 10) bs (omega arith) (omega arith) (omega arith)
        ∙ ap (λ (m : ℕ). digits m bs) whole

-- a test fails at the first byte, if there is one
abbrev pub FirstFails : (ℕ → Bool) → List ℕ → Type 0
FirstFails f [] = Unit {0}
FirstFails f (b ∷ bs) = f b ≡ false

digits_done : (n : ℕ) (bs : List ℕ) → FirstFails is_digit bs → digits n bs ≡ some (got n bs)
digits_done n [] h = refl
digits_done n (b ∷ bs) h = simp (digits, h)

pub numeral_decimal : (n : ℕ) (bs : List ℕ) → n ≤ largest → FirstFails is_digit bs → numeral (decimal n ++ bs) ≡ some (got n bs)
numeral_decimal n bs h k = decimal_on n n (omega arith) h bs ∙ digits_done n bs k
