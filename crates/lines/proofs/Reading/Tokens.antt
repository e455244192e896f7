-- Numbers and signs, read and written. In order: spaces; what stands first, behind them; a number; a sign; a sign and its number. Of each: what is read
-- so stands there (…-spaced), and what stands there is read so (spaced-…). Assumes nothing.
use Rattle.std.specs.Prelude.{◌≡◌, refl, Bool, true, false, List, [], ◌∷◌, ◌++◌, ℕ, zero, suc, ◌<◌, eqb, get_or}
use Rattle.std.proofs.Common.{sym, ◌∙◌, ap, subst, arith, eqb-true, eq-eqb, ne_eqb}
use Rattle.std.proofs.Math.Option.{Option, none, some}
use Rattle.text.specs.Decimal.{decimal}
use Rattle.text.specs.Decimal.Laws.{decimal_one, decimal_first}
use Rattle.lines.specs.Line.{Token, number, less, greater, bar, semicolon, given, Fits, spelled, Spaced, ends, space, token}
use Rattle.lines.specs.Reading.{Got, got, skip, is_digit, numeral, as_given, signed_at, signed}
use Rattle.lines.proofs.Reading.Numbers.{clash, got_same, numeral_read, FirstFails, numeral_decimal}

-- ── spaces ──
pub skip_back : (ts : List Token) (bs : List ℕ) → Spaced ts (skip bs) → Spaced ts bs
skip_back ts [] d = d
skip_back ts (b ∷ bs) d = by_space (skip_back ts bs) (eqb b 32) refl d
  where
    by_space : (Spaced ts (skip bs) → Spaced ts bs) → (t : Bool) → eqb b 32 ≡ t → Spaced ts (elim t as (λ _. List ℕ) [ true ↦ skip bs | false ↦ b ∷ bs ])
        → Spaced ts (b ∷ bs)
    by_space on true q d = subst (λ (x : ℕ). Spaced ts (x ∷ bs)) (sym (eqb-true b 32 q)) (space (on d))
    by_space on false q d = d

skip_first : (l bs : List ℕ) → 32 < get_or l 0 0 → skip (l ++ bs) ≡ l ++ bs
skip_first [] bs h = absurd (omega arith)
skip_first (b ∷ l) bs h =
    let other : eqb b 32 ≡ false = ne_eqb b 32 (omega arith) in
    ap (λ (t : Bool). elim t as (λ _. List ℕ) [ true ↦ skip (l ++ bs) | false ↦ b ∷ (l ++ bs) ]) other

first_byte : (n : ℕ) → 32 < get_or (decimal n) 0 0
first_byte zero = rw (decimal_one 0 (omega arith)) (omega arith)
first_byte (suc n) = omega (arith, decimal_first (suc n) (omega arith))

skip_spelled : (t : Token) (bs : List ℕ) → skip (spelled t ++ bs) ≡ spelled t ++ bs
skip_spelled (number n) bs = skip_first (decimal n) bs (first_byte n)
skip_spelled less bs = refl
skip_spelled greater bs = refl
skip_spelled bar bs = refl
skip_spelled semicolon bs = refl

skip_on : {ts : List Token} {bs : List ℕ} → Spaced ts bs → Spaced ts (skip bs)
skip_on ends = ends
skip_on (space d) = skip_on d
skip_on (token {ts = ts} {bs = bs} t f d) = subst (Spaced (t ∷ ts)) (sym (skip_spelled t bs)) (token t f d)

-- ── what stands first ──
record Opens (t : Token) (ts : List Token) (bs : List ℕ) : Type 0 where
  rest : List ℕ
  fits : Fits t
  skipped : skip bs ≡ spelled t ++ rest
  behind : Spaced ts rest

opens : {t : Token} {ts : List Token} {bs : List ℕ} → Spaced (t ∷ ts) bs → Opens t ts bs
opens (space d) = let o = opens d in record { rest = o.rest; fits = o.fits; skipped = o.skipped; behind = o.behind }
opens (token {bs = bs} t f d) = record { rest = bs; fits = f; skipped = skip_spelled t bs; behind = d }

pub empties : {bs : List ℕ} → Spaced [] bs → skip bs ≡ []
empties ends = refl
empties (space d) = empties d

-- a sign at whose byte a test fails
abbrev pub TokenFails : (ℕ → Bool) → Token → Type 0
TokenFails f (number n) = ⊥
TokenFails f less = f 60 ≡ false
TokenFails f greater = f 62 ≡ false
TokenFails f bar = f 124 ≡ false
TokenFails f semicolon = f 59 ≡ false

-- what stands first is such a sign, if anything
abbrev pub TokensFail : (ℕ → Bool) → List Token → Type 0
TokensFail f [] = Unit {0}
TokensFail f (t ∷ ts) = TokenFails f t

first_fails : (f : ℕ → Bool) → f 32 ≡ false → {ts : List Token} {bs : List ℕ} → TokensFail f ts → Spaced ts bs → FirstFails f bs
first_fails f s h ends = tt
first_fails f s h (space d) = s
first_fails f s h (token (number n) fits d) = absurd h
first_fails f s h (token less fits d) = h
first_fails f s h (token greater fits d) = h
first_fails f s h (token bar fits d) = h
first_fails f s h (token semicolon fits d) = h

-- ── a number ──
pub number_spaced : (n : ℕ) (ts : List Token) (bs rest : List ℕ) → numeral (skip bs) ≡ some (got n rest) → Spaced ts rest → Spaced (number n ∷ ts) bs
number_spaced n ts bs rest e d =
    let (same, fits) = numeral_read (skip bs) n rest e in
    skip_back (number n ∷ ts) bs (subst (Spaced (number n ∷ ts)) (sym same) (token (number n) fits d))

pub spaced_number : (n : ℕ) (ts : List Token) (bs : List ℕ) → TokensFail is_digit ts → Spaced (number n ∷ ts) bs
    → (rest : List ℕ) × (numeral (skip bs) ≡ some (got n rest)) × Spaced ts rest
spaced_number n ts bs h d =
    let o = opens d in
    (o.rest, ap numeral o.skipped ∙ numeral_decimal n o.rest o.fits (first_fails is_digit refl h o.behind), o.behind)

-- ── a sign ──
module _ (t : Token) (sign : ℕ) (is : spelled t ≡ sign ∷ []) (fits : Fits t) where
  pub sign_spaced : {ts : List Token} {bs : List ℕ} (b : ℕ) → eqb b sign ≡ true → Spaced ts bs → Spaced (t ∷ ts) (b ∷ bs)
  sign_spaced {ts} {bs} b e d = subst (λ (l : List ℕ). Spaced (t ∷ ts) (l ++ bs)) (is ∙ ap (λ (x : ℕ). x ∷ []) (sym (eqb-true b sign e))) (token t fits d)

  pub spaced_sign : {ts : List Token} {bs : List ℕ} → Spaced (t ∷ ts) bs → (rest : List ℕ) × (skip bs ≡ sign ∷ rest) × Spaced ts rest
  spaced_sign d = let o = opens d in (o.rest, o.skipped ∙ ap (λ (l : List ℕ). l ++ o.rest) is, o.behind)

  -- ── and its number, where the sign is next ──
  pub signed_spaced : (o : Option ℕ) (ts : List Token) (bs rest : List ℕ) → signed sign bs ≡ some (got o rest) → Spaced ts rest → Spaced (given t o ++ ts) bs
  signed_spaced o ts bs rest e d = skip_back (given t o ++ ts) bs (by_next (skip bs) e)
    where
      without : (cs : List ℕ) → some (got none cs) ≡ some (got o rest) → Spaced (given t o ++ ts) cs
      without cs e =
          let (p, q) = got_same e in
          subst (λ (x : Option ℕ). Spaced (given t x ++ ts) cs) p (subst (Spaced ts) (sym q) d)

      by_number : (b : ℕ) (cs : List ℕ) → eqb b sign ≡ true → (g : Option (Got ℕ)) → numeral (skip cs) ≡ g → as_given g ≡ some (got o rest)
          → Spaced (given t o ++ ts) (b ∷ cs)
      by_number b cs q none r e = clash (cc)
      by_number b cs q (some g) r e =
          let (p, l) = got_same e in
          subst (λ (x : Option ℕ). Spaced (given t x ++ ts) (b ∷ cs)) p
          (sign_spaced b q (number_spaced g.value ts cs g.rest r (subst (Spaced ts) (sym l) d)))

      by_sign : (b : ℕ) (cs : List ℕ) (x : Bool) → eqb b sign ≡ x
          → elim x as (λ _. Option (Got (Option ℕ))) [ true ↦ as_given (numeral (skip cs)) | false ↦ some (got none (b ∷ cs)) ] ≡ some (got o rest)
          → Spaced (given t o ++ ts) (b ∷ cs)
      by_sign b cs true q e = by_number b cs q (numeral (skip cs)) refl e
      by_sign b cs false q e = without (b ∷ cs) e

      by_next : (cs : List ℕ) → signed_at sign cs ≡ some (got o rest) → Spaced (given t o ++ ts) cs
      by_next [] e = without [] e
      by_next (b ∷ cs) e = by_sign b cs (eqb b sign) refl e

  unsigned : (cs : List ℕ) → FirstFails (λ b. eqb b sign) cs → signed_at sign cs ≡ some (got none cs)
  unsigned [] h = refl
  unsigned (b ∷ cs) h = simp (signed_at, h)

  signed_next : (cs : List ℕ) → signed_at sign (sign ∷ cs) ≡ as_given (numeral (skip cs))
  signed_next cs = simp (signed_at, eq-eqb sign sign refl)

  pub spaced_signed : (o : Option ℕ) (ts : List Token) (bs : List ℕ) → eqb 32 sign ≡ false → TokensFail is_digit ts → TokensFail (λ b. eqb b sign) ts
      → Spaced (given t o ++ ts) bs → (rest : List ℕ) × (signed sign bs ≡ some (got o rest)) × Spaced ts rest
  spaced_signed none ts bs s n h d =
      let on = skip_on d in
      (skip bs, unsigned (skip bs) (first_fails (λ b. eqb b sign) s h on), on)
  spaced_signed (some v) ts bs s n h d =
      let (cs, q, e) = spaced_sign d in
      let (rest, r, f) = spaced_number v ts cs n e in
      (rest, ap (signed_at sign) q ∙ signed_next cs ∙ ap as_given r, f)
