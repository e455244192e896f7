-- Laws of a number in decimal. In order: the digits by the last one; how many there are; they are the number's, the highest
-- first, with no zero in front. Assumes nothing.
use Rattle.std.specs.Prelude.{◌≡◌, refl, ℕ, zero, suc, ◌+◌, ◌-◌, ◌*◌, ◌/◌, ◌%◌, ◌^◌, ◌≤◌, ◌<◌, List, [], ◌∷◌, ◌++◌, length, get_or}
use Rattle.std.proofs.Common.{ap, ⊎_elim, arith, div-lt_iff_lt-mul, pow-suc, length-append, lt-ltb, le-ltb}
use Rattle.std.proofs.Math.ListN.{get_or-append}
use Rattle.number.specs.Leb.Laws.{split}
use Rattle.text.specs.Decimal.{digit, digits, decimal}

-- ---- the digits, by the last one

-- any fuel that is at least the number gives the same
digits_fuel : (f g n : ℕ) → n ≤ f → n ≤ g → digits f n ≡ digits g n
unfolding digits
digits_fuel zero zero n h k = refl
digits_fuel zero (suc g) n h k = simp (lt-ltb n 10 (omega arith))
digits_fuel (suc f) zero n h k = simp (lt-ltb n 10 (omega arith))
digits_fuel (suc f) (suc g) n h k = ⊎_elim
    (λ l. simp (lt-ltb n 10 l))
    (λ l. simp (le-ltb n 10 l) (ap (λ (t : List ℕ). t ++ digit (n % 10)) (digits_fuel f g (n / 10) (omega arith) (omega arith))))
    (split n 10)

pub decimal_one : (n : ℕ) → n < 10 → decimal n ≡ digit n
unfolding decimal digits
decimal_one zero h = refl
decimal_one (suc n) h = simp (lt-ltb (suc n) 10 h)

pub decimal_more : (n : ℕ) → 10 ≤ n → decimal n ≡ decimal (n / 10) ++ digit (n % 10)
unfolding decimal digits
decimal_more zero h = absurd (omega arith)
decimal_more (suc n) h =
    simp (le-ltb (suc n) 10 h)
    (ap (λ (t : List ℕ). t ++ digit (suc n % 10)) (digits_fuel n (suc n / 10) (suc n / 10) (omega arith) (omega arith)))

-- ---- how many digits there are

pub length_more : (n : ℕ) → 10 ≤ n → length (decimal n) ≡ length (decimal (n / 10)) + 1
length_more n h = omega (arith, ap length (decimal_more n h), length-append (decimal (n / 10)) (digit (n % 10)))

pub decimal_some : (n : ℕ) → 0 < length (decimal n)
decimal_some n = ⊎_elim (λ l. omega (arith, ap length (decimal_one n l))) (λ l. omega (arith, length_more n l)) (split n 10)

-- k digits are enough for a number below 10 to the power k
pub decimal_length : (k n : ℕ) → 0 < k → n < 10 ^ k → length (decimal n) ≤ k
decimal_length zero n p h = absurd (omega arith)
decimal_length (suc zero) n p h = omega (arith, ap length (decimal_one n h))
decimal_length (suc (suc k)) n p h = ⊎_elim
    (λ l. omega (arith, ap length (decimal_one n l)))
    (λ l.
    let rest = decimal_length (suc k) (n / 10) (omega arith) ((div-lt_iff_lt-mul (omega arith)).1 (rw (← pow-suc 10 (suc k)) h)) in
    omega (arith, length_more n l))
    (split n 10)

-- ---- they are the number's

-- induction on a number's digits
by_digits : (P : ℕ → Type 0) → ((n : ℕ) → n < 10 → P n) → ((n : ℕ) → 10 ≤ n → P (n / 10) → P n) → (n : ℕ) → P n
by_digits P one more n = go n n (omega arith)
  where
    go : (fuel m : ℕ) → m ≤ fuel → P m
    go zero m h = one m (omega arith)
    go (suc fuel) m h = ⊎_elim (λ l. one m l) (λ l. more m l (go fuel (m / 10) (omega arith))) (split m 10)

-- what is read of some digits, the highest first, after those that gave v
unfoldable pub reads : ℕ → List ℕ → ℕ
reads v [] = v
reads v (b ∷ bs) = reads (10 * v + (b - 48)) bs

reads_last : (v d : ℕ) (bs : List ℕ) → reads v (bs ++ digit d) ≡ 10 * reads v bs + d
unfolding reads
reads_last v d [] = omega arith
reads_last v d (b ∷ bs) = reads_last (10 * v + (b - 48)) d bs

pub decimal_reads : (n : ℕ) → reads 0 (decimal n) ≡ n
unfolding reads
decimal_reads = by_digits (λ n. reads 0 (decimal n) ≡ n)
    (λ n l. rw (decimal_one n l) (omega arith))
    (λ n l e. rw (decimal_more n l) (rw (reads_last 0 (n % 10) (decimal (n / 10))) (omega (arith, e))))

-- the first digit of a number that is not 0 is not '0'
pub decimal_first : (n : ℕ) → 0 < n → 48 < get_or (decimal n) 0 0
decimal_first = by_digits (λ n. 0 < n → 48 < get_or (decimal n) 0 0)
    (λ n l p. rw (decimal_one n l) (omega arith))
    (λ n l e p. rw (decimal_more n l) (rw (get_or-append (decimal (n / 10)) (digit (n % 10)) 0 0 (decimal_some (n / 10))) (e (omega arith))))
