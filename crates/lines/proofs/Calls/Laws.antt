-- How many calls a pipeline stands for, and a line. States RULES L15. Assumes nothing.
use Rattle.std.specs.Prelude.{◌≡◌, Bool, true, false, ◌||◌, cond, ℕ, zero, suc, ◌+◌, ◌-◌, ◌*◌, ◌≤◌, ◌<◌, T, eqb, leb, length, get_or, replicate}
use Rattle.std.proofs.Math.Path.{refl}
use Rattle.std.proofs.Common.{ap, inl, inr, arith, mul-le-mul, leb→le, length-append, eq-eqb, ne_eqb, eqb-true}
use Rattle.std.proofs.Math.Option.{Option, none, some}
use mathlib.Core.List.{List, [], ◌∷◌, ◌++◌, map}
use Rattle.std.proofs.lemmas.Bool.{eqb-false}
use Rattle.model.specs.Bools.{both_of}
use Rattle.model.specs.Lists.{In, each}
use Rattle.model.specs.Calls.{Raw}
use Rattle.lines.specs.Line.{one, more, all, Stage, Reading, short}
use Rattle.lines.specs.Calls.{counted_from, pipe_call, close_call, uses, unused_call, open_call, stage_calls, exit_call, no_stage, pipeline_calls, calls_of}
use Rattle.lines.specs.Calls.{sign, signs_of, signs, pipeline_count, most_calls, line_count}

-- ---- sums

-- f 0 + f 1 + .. + f (n - 1)
abbrev total : ℕ → (ℕ → ℕ) → ℕ
total zero f = 0
total (suc n) f = total n f + f n

total_same : (n : ℕ) (f g : ℕ → ℕ) → ((i : ℕ) → f i ≡ g i) → total n f ≡ total n g
total_same zero f g h = refl
total_same (suc n) f g h = omega (arith, total_same n f g h, h n)

total_plus : (n : ℕ) (f g : ℕ → ℕ) → total n (λ i. f i + g i) ≡ total n f + total n g
total_plus zero f g = refl
total_plus (suc n) f g = omega (arith, total_plus n f g)

total_one : (n c : ℕ) → total n (λ _. c) ≡ n * c
total_one zero c = omega arith
total_one (suc n) c = omega (arith, total_one n c)

total_front : (n : ℕ) (f : ℕ → ℕ) → total (suc n) f ≡ f 0 + total n (λ i. f (suc i))
total_front zero f = omega arith
total_front (suc n) f = omega (arith, total_front n f)

total_length : {A : Type 0} (n : ℕ) (f : ℕ → List A) → length (each n f) ≡ total n (λ i. length (f i))
total_length zero f = refl
total_length (suc n) f = omega (arith, length-append (each n f) (f n), total_length n f)

ones_length : {A : Type 0} (n : ℕ) (f : ℕ → List A) → ((i : ℕ) → length (f i) ≡ 1) → length (each n f) ≡ n
ones_length zero f h = refl
ones_length (suc n) f h = omega (arith, length-append (each n f) (f n), ones_length n f h, h n)

-- ---- the ends that a child uses

abbrev bit : Bool → ℕ
bit b = cond b 1 0

-- of the numbers below n, k is one
bit_above : (n k : ℕ) → n ≤ k → total n (λ i. bit (eqb k i)) ≡ 0
bit_above zero k h = refl
bit_above (suc n) k h = omega (arith, bit_above n k (omega arith), ap bit (ne_eqb k n (λ e. omega arith)))

bit_below : (n k : ℕ) → k < n → total n (λ i. bit (eqb k i)) ≡ 1
bit_below zero k h = absurd (omega arith)
bit_below (suc n) k h = go (eqb k n) refl (bit_below n k)
  where
    go : (b : Bool) → eqb k n ≡ b → (k < n → total n (λ i. bit (eqb k i)) ≡ 1) → total n (λ i. bit (eqb k i)) + bit b ≡ 1
    go true q ih = let e : k ≡ n = eqb-true k n q in omega (arith, bit_above n k (omega arith))
    go false q ih = let e : (k ≡ n → ⊥) = eqb-false k n q in omega (arith, ih (omega (arith, e)))

-- of the ends of pipe j child i uses the one that writes where i is j, and the one that reads where i is j + 1
abbrev used : ℕ → ℕ → ℕ
used i zero = 0
used i (suc j) = used i j + (bit (eqb (suc j) i) + bit (eqb j i))

-- all children together use each end of the pipes once
used_once : (n j : ℕ) → j < n → total n (λ i. used i j) ≡ 2 * j
used_once n zero h = omega (arith, total_one n 0)
used_once n (suc j) h =
    let before = used_once n j (omega arith) in
    let reading = bit_below n (suc j) h in let writing = bit_below n j (omega arith) in
    omega (arith, total_plus n (λ i. used i j) (λ i. bit (eqb (suc j) i) + bit (eqb j i)), total_plus n (λ i. bit (eqb (suc j) i)) (λ i. bit (eqb j i)))

same_test : (a b c d : ℕ) → (a ≡ b → c ≡ d) → (c ≡ d → a ≡ b) → eqb a b ≡ eqb c d
same_test a b c d f g = go (eqb c d) refl
  where
    go : (x : Bool) → eqb c d ≡ x → eqb a b ≡ x
    go true q = eq-eqb a b (g (eqb-true c d q))
    go false q = ne_eqb a b (λ e. eqb-false c d q (f e))

uses_reading : (i j : ℕ) → uses i (2 * j) ≡ eqb (suc j) i
uses_reading i j =
    rw (same_test (2 * j + 2) (2 * i) (suc j) i (λ e. omega arith) (λ e. omega arith), ne_eqb (2 * j) (2 * i + 1) (λ e. omega arith))
    (last (eqb (suc j) i))
  where
    last : (b : Bool) → (b || false) ≡ b
    last true = refl
    last false = refl

uses_writing : (i j : ℕ) → uses i (suc (2 * j)) ≡ eqb j i
uses_writing i j =
    rw (ne_eqb (suc (2 * j) + 2) (2 * i) (λ e. omega arith)) (same_test (suc (2 * j)) (2 * i + 1) j i (λ e. omega arith) (λ e. omega arith))

unused_one : (c i place : ℕ) → length (unused_call c i place) + bit (uses i place) ≡ 1
unused_one c i place = go (uses i place)
  where
    go : (b : Bool) → length (cond b [] (close_call c place)) + bit b ≡ 1
    go true = refl
    go false = refl

unused_length : (c i j : ℕ) → length (each (2 * j) (unused_call c i)) + used i j ≡ 2 * j
unused_length c i zero = refl
unused_length c i (suc j) =
    let e : 2 * suc j ≡ suc (suc (2 * j)) = omega arith in
    let reading = unused_one c i (2 * j) in let writing = unused_one c i (suc (2 * j)) in
    rw e (simp length-append (omega (arith, unused_length c i j, ap bit (uses_reading i j), ap bit (uses_writing i j))))

-- ---- a stage

open_length : (code c place : ℕ) (o : Option ℕ) → length (open_call code c place o) ≡ sign o
open_length code c place none = refl
open_length code c place (some o) = refl

stage_length : (shell j i c : ℕ) (s : Stage) → length (stage_calls shell j i c s) + used i j ≡ (2 + 2 * j) + signs_of s
stage_length shell j i c s = simp length-append (omega (arith, unused_length c i j, open_length 5 c 14 s.from, open_length 6 c 15 s.into))

signs_total : (p : List Stage) → total (length p) (λ i. signs_of (get_or p i no_stage)) ≡ signs p
signs_total [] = refl
signs_total (s ∷ l) = omega (arith, total_front (length l) (λ i. signs_of (get_or (s ∷ l) i no_stage)), signs_total l)

sign_most : (o : Option ℕ) → sign o ≤ 1
sign_most none = omega arith
sign_most (some o) = omega arith

signs_most : (p : List Stage) → signs p ≤ 2 * length p
signs_most [] = omega arith
signs_most (s ∷ l) = omega (arith, sign_most s.from, sign_most s.into, signs_most l)

signs_full : (p : List Stage) → ((s : Stage) → In s p → signs_of s ≡ 2) → signs p ≡ 2 * length p
signs_full [] h = refl
signs_full (s ∷ l) h = omega (arith, h s (inl refl), signs_full l (λ t i. h t (inr i)))

-- ---- a pipeline

module _ (shell child pipe : ℕ) where
  stages_length : (j : ℕ) (p : List Stage) → j < length p
      → length (each (length p) (λ i. stage_calls shell j i (counted_from child i) (get_or p i no_stage))) + 2 * j ≡ length p * (2 + 2 * j) + signs p
  stages_length j p h = omega (arith, left, right, same, total_length n calls, total_one n (2 + 2 * j), signs_total p, used_once n j h)
    where
      n : ℕ
      n = length p

      at : ℕ → Stage
      at i = get_or p i no_stage

      calls : ℕ → List Raw
      calls i = stage_calls shell j i (counted_from child i) (at i)

      left : total n (λ i. length (calls i) + used i j) ≡ total n (λ i. length (calls i)) + total n (λ i. used i j)
      left = total_plus n (λ i. length (calls i)) (λ i. used i j)

      right : total n (λ i. (2 + 2 * j) + signs_of (at i)) ≡ total n (λ _. 2 + 2 * j) + total n (λ i. signs_of (at i))
      right = total_plus n (λ _. 2 + 2 * j) (λ i. signs_of (at i))

      same : total n (λ i. length (calls i) + used i j) ≡ total n (λ i. (2 + 2 * j) + signs_of (at i))
      same = total_same n (λ i. length (calls i) + used i j) (λ i. (2 + 2 * j) + signs_of (at i)) (λ i. stage_length shell j i (counted_from child i) (at i))

  -- n stages and j pipes, one less
  parts_length : (n j k : ℕ) (stages : ℕ → List Raw) → n ≡ suc j → length (each n stages) + 2 * j ≡ n * (2 + 2 * j) + k
      → length (each j (pipe_call shell pipe) ++ each n stages ++ each (2 * j) (close_call shell) ++ each n (exit_call child)) ≡ 2 * (j * j) + 3 * j + 3 * n + k
  parts_length n j k stages e h =
      let pipes = ones_length j (pipe_call shell pipe) (λ i. refl) in
      let closes = ones_length (2 * j) (close_call shell) (λ i. refl) in
      let exits = ones_length n (exit_call child) (λ i. refl) in
      simp length-append (omega (arith, ap (λ (m : ℕ). m * j) e))

  -- RULES L15
  pub calls_counted : (p : List Stage) → length (pipeline_calls shell child pipe p) ≡ pipeline_count p
  unfolding pipeline_calls
  calls_counted [] = refl
  calls_counted (s ∷ l) = parts_length (length p) j (signs p) (λ i. stage_calls shell j i (counted_from child i) (get_or p i no_stage)) (omega arith) (stages_length j p (omega arith))
    where
      p : List Stage
      p = s ∷ l

      j : ℕ
      j = length p - 1

  -- at most, and exactly so many where every stage has both signs
  pub calls_most : (p : List Stage) → length (pipeline_calls shell child pipe p) ≤ most_calls (length p)
  calls_most p = omega (arith, calls_counted p, signs_most p)

  pub calls_full : (p : List Stage) → ((s : Stage) → In s p → signs_of s ≡ 2) → length (pipeline_calls shell child pipe p) ≡ most_calls (length p)
  calls_full p h = omega (arith, calls_counted p, signs_full p h)

  -- of a pipeline that is not too long (RULES R19)
  pub eight : (p : List Stage) → length p ≤ 8 → length (pipeline_calls shell child pipe p) ≤ 159
  eight p h = omega (arith, calls_most p, mul-le-mul few few)
    where
      few : length p - 1 ≤ 7
      few = omega arith

  -- ---- a line

  pub line_calls_counted : (l : Reading) → length (calls_of shell child pipe l) ≡ line_count l
  line_calls_counted (one p) = calls_counted (all p)
  line_calls_counted (more p l) = simp length-append (omega (arith, calls_counted (all p), line_calls_counted l))

  pub line_calls_most : (l : Reading) → T (short l) → length (calls_of shell child pipe l) ≤ 159 * length (all l)
  line_calls_most (one p) h = eight (all p) (leb→le (length (all p)) 8 h)
  line_calls_most (more p l) h = let k = both_of (leb (length (all p)) 8) (short l) h in
      simp length-append (omega (arith, eight (all p) (leb→le (length (all p)) 8 k.0), line_calls_most l k.1))

-- ---- computed

abbrev pub one_to_eight : List ℕ
one_to_eight = 1 ∷ 2 ∷ 3 ∷ 4 ∷ 5 ∷ 6 ∷ 7 ∷ 8 ∷ []

-- with `calls_full`: of stages that have both signs
pub most_computed : map most_calls one_to_eight ≡ 5 ∷ 15 ∷ 29 ∷ 47 ∷ 69 ∷ 95 ∷ 125 ∷ 159 ∷ []
most_computed = refl

-- and by writing the calls out
abbrev pub full_stage : Stage
full_stage = record { program = 0; from = some 0; into = some 0 }

pub calls_computed : map (λ n. length (pipeline_calls 0 0 0 (replicate n full_stage))) one_to_eight ≡ 5 ∷ 15 ∷ 29 ∷ 47 ∷ 69 ∷ 95 ∷ 125 ∷ 159 ∷ []
unfolding pipeline_calls
calls_computed = refl
