-- What each way through the readers of a call's numbers and of a body answers. Assumes nothing.
use mathlib.Core.Path.{◌≡◌, refl, sym, ap, ◌∙◌}
use Prim.Native.Nat.{ℕ, zero, suc, ◌-◌, ◌≤◌}
use native.Mathlib.Omega.{arith}
use native.Mathlib.Numerals.{sub-one}
use Rattle.std.specs.Prelude.{Option, Some, None}
use Rattle.std.specs.Option.{option_map}
use mathlib.Core.Bool.{Bool, cond}
use mathlib.Core.List.{List, [], ◌∷◌}
use lib.ListN.{length, take, drop}
use Rattle.number.specs.Leb.{largest, Reading, good, number}
use Rattle.number.specs.Leb.Laws.{number_within}
use Rattle.number.specs.Put.Laws.{rest_is}
use Rattle.journal.specs.Answers.{refused, said}
use Rattle.journal.specs.Calls.{most_numbers, arity_of, known, filled}
use Rattle.journal.specs.Calls.Laws.{arity_none, arity_some, filled_next}
use Rattle.journal.specs.Journal.{and_then, numbers_in, arguments_in, call_with, coded, body_in}

-- the part after the first u bytes
abbrev pub after : ℕ → List ℕ → List ℕ
after u s = take (length s - u) (drop u s)

pub used_within : (s : List ℕ) (v u : ℕ) → good v u ≡ number largest s → u ≤ length s
used_within s v u e = (number_within largest s v u (sym e)).1

-- ---- a call's numbers

pub arguments_none : (n : ℕ) (s : List ℕ) → n ≡ 0 → length s ≡ 0 → Some (filled most_numbers []) ≡ arguments_in n s
unfolding arguments_in numbers_in
arguments_none zero [] z e = refl
arguments_none zero (b ∷ s) z e = absurd (omega arith)
arguments_none (suc n) s z e = absurd (omega arith)

pub arguments_left : (n : ℕ) (s : List ℕ) → n ≡ 0 → (length s ≡ 0 → ⊥) → None ≡ arguments_in n s
unfolding arguments_in numbers_in
arguments_left zero [] z e = absurd (e refl)
arguments_left zero (b ∷ s) z e = refl
arguments_left (suc n) s z e = absurd (omega arith)

numbers_step : (n : ℕ) (s : List ℕ) → (n ≡ 0 → ⊥) → numbers_in n s ≡ and_then (number largest s) s (numbers_in (n - 1))
unfolding numbers_in
numbers_step zero s z = absurd (z refl)
numbers_step (suc n) s z = ap (λ (k : ℕ). and_then (number largest s) s (numbers_in k)) (sym (sub-one (suc n)))

pub arguments_malformed : (n : ℕ) (s : List ℕ) → (n ≡ 0 → ⊥) → None ≡ number largest s → None ≡ arguments_in n s
unfolding arguments_in
arguments_malformed n s z e =
    ap (λ (r : Reading). option_map (filled most_numbers) (and_then r s (numbers_in (n - 1)))) e ∙ ap (option_map (filled most_numbers))
    (sym (numbers_step n s z))

-- a number v of u bytes was read, and o is what was found after it
pub arguments_next : (n : ℕ) (s : List ℕ) → (n ≡ 0 → ⊥) → (v u : ℕ) → good v u ≡ number largest s
    → (o : Option (List ℕ)) → o ≡ arguments_in (n - 1) (after u s)
    → option_map (λ (ns : List ℕ). take most_numbers (v ∷ ns)) o ≡ arguments_in n s
unfolding arguments_in
arguments_next n s z v u e o q =
    ap (option_map (λ (ns : List ℕ). take most_numbers (v ∷ ns))) q
    ∙ by_rest (numbers_in (n - 1) (after u s))
    ∙ ap (λ (t : List ℕ). option_map (filled most_numbers) (option_map (λ (ns : List ℕ). v ∷ ns) (numbers_in (n - 1) t))) (rest_is u s)
    ∙ ap (λ (r : Reading). option_map (filled most_numbers) (and_then r s (numbers_in (n - 1)))) e
    ∙ ap (option_map (filled most_numbers)) (sym (numbers_step n s z))
  where
    by_rest : (o : Option (List ℕ))
        → option_map (λ (ns : List ℕ). take most_numbers (v ∷ ns)) (option_map (filled most_numbers) o)
        ≡ option_map (filled most_numbers) (option_map (λ (ns : List ℕ). v ∷ ns) o)
    by_rest None = refl
    by_rest (Some ns) = ap Some (sym (filled_next most_numbers v ns))

-- ---- a body

pub body_malformed : (s : List ℕ) → None ≡ number largest s → said 0 (refused 12) ≡ body_in s
unfolding body_in
body_malformed s e = ap (λ (r : Reading). coded r s) e

-- a code was read, of a call that takes n numbers
module _ (s : List ℕ) (code u : ℕ) (e : good code u ≡ number largest s) (n : ℕ) (arity : n ≡ arity_of code) where
  by_known : (t : Bool) → known code ≡ t → said code (cond t (call_with (arguments_in n (after u s))) (refused 1)) ≡ body_in s
  unfolding body_in
  by_known t k =
      ap (λ (x : Bool). said code (cond x (call_with (arguments_in n (after u s))) (refused 1))) (sym k)
      ∙ ap (λ (bs : List ℕ). said code (cond (known code) (call_with (arguments_in n bs)) (refused 1))) (rest_is u s)
      ∙ ap (λ (k : ℕ). said code (cond (known code) (call_with (arguments_in k (drop u s))) (refused 1))) arity
      ∙ ap (λ (r : Reading). coded r s) e

  pub body_unknown : n ≡ 0 → said code (refused 1) ≡ body_in s
  body_unknown z = by_known _ (arity_none code (sym arity ∙ z))

  pub body_known : (n ≡ 0 → ⊥) → (o : Option (List ℕ)) → o ≡ arguments_in n (after u s) → said code (call_with o) ≡ body_in s
  body_known z o q = ap (λ (a : Option (List ℕ)). said code (call_with a)) q ∙ by_known _ (arity_some code (λ y. z (arity ∙ y)))
