-- `number::read_number` meets its contract: each way through it is a law of `Reader`. Assumes nothing.
use Rattle.std.proofs.Common.{◌≡◌, ℕ, ◌-◌, List, length, take, drop, sym, ap, ◌∙◌, refl, arith}
use Rattle.std.specs.Prelude.{Option, Some, None}
use Rattle.std.specs.Option.{option_or}
use Rattle.number.specs.Leb.{largest, longest, Reading, number}
use Rattle.number.proofs.Reader.{number_nil, number_one, number_cut, Begun, number_padded, number_two}
use Rattle.number.proofs.Reader.{rest, rest_malformed, rest_over, rest_used, rest_good}
use Rattle.number.proofs.+read_number.Goals as goal
use Rattle.number.proofs.+read_number.Goals.{Else-from-eq1}

-- where the first byte is not the last, and another stands behind it
begun : (t : ℕ) (c : Else-from-eq1 t) → Begun c.args.from.now
begun t c = record { full = omega arith; long = omega arith; byte = omega (arith, c.type_inv.from 0) }

-- (the answers below read off what the call answered as the code has it then: as it is, or with `or` behind it)
or_none : {T : Type 0} (r : Option T) → option_or r None ≡ r
or_none None = refl
or_none (Some x) = refl

-- what the call on the rest answered
called : (s : List ℕ) (r : Reading) (k : ℕ) → r ≡ number largest (take (k - 1) (drop 1 s)) → k ≡ length (take longest s)
    → r ≡ number largest (rest s)
called s r k e reach = e ∙ ap (λ (k : ℕ). number largest (take (k - 1) (drop 1 s))) reach

pub returns-then-from-eq0 : goal.returns-then-from-eq0
returns-then-from-eq0 t c = sym (number_nil _ _ c.if-from-eq0.true)

pub returns-then-first-lt128 : goal.returns-then-first-lt128
returns-then-first-lt128 t c = sym (number_one _ _ (omega arith) c.if-first-lt128.true (omega arith))

pub returns-then-from-eq1 : goal.returns-then-from-eq1
returns-then-from-eq1 t c = sym (number_cut _ _ c.if-from-eq1.true (omega arith))

pub returns-then-second-eq0 : goal.returns-then-second-eq0
returns-then-second-eq0 t c =
    let b = begun t (goal.at.returns-then-second-eq0 t c).Else-from-eq1 in
    sym (number_padded b (omega arith))

pub returns-then-second-lt128 : goal.returns-then-second-lt128
returns-then-second-lt128 t c =
    let b = begun t (goal.at.returns-then-second-lt128 t c).Else-from-eq1 in
    sym (number_two b (omega arith) (omega arith))

pub returns : goal.returns
returns t c =
    let b = begun t (goal.at.returns t c).Else-from-eq1 in
    rest_good b _ _ (called _ _ _ (grind (arith, or_none)) c.reach-end.ensures) (omega arith) (omega (arith, c.type_inv.from 1)) (omega arith)

pub returns-then-group-value : goal.returns-then-group-value
returns-then-group-value t c =
    let b = begun t (goal.at.returns-then-group-value t c).Else-from-eq1 in
    rest_over b _ _ (called _ (Some (c.in_ok-value.value, c.in_ok-value.used)) c.reach-end.result (grind (arith, or_none)) c.reach-end.ensures) (omega arith)

pub overflow_add-result-3 : goal.overflow_add-result-3
overflow_add-result-3 t c =
    let b = begun t (goal.at.overflow_add-result-3 t c).Else-from-eq1 in
    omega (arith, rest_used b _ _ (called _ (Some (c.in_ok-value.value, c.in_ok-value.used)) c.reach-end.result (grind (arith, or_none)) c.reach-end.ensures), c.well_formed)

pub returns-in_err-value : goal.returns-in_err-value
returns-in_err-value t c =
    let b = begun t (goal.at.returns-in_err-value t c).Else-from-eq1 in
    c.from_residual.ensures ∙ rest_malformed b (called _ _ _ (grind (arith, or_none)) c.reach-end.ensures)
