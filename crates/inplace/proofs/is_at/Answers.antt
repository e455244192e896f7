-- `inplace::is_at` meets its contract. Assumes nothing.
use Rattle.std.proofs.Common.{◌≡◌, refl, ◌*◌, ◌%◌, Bool, true, false, not, ◌&&◌, eqb, get_or, sym, ap, ◌∙◌, arith, eq-eqb, ne_eqb}
use Rattle.tables.specs.declared.Object.{Object}
use Rattle.inplace.specs.Bytes.Laws.{object_there}
use Rattle.inplace.proofs.is_at.Goals as goal

and_true : (b : Bool) → b ≡ (b && true)
and_true false = refl
and_true true = refl

and_false : (b : Bool) → false ≡ (b && false)
and_false false = refl
and_false true = refl

pub returns-then-numbers-j : goal.returns-then-numbers-j
returns-then-numbers-j c =
    let a = c.args in
    let used = not (eqb (get_or a.objects.now (3 * (a.i % 64)) 0) 0) in
    and_true used ∙ ap (λ (b : Bool). used && b) (sym (eq-eqb _ _ c.if-numbers-j.true))
    ∙ ap (λ (y : Object). not (eqb y.kind 0) && eqb (get_or a.numbers.now (a.i % 64) 0) a.o) (sym (object_there a.objects.now (a.i % 64) (omega arith)))

pub returns-else-numbers-j : goal.returns-else-numbers-j
returns-else-numbers-j c =
    let a = c.args in
    let used = not (eqb (get_or a.objects.now (3 * (a.i % 64)) 0) 0) in
    let other = ne_eqb _ _ c.if-numbers-j.false in
    other ∙ and_false used ∙ ap (λ (b : Bool). used && b) (sym other)
    ∙ ap (λ (y : Object). not (eqb y.kind 0) && eqb (get_or a.numbers.now (a.i % 64) 0) a.o) (sym (object_there a.objects.now (a.i % 64) (omega arith)))
