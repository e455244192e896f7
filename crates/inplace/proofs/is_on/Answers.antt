-- `inplace::is_on` meets its contract. Assumes nothing.
use Rattle.std.proofs.Common.{◌≡◌, ◌*◌, refl, Bool, not, cond, false, true, eqb, get_or, sym, ap, ◌∙◌, eq-eqb, ne_eqb}
use Rattle.tables.specs.declared.Handle.{Handle}
use Rattle.handles.specs.Working.{on}
use Rattle.inplace.specs.Bytes.Laws.{handle_there}
use Rattle.inplace.proofs.is_on.Goals as goal

-- an empty place is on no object, and of any other its object tells
taken : (b : Bool) → not b ≡ cond b false true
taken false = refl
taken true = refl

nowhere : (b : Bool) → false ≡ cond b false false
nowhere false = refl
nowhere true = refl

pub returns-then-handles-i : goal.returns-then-handles-i
returns-then-handles-i c =
    let a = c.args in
    let b = eqb (get_or a.handles.now (3 * a.i) 0) 0 in
    taken b ∙ ap (cond b false) (sym (eq-eqb _ _ c.if-handles-i.true)) ∙ ap (λ (h : Handle). on h a.o) (sym (handle_there a.handles.now a.i c.requires))

pub returns-else-handles-i : goal.returns-else-handles-i
returns-else-handles-i c =
    let a = c.args in
    let b = eqb (get_or a.handles.now (3 * a.i) 0) 0 in
    let other = ne_eqb _ _ c.if-handles-i.false in
    other ∙ nowhere b ∙ ap (cond b false) (sym other) ∙ ap (λ (h : Handle). on h a.o) (sym (handle_there a.handles.now a.i c.requires))
