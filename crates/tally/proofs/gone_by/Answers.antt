-- `tally::gone_by` meets its contract. Assumes nothing.
use Rattle.std.proofs.Common.{refl, eq-eqb, ne_eqb}
use Rattle.tally.proofs.Pick.{here, past}
use Rattle.tally.proofs.gone_by.Goals as goal

pub returns-then-code-eq10 : goal.returns-then-code-eq10
returns-then-code-eq10 c = λ h. here _ _ _ (eq-eqb _ _ c.if-code-eq10.true) (c.shed_by.ensures h)

pub returns-then-code-eq11 : goal.returns-then-code-eq11
returns-then-code-eq11 c = λ h. past _ _ _ (ne_eqb _ _ c.if-code-eq10.false) (here _ _ _ (eq-eqb _ _ c.if-code-eq11.true) refl)

pub returns-then-code-eq12 : goal.returns-then-code-eq12
returns-then-code-eq12 c =
    λ h. past _ _ _ (ne_eqb _ _ c.if-code-eq10.false) (past _ _ _ (ne_eqb _ _ c.if-code-eq11.false)
    (here _ _ _ (eq-eqb _ _ c.if-code-eq12.true) (c.held_in.ensures h)))

pub returns : goal.returns
returns c =
    λ h. past _ _ _ (ne_eqb _ _ c.if-code-eq10.false) (past _ _ _ (ne_eqb _ _ c.if-code-eq11.false)
    (past _ _ _ (ne_eqb _ _ c.if-code-eq12.false) refl))
