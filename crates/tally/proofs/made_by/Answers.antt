-- `tally::made_by` meets its contract. Assumes nothing.
use Rattle.std.proofs.Common.{refl, eq-eqb, ne_eqb}
use Rattle.tally.proofs.Pick.{here, past}
use Rattle.tally.proofs.made_by.Goals as goal

pub returns-then-code-eq4 : goal.returns-then-code-eq4
returns-then-code-eq4 c = λ h. here _ _ _ (eq-eqb _ _ c.if-code-eq4.true) refl

pub returns-then-code-eq5 : goal.returns-then-code-eq5
returns-then-code-eq5 c = λ h. past _ _ _ (ne_eqb _ _ c.if-code-eq4.false) (here _ _ _ (eq-eqb _ _ c.if-code-eq5.true) refl)

pub returns-then-code-eq6 : goal.returns-then-code-eq6
returns-then-code-eq6 c =
    λ h. past _ _ _ (ne_eqb _ _ c.if-code-eq4.false)
    (past _ _ _ (ne_eqb _ _ c.if-code-eq5.false) (here _ _ _ (eq-eqb _ _ c.if-code-eq6.true) refl))

pub returns-then-code-eq9 : goal.returns-then-code-eq9
returns-then-code-eq9 c =
    λ h. past _ _ _ (ne_eqb _ _ c.if-code-eq4.false)
    (past _ _ _ (ne_eqb _ _ c.if-code-eq5.false)
    (past _ _ _ (ne_eqb _ _ c.if-code-eq6.false) (here _ _ _ (eq-eqb _ _ c.if-code-eq9.true) (c.held_in.ensures h))))

pub returns-then-code-eq14 : goal.returns-then-code-eq14
returns-then-code-eq14 c = λ h. past _ _ _ (ne_eqb _ _ c.if-code-eq4.false) (past _ _ _ (ne_eqb _ _ c.if-code-eq5.false) (past _ _ _ (ne_eqb _ _ c.if-code-eq6.false) (past _ _ _ (ne_eqb _ _ c.if-code-eq9.false) (here _ _ _ (eq-eqb _ _ c.if-code-eq14.true) refl))))

pub returns-then-code-eq17 : goal.returns-then-code-eq17
returns-then-code-eq17 c = λ h. past _ _ _ (ne_eqb _ _ c.if-code-eq4.false) (past _ _ _ (ne_eqb _ _ c.if-code-eq5.false) (past _ _ _ (ne_eqb _ _ c.if-code-eq6.false) (past _ _ _ (ne_eqb _ _ c.if-code-eq9.false) (past _ _ _ (ne_eqb _ _ c.if-code-eq14.false) (here _ _ _ (eq-eqb _ _ c.if-code-eq17.true) refl)))))

pub returns : goal.returns
returns c = λ h. past _ _ _ (ne_eqb _ _ c.if-code-eq4.false) (past _ _ _ (ne_eqb _ _ c.if-code-eq5.false) (past _ _ _ (ne_eqb _ _ c.if-code-eq6.false) (past _ _ _ (ne_eqb _ _ c.if-code-eq9.false) (past _ _ _ (ne_eqb _ _ c.if-code-eq14.false) (past _ _ _ (ne_eqb _ _ c.if-code-eq17.false) refl)))))
