-- `keeping::vacated` meets its contract. Assumes nothing.
use mathlib.Core.Path.{◌∙◌, sym, subst}
use Rattle.model.specs.Tables.{Tables}
use Rattle.model.specs.Invariant.{Wf}
use Rattle.model.specs.Figures.{Ready}
use Rattle.tables.specs.Needs.{figure_of}
use Rattle.keeping.proofs.Closing.{anew, vacate_ready, vacate_wf}
use Rattle.keeping.proofs.vacated.Goals as goal

pub returns-then-need-eq0 : goal.returns-then-need-eq0
returns-then-need-eq0 c =
    let a = c.args in
    λ rest t m w l q k. subst (λ (u : Tables). Ready u (figure_of a.n)) (sym q)
    (vacate_ready a.n t a.s w l k (sym c.need.ensures ∙ c.if-need-eq0.true))

pub returns : goal.returns
returns c =
    let a = c.args in
    λ rest t m w l q k. anew rest _ _ _ _ (c.figures.ensures rest m (subst Wf (sym q) (vacate_wf t a.s w)))
