-- `flows::figures` meets its contract. Assumes nothing.
use mathlib.Core.Path.{sym, subst}
use mathlib.Core.Bool.{Bool}
use Prim.Native.Nat.{ℕ}
use borrow.Author.Rules.{rules}
use Rattle.tables.proofs.Maps.{unmapped}
use Rattle.groups.specs.Groups.{Leads}
use Rattle.passes.specs.Least.{figure}
use Rattle.passes.proofs.Raising.{never_stopped}
use Rattle.passes.proofs.Listing.{sliced, between_handles, all_handles}
use Rattle.flows.proofs.Nodes.{needed}
use Rattle.flows.proofs.figures.Goals as goal

pub returns : goal.returns
returns c =
    let a = c.args in
    let e = c.worked.ensures in
    let l = sliced c.listed-edges.ensures c.deref.ensures.0 in
    λ rest q w. needed rest _ _ _ w (search (c.well_formed, rules, unmapped)) c.leads-leads.result
    (subst (λ (k : ℕ → ℕ → Bool). Leads k c.leads-leads.result) (sym q) c.leads-leads.ensures) _ _ c.starts-needs.ensures
    (between_handles l _ _ e.between) (all_handles l (figure c.worked.new.figures) (e.still (never_stopped _ e.stopped))) _ c.spread.ensures
