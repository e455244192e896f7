-- `keeping::sunk` meets its contract. Assumes nothing.
use mathlib.Core.Path.{◌≡◌, sym, subst}
use mathlib.Core.Bool.{Bool}
use borrow.Author.Rules.{rules}
use Prim.Native.Nat.{ℕ}
use native.Mathlib.Omega.{arith}
use lib.ListN.{length}
use Rattle.model.specs.Label.{◌⊑◌}
use Rattle.labels.specs.Codes.{coded}
use Rattle.tables.proofs.Maps.{unmapped}
use Rattle.groups.specs.Groups.{Leads}
use Rattle.passes.specs.Least.{figure}
use Rattle.passes.proofs.Raising.{one_more, holds}
use Rattle.passes.proofs.Listing.{sliced, between_handles, all_handles}
use Rattle.keeping.proofs.Closing.{stopped_kept, worked_out, source_low}
use Rattle.keeping.proofs.sunk.Goals as goal

-- one pass says that the flow's source needs as much

pub offset_bounds-needs-at : goal.offset_bounds-needs-at
offset_bounds-needs-at c = record { fits = omega (arith, source_low c.args.h c.of.result _ c.source-at.ensures) }

pub bounds-needs-at : goal.bounds-needs-at
bounds-needs-at c = source_low c.args.h c.of.result _ c.source-at.ensures

pub returns-then-is_at_most : goal.returns-then-is_at_most
returns-then-is_at_most c =
    let a = c.args in
    let l : length a.objects ≡ 64 = search (c.well_formed.1.1.1.0, rules, unmapped) in
    let g = sliced c.listed-edges.ensures c.deref.ensures.0 in
    λ rest t p j w e q k m. stopped_kept rest a.subjects a.objects a.handles l a.n t a.s p a.h w e k q
    c.leads-leads.result (subst (λ (r : ℕ → ℕ → Bool). Leads r c.leads-leads.result) (sym j) c.leads-leads.ensures)
    c.starts-needs.result c.pass_back.new.figures c.starts-needs.ensures
    (between_handles g _ _ c.pass_back.ensures.between) c.of.result c.source-at.result c.of.ensures c.source-at.ensures
    (subst (λ (v : ℕ). coded v ⊑ figure c.pass_back.new.figures c.source-at.result) m (holds c.is_at_most.ensures c.if-is_at_most.true))

pub worked-requires : goal.worked-requires
worked-requires c = source_low c.args.h c.of.result _ c.source-at.ensures

pub returns-then-worked : goal.returns-then-worked
returns-then-worked c =
    let a = c.args in
    let l : length a.objects ≡ 64 = search (c.well_formed.1.1.1.0, rules, unmapped) in
    let f = c.worked.ensures in
    let g = sliced c.listed-edges.ensures c.deref.ensures.0 in
    let h = sliced c.listed-edges.ensures c.deref-2.ensures.0 in
    λ rest t p j w q z k m. worked_out rest a.subjects a.objects a.handles l a.n t a.s p a.h w q k z
    c.leads-leads.result (subst (λ (r : ℕ → ℕ → Bool). Leads r c.leads-leads.result) (sym j) c.leads-leads.ensures)
    c.starts-needs.result c.worked.new.figures c.starts-needs.ensures
    (one_more _ _ _ _ _ _ (between_handles g _ _ c.pass_back.ensures.between) (between_handles h _ _ f.between))
    (all_handles h (figure c.worked.new.figures) (f.still c.if-worked.true)) _ c.spread.ensures

pub returns : goal.returns
returns c =
    let a = c.args in
    let l : length a.objects ≡ 64 = search (c.well_formed.1.1.1.0, rules, unmapped) in
    let f = c.worked.ensures in
    let g = sliced c.listed-edges.ensures c.deref.ensures.0 in
    let h = sliced c.listed-edges.ensures c.deref-2.ensures.0 in
    λ rest t p j w e q k m. stopped_kept rest a.subjects a.objects a.handles l a.n t a.s p a.h w e k q
    c.leads-leads.result (subst (λ (r : ℕ → ℕ → Bool). Leads r c.leads-leads.result) (sym j) c.leads-leads.ensures)
    c.starts-needs.result c.worked.new.figures c.starts-needs.ensures
    (one_more _ _ _ _ _ _ (between_handles g _ _ c.pass_back.ensures.between) (between_handles h _ _ f.between)) c.of.result c.source-at.result c.of.ensures c.source-at.ensures
    (subst (λ (v : ℕ). coded v ⊑ figure c.worked.new.figures c.source-at.result) m (f.stopped c.if-worked.false))
