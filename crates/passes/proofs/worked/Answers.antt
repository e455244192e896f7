-- `passes::worked` meets its contract. Assumes nothing.
use mathlib.Core.Path.{subst, sym}
use Prim.Native.Nat.{◌<◌}
use native.Mathlib.Omega.{arith}
use Rattle.std.specs.Prelude.{Option, IfSome, IsSomeAnd}
use Rattle.model.specs.Label.{◌⊑◌}
use Rattle.labels.specs.Codes.{coded}
use Rattle.passes.specs.declared.Target.{Target}
use Rattle.passes.specs.Least.{figure}
use Rattle.passes.proofs.Raising.{none_yet, then, falls, holds}
use Rattle.passes.proofs.worked.Goals as goal

pub loop-target-init : goal.loop-target-init
loop-target-init c = none_yet _ _ _ _

pub offset_bounds-figures-t : goal.offset_bounds-figures-t
offset_bounds-figures-t c =
    let l : c.in-Some.t.at < 96 = subst (λ (t : Option Target). IfSome t (λ z. z.at < 96)) c.in-Some.is c.requires in
    record { fits = omega arith }

pub bounds-figures-t : goal.bounds-figures-t
bounds-figures-t c = subst (λ (t : Option Target). IfSome t (λ z. z.at < 96)) c.in-Some.is c.requires

pub returns-then-is_at_most-clause-between : goal.returns-then-is_at_most-clause-between
returns-then-is_at_most-clause-between c = then _ _ _ _ _ _ _ c.loop-target.invariant c.pass.ensures

pub returns-then-is_at_most-clause-stopped : goal.returns-then-is_at_most-clause-stopped
returns-then-is_at_most-clause-stopped c = λ e. subst (λ (t : Option Target). IsSomeAnd t (λ z. coded z.enough ⊑ figure c.pass.new.figures z.at)) (sym c.in-Some.is)
    (holds c.is_at_most.ensures c.if-is_at_most.true)

pub returns-then-not-pass_back-clause-between : goal.returns-then-not-pass_back-clause-between
returns-then-not-pass_back-clause-between c = then _ _ _ _ _ _ _ (then _ _ _ _ _ _ _ c.loop-target.invariant c.pass.ensures) c.pass_back.ensures

pub loop-target-smaller : goal.loop-target-smaller
loop-target-smaller c = falls _ _ _ _ _ _ _ _ _ c.loop-target.invariant c.pass.ensures c.pass_back.ensures c.told-figures (λ x. omega (arith, c.fits-figures x)) c.if-not-pass.false

pub loop-target-preserved : goal.loop-target-preserved
loop-target-preserved c = then _ _ _ _ _ _ _ (then _ _ _ _ _ _ _ c.loop-target.invariant c.pass.ensures) c.pass_back.ensures
