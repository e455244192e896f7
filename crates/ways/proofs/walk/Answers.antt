-- `ways::walk` meets its contract. Assumes nothing.
use mathlib.Core.Path.{◌≡◌, refl, subst, sym}
use Prim.Native.Nat.{ℕ, ◌+◌, ◌≤◌}
use native.Mathlib.Omega.{arith}
use lib.ListN.{get_or, length-set}
use Rattle.std.proofs.lemmas.List.{get_or-map}
use Rattle.passes.specs.Listing.{end_at}
use Rattle.ways.specs.Near.{figure, there}
use Rattle.ways.proofs.Walking.{walk_more}
use Rattle.ways.proofs.walk.Goals as goal

pub loop-i-init : goal.loop-i-init
loop-i-init c = record { low = c.requires.low; so_far = omega arith; long = omega arith; walked = there refl }

pub loop-i-preserved : goal.loop-i-preserved
loop-i-preserved c =
    let p = c.requires in
    let s = c.in-Some.ensures in
    let es = c.args.arcs.now in
    let d = c.args.dist.now in
    let i = c.in-Some.i in
    let at = c.loop-i.at in
    let v = c.loop-i.invariant in
    let e = get_or es i c.index-arcs-i.result in
    let t : e.to ≡ end_at es i = sym (get_or-map (λ x. x.to) es i c.index-arcs-i.result 0 (omega (arith, s.low, c.told-arcs))) in
    let h : figure d at ≤ figure d (end_at es i) + 1 = subst (λ (y : ℕ). figure d y ≤ figure d (end_at es i) + 1) s.leaves (p.sloped.settled i s.low) in
    record {
      low = e.ends;
      so_far = rw t (omega (arith, s.nearer, h, v.so_far));
      long = simp length-set v.long;
      walked = rw t (walk_more _ _ _ c.loop-i.steps _ _ c.loop-i.count _ v.walked (omega (arith, v.long, s.nearer, v.so_far, p.near)) s);
    }
