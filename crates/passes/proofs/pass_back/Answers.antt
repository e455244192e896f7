-- `passes::pass_back` meets its contract. Assumes nothing.
use mathlib.Core.Path.{◌≡◌, refl, sym, ◌∙◌, ap}
use mathlib.Core.Bool.{◌||◌}
use mathlib.Core.List.{List, [], ◌∷◌, ◌++◌, append_assoc, append-nil}
use Prim.Native.Nat.{◌+◌}
use native.Mathlib.Omega.{arith}
use lib.ListN.{length, length-append}
use Rattle.passes.specs.declared.edge.Edge.{Edge}
use Rattle.passes.specs.Least.{Passed, Behind}
use Rattle.passes.specs.Listing.{start_at, end_at}
use Rattle.passes.proofs.Raising.{start, taken_at, noted, unnoted, next_behind, all_done}
use Rattle.passes.proofs.Listing.{at_seam}
use Rattle.passes.proofs.pass_back.Goals as goal
use Rattle.passes.proofs.pass_back.Goals.{After-taken}

pub loop-e-init : goal.loop-e-init
loop-e-init c = record { done = []; whole = sym (append-nil _); passed = start _ _ _ _ (Behind _ _) (λ i h. omega (arith, h.0, h.1)) }

-- the edges are those that are left, this one, and those that are done
parted : (c : After-taken) → c.args.edges.now ≡ c.in-Some.before.now ++ c.in-Some.e.now ∷ c.loop-e.invariant.done
parted c =
    let v = c.loop-e.invariant in
    v.whole ∙ ap (λ (l : List Edge). l ++ v.done) c.in-Some.ensures.cases.0 ∙ append_assoc c.in-Some.before.now (c.in-Some.e.now ∷ []) v.done

passed : (c : After-taken) → let es = c.args.edges.now in Passed (length es) (start_at es) (end_at es) c.args.figures.now c.taken.new.figures
    (Behind (length es) (length c.in-Some.before.now)) (c.loop-e.moved || c.taken.result)
passed c =
    let es = c.args.edges.now in
    let v = c.loop-e.invariant in
    let e = c.in-Some.e.now in
    let before = c.in-Some.before.now in
    let r = c.in-Some.ensures.cases in
    let q = parted c in
    let k : length es ≡ length before + length v.done + 1 = omega (arith, ap length q, length-append before (e ∷ v.done)) in
    taken_at _ _ _ _ _ (length before) _ _ _ v.passed (λ i h. next_behind _ _ _ i (sym r.1) h) e.from e.to _ _
    (at_seam (λ x. x.from) es before v.done e q) (at_seam (λ x. x.to) es before v.done e q) c.taken.ensures (omega (arith, k)) (omega (arith, v.passed.between.long, e.starts))

pub loop-e-preserved-then-taken : goal.loop-e-preserved-then-taken
loop-e-preserved-then-taken c =
    let a = (goal.at.loop-e-preserved-then-taken c).After-taken in
    record { done = c.in-Some.e.now ∷ c.loop-e.invariant.done; whole = parted a; passed = noted c.loop-e.moved c.if-taken.true refl (passed a) }

pub loop-e-preserved : goal.loop-e-preserved
loop-e-preserved c =
    let a = (goal.at.loop-e-preserved c).After-taken in
    record { done = c.in-Some.e.now ∷ c.loop-e.invariant.done; whole = parted a; passed = unnoted c.loop-e.moved c.if-taken.false refl (passed a) }

pub loop-e-smaller : goal.loop-e-smaller
loop-e-smaller c = omega (arith, c.in-Some.ensures.cases.1)

pub returns : goal.returns
returns c = all_done (λ i h. (omega (arith, c.in_default.ensures.cases), h)) c.loop-e.invariant.passed
