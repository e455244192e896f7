-- `run::run` meets its contract. Assumes nothing.
use mathlib.Core.Path.{◌≡◌, refl, ◌∙◌, subst}
use Prim.Native.Nat.{ℕ, ◌+◌, ◌*◌, ◌/◌}
use native.Mathlib.Omega.{arith}
use borrow.Author.Rules.{rules}
use lib.ListN.{length, set, length-set}
use Rattle.answers.specs.Telling.{told}
use Rattle.gatekeeper.specs.View.{view}
use Rattle.gatekeeper.specs.View.Laws.{honest_tidy}
use Rattle.run.specs.Buffers.{lesser}
use Rattle.run.specs.Buffers.Laws.{min_lesser, lesser_left, lesser_right, SoFar, so_far_none, so_far_more, run_demand3}
use Rattle.run.proofs.run.Goals as goal

pub loop-i-init : goal.loop-i-init
loop-i-init c =
    let a = c.args in
    let fits : c.min-n.result ≡ lesser (length a.calls.now / 7) (length a.out.now / 3) = c.min-n.ensures ∙ min_lesser _ _ in
    (omega arith, omega (arith, lesser_left (length a.calls.now / 7) (length a.out.now / 3)), omega (arith, lesser_right (length a.calls.now / 7) (length a.out.now / 3)), refl, so_far_none a.calls.now a.out.now (view c.empty-m.result) c.empty-m.ensures.tables, c.empty-m.ensures.needs, c.empty-m.ensures.honest, c.empty-m.ensures.sure)

pub overflow_add-out : goal.overflow_add-out
overflow_add-out c = let g = c.well_formed in search (g, rules)

pub bounds-out-to-in-loop-i : goal.bounds-out-to-in-loop-i
bounds-out-to-in-loop-i c = let l = c.loop-i in omega (arith, length-set l.out (l.i * 3) c.letter.result, l.invariant.2, l.invariant.3)

pub overflow_add-out-in-loop-i : goal.overflow_add-out-in-loop-i
overflow_add-out-in-loop-i c = let g = c.well_formed in search (g, rules)

pub bounds-out-to-in-loop-i-2 : goal.bounds-out-to-in-loop-i-2
bounds-out-to-in-loop-i-2 c =
    let l = c.loop-i in
    let first = set l.out (l.i * 3) c.letter.result in
    omega (arith, length-set first (l.i * 3 + 1) c.value.result, length-set l.out (l.i * 3) c.letter.result, l.invariant.2, l.invariant.3)

pub loop-i-preserved : goal.loop-i-preserved
loop-i-preserved c =
    let l = c.loop-i in
    let a = c.args in
    let k = c.call-r in
    let t = c.loop-i-test.true in
    let h = l.invariant.6 in
    let letter = c.letter in
    let value = c.value in
    let lost = c.lost in (
      omega (arith, t),
      l.invariant.1,
      l.invariant.2,
      length-set (set (set l.out (l.i * 3) letter.result) (l.i * 3 + 1) value.result) (l.i * 3 + 2) lost.result
          ∙ length-set (set l.out (l.i * 3) letter.result) (l.i * 3 + 1) value.result
          ∙ length-set l.out (l.i * 3) letter.result
          ∙ l.invariant.3,
      so_far_more a.calls.now a.out.now l.out l.i l.m k.result.monitor (told k.result.answer) (omega (arith, t, l.invariant.2)) l.invariant.4 h k.ensures
          letter.result value.result lost.result letter.ensures value.ensures lost.ensures,
      k.ensures.kept (honest_tidy l.m h) l.invariant.5,
      k.ensures.stays h,
      k.ensures.says (honest_tidy l.m h) ∙ l.invariant.7,
    )

pub returns : goal.returns
returns c =
    let l = c.loop-i in
    let all : l.i ≡ c.min-n.result = omega (arith, l.invariant.0, c.loop-i-test.false) in
    let s = l.invariant.4 in
    let a = c.args in
    let so : SoFar a.calls.now a.out.now l.out c.min-n.result (view l.m) = subst (λ (j : ℕ). SoFar a.calls.now a.out.now l.out j (view l.m)) all s in
    record {
      made = c.min-n.ensures ∙ min_lesser _ _;
      written = so.written;
      demand3 = run_demand3 _ _ _ _ _ so;
      right = l.invariant.5;
      honest = l.invariant.6;
      sure = l.invariant.7;
    }
