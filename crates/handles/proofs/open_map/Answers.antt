-- `handles::open_map` meets its contract. Assumes nothing.
use Rattle.std.proofs.Common.{◌≡◌, arith, get_or}
use Rattle.tables.specs.declared.Handle.{Handle}
use Rattle.tables.specs.Records.{no_handle}
use borrow.Author.Tests.{eq-eqb, ne_eqb}
use Rattle.handles.proofs.Hitting.{hits_none, hits_pass, hits_more}
use Rattle.handles.proofs.Ending.{on_none}
use Rattle.handles.proofs.open_map.Goals as goal
use Rattle.handles.proofs.open_map.Goals.{then-h-ne-EMPTY+then-h, else-h-ne-EMPTY, else-h-ne-EMPTY-via-then-h-ne-EMPTY+else-h, else-h-ne-EMPTY-via-else-h-ne-EMPTY}

pub loop-h-init : goal.loop-h-init
loop-h-init c = hits_none _ 64

pub loop-h-preserved : goal.loop-h-preserved
loop-h-preserved c = let h : Handle = get_or c.args.handles c.loop-h.h-index no_handle in elim c.if-h-ne-EMPTY.branch [
  | then-h-ne-EMPTY+then-h w ↦ rw w.r-is (hits_more _ 64 _ _ h.object (λ x l. rw (ne_eqb h.way 0 w.if-h-ne-EMPTY.true)) c.loop-h.invariant)
  | else-h-ne-EMPTY w ↦ rw w.r-is (hits_pass _ 64 _ _ (λ x l. elim w.else-h-ne-EMPTY.branch [
    | else-h-ne-EMPTY-via-then-h-ne-EMPTY+else-h v ↦ on_none h x l v.if-h.false
    | else-h-ne-EMPTY-via-else-h-ne-EMPTY v ↦ rw (eq-eqb h.way 0 v.if-h-ne-EMPTY.false)
  ]) c.loop-h.invariant)
]

pub returns : goal.returns
returns c = let e : c.loop-h.h-index ≡ 512 = omega arith in rw e at c.loop-h.invariant
