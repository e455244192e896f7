-- `mappings::readers` meets its contract. Assumes nothing.
use Rattle.std.proofs.Common.{◌≡◌, arith, get_or, ◌/◌, ◌%◌}
use borrow.Author.Tests.{eq-eqb, ne_eqb}
use Rattle.tables.specs.declared.Handle.{Handle}
use Rattle.tables.specs.Records.{no_handle}
use Rattle.handles.proofs.Hitting.{hits_none, hits_pass, hits_more}
use Rattle.mappings.proofs.readers.Goals as goal
use Rattle.mappings.proofs.readers.Goals.{then-h-eq-MAPS+then-h-o, else-h-eq-MAPS, else-h-eq-MAPS-via-then-h-eq-MAPS+else-h-o, else-h-eq-MAPS-via-else-h-eq-MAPS}

pub loop-i-init : goal.loop-i-init
loop-i-init c = hits_none _ 32

pub loop-i-preserved : goal.loop-i-preserved
loop-i-preserved c =
    let h : Handle = get_or c.args.handles c.loop-i.i no_handle in
    elim c.if-h-eq-MAPS.branch [
      | then-h-eq-MAPS+then-h-o w ↦ rw w.r-is (hits_more _ 32 _ _ (get_or c.args.leads (c.loop-i.i / 16) 0 % 32)
          (λ s l. rw (eq-eqb h.way 3 w.if-h-eq-MAPS.true, eq-eqb h.object c.args.o w.if-h-o.true)) c.loop-i.invariant)
      | else-h-eq-MAPS w ↦ rw w.r-is (hits_pass _ 32 _ _ (λ s l. elim w.else-h-eq-MAPS.branch [
        | else-h-eq-MAPS-via-then-h-eq-MAPS+else-h-o v ↦ rw (eq-eqb h.way 3 v.if-h-eq-MAPS.true, ne_eqb h.object c.args.o v.if-h-o.false)
        | else-h-eq-MAPS-via-else-h-eq-MAPS v ↦ rw (ne_eqb h.way 3 v.if-h-eq-MAPS.false)
      ]) c.loop-i.invariant)
    ]

pub returns : goal.returns
returns c = let e : c.loop-i.i ≡ 512 = omega arith in rw e at c.loop-i.invariant
