-- `groups::taken` meets its contract. Assumes nothing.
use Rattle.std.proofs.Common.{◌≡◌, arith, get_or}
use borrow.Author.Tests.{eq-eqb, ne_eqb}
use Rattle.tables.specs.declared.Subject.{Subject}
use Rattle.tables.specs.Records.{no_subject}
use Rattle.handles.proofs.Hitting.{hits_none, hits_pass, hits_more}
use Rattle.groups.proofs.taken.Goals as goal
use Rattle.groups.proofs.taken.Goals.{then-x-ne0, else-x-ne0}

pub loop-s-init : goal.loop-s-init
loop-s-init c = hits_none _ 256

pub loop-s-preserved : goal.loop-s-preserved
loop-s-preserved c = let x : Subject = get_or c.args.subjects c.loop-s.s no_subject in elim c.if-x-ne0.branch [
  | then-x-ne0 w ↦ rw w.r-is (hits_more _ 256 _ _ (get_or c.args.groups c.loop-s.s 0) (λ v l. rw (ne_eqb x.live 0 w.if-x-ne0.true)) c.loop-s.invariant)
  | else-x-ne0 w ↦ rw w.r-is (hits_pass _ 256 _ _ (λ v l. rw (eq-eqb x.live 0 w.if-x-ne0.false)) c.loop-s.invariant)
]

pub returns : goal.returns
returns c = let e : c.loop-s.s ≡ 32 = omega arith in rw e at c.loop-s.invariant
