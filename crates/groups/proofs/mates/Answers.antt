-- `groups::mates` meets its contract. Assumes nothing.
use Rattle.groups.proofs.Counting.{but_own}
use Prim.Native.Nat.{◌%◌}
use native.Mathlib.Omega.{arith}
use borrow.Author.Rules.{rules}
use Rattle.groups.proofs.mates.Goals as goal

pub returns : goal.returns
returns c =
    λ a l.
    but_own c.args.subjects c.args.groups c.members-r.result (c.args.s % 32) a c.members-r.ensures (search rules) (omega arith) l
