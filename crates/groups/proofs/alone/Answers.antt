-- `groups::alone` meets its contract. Assumes nothing.
use Prim.Native.Nat.{◌%◌}
use native.Mathlib.Omega.{arith}
use borrow.Author.Rules.{rules}
use Rattle.tables.proofs.Maps.{unmapped}
use Rattle.groups.proofs.Leaving.{own_left, left_alone}
use Rattle.groups.proofs.alone.Goals as goal

pub returns : goal.returns
returns c =
    let a = c.args in record {
      tables = λ rest os low k. left_alone a.subjects c.ousted.result a.groups a.handles c.closed.result c.shed.result c.mates-gone.result a.s low
          (search (rules, unmapped)) (search (rules, unmapped)) (search rules) c.mates-gone.ensures c.ousted.ensures c.closed.ensures c.shed.ensures rest os k;
      own = own_left a.subjects c.ousted.result a.groups c.mates-gone.result (a.s % 32) (omega arith) c.mates-gone.ensures c.ousted.ensures;
    }
