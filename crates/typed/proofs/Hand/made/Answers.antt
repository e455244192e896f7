-- `typed::Hand::made` meets its contract. Assumes nothing.
use Rattle.std.proofs.Common.{Bool, not, ◌||◌, ap}
use Rattle.answers.specs.Telling.{told}
use Rattle.gatekeeper.specs.View.{direct_of}
use Rattle.typed.specs.Working.{raw_of}
use Rattle.typed.specs.Working.Laws.{works_one, works_as}
use Rattle.typed.proofs.Hand.made.Goals as goal

pub returns : goal.returns
returns c =
    let a = c.args in
    let n = c.coded-coded in
    let k = c.counted_call-counted in
    works_as (direct_of n.result) (raw_of a.call) n.ensures
    (works_one a.self _ _ (told k.result.reply.answer) k.ensures.0 k.ensures.1 c.counted.ensures (ap (λ (b : Bool). a.self.moved || not b) c.is_refused.ensures))
