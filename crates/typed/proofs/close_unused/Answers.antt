-- `typed::close_unused` meets its contract. Assumes nothing.
use Rattle.std.proofs.Common.{List, [], Bool, cond, sym, ap, ◌∙◌, subst}
use Rattle.model.specs.Calls.{Raw}
use Rattle.lines.specs.Calls.{close_call}
use Rattle.typed.specs.Working.{Works}
use Rattle.typed.specs.Working.Laws.{works_none}
use Rattle.typed.proofs.close_unused.Goals as goal

pub returns-then-is_used : goal.returns-then-is_used
returns-then-is_used c =
    let a = c.args in
    subst (λ (rs : List Raw). Works a.hand rs a.hand) (ap (λ (b : Bool). cond b [] (close_call a.child a.place)) (sym c.if-is_used.true ∙ c.is_used.ensures)) (works_none a.hand)

pub returns : goal.returns
returns c =
    let a = c.args in
    subst (λ (rs : List Raw). Works a.hand rs c.made.result) (ap (λ (b : Bool). cond b [] (close_call a.child a.place)) (sym c.if-is_used.false ∙ c.is_used.ensures)) c.made.ensures
