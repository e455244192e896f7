-- `typed::pipeline` meets its contract. Assumes nothing.
use Rattle.std.proofs.Common.{◌-◌, ◌*◌, ◌∙◌, rules}
use Rattle.model.specs.Lists.{each}
use Rattle.lines.specs.Line.{all}
use Rattle.lines.specs.Calls.{pipe_call, close_call, exit_call}
use Rattle.typed.specs.Working.{Works}
use Rattle.typed.specs.Working.Laws.{works_then}
use Rattle.typed.proofs.Places.{same_many}
use Rattle.typed.proofs.Going.{pipeline_works}
use Rattle.typed.proofs.pipeline.Goals as goal

pub returns : goal.returns
returns c =
    let a = c.args in
    let f = a.first in
    let g = c.requires in
    let pipes : Works a.hand (each (a.n - 1) (pipe_call f.shell f.pipe)) c.each-joined.result = c.each-joined.ensures _ (λ h i k lt post. search rules) in
    let ends : Works c.stages.result (each (2 * (a.n - 1)) (close_call f.shell)) c.each.result = c.each.ensures _ (λ h i k lt post. search rules) in
    let leaves : Works c.each.result (each a.n (exit_call f.child)) c.each-2.result = c.each-2.ensures _ (λ h i k lt post. search rules) in
    λ p e w. pipeline_works f.shell f.child f.pipe (all p) a.n a.hand c.each-2.result (g.many ∙ same_many _ _ _ _ _ g.read w)
    (works_then (works_then (works_then pipes (c.stages.ensures p e w)) ends) leaves)
