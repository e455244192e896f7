-- `typed::stage` meets its contract. Assumes nothing.
use Rattle.std.proofs.Common.{◌≡◌, ℕ, ◌*◌, rules, subst}
use Rattle.model.specs.Lists.{each}
use Rattle.lines.specs.Calls.{unused_call, open_call, stage_calls}
use Rattle.lines.specs.Told.{optional, stage_of}
use Rattle.typed.specs.Working.{Works, raws_of}
use Rattle.typed.specs.Working.Laws.{works_then}
use Rattle.typed.proofs.Places.{opens_by}
use Rattle.typed.proofs.stage.Goals as goal

pub returns : goal.returns
returns c =
    let a = c.args in
    let child = c.nth_child-child.result in
    let closes : Works c.made.result (each (2 * a.pipes) (unused_call child a.i)) c.each.result = c.each.ensures _ (λ h place k lt post. search rules) in
    let from : raws_of c.map.result ≡ open_call 5 child 14 (optional a.s.from) = opens_by a.s.from c.map.result c.map.ensures.cases 5 child 14 (λ x r p. search rules) in
    let into : raws_of c.map-2.result ≡ open_call 6 child 15 (optional a.s.into) = opens_by a.s.into c.map-2.result c.map-2.ensures.cases 6 child 15 (λ x r p. search rules) in
    subst (λ (n : ℕ). Works a.hand (stage_calls a.first.shell a.pipes a.i n (stage_of a.s)) c.made-2.result) c.nth_child-child.ensures
    (works_then (works_then (works_then (works_then c.made.ensures closes) (rw from at c.perhaps.ensures)) (rw into at c.perhaps-2.ensures)) c.made-2.ensures)
