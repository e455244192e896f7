-- `keeping::opened` meets its contract. Assumes nothing.
use mathlib.Core.Path.{◌≡◌, sym, ◌∙◌, ap, subst}
use mathlib.Core.Bool.{not}
use borrow.Author.Rules.{rules}
use Prim.Native.Nat.{◌+◌, ◌%◌}
use lib.ListN.{length, get_or}
use Rattle.model.specs.Flow.{object}
use Rattle.model.specs.Tables.{Tables, safe}
use Rattle.tables.proofs.Maps.{unmapped}
use Rattle.tables.specs.Records.Laws.{slot_low}
use Rattle.model.specs.Invariant.{Wf}
use Rattle.model.specs.Figures.{Ready}
use Rattle.tables.specs.Records.{reads_by}
use Rattle.tables.specs.Needs.{figure_of}
use Rattle.labels.specs.Codes.{coded}
use Rattle.passes.specs.Working.{falls_by}
use Rattle.keeping.proofs.Closing.{anew}
use Rattle.keeping.proofs.Opens.{opened_wf, quiet_ready, quiet_safe, quiet_parts}
use Rattle.keeping.proofs.opened.Goals as goal

pub returns-then-is_quiet : goal.returns-then-is_quiet
returns-then-is_quiet c =
    let a = c.args in
    let l : length a.objects ≡ 64 = search (rules, unmapped) in
    let z = quiet_parts c.is_quiet.result a.sure (falls_by (reads_by a.h.way) (coded (get_or a.n (a.s % 32) 0)) (coded (get_or a.n (32 + a.h.object % 64) 0)))
    c.is_quiet.ensures c.if-is_quiet.true in
    λ rest t p m w e v q k. let f = k z.0 in let o = slot_low rest a.subjects a.objects a.handles l t a.h.object (ap (λ (u : Tables). u.at (object a.h.object)) q) e.to in (
      subst (λ (u : Tables). Ready u (figure_of a.n)) (sym q) (quiet_ready a.n t a.s p a.h w e v f o z.1),
      λ g. quiet_safe a.n t a.s p a.h w e v f o z.1 (g z.0) ∙ ap (λ (u : Tables). not (safe u)) (sym q),
    )

pub returns : goal.returns
returns c =
    let a = c.args in
    λ rest t p m w e v q k. let u = subst Wf (sym q) (opened_wf t a.s p a.h w e) in
    let r = anew rest a.subjects a.objects a.handles _ (c.figures-needs.ensures rest m u) in
    (r, λ g. c.is_short-short.ensures rest a.handles u r)
