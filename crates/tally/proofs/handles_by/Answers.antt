-- `tally::handles_by` meets its contract. Assumes nothing.
use Rattle.std.proofs.Common.{◌≡◌, List, sym, ap, ◌∙◌, subst}
use Rattle.model.specs.Tables.{clean}
use Rattle.model.proofs.Invariant.Laws.{clean_same}
use Rattle.tables.specs.declared.Object.{Object}
use Rattle.tables.specs.Records.{tables_of}
use Rattle.gatekeeper.specs.declared.Monitor.{Monitor}
use Rattle.gatekeeper.specs.View.{beside, slots, once}
use Rattle.gatekeeper.proofs.Owned.{owned_long}
use Rattle.gatekeeper.proofs.Numbered.{once_same}
use Rattle.tally.proofs.Counting.{hands_are}
use Rattle.tally.proofs.handles_by.Goals as goal

pub returns-then-monitor-eq-SURE : goal.returns-then-monitor-eq-SURE
returns-then-monitor-eq-SURE c =
    let m = c.args.monitor in
    λ h s p. let k = h c.if-monitor-eq-SURE.true in
    hands_are (beside m) m.subjects m.objects m.handles m.handles (sym (clean_same (slots m) k.1.wf)) s p
    ∙ ap (λ (n : Monitor). (clean (slots n)).hand s p) (sym (once_same m (owned_long m c.well_formed.0).objects k.0))

pub returns : goal.returns
returns c =
    let m = c.args.monitor in
    λ h. hands_are (beside (once m)) m.subjects (once m).objects m.handles c.cleaned.result
    (subst (λ (os : List Object). tables_of (beside (once m)) m.subjects os c.cleaned.result ≡ clean (tables_of (beside (once m)) m.subjects os m.handles))
    c.single-single.ensures (c.cleaned.ensures (beside (once m))))
