-- `stored::store` meets its contract. Assumes nothing.
use Rattle.std.proofs.Common.{sym, ap, ap₂, ◌∙◌, subst, List, ℕ, length}
use Rattle.gatekeeper.specs.View.{view, Right, Whole}
use Rattle.stored.specs.State.{bytes_of, monitor_of, tally_of, subject_bytes, object_bytes, handle_bytes, need_bytes, number_bytes, group_bytes}
use Rattle.stored.specs.State.Laws.{bytes_length, view_back, right_back, whole_back, tally_back, bytes_again}
use Rattle.stored.proofs.Owned.{monitor_long, monitor_slim, tally_fits}
use Rattle.stored.proofs.Storing.{laid_whole, both_flat}
use Rattle.stored.proofs.store.Goals as goal

pub returns : goal.returns
unfolding subject_bytes object_bytes handle_bytes need_bytes number_bytes group_bytes
returns c =
    let m = c.args.monitor in
    let y = c.args.tally in
    let long = monitor_long m c.well_formed.1.0 in
    let slim = monitor_slim m c.well_formed.1.0 in
    let fits = tally_fits y c.well_formed.1.1.0 in
    let is =
    laid_whole m y long c.args.state.now c.told-state _ _ _ _ _ _ _
    c.store_part.ensures
    c.store_part-2.ensures
    c.store_part-3.ensures
    (c.store_part-4.ensures ∙ both_flat y.made y.gone _)
    c.store_part-5.ensures
    c.store_part-6.ensures
    c.store_part-7.ensures in
    record {
      size = ap length is ∙ bytes_length m y long;
      bytes = is;
      again = is ∙ bytes_again m y long slim fits ∙ ap₂ bytes_of (ap monitor_of (sym is)) (ap tally_of (sym is));
      tables = ap (λ (s : List ℕ). view (monitor_of s)) is ∙ view_back m y long slim;
      right = λ r. subst (λ (s : List ℕ). Right (monitor_of s)) (sym is) (right_back m y long slim r);
      whole = λ w. subst (λ (s : List ℕ). Whole (monitor_of s)) (sym is) (whole_back m y long slim w);
      tally = ap tally_of is ∙ tally_back m y long fits;
    }
