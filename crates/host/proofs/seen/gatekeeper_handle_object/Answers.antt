-- `host::seen::gatekeeper_handle_object` meets its contract. Assumes nothing.
use Rattle.std.proofs.Common.{sym, ◌∙◌}
use Rattle.model.specs.Tables.{clean}
use Rattle.stored.specs.State.{state_view, numbers_of}
use Rattle.host.specs.Numbers.{seen_object}
use Rattle.host.proofs.Sizing.{array_sized, sized_by}
use Rattle.host.proofs.Seeing.{handle_none, handle_object}
use Rattle.host.proofs.seen.gatekeeper_handle_object.Goals as goal

pub returns-then-k-eq-EMPTY : goal.returns-then-k-eq-EMPTY
returns-then-k-eq-EMPTY c =
    let k = c.in-Some.ensures.cases in
    sized_by (λ u. seen_object ((clean (state_view u)).hand c.args.s c.args.p)) 0 k
    (sym (handle_none _ (array_sized k) c.args.s c.args.p c.kept_in-k.result c.kept_in-k.ensures c.if-k-eq-EMPTY.true))

pub returns : goal.returns
unfolding numbers_of
returns c =
    let k = c.in-Some.ensures.cases in
    sized_by (λ u. seen_object ((clean (state_view u)).hand c.args.s c.args.p)) 0 k
    (c.one_in.ensures 0 ∙ sym (handle_object _ (array_sized k) c.args.s c.args.p c.kept_in-k.result c.kept_in-k.ensures c.if-k-eq-EMPTY.false))
