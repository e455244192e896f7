-- `host::seen::gatekeeper_handle` meets its contract. Assumes nothing.
use Rattle.std.proofs.Common.{◌∙◌, ◌≡◌, Bool, true, false, not, refl, ℕ, cond, eqb}
use mir.Val.{bool_byte}
use Rattle.model.specs.Tables.{clean}
use Rattle.stored.specs.State.{state_view}
use Rattle.host.specs.Numbers.{seen_handle}
use Rattle.host.proofs.Sizing.{array_sized, sized_by}
use Rattle.host.proofs.Seeing.{handle_empty, handle_some}
use Rattle.host.proofs.seen.gatekeeper_handle.Goals as goal

-- a mark as a number
mark : (n : ℕ) (b : Bool) → eqb n 0 ≡ b → bool_byte (not b) ≡ cond b 0 1
mark n true e = refl
mark n false e = refl

pub returns-then-k-eq-EMPTY : goal.returns-then-k-eq-EMPTY
returns-then-k-eq-EMPTY c =
    let k = c.in-Some.ensures.cases in
    sized_by (λ u. seen_handle ((clean (state_view u)).hand c.args.s c.args.p)) 0 k
    (handle_empty _ (array_sized k) c.args.s c.args.p c.kept_in-k.result c.kept_in-k.ensures c.if-k-eq-EMPTY.true)

pub returns : goal.returns
returns c =
    let k = c.in-Some.ensures.cases in
    let h = c.kept_in-k.result in
    sized_by (λ u. seen_handle ((clean (state_view u)).hand c.args.s c.args.p)) 0 k
    (c.packed.ensures ∙ handle_some _ (array_sized k) c.args.s c.args.p h c.kept_in-k.ensures _ _ c.if-k-eq-EMPTY.false (c.from.ensures ∙ mark h.mark (eqb h.mark 0) refl) c.way_number.ensures)
