-- `inplace::put` meets its contract. Assumes nothing.
use Rattle.std.proofs.Common.{◌≡◌, ℕ, ◌+◌, ◌*◌, ◌<◌, set, ap, ◌∙◌, arith}
use Rattle.inplace.specs.Bytes.{handles_in}
use Rattle.inplace.specs.Bytes.Laws.{handles_stored}
use Rattle.inplace.proofs.put.Goals as goal

pub returns : goal.returns
returns c =
    let a = c.args in
    let i = c.slot_of-at.result in
    let l : i < 512 = omega (arith, c.slot_of-at.ensures) in
    let last : 3 * i + 2 ≡ 3 * i + 1 + 1 = omega arith in
    ap (λ (k : ℕ). handles_in (set (set (set a.handles.now (3 * i) a.h.way) (3 * i + 1) a.h.object) k a.h.mark)) last
    ∙ handles_stored a.handles.now i a.h c.told-handles l ∙ ap (λ (j : ℕ). set (handles_in a.handles.now) j a.h) c.slot_of-at.ensures
