-- `inplace::record_in` meets its contract. Assumes nothing.
use Rattle.std.proofs.Common.{◌≡◌, ℕ, ◌+◌, ◌*◌, get_or, ap, ◌∷◌, [], arith}
use Rattle.inplace.proofs.record_in.Goals as goal

pub returns : goal.returns
returns g c =
    let b = c.args.part.now in
    let at = 3 * c.args.i in
    let last : at + 2 ≡ at + 1 + 1 = omega arith in ap (λ (k : ℕ). get_or b at 0 ∷ get_or b (at + 1) 0 ∷ get_or b k 0 ∷ []) last
