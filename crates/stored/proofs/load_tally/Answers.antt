-- `stored::load_tally` meets its contract. Assumes nothing.
use Rattle.std.proofs.Common.{◌≡◌, ◌-◌, ◌∙◌, List, ℕ, ap, get_or, take, drop, arith, drop-drop}
use Rattle.stored.specs.State.{records, whole, made_of, gone_of, made_at, state_bytes}
use Rattle.stored.specs.State.Laws.{getD_records}
use Rattle.stored.proofs.Loading.{in_part}
use Rattle.stored.proofs.load_tally.Goals as goal

pub returns : goal.returns
unfolding made_of gone_of
returns c =
    let s : List ℕ = c.args.state.now in
    let both : c.load_part.result ≡ records whole 8 2 (drop made_at s) = c.load_part.ensures ∙ in_part _ _ _ made_at (state_bytes - made_at) s c.told-state in
    let made : get_or c.load_part.result 0 0 ≡ made_of s = ap (λ l. get_or l 0 0) both ∙ getD_records whole 8 2 (drop made_at s) 0 0 (omega arith) in
    let gone : get_or c.load_part.result 1 0 ≡ gone_of s = ap (λ l. get_or l 1 0) both ∙ getD_records whole 8 2 (drop made_at s) 1 0 (omega arith) ∙ ap (λ l. whole (take 8 l)) (drop-drop 8 made_at s) in
    λ i. record { made = made i; gone = gone i }
