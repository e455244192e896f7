-- `host::seen::gatekeeper_frozen_from` meets its contract. Assumes nothing.
use Rattle.std.proofs.Common.{◌∙◌, ◌≡◌, ℕ, min, arith}
use Rattle.std.proofs.lemmas.Grind.{common_steps}
use Rattle.stored.specs.State.{freeze_of}
use Rattle.host.specs.Numbers.{seen_freeze}
use Rattle.host.proofs.Sizing.{sized_by}
use Rattle.host.proofs.seen.gatekeeper_frozen_from.Goals as goal

seen : (n : ℕ) → min n 16 ≡ seen_freeze n
seen n = grind (arith, common_steps)

pub returns : goal.returns
unfolding freeze_of
returns c = sized_by (λ u. seen_freeze (freeze_of u)) 0 c.in-Some.ensures.cases (c.from.ensures ∙ c.min.ensures ∙ seen _)
