-- `host::gatekeeper_empty` meets its contract. Assumes nothing.
use Rattle.std.proofs.Common.{◌≡◌, ℕ, List, length, ◌∙◌, ap}
use Rattle.std.proofs.Math.ListN.{replicate, set}
use Rattle.stored.specs.State.{state_bytes, freeze_at, blank_bytes}
use Rattle.stored.specs.State.Laws.{zeros_set, bytes_blank}
use Rattle.std.specs.Array.{IsWholeChunk}
use Rattle.host.proofs.Sizing.{sized_by}
use Rattle.host.proofs.gatekeeper_empty.Goals as goal

blank : {s t u : List ℕ} → IsWholeChunk s t state_bytes → u ≡ replicate (length t) 0 → set u freeze_at 16 ≡ blank_bytes
blank k e = zeros_set _ (e ∙ ap (λ n. replicate n 0) (ap length k.same ∙ k.long))

pub returns-clause-buffer : goal.returns-clause-buffer
returns-clause-buffer c = let k = c.in-Some.ensures.cases in sized_by (λ _. blank_bytes) _ k (blank k (c.fill.ensures.after (λ y e. e)))

pub returns-clause-tables : goal.returns-clause-tables
returns-clause-tables c = λ _. bytes_blank _ (blank c.in-Some.ensures.cases (c.fill.ensures.after (λ y e. e)))
