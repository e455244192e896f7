-- `mappings::is_lower` meets its contract. Assumes nothing.
use Rattle.std.proofs.Common.{rules, ◌≡◌}
use mathlib.Core.Bool.{true, false}
use borrow.Author.Tests.{tests}
use Rattle.std.proofs.lemmas.Iterator.{YieldsList-from_slice, YieldsList-from_zip, cases_from_any}
use Rattle.tables.proofs.Maps.{unmapped}
use Rattle.mappings.specs.Working.{sank_by}
use Rattle.mappings.proofs.Reading.{any_lower}
use Rattle.mappings.proofs.is_lower.Goals as goal

pub returns : goal.returns
returns c = let a = c.args in
    λ rest os hs. any_lower rest a.before a.after os hs c.any.result (search (rules, unmapped)) (search (rules, unmapped))
    (cases_from_any c.any.new.self _ c.any.result (λ p. sank_by p.0 p.1 ≡ true) (λ p. sank_by p.0 p.1 ≡ false) c.any.ensures.ran
    (YieldsList-from_zip (YieldsList-from_slice a.before cc) (YieldsList-from_slice a.after cc)) (λ x q k. search (rules, tests)) (λ x q k. search (rules, tests)))
