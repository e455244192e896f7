-- `flows::some_short` meets its contract. Assumes nothing.
use mathlib.Core.Path.{◌∙◌}
use mathlib.Core.Bool.{◌||◌}
use Rattle.std.proofs.Common.{rules, tests}
use Rattle.std.proofs.lemmas.Iterator.{YieldsList-from_slice, YieldsList-from_zip}
use Rattle.std.proofs.lemmas.Iterator.Consumers.{fold_from_yields_List}
use Rattle.labels.specs.Codes.{coded}
use Rattle.flows.proofs.Short.{folded_below}
use Rattle.flows.proofs.some_short.Goals as goal

pub returns : goal.returns
returns g c =
    let xs = c.args.things.now in
    let n = c.args.n.now in
    let short = g.T.Labelled.short in
    record {
      by_index = λ d l. fold_from_yields_List _ (λ some p. some || short p.0 (coded p.1)) _ _ c.fold.ensures.ran
          (YieldsList-from_zip (YieldsList-from_slice xs cc) (YieldsList-from_slice n cc))
          (λ a x b q k. search (rules, tests))
          ∙ folded_below (λ x v. short x (coded v)) xs n d 0 l;
    }
