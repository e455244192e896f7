-- `groups::lowered` meets its contract. Assumes nothing.
use Rattle.std.proofs.Common.{rules, get_or}
use mathlib.Core.Bool.{false}
use Rattle.tables.specs.Records.{no_subject}
use Rattle.tables.proofs.Making.{made}
use Rattle.groups.specs.Groups.{taken_by}
use Rattle.groups.proofs.lowered.Goals as goal

pub returns : goal.returns
returns c = let a = c.args in
    λ b l. made c.from_fn.ensures.items (λ i. taken_by (get_or a.subjects i no_subject) (get_or a.takes i false) a.label.level a.label.shops) (λ i r f k. search rules) b l no_subject
