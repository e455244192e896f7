-- `groups::members` meets its contract. Assumes nothing.
use Rattle.std.proofs.Common.{rules, ◌%◌}
use mathlib.Core.Bool.{false}
use Rattle.tables.proofs.Making.{made}
use Rattle.groups.specs.Groups.{kin_of}
use Rattle.groups.proofs.members.Goals as goal

pub returns : goal.returns
returns c = let a = c.args in λ b l. made c.from_fn.ensures.items (kin_of a.subjects a.groups (a.s % 32)) (λ i r f k. search rules) b l false
