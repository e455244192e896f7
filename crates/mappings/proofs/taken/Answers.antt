-- `mappings::taken` meets its contract. Assumes nothing.
use borrow.Author.Rules.{rules}
use Rattle.tables.proofs.Maps.{unmapped}
use Rattle.mappings.proofs.Reading.{taken_live, group_read}
use Rattle.mappings.proofs.taken.Goals as goal

pub returns : goal.returns
returns c =
    let a = c.args in record {
      tables = λ rest os hs d low k e. group_read rest a.subjects os hs a.groups a.s a.by.level a.by.shops d c.lowered-after.result c.members-members.result low k e
          (search (rules, unmapped)) (search (rules, unmapped)) c.members-members.ensures c.lowered-after.ensures;
      lower = c.is_lower.ensures;
      live = taken_live a.subjects c.lowered-after.result c.members-members.result a.by.level a.by.shops (search (rules, unmapped)) (search (rules, unmapped)) c.lowered-after.ensures;
    }
