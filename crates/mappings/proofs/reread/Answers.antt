-- `mappings::reread` meets its contract. Assumes nothing.
use mathlib.Core.Path.{refl, ◌∙◌}
use borrow.Author.Rules.{rules}
use Rattle.tables.proofs.Maps.{unmapped}
use Rattle.mappings.proofs.Reading.{readers_lead, pipe_unread, file_read, taken_live}
use Rattle.mappings.proofs.reread.Goals as goal

pub returns-then-y-ne-FILE : goal.returns-then-y-ne-FILE
returns-then-y-ne-FILE c =
    let a = c.args in
    record {
      tables = λ rest os k q. pipe_unread rest a.subjects os a.handles a.o a.y q c.if-y-ne-FILE.true;
      live = λ i. refl;
    }

pub returns : goal.returns
returns c =
    let a = c.args in
    let low = rw c.label.ensures at c.lowered.ensures in record {
      tables = λ rest os k q. file_read rest a.subjects os a.handles a.o a.y q c.lowered.result c.led.result c.if-y-ne-FILE.false
          (search (rules, unmapped, c.well_formed.0)) (search (rules, unmapped))
          (λ s l. c.led.ensures s l ∙ readers_lead rest a.subjects os a.handles a.o a.groups c.leads-leads.result k c.leads-leads.ensures c.readers-reads.result
          c.readers-reads.ensures s l) low;
      live = taken_live a.subjects c.lowered.result c.led.result a.y.level a.y.shops (search (rules, unmapped, c.well_formed.0)) (search (rules, unmapped)) low;
    }
