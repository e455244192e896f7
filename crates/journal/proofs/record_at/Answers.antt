-- `journal::record_at` meets its contract: each way through it is a law of `Entries`. Assumes nothing.
use Rattle.std.proofs.Common.{arith}
use Rattle.number.specs.Leb.{good}
use Rattle.journal.proofs.Entries.{Read, entry_end, entry_malformed, entry_start, entry_long, entry_whole}
use Rattle.journal.proofs.record_at.Goals as goal
use Rattle.journal.proofs.record_at.Goals.{In-Some}

-- the length that was read
read : (c : In-Some) → Read c.args.journal.now c.args.at (good c.in-Some.value c.in-Some.used)
read c = record { full = c.if-journal-at.false; is = c.in-Some.ensures }

pub returns-then-journal-at : goal.returns-then-journal-at
returns-then-journal-at c = entry_end _ _ c.if-journal-at.true

pub returns-in_default : goal.returns-in_default
returns-in_default c = entry_malformed (record { full = c.if-journal-at.false; is = c.in_default.ensures })

pub overflow_add-start : goal.overflow_add-start
overflow_add-start c = omega (arith, entry_start (read (goal.at.overflow_add-start c).In-Some), c.well_formed)

pub overflow_sub-journal : goal.overflow_sub-journal
overflow_sub-journal c = omega (arith, entry_start (read (goal.at.overflow_sub-journal c).In-Some))

pub returns-then-journal-start : goal.returns-then-journal-start
returns-then-journal-start c = entry_long (read (goal.at.returns-then-journal-start c).In-Some) (omega arith)

pub overflow_add-next : goal.overflow_add-next
overflow_add-next c = omega (arith, entry_start (read (goal.at.overflow_add-next c).In-Some), c.well_formed)

pub returns : goal.returns
returns c = entry_whole (read (goal.at.returns c).In-Some) (omega arith)
