-- `host::seen::subject_in` meets its contract. Assumes nothing.
use Rattle.std.proofs.Common.{ap, ◌∙◌}
use Rattle.tables.specs.Records.{no_subject}
use Rattle.tables.specs.Working.{subject_at}
use Rattle.stored.specs.State.{subjects_of}
use Rattle.host.proofs.seen.subject_in.Goals as goal

pub returns : goal.returns
unfolding subjects_of
returns c = c.subject_at.ensures ∙ ap (subject_at c.args.s) (c.one_in.ensures no_subject)
