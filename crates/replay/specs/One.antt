-- What one record does to a monitor and a tally. States RULES J13 to J16 of a run, and RULES R102 and R103. Assumes nothing.
use Rattle.std.specs.Prelude.{◌≡◌, ℕ}
use Rattle.model.specs.Tables.{clean}
use Rattle.model.specs.Calls.{decode, Answer, refused}
use Rattle.model.specs.Promise.{Meets}
use Rattle.model.specs.Tally.{tallied}
use Rattle.model.specs.Tally.{Tally as Counts}
use Rattle.journal.specs.Answers.{Said, said}
use Rattle.journal.specs.Answers.{answers as reads, refused as bad}
use Rattle.gatekeeper.specs.declared.Monitor.{Monitor}
use Rattle.gatekeeper.specs.View.{view, Honest, monitors}
use Rattle.tally.specs.declared.Tally.{Tally}
use Rattle.tally.specs.Counting.{Tallies}
use Rattle.replay.specs.Replay.{raw}

-- the record says s; on the monitor m with tally y it is replied with a code and an answer, and leaves monitor n and tally z
abbrev pub One : Monitor → Tally → Said → ℕ → Answer → Monitor → Tally → Type 0
One m y (said code (reads ns)) c a n z = (c ≡ code) × Meets monitors m (decode (raw code ns)) a n × Tallies m y (decode (raw code ns)) a z
One m y (said code (bad k)) c a n z = (c ≡ code) × (a ≡ refused k) × (n ≡ m) × (z ≡ y)

-- ── inner functions alone cite this ──
-- the same of an honest monitor, with the tally's two counts
abbrev pub Turned : Monitor → Counts → Said → ℕ → Answer → Monitor → Counts → Type 0
Turned m y (said code (reads ns)) c a n z = (c ≡ code) × (Honest m × Meets monitors m (decode (raw code ns)) a n) × (z ≡ tallied (clean (view m)) (decode (raw code ns)) y)
Turned m y (said code (bad k)) c a n z = (c ≡ code) × (a ≡ refused k) × (n ≡ m) × (z ≡ y)
