-- A counted call. States RULES Y9, Y12 and R103. Assumes nothing.
use Rattle.std.specs.Prelude.{◌≡◌, ℕ, cond, ◌==◌}
use Rattle.model.specs.Tables.{clean}
use Rattle.model.specs.Calls.{decode, refused}
use Rattle.model.specs.Calls.{Call as Called}
use Rattle.calls.specs.declared.Call.{Call}
use Rattle.model.specs.Calls.{Answer as Told}
use Rattle.model.specs.Promise.{Meets}
use Rattle.model.specs.Tally.{tallied}
use Rattle.model.specs.Tally.{Tally as Counts}
use Rattle.gatekeeper.specs.declared.Monitor.{Monitor}
use Rattle.gatekeeper.specs.declared.Reply.{Reply}
use Rattle.answers.specs.Telling.{told}
use Rattle.gatekeeper.specs.View.{view, Honest, monitors, direct_of}
use Rattle.tally.specs.declared.Tally.{Tally}

abbrev pub counts_of : Tally → Counts
counts_of x = record { made = x.made; gone = x.gone }

-- RULES Y9, Y12, R103: the tally after call k on monitor m, which was answered a: by the history of calls, modulo 2 to the 64th; and as it was after a refusal, whatever the
-- monitor is
pub record Tallies (m : Monitor) (y : Tally) (k : Called) (a : Told) (after : Tally) : Type 0 where
  pub same : (n : ℕ) → a ≡ refused n → after ≡ y
  pub counts : Honest m → counts_of after ≡ tallied (clean (view m)) k (counts_of y)

-- RULES Y9, Y12: the direct call's reply by the rules, and the lent tally after it
abbrev pub Counting : Monitor → Tally → Call → Reply → Tally → Type 0
Counting m y call reply after =
    let k = decode (direct_of call) in
    Meets monitors m k (told reply.answer) reply.monitor × Tallies m y k (told reply.answer) after

-- ── by the code: inner functions alone cite these ──
abbrev pub made_by : ℕ → ℕ → ℕ
made_by code held = cond (code == 4) 2 (cond (code == 5) 1 (cond (code == 6) 1 (cond (code == 9) held (cond (code == 14) 1 (cond (code == 17) 4 0)))))

abbrev pub gone_by : ℕ → ℕ → ℕ → ℕ
gone_by code held shed = cond (code == 10) shed (cond (code == 11) 1 (cond (code == 12) held 0))
