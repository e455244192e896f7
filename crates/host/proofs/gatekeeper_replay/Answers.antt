-- `host::gatekeeper_replay` meets its contract. Assumes nothing.
use Rattle.std.proofs.Common.{ap, ◌∙◌}
use Rattle.std.specs.Prelude.{Option, ℕ}
use Rattle.std.specs.Option.{unwrap_or}
use Rattle.replay.specs.Replay.{reply_room}
use Rattle.host.proofs.Answering.{reply_roomy, reply_whole}
use Rattle.host.proofs.gatekeeper_replay.Goals as goal

pub returns : goal.returns
returns c =
    let w = c.replay.ensures in
    let answered = c.unwrap_or.ensures ∙ ap (λ (o : Option ℕ). unwrap_or o 0) w.answer in
    record {
      answer = answered;
      buffer = λ h. w.buffer _ (w.answer ∙ reply_whole _ _ _ answered h);
      begun = w.begun;
      room = reply_roomy _ _ reply_room _ answered w.room;
    }
