-- `serve::reply_space` meets its contract. Assumes nothing.
use Rattle.replay.specs.Replay.{reply_room}
use Rattle.serve.specs.Serving.Laws.{zeros_sized}
use Rattle.serve.proofs.reply_space.Goals as goal

pub returns : goal.returns
returns c = zeros_sized reply_room
