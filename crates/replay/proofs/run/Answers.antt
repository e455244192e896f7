-- `replay::run` meets its contract: a journal that is too long is not run, and any other is. Assumes nothing.
use mathlib.Core.Path.{subst}
use Prim.Native.Nat.{◌<◌}
use native.Mathlib.Omega.{arith}
use lib.ListN.{length}
use Rattle.gatekeeper.specs.View.{view}
use Rattle.replay.proofs.Demand3.Laws.{none_ended}
use Rattle.replay.specs.Replay.{largest_journal}
use Rattle.replay.specs.Stage.{Ends, reply_long, reply_whole}
use Rattle.replay.proofs.run.Goals as goal

pub returns-then-journal-gt-LARGEST_JOURNAL : goal.returns-then-journal-gt-LARGEST_JOURNAL
returns-then-journal-gt-LARGEST_JOURNAL c =
    let a = c.args in
    let k = c.too_long in
    let long : largest_journal < length a.journal.now = omega (arith, c.if-journal-gt-LARGEST_JOURNAL.true) in
    let e = subst (λ x. Ends x a.out.now k.new.out k.result) (reply_long a.journal.now long) k.ensures in
    record {
      answer = e.0;
      buffer = e.1.0;
      begun = e.1.1.0;
      room = e.1.1.1;
      end = λ n z. none_ended a.journal.now long (view c.empty.result) c.empty.ensures.tables;
      right = c.empty.ensures.needs;
      honest = c.empty.ensures.honest;
      sure = c.empty.ensures.sure;
    }

pub returns : goal.returns
returns c =
    let a = c.args in
    let k = c.records in
    let short = reply_whole a.journal.now (omega (arith, c.if-journal-gt-LARGEST_JOURNAL.false)) in
    let e = subst (λ x. Ends x a.out.now k.new.out k.result.written) short k.ensures.text in
    record {
      answer = e.0;
      buffer = e.1.0;
      begun = e.1.1.0;
      room = e.1.1.1;
      end = k.ensures.end;
      right = k.ensures.right;
      honest = k.ensures.honest;
      sure = k.ensures.sure;
    }
