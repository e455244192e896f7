-- `host::lent::gatekeeper_monitor_call` meets its contract. Assumes nothing.
use mathlib.Core.Path.{◌≡◌, sym, ap, ap₂, ◌∙◌, subst}
use Prim.Native.Nat.{ℕ}
use Rattle.model.specs.Calls.{Raw, decode, Answer}
use Rattle.model.specs.Promise.{Meets}
use Rattle.gatekeeper.specs.View.{monitors}
use Rattle.gatekeeper.specs.declared.Monitor.{Monitor}
use Rattle.tally.specs.declared.Tally.{Tally}
use Rattle.tally.specs.Counting.{Tallies}
use Rattle.host.specs.declared.lent.State.{State}
use Rattle.host.specs.Numbers.{answer_number, answer_in}
use Rattle.host.specs.Lending.{lent_kind, Lends}
use Rattle.host.proofs.lent.gatekeeper_monitor_call.Goals as goal

-- a counted call from x to y, of which the answer a crosses as the number n
lends : {x y : State} {r : Raw} {n : ℕ} (a : Answer) → Meets monitors x.monitor (decode r) a y.monitor
    → Tallies x.monitor x.tally (decode r) a y.tally → n ≡ answer_number a → answer_in n ≡ a → Lends x r n y
lends {x = x} {y = y} {r = r} a p q e back = record {
  number = e ∙ ap answer_number (sym back);
  meets = subst (λ (w : Answer). Meets lent_kind x (decode r) w y) (sym back) (record {
    unchanged = λ k z. ap₂ (λ (m : Monitor) (t : Tally). record { monitor = m; tally = t }) (p.unchanged k z) (q.same k z);
    answered = p.answered;
    moved = p.moved;
    emptied = p.emptied;
    stays = p.stays;
    neat = p.neat;
    says = p.says;
    kept = p.kept;
  });
  counts = q.counts;
}

pub returns : goal.returns
returns c =
    let k = c.lent_call-reply.ensures in
    let n = c.to_number.ensures in
    lends _ k.0 k.1 n.number n.back
