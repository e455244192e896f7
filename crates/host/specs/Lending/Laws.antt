-- Demand 3 of the calls of a host that lends a struct, the needs that it then keeps, and the levels in the answers. Assumes nothing.
use Rattle.std.specs.Prelude.{◌≡◌, List, ◌++◌, ℕ}
use Rattle.std.proofs.Common.{sym, ap, ap₂, ◌∙◌, subst}
use Rattle.model.specs.Tables.{Tables, empty, clean}
use Rattle.model.specs.Invariant.{Wf, AllSayable}
use Rattle.model.proofs.Invariant.Laws.{empty_wf, clean_same}
use Rattle.model.specs.Calls.{Call, Raw, decode, Answer, answers, after}
use Rattle.model.proofs.Calls.Sayable.{always_sayable}
use Rattle.model.specs.Promise.{Meets, Runs}
use Rattle.model.proofs.Promise.Laws.{cleaned_runs, runs_right, runs_honest, runs_claim}
use Rattle.model.specs.Promise.{done as stop, then as go}
use Rattle.model.specs.Demand3.{Demand3}
use Rattle.model.proofs.Demand3.Laws.{demand3}
use Rattle.host.specs.declared.lent.State.{State}
use Rattle.gatekeeper.specs.declared.Monitor.{Monitor}
use Rattle.gatekeeper.specs.View.{monitors}
use Rattle.gatekeeper.specs.View.Laws.{honest_tidy}
use Rattle.tally.specs.declared.Tally.{Tally}
use Rattle.tally.specs.Counting.{Tallies}
use Rattle.typed.specs.Typed.{Made, done, then}
use Rattle.quick.specs.Parts.{Done}
use Rattle.host.specs.Numbers.{answer_in}
use Rattle.host.specs.Numbers.Laws.{answer_back}
use Rattle.host.specs.Lending.{lent_view, lent_honest, lent_right, lent_kind, Begins, Lendings, called, lined, unlined, quickly}
use Rattle.host.specs.Lending.{done as ended}

-- what a call promises of the monitor and of the tally it promises of the state
lent_meets : {x y : State} {c : Call} {a : Answer} → Meets monitors x.monitor c a y.monitor → Tallies x.monitor x.tally c a y.tally → Meets lent_kind x c a y
lent_meets p t = record {
  unchanged = λ k z. ap₂ (λ (m : Monitor) (u : Tally). record { monitor = m; tally = u }) (p.unchanged k z) (t.same k z);
  answered = p.answered;
  moved = p.moved;
  emptied = p.emptied;
  stays = p.stays;
  neat = p.neat;
  says = p.says;
  kept = p.kept;
}

-- a call that was done in place: the answer is the one that a host reads off the number
done_meets : {x y : State} {r : Raw} {n : ℕ} (d : Done x.monitor x.tally r n y.monitor y.tally) → Meets lent_kind x (decode r) (answer_in n) y
done_meets {x} {y} {r} d = subst (λ (a : Answer). Meets lent_kind x (decode r) a y) (sym (answer_back d.answer d.small) ∙ ap answer_in (sym d.number)) (lent_meets d.meets d.counts)

-- the calls of a line, and the calls after it
abbrev state : Monitor → Tally → State
state m t = record { monitor = m; tally = t }

made_lent : {m n : Monitor} {t u : Tally} {rs : List Raw} {l : List Answer} → Made m t rs l n u → Runs lent_kind (state m t) rs l (state n u)
made_lent done = stop
made_lent {m} {t = t} (then {n = k} {z = v} p c q) = go (lent_meets {x = state m t} {y = state k v} p c) (made_lent q)

runs_then : {x y z : State} {rs ss : List Raw} {l k : List Answer} → Runs lent_kind x rs l y → Runs lent_kind y ss k z → Runs lent_kind x (rs ++ ss) (l ++ k) z
runs_then stop q = q
runs_then (go p r) q = go p (runs_then r q)

-- the calls keep their promise towards the rules
lent_run : (x y : State) (rs : List Raw) (l : List Answer) → Lendings x rs l y → Runs lent_kind x rs l y
lent_run x y rs l ended = stop
lent_run x y rs l (called {y = z} {rs = rest} {l = k} p q) = go p.meets (lent_run z y rest k q)
lent_run x y rs l (lined {y = z} {rs = rest} {l = m} t k e s q) = runs_then (made_lent (t.ran k e s).made) (lent_run z y rest m q)
lent_run x y rs l (unlined {y = z} s q) = subst (λ (u : State). Runs lent_kind u rs l y) (ap₂ (λ (m : Monitor) (t : Tally). state m t) s.1 s.2) (lent_run z y rs l q)
lent_run x y rs l (quickly {y = z} {rs = rest} {l = k} d q) = go (done_meets d) (lent_run z y rest k q)

module _ (x y : State) (rs : List Raw) (l : List Answer) (b : Begins x) (c : Lendings x rs l y) where
  -- a host that keeps nothing but the struct, and starts from the empty state, has demand 3 for every list of calls,
  pub lent_demand3 : Demand3 rs l (lent_view y)
  lent_demand3 = demand3 lent_kind x b.tables b.honest rs l y (lent_run x y rs l c)

  -- RULES F12: the kept needs that then stand in the struct are right
  pub lent_needs : lent_right y
  lent_needs = runs_right lent_kind rs x y l (honest_tidy x.monitor b.honest) (lent_run x y rs l c) b.right

  -- RULES F20: and the struct is honest and says that it is sure, so that calls on it go by what it keeps
  pub lent_sure : lent_honest y × (y.monitor.sure ≡ 1)
  lent_sure = (runs_honest lent_kind rs x y l b.honest (lent_run x y rs l c), runs_claim lent_kind rs x y l (honest_tidy x.monitor b.honest) (lent_run x y rs l c) ∙ b.sure)

  start : clean (lent_view x) ≡ empty
  start = ap clean b.tables ∙ clean_same empty empty_wf

  cleaned : (l ≡ answers (clean (lent_view x)) rs) × (clean (lent_view y) ≡ after (clean (lent_view x)) rs)
  cleaned = cleaned_runs lent_kind rs x y l (subst Wf (sym start) empty_wf) b.honest (lent_run x y rs l c)

  -- the tables are the rules' after these calls
  pub lent_tables : clean (lent_view y) ≡ after empty rs
  lent_tables = cleaned.1 ∙ ap (λ (t : Tables). after t rs) start

  -- and each answer gives a level of 0 to 15, to a freeze 0 to 16, or the number of a refusal that calls have
  pub lent_sayable : AllSayable rs l
  lent_sayable = subst (AllSayable rs) (sym (cleaned.0 ∙ ap (λ (t : Tables). answers t rs) start)) (always_sayable rs)
