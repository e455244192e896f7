-- Demand 3 of a host's calls, and the levels in their answers. Assumes nothing.
use Rattle.std.specs.Prelude.{◌≡◌, List, ℕ}
use Rattle.std.proofs.Common.{sym, ap, ◌∙◌, subst}
use Rattle.model.specs.Tables.{Tables, empty, clean}
use Rattle.model.specs.Invariant.{Wf, AllSayable}
use Rattle.model.proofs.Invariant.Laws.{empty_wf, clean_same}
use Rattle.model.specs.Calls.{Raw, decode, Answer, answers}
use Rattle.model.proofs.Calls.Sayable.{always_sayable}
use Rattle.model.specs.Promise.{Meets, Runs}
use Rattle.model.proofs.Promise.Laws.{cleaned_runs, runs_right}
use Rattle.model.specs.Promise.{done as stop, then as go}
use Rattle.model.specs.Demand3.{Demand3}
use Rattle.model.proofs.Demand3.Laws.{demand3}
use Rattle.stored.specs.State.{Sized, state_view, state_right, stored_kind, Blank}
use Rattle.host.specs.Demand3.{Calls, done, then, answers_in}

-- the calls keep their promise towards the rules, with the answers that the host reads
calls_run : (s s' : List ℕ) (rs : List Raw) (ns : List ℕ) → Sized s → Calls s rs ns s' → Runs stored_kind s rs (answers_in ns) s'
calls_run s s' rs ns h done = stop
calls_run s s' rs ns h (then {s' = t} {r = r} {rs = rest} {ns = ms} p q) = let k = p.stored h in
    go (subst (λ (a : Answer). Meets stored_kind s (decode r) a t) (sym (p.told h)) k.meets) (calls_run t s' rest ms k.size q)

module _ (s s' : List ℕ) (rs : List Raw) (ns : List ℕ) (b : Blank s) (c : Calls s rs ns s') where
  -- a host that keeps nothing but the bytes, and starts from the empty state, has demand 3 for every list of calls, of the answers that it
  -- reads off the numbers that were returned
  pub bytes_demand3 : Demand3 rs (answers_in ns) (state_view s')
  bytes_demand3 = demand3 stored_kind s b.tables tt rs (answers_in ns) s' (calls_run s s' rs ns b.size c)

  -- RULES F12: the kept needs that then stand in the bytes are right
  pub bytes_right : state_right s'
  bytes_right = runs_right stored_kind rs s s' (answers_in ns) tt (calls_run s s' rs ns b.size c) b.right

  -- and each of them gives a level of 0 to 15, to a freeze 0 to 16, or the number of a refusal that calls have
  pub bytes_sayable : AllSayable rs (answers_in ns)
  bytes_sayable = subst (AllSayable rs) (sym by_the_rules) (always_sayable rs)
    where
      start : clean (state_view s) ≡ empty
      start = ap clean b.tables ∙ clean_same empty empty_wf

      by_the_rules : answers_in ns ≡ answers empty rs
      by_the_rules = (cleaned_runs stored_kind rs s s' (answers_in ns) (subst Wf (sym start) empty_wf) tt (calls_run s s' rs ns b.size c)).0
          ∙ ap (λ (t : Tables). answers t rs) start
