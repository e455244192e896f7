-- A journal as demand 3 speaks of it (RULES B23 to B28, P22): its list of calls is that of its records,
-- and its answers are those of the replies to them. The laws are in Demand3/Laws. Assumes nothing.
use Rattle.std.specs.Prelude.{◌≡◌, cond, List, [], ◌∷◌, ◌++◌, ℕ, eqb}
use Rattle.model.specs.Tables.{Tables, empty}
use Rattle.model.specs.Calls.{Answer, after}
use Rattle.model.specs.Tally.{Tally, zeroed, tally}
use Rattle.model.specs.Demand3.{Demand3}
use Rattle.journal.specs.Answers.{Said, said}
use Rattle.journal.specs.Answers.{answers as reads, refused as bad}
use Rattle.replay.specs.Replay.{calls_of, Replied, replies, run_of}

-- RULES B23, B25: the answers to the records that stand for a call, as `calls_of` has them
abbrev pub answers_of : List Said → List Replied → List Answer
answers_of [] rs = []
answers_of (s ∷ l) [] = []
answers_of (said code (reads ns) ∷ l) (r ∷ rs) = r.answer ∷ answers_of l rs
answers_of (said code (bad n) ∷ l) (r ∷ rs) = cond (eqb n 1) (r.answer ∷ []) [] ++ answers_of l rs

-- RULES P22, B24: tables t and tally y are what is left once a journal is run: demand 3 of its calls, its replies and these tables; and the
-- tally of its calls
pub record Ended (journal : List ℕ) (t : Tables) (y : Tally) : Type 0 where
  pub demand3 : Demand3 (calls_of (run_of journal)) (answers_of (run_of journal) (replies empty (run_of journal))) t
  pub tables : t ≡ after empty (calls_of (run_of journal))
  pub counts : y ≡ tally empty zeroed (calls_of (run_of journal))
