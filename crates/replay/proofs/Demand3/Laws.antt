-- Demand 3 of a journal's replies, and of the tables that its run leaves. Assumes nothing.
use Rattle.std.specs.Prelude.{◌≡◌, refl, Bool, true, false, cond, List, [], ◌∷◌, ◌++◌, ℕ, ◌≤◌, ◌<◌, ltb, eqb, length}
use Rattle.std.proofs.Common.{sym, ◌∙◌, ap, ap₂, subst, lt-ltb, le-ltb, eqb-true}
use Rattle.model.specs.Tables.{Tables, empty}
use Rattle.model.specs.Calls.{decode, next, Answer, refused, answer, answers, after}
use Rattle.model.specs.Tally.{Tally, zeroed, tally}
use Rattle.model.specs.Demand3.{Demand3}
use Rattle.model.proofs.Demand3.Laws.{rules_demand3}
use Rattle.journal.specs.Answers.{Said, said}
use Rattle.journal.specs.Answers.{answers as reads, refused as bad}
use Rattle.replay.specs.Replay.{records_of, raw, calls_of, replies, run_of, largest_journal}
use Rattle.replay.specs.Replay.Laws.{Plains, records_plain, unknown_answer, unknown_next}
use Rattle.replay.specs.Demand3.{answers_of, Ended}

replies_answer : (t : Tables) (l : List Said) → Plains l → answers_of l (replies t l) ≡ answers t (calls_of l)
replies_answer t [] p = refl
replies_answer t (said code (reads ns) ∷ l) p =
    ap (λ (k : List Answer). answer t (decode (raw code ns)) ∷ k) (replies_answer (next t (decode (raw code ns))) l p.1)
replies_answer t (said code (bad n) ∷ l) p = ap (λ (k : List Answer). cond (eqb n 1) (refused n ∷ []) [] ++ k) (replies_answer t l p.1) ∙ go (eqb n 1) refl
  where
    go : (b : Bool) → eqb n 1 ≡ b → cond b (refused n ∷ []) [] ++ answers t (calls_of l) ≡ answers t (cond b (raw code [] ∷ []) [] ++ calls_of l)
    go true q =
        let e = p.0 (eqb-true n 1 q) in
        ap₂ (λ (x : Answer) (u : Tables). x ∷ answers u (calls_of l)) (sym (ap (answer t) e ∙ unknown_answer t ∙ ap refused (sym (eqb-true n 1 q))))
        (sym (ap (next t) e ∙ unknown_next t))
    go false q = refl

run_plain : (journal : List ℕ) → Plains (run_of journal)
run_plain journal = go (ltb largest_journal (length journal))
  where
    go : (b : Bool) → Plains (cond b [] (records_of journal))
    go true = tt
    go false = records_plain (length journal) journal 0

-- the lines of the reply to a journal that is not too long are those of these replies (Replay, `reply`); of one that is, nothing is run
pub journal_demand3 : (journal : List ℕ) →
    let l = run_of journal in
    Demand3 (calls_of l) (answers_of l (replies empty l)) (after empty (calls_of l))
journal_demand3 journal =
    let l = run_of journal in
    subst (λ (k : List Answer). Demand3 (calls_of l) k (after empty (calls_of l))) (sym (replies_answer empty l (run_plain journal)))
    (rules_demand3 (calls_of l))

-- what a run leaves, once it is known to be what the calls lead to
ended_as : (journal : List ℕ) (l : List Said) → run_of journal ≡ l → (t : Tables) (y : Tally)
    → t ≡ after empty (calls_of l) → y ≡ tally empty zeroed (calls_of l) → Ended journal t y
ended_as journal l q t y e f =
    let calls = calls_of (run_of journal) in
    let at : t ≡ after empty (calls_of (run_of journal)) = e ∙ ap (λ (k : List Said). after empty (calls_of k)) (sym q) in
    record {
      demand3 = subst (λ (u : Tables). Demand3 calls (answers_of (run_of journal) (replies empty (run_of journal))) u) (sym at)
          (journal_demand3 journal);
      tables = at;
      counts = f ∙ ap (λ (k : List Said). tally empty zeroed (calls_of k)) (sym q);
    }

pub run_ended : (journal : List ℕ) → length journal ≤ largest_journal → (t : Tables) (y : Tally)
    → t ≡ after empty (calls_of (records_of journal)) → y ≡ tally empty zeroed (calls_of (records_of journal)) → Ended journal t y
run_ended journal h = ended_as journal (records_of journal) (ap (λ (b : Bool). cond b [] (records_of journal)) (le-ltb largest_journal (length journal) h))

pub none_ended : (journal : List ℕ) → largest_journal < length journal → (t : Tables) → t ≡ empty → Ended journal t zeroed
none_ended journal h t e = ended_as journal [] (ap (λ (b : Bool). cond b [] (records_of journal)) (lt-ltb largest_journal (length journal) h)) t zeroed e refl
