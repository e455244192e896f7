-- The worked cases, RULES K0 to K9, are answered as their table says: one computed fact about the definitions. Assumes nothing.
use Rattle.std.specs.Prelude.{◌≡◌, refl, Bool, true, false, ◌&&◌, List, [], ◌∷◌, ℕ, T}
use Rattle.std.proofs.Common.{◌∙◌, ap₂}
use Rattle.model.specs.Bools.{both_of}
use Rattle.model.specs.Label.{Label, label, level, in_scale, leq, meet, join, bot, marks_lost}
use Rattle.std.specs.Int.Count.{ones, ones_in}
use Rattle.model.specs.Flow.{need}
use Rattle.model.specs.Tables.{used, cell, whole, speaks, things, handles, edges, safe}
use Rattle.model.specs.Steps.{ended}
use Rattle.model.specs.Calls.{decode, rereads, sheds, effect, refusal, Answer, lowers, answer}
use Rattle.model.specs.Cases.{Given, calls, bytes, Case, table, all_equal, given_answers, right}

-- rows of calls are answered alike whichever the journal is
abbrev called : Given → Bool
called (calls rs) = true
called (bytes bs) = false

abbrev all_called : List Case → Bool
all_called [] = true
all_called (c ∷ cs) = called c.given && all_called cs

answered_alike : (j k : List ℕ → List Answer) (g : Given) → T (called g) → given_answers j g ≡ given_answers k g
answered_alike j k (calls rs) e = refl
answered_alike j k (bytes bs) e = absurd e

right_alike : (j k : List ℕ → List Answer) (cs : List Case) → T (all_called cs) → right j cs ≡ right k cs
right_alike j k [] e = refl
right_alike j k (c ∷ cs) e = let h = both_of (called c.given) (all_called cs) e in
    ap₂ (λ a b. all_equal a c.expected && b) (answered_alike j k c.given h.0) (right_alike j k cs h.1)

table_called : T (all_called table)
unfolding table
table_called = tt

-- the table is computed once, where no journal is asked
computed : right (λ b. []) table ≡ true
unfolding table Label in_scale marks_lost ones ones_in label level leq meet join bot need used cell whole speaks things handles edges safe decode rereads sheds ended effect refusal lowers answer
computed = refl

-- K1 to K9
pub cases_right : (journal : List ℕ → List Answer) → right journal table ≡ true
cases_right journal = right_alike journal (λ b. []) table table_called ∙ computed
