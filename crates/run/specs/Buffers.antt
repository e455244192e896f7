-- The two buffers of a list run: the calls in the one, the answers in the other. States RULES H1 and H2. Assumes nothing.
use Rattle.std.specs.Prelude.{cond, List, [], ◌∷◌, ℕ, ◌+◌, ◌*◌, get_or, ltb, eqb}
use Rattle.model.specs.Lists.{each}
use Rattle.model.specs.Calls.{Raw, Answer, allowed, lowered, refused}
use Rattle.answers.specs.Telling.{letter_of, value_of, lost_of}
use Rattle.gatekeeper.specs.View.{direct}
pub mod Laws

abbrev pub lesser : ℕ → ℕ → ℕ
lesser a b = cond (ltb a b) a b

-- RULES H1, C106: call i of the list is the seven numbers from 7 i on
abbrev pub call_at : List ℕ → ℕ → Raw
call_at l i = direct (get_or l (i * 7) 0) (get_or l (i * 7 + 1) 0) (get_or l (i * 7 + 2) 0) (get_or l (i * 7 + 3) 0) (get_or l (i * 7 + 4) 0)
    (get_or l (i * 7 + 5) 0) (get_or l (i * 7 + 6) 0)

-- the first n calls
abbrev pub calls_in : List ℕ → ℕ → List Raw
calls_in l n = each n (λ i. call_at l i ∷ [])

-- RULES H2: three bytes for each answer
abbrev pub bytes : List Answer → List ℕ
bytes [] = []
bytes (a ∷ l) = letter_of a ∷ value_of a ∷ lost_of a ∷ bytes l

-- and back: 65 is A, 76 is L, 82 is R; marks are lost where it is L alone
abbrev pub answer_in : ℕ → ℕ → ℕ → Answer
answer_in letter value lost = cond (eqb letter 65) (allowed value) (cond (eqb letter 76) (lowered value lost) (refused value))

abbrev pub answers_in : List ℕ → List Answer
answers_in [] = []
answers_in (a ∷ []) = []
answers_in (a ∷ b ∷ []) = []
answers_in (a ∷ b ∷ c ∷ l) = answer_in a b c ∷ answers_in l
