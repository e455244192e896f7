-- The worked cases, RULES K1 to K11, in one table, proved by one fact about the definitions (RULES G6); and the journals of
-- RULES K16 and K17. Assumes nothing.
use Rattle.std.specs.Prelude.{◌≡◌, refl, true, List, [], ◌∷◌, ◌++◌, map, ℕ}
use Rattle.std.specs.Int.Count.{ones, ones_in}
use Rattle.model.specs.Label.{Label, label, level, in_scale, leq, meet, join, bot, marks_lost}
use Rattle.model.specs.Flow.{need}
use Rattle.model.specs.Tables.{empty, used, cell, whole, speaks, things, handles, edges, safe}
use Rattle.model.specs.Steps.{ended}
use Rattle.model.specs.Calls.{Answer, decode, rereads, sheds, effect, refusal, lowers, answer}
use Rattle.model.specs.Tally.{tallied}
use Rattle.model.specs.Cases.{Case, case, bytes, R, table, right}
use Rattle.number.specs.Leb.{groups, encode, numeral, value, padded, number}
use Rattle.journal.specs.Calls.{arity_of, known, filled}
use Rattle.journal.specs.Journal.{entry_at, numbers_in, arguments_in, body_in}
use Rattle.text.specs.Decimal.{digits, decimal}
use Rattle.text.specs.Reply.{last_fields, line, ending}
use Rattle.replay.specs.Replay.{Replied, records_of, replies, reply}

-- ── K1 to K11 ──
-- the answers to a journal's records
abbrev pub journal_answers : List ℕ → List Answer
journal_answers bs = map (λ (r : Replied). r.answer) (replies empty (records_of bs))

-- RULES K1 to K11: the cases of `table`, and K10 and K11, which are journals
unfoldable pub whole_table : List Case
whole_table = table ++ case 10 (bytes (128 ∷ 0 ∷ [])) (R 11 ∷ []) ∷ case 11 (bytes (0 ∷ [])) (R 12 ∷ []) ∷ []

pub all_cases_right : right journal_answers whole_table ≡ true
unfolding whole_table table Label in_scale marks_lost ones ones_in label level leq meet join bot need used cell whole speaks things handles edges safe decode rereads sheds ended effect refusal lowers answer groups encode numeral value padded number arity_of known filled entry_at numbers_in arguments_in body_in
all_cases_right = refl

-- ── the journals of the rules ──
-- RULES K17: `05 02 00 02 ff 01 05 01 00 09 ff 01 04 05 00 00 00 03 07 00 00`
abbrev pub example : List ℕ
example = 5 ∷ 2 ∷ 0 ∷ 2 ∷ 255 ∷ 1 ∷ 5 ∷ 1 ∷ 0 ∷ 9 ∷ 255 ∷ 1 ∷ 4 ∷ 5 ∷ 0 ∷ 0 ∷ 0 ∷ 3 ∷ 7 ∷ 0 ∷ 0 ∷ []

-- `1 2 A 2`, `2 1 A 9`, `3 5 A 2`, `4 7 L 2 0`, `end 1 0 1`
pub example_right : reply example ≡ 49 ∷ 32 ∷ 50 ∷ 32 ∷ 65 ∷ 32 ∷ 50 ∷ 10 ∷ 50 ∷ 32 ∷ 49 ∷ 32 ∷ 65 ∷ 32 ∷ 57 ∷ 10 ∷ 51 ∷ 32 ∷ 53 ∷ 32 ∷ 65 ∷ 32 ∷ 50 ∷ 10 ∷ 52 ∷ 32 ∷ 55 ∷ 32 ∷ 76 ∷ 32 ∷ 50 ∷ 32 ∷ 48 ∷ 10
    ∷ 101 ∷ 110 ∷ 100 ∷ 32 ∷ 49 ∷ 32 ∷ 48 ∷ 32 ∷ 49 ∷ 10 ∷ []
unfolding reply line last_fields ending digits decimal tallied Label in_scale marks_lost ones ones_in label level leq meet join bot need used cell whole speaks things handles edges safe decode rereads sheds ended effect refusal lowers answer groups encode numeral value padded number arity_of known filled entry_at numbers_in arguments_in body_in
example_right = refl

-- RULES K16: `end 0 0 0`
pub empty_right : reply [] ≡ 101 ∷ 110 ∷ 100 ∷ 32 ∷ 48 ∷ 32 ∷ 48 ∷ 32 ∷ 48 ∷ 10 ∷ []
unfolding reply ending digits decimal
empty_right = refl
