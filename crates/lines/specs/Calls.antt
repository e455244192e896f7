-- The calls that a typed line stands for, in order, and how many they are. States RULES L7 to L12 and L15. The laws are in Calls/Laws: they are so many (RULES L15). Assumes
-- nothing.
use Rattle.std.specs.Prelude.{Bool, ◌||◌, cond, List, [], ◌∷◌, ◌++◌, ℕ, ◌+◌, ◌-◌, ◌*◌, eqb, length, get_or}
use Rattle.std.proofs.Math.Option.{Option, none, some}
use Rattle.model.specs.Lists.{each}
use Rattle.model.specs.Calls.{Raw}
use Rattle.model.specs.Tally.{wrapped}
use Rattle.lines.specs.Line.{one, more, all, Stage, Reading}

abbrev pub call : ℕ → List ℕ → List Raw
call code numbers = record { code = code; numbers = numbers } ∷ []

-- RULES L7: number i of those that begin with n
abbrev pub counted_from : ℕ → ℕ → ℕ
counted_from n i = wrapped (n + i)

-- RULES L8: pipe i
abbrev pub pipe_call : ℕ → ℕ → ℕ → List Raw
pipe_call shell pipe i = call 4 (shell ∷ counted_from pipe i ∷ (2 * i) ∷ (2 * i + 1) ∷ [])

-- RULES L10, L9: the close of a place; by a child, of one that it does not use. 2 (i - 1) is said without a minus: child 0 reads no pipe
abbrev pub close_call : ℕ → ℕ → List Raw
close_call s place = call 11 (s ∷ place ∷ [])

abbrev pub uses : ℕ → ℕ → Bool
uses i place = eqb (place + 2) (2 * i) || eqb place (2 * i + 1)

abbrev pub unused_call : ℕ → ℕ → ℕ → List Raw
unused_call c i place = cond (uses i place) [] (close_call c place)

-- RULES L9: the open of what stands behind a sign
abbrev pub open_call : ℕ → ℕ → ℕ → Option ℕ → List Raw
open_call code c place none = []
open_call code c place (some o) = call code (c ∷ o ∷ place ∷ [])

-- RULES L9: stage i, whose child is c, of a pipeline with this many pipes
abbrev pub stage_calls : ℕ → ℕ → ℕ → ℕ → Stage → List Raw
stage_calls shell pipes i c s =
    call 9 (shell ∷ c ∷ [])
    ++ each (2 * pipes) (unused_call c i)
    ++ open_call 5 c 14 s.from
    ++ open_call 6 c 15 s.into
    ++ call 10 (c ∷ s.program ∷ [])

-- RULES L11: child i leaves
abbrev pub exit_call : ℕ → ℕ → List Raw
exit_call child i = call 12 (counted_from child i ∷ [])

-- what `get_or` asks for behind the last stage; no call comes of it, as i is below the number of stages
abbrev pub no_stage : Stage
no_stage = record { program = 0; from = none; into = none }

-- RULES L8 to L11: the calls of a pipeline
unfoldable pub pipeline_calls : ℕ → ℕ → ℕ → List Stage → List Raw
pipeline_calls shell child pipe stages =
    let n : ℕ = length stages in let pipes : ℕ = n - 1 in
    each pipes (pipe_call shell pipe)
    ++ each n (λ i. stage_calls shell pipes i (counted_from child i) (get_or stages i no_stage))
    ++ each (2 * pipes) (close_call shell)
    ++ each n (exit_call child)

-- RULES L12, L7: the calls of a line, each pipeline from the first numbers on
abbrev pub calls_of : ℕ → ℕ → ℕ → Reading → List Raw
calls_of shell child pipe (one p) = pipeline_calls shell child pipe (all p)
calls_of shell child pipe (more p l) = pipeline_calls shell child pipe (all p) ++ calls_of shell child pipe l

-- ── how many they are ──
-- the `<` and `>` of a stage, and of several
abbrev pub sign : Option ℕ → ℕ
sign none = 0
sign (some o) = 1

abbrev pub signs_of : Stage → ℕ
signs_of s = sign s.from + sign s.into

abbrev pub signs : List Stage → ℕ
signs [] = 0
signs (s ∷ l) = signs_of s + signs l

-- RULES L15: the calls of a pipeline; of one of n stages at most; and of a line
abbrev pub pipeline_count : List Stage → ℕ
pipeline_count p = 2 * ((length p - 1) * (length p - 1)) + 3 * (length p - 1) + 3 * length p + signs p

abbrev pub most_calls : ℕ → ℕ
most_calls n = 2 * ((n - 1) * (n - 1)) + 3 * (n - 1) + 5 * n

abbrev pub line_count : Reading → ℕ
line_count (one p) = pipeline_count (all p)
line_count (more p l) = pipeline_count (all p) + line_count l
