-- `typed::stages` meets its contract. Assumes nothing.
use Rattle.std.proofs.Common.{◌-◌, List, ℕ, get_or}
use mathlib.Core.Option.{Option}
use Rattle.model.specs.Lists.{each}
use Rattle.lines.specs.Line.{Pipeline, all}
use Rattle.lines.specs.Reading.{Pipelined}
use Rattle.lines.specs.Calls.{counted_from, stage_calls, no_stage}
use Rattle.typed.specs.Working.{Works, Left}
use Rattle.typed.proofs.stages.Given as goal

-- of the pipeline, whichever it is, i stages were done, and the rest of it is left
abbrev pub invariant-loop-i : goal.invariant-loop-i
invariant-loop-i l = (p : Pipeline) (e : Option (List ℕ)) → Pipelined l.line p e
    → Left p e l.i l.rest × Works l.initial.h (each l.i (λ j. stage_calls l.first.shell (l.n - 1) j (counted_from l.first.child j) (get_or (all p) j no_stage))) l.h
