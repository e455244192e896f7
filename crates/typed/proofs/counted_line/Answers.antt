-- `typed::counted_line` meets its contract. Assumes nothing.
use Rattle.std.proofs.Common.{◌≡◌, ◌<◌, rules, arith}
use Rattle.lines.specs.Told.{said}
use Rattle.typed.specs.Typed.{refused_line}
use Rattle.typed.proofs.Going.{number_some, refuses_said, good_said, runs_said}
use Rattle.typed.proofs.counted_line.Goals as goal

pub pipelines-requires : goal.pipelines-requires
pipelines-requires c = good_said c.args.line.now c.verdict.result c.verdict.ensures (grind arith)

pub returns-in-Ok : goal.returns-in-Ok
returns-in-Ok c =
    let a = c.args in
    let none : c.default.result ≡ refused_line 0 = search rules in
    let good : said c.verdict.result ≡ 0 = grind arith in
    runs_said a.monitor a.tally a.line.now a.shell a.child a.pipe c.verdict.result c.verdict.ensures good _ (grind arith) c.pipelines.result c.pipelines.ensures

pub returns-in-Err : goal.returns-in-Err
returns-in-Err c =
    let a = c.args in
    let none : c.default.result ≡ refused_line 0 = search rules in
    let bad : 0 < said c.verdict.result = grind (arith, number_some) in
    refuses_said a.monitor a.tally a.line.now a.shell a.child a.pipe c.verdict.result c.verdict.ensures bad _ (grind (arith, number_some))
