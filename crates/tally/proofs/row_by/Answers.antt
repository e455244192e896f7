-- `tally::row_by` meets its contract. Assumes nothing.
use Rattle.std.proofs.Common.{◌≡◌, replicate, sym, ap, ◌∙◌, arith, rules}
use Rattle.tables.specs.declared.Handle.{Handle}
use Rattle.tables.specs.Records.{no_handle, along}
use Rattle.handles.proofs.Rows.{no_places}
use Rattle.tally.proofs.Counting.{none_held}
use Rattle.tally.proofs.row_by.Goals as goal

pub returns-then-s : goal.returns-then-s
returns-then-s c =
    let none : c.default.result ≡ no_handle = search rules in
    λ p. ap (λ (h : Handle). along (replicate 16 h) p) none ∙ no_places p ∙ sym (none_held c.args.handles (search rules) c.args.s (omega (arith, c.if-s.true)) p)
