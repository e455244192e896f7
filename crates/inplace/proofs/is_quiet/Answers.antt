-- `inplace::is_quiet` meets its contract. Assumes nothing.
use Rattle.std.proofs.Common.{◌≡◌, ℕ, Bool, cond, refl, ◌∙◌}
use Rattle.labels.specs.Codes.{coded}
use Rattle.tables.specs.declared.Object.{Object}
use Rattle.tables.specs.declared.Handle.{Handle}
use Rattle.tables.specs.Records.{reads_by}
use Rattle.passes.specs.Working.{spare_by, backed_by}
use Rattle.inplace.proofs.is_quiet.Goals as goal

-- the test on what the code has in hand

told : (h : Handle) (y : Object) (mine its own : ℕ) {reads : Bool} {source end : ℕ} → reads ≡ reads_by h.way → source ≡ cond reads its mine → end ≡ cond reads mine its
    → coded own ≡ backed_by h y
    → spare_by (coded end) (coded source) (coded own) ≡ spare_by (coded (cond (reads_by h.way) mine its)) (coded (cond (reads_by h.way) its mine)) (backed_by h y)
told h y mine its own a b c d = rw (d, c, b, a) refl

pub chosen-source-requires : goal.chosen-source-requires
chosen-source-requires c = tt

pub chosen-end-requires : goal.chosen-end-requires
chosen-end-requires c = tt

pub backing-own-requires : goal.backing-own-requires
backing-own-requires c = tt

pub is_spare-requires : goal.is_spare-requires
is_spare-requires c = tt

pub returns : goal.returns
returns c =
    let a = c.args in
    c.is_spare.ensures ∙ told a.h a.y a.mine a.its c.backing-own.result c.is_reading-reads.ensures c.chosen-source.ensures c.chosen-end.ensures c.backing-own.ensures
