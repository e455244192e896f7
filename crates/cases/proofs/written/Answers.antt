-- `cases::written`: the number that was written lies inside its buffer. Assumes nothing.
use Rattle.std.proofs.Common.{sym, ◌∙◌}
use Rattle.number.specs.Put.Laws.{put_within, prefix_size}
use Rattle.cases.proofs.written.Goals as goal

pub slice_bounds-bytes-end : goal.slice_bounds-bytes-end
slice_bounds-bytes-end c = let r = c.write_number.ensures in put_within _ _ _ c.in-Some.k (sym c.in-Some.is ∙ r.answer) r.buffer

pub slice_bounds-show_bytes-end : goal.slice_bounds-show_bytes-end
slice_bounds-show_bytes-end c =
    let r = c.write_number.ensures in
    prefix_size _ _ (put_within _ _ _ c.in-Some.k (sym c.in-Some.is ∙ r.answer) r.buffer)
