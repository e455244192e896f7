-- `cases::show`: the reply that was written lies inside its buffer. Assumes nothing.
use Rattle.std.proofs.Common.{sym, ◌∙◌}
use Rattle.number.specs.Put.Laws.{put_within, prefix_size}
use Rattle.cases.proofs.show.Goals as goal

pub slice_bounds-text-end : goal.slice_bounds-text-end
slice_bounds-text-end c = let r = c.replay.ensures in put_within _ _ _ c.in-Some.k (sym c.in-Some.is ∙ r.answer) (r.buffer c.in-Some.k c.in-Some.is)

pub slice_bounds-write_all-end : goal.slice_bounds-write_all-end
slice_bounds-write_all-end c =
    let r = c.replay.ensures in
    prefix_size _ _ (put_within _ _ _ c.in-Some.k (sym c.in-Some.is ∙ r.answer) (r.buffer c.in-Some.k c.in-Some.is))
