-- `typed::pipelines` meets its contract. Assumes nothing.
use Rattle.std.proofs.Common.{ap}
use Rattle.lines.specs.Told.{rest_of}
use Rattle.typed.proofs.Going.{going_none, going_stands, going_last, going_on}
use Rattle.typed.proofs.pipelines.Goals as goal

pub loop-behind-init : goal.loop-behind-init
loop-behind-init c = going_none _ _ _ _ _ c.requires

pub pipeline-h-requires : goal.pipeline-h-requires
pipeline-h-requires c = let r = rw c.unwrap-n.ensures at c.read_pipeline.ensures.read in going_stands _ _ _ _ _ _ _ c.loop-behind.invariant _ r.0 _ r.1 r.2

pub returns-in_default : goal.returns-in_default
returns-in_default c =
    let r = rw c.unwrap-n.ensures at c.read_pipeline.ensures.read in
    going_last _ _ _ _ _ _ _ c.loop-behind.invariant _ r.0 _ r.1 r.2 _ c.pipeline-h.ensures (ap rest_of c.in_default.is)

pub loop-behind-preserved : goal.loop-behind-preserved
loop-behind-preserved c =
    let r = rw c.unwrap-n.ensures at c.read_pipeline.ensures.read in
    going_on _ _ _ _ _ _ _ c.loop-behind.invariant _ r.0 _ r.1 r.2 _ c.pipeline-h.ensures _ (ap rest_of c.in-Some.is)
