-- `text::write_field` meets its contract: one byte after what `write_decimal` put. Assumes nothing.
use Rattle.std.proofs.Common.{◌<◌, [], ◌∷◌, length, arith, length-append}
use Rattle.text.specs.Decimal.{decimal}
use Rattle.text.specs.Parts.Laws.{put_over, over_put, byte_after}
use Rattle.text.proofs.write_field.Goals as goal

pub returns-clause-buffer : goal.returns-clause-buffer
returns-clause-buffer c =
    let w = c.write_decimal-at in
    let room : w.result < length c.args.out.now =
    omega (arith, w.ensures.count, length-append (decimal c.args.n) (c.args.mark ∷ []), c.requires) in
    over_put (byte_after (put_over _ _ _ _ w.ensures.count (omega arith) w.ensures.buffer) c.args.mark room)
