-- `text::write_last` meets its contract: one field, or two one after the other. Assumes nothing.
use Rattle.std.proofs.Common.{◌≡◌, ℕ, ◌-◌, ◌+◌, ◌≤◌, List, ◌++◌, length, take, drop, sym, ap, ◌∙◌, arith, length-append}
use Rattle.number.specs.Put.{put}
use Rattle.text.specs.Reply.{space, newline, field, last_fields}
use Rattle.text.specs.Reply.Laws.{last_lowered, last_other}
use Rattle.text.specs.Parts.{Over}
use Rattle.text.specs.Parts.Laws.{put_over, over_count, over_put, rest_room, part_after}
use Rattle.text.proofs.Writer.{joined}
use Rattle.text.proofs.write_last.Goals as goal

-- ---- where the letter is L

module _ (letter value lost : ℕ) (b : List ℕ) (lowered : letter ≡ 76) (fits : length (last_fields letter value lost) ≤ length b) where
  room : length (field value space ++ field lost newline) ≤ length b
  room = omega (arith, ap length (last_lowered letter value lost lowered), fits)

  room_first : length (field value space) ≤ length b
  room_first = omega (arith, length-append (field value space) (field lost newline), room)

  module _ (at : ℕ) (out : List ℕ) (count : at ≡ length (field value space)) (wrote : out ≡ put (field value space) b) where
    first : Over b (field value space) at out
    first = put_over _ _ _ _ count (omega (arith, count, room_first)) wrote

    second : (k : ℕ) (ys : List ℕ) → k ≡ length (field lost newline) → ys ≡ put (field lost newline) (take (length out - at) (drop at out))
        → Over b (field value space ++ field lost newline) (at + k) (joined at out ys)
    second k ys count wrote = part_after first _ _ _ count room wrote

-- ---- what the code asks

pub write_field-requires : goal.write_field-requires
write_field-requires c =
    let a = c.args in
    omega (arith, ap length (last_other a.letter a.value a.lost c.if-letter-ne-LOWERED.true), c.requires)

pub returns-then-letter-ne-LOWERED-clause-count : goal.returns-then-letter-ne-LOWERED-clause-count
returns-then-letter-ne-LOWERED-clause-count c =
    let a = c.args in
    c.write_field.ensures.count ∙ ap length (sym (last_other a.letter a.value a.lost c.if-letter-ne-LOWERED.true))

pub returns-then-letter-ne-LOWERED-clause-buffer : goal.returns-then-letter-ne-LOWERED-clause-buffer
returns-then-letter-ne-LOWERED-clause-buffer c =
    let a = c.args in
    c.write_field.ensures.buffer
    ∙ ap (λ (t : List ℕ). put t a.out.now) (sym (last_other a.letter a.value a.lost c.if-letter-ne-LOWERED.true))

pub write_field-at-requires : goal.write_field-at-requires
write_field-at-requires c =
    let a = c.args in
    room_first a.letter a.value a.lost a.out.now c.if-letter-ne-LOWERED.false c.requires

pub slice_bounds-write_field-count : goal.slice_bounds-write_field-count
slice_bounds-write_field-count c =
    let a = c.args in
    let w = c.write_field-at in
    let o = first a.letter a.value a.lost a.out.now c.if-letter-ne-LOWERED.false c.requires _ _ w.ensures.count w.ensures.buffer in
    omega (arith, o.within, o.size)

pub slice_bounds-write_field-start : goal.slice_bounds-write_field-start
slice_bounds-write_field-start c =
    let a = c.args in
    let w = c.write_field-at in
    let o = first a.letter a.value a.lost a.out.now c.if-letter-ne-LOWERED.false c.requires _ _ w.ensures.count w.ensures.buffer in
    omega (arith, o.within, o.size)

pub write_field-requires-2 : goal.write_field-requires-2
write_field-requires-2 c =
    let a = c.args in
    let w = c.write_field-at in
    let o = first a.letter a.value a.lost a.out.now c.if-letter-ne-LOWERED.false c.requires _ _ w.ensures.count w.ensures.buffer in
    rest_room o _ (room a.letter a.value a.lost a.out.now c.if-letter-ne-LOWERED.false c.requires)

pub overflow_add-result : goal.overflow_add-result
overflow_add-result c =
    let a = c.args in
    let w = c.write_field-at in
    let v = c.write_field-2 in
    let o =
    second a.letter a.value a.lost a.out.now c.if-letter-ne-LOWERED.false c.requires _ _ w.ensures.count w.ensures.buffer _ _ v.ensures.count v.ensures.buffer in
    omega (arith, o.within, c.well_formed)

pub returns-clause-count : goal.returns-clause-count
returns-clause-count c =
    let a = c.args in
    let w = c.write_field-at in
    let v = c.write_field-2 in
    let o =
    second a.letter a.value a.lost a.out.now c.if-letter-ne-LOWERED.false c.requires _ _ w.ensures.count w.ensures.buffer _ _ v.ensures.count v.ensures.buffer in
    over_count o ∙ ap length (sym (last_lowered a.letter a.value a.lost c.if-letter-ne-LOWERED.false))

pub returns-clause-buffer : goal.returns-clause-buffer
returns-clause-buffer c =
    let a = c.args in
    let w = c.write_field-at in
    let v = c.write_field-2 in
    let o =
    second a.letter a.value a.lost a.out.now c.if-letter-ne-LOWERED.false c.requires _ _ w.ensures.count w.ensures.buffer _ _ v.ensures.count v.ensures.buffer in
    over_put o ∙ ap (λ (t : List ℕ). put t a.out.now) (sym (last_lowered a.letter a.value a.lost c.if-letter-ne-LOWERED.false))
