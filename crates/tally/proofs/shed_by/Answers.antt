-- `tally::shed_by` meets its contract. Assumes nothing.
use Rattle.std.proofs.Common.{◌≡◌, ℕ, ◌%◌, List, sym, refl, ap, ◌∙◌, arith}
use Rattle.model.specs.Flow.{subject}
use Rattle.model.specs.Tables.{mates, clean, empty, with_hand}
use Rattle.model.specs.Tally.{drops, ousted}
use Rattle.tables.specs.declared.Handle.{Handle}
use Rattle.tables.specs.Records.{hands, tables_of}
use Rattle.groups.specs.Groups.{mate_of}
use Rattle.gatekeeper.specs.declared.Monitor.{Monitor}
use Rattle.gatekeeper.specs.View.{slots, straight_view, once, view}
use Rattle.gatekeeper.proofs.Owned.{Long, owned_long}
use Rattle.gatekeeper.proofs.Keeping.{read_wf}
use Rattle.gatekeeper.proofs.Numbered.{once_long}
use Rattle.gatekeeper.proofs.Telling.{held_same, drops_same}
use Rattle.tally.proofs.Counting.{drops_as, ousted_is, none_ousted, ousted_same}
use Rattle.tally.proofs.shed_by.Goals as goal

-- the groups of the tables by slot are those of the bytes
mates-are : (m : Monitor) (s a : ℕ) → mates (clean (slots (once m))) s (subject a) ≡ mate_of m.subjects m.groups s a
unfolding clean tables_of
mates-are m s a = refl

module _ (m : Monitor) (g : Long m) (s : ℕ) where
  -- and those of the tables by number are the same
  numbers-aside : ousted (clean (view m)) s ≡ ousted (clean (slots (once m))) s
  unfolding straight_view clean
  numbers-aside = ousted_same (clean (view m)) (clean (slots (once m))) s refl (held_same m g.objects (read_wf (once m) (once_long m g)))

  -- what s drops of handles that are read
  own : (kept : List Handle) → ((a p : ℕ) → hands kept a p ≡ (clean (slots (once m))).hand a p) → (n : ℕ) → n ≡ drops (with_hand empty (hands kept)) s → n ≡ drops (clean (view m)) s
  own kept e n q = q ∙ drops_as (clean (slots (once m))) kept e s ∙ sym (drops_same m g.objects (read_wf (once m) (once_long m g)) s)

pub returns-then-s : goal.returns-then-s
returns-then-s c =
    let a = c.args in
    let m = a.monitor in
    let g = owned_long m c.well_formed.0 in
    λ h. omega (
      arith,
      own m g a.s c.handles_by-kept.result (c.handles_by-kept.ensures h) _ c.dropped_by-dropped.ensures.drops,
      none_ousted (clean (slots (once m))) (read_wf (once m) (once_long m g)) a.s (omega (arith, c.if-s.true)) ∙ sym (numbers-aside m g a.s),
    )

pub returns : goal.returns
returns c =
    let a = c.args in
    let m = a.monitor in
    let g = owned_long m c.well_formed.0 in
    let low : a.s % 32 ≡ a.s = omega (arith, c.if-s.false) in
    λ h. omega (
      arith,
      own m g a.s c.handles_by-kept.result (c.handles_by-kept.ensures h) _ c.dropped_by-dropped.ensures.drops,
      c.count_of.ensures.count
          ∙ ousted_is (clean (slots (once m))) a.s c.handles_by-kept.result c.mates-mates.result (c.handles_by-kept.ensures h)
          (λ b l. c.mates-mates.ensures b l ∙ ap (λ (n : ℕ). mate_of m.subjects m.groups n b) low ∙ sym (mates-are m a.s b))
          ∙ sym (numbers-aside m g a.s),
    )
