-- Laws of writing some bytes after others. In order: before anything is written, and what was put over the front; how much was
-- written, that it is one put, and one byte more; one part more, put into the rest of the buffer that was lent. Assumes nothing.
use Rattle.std.specs.Prelude.{◌≡◌, refl, ℕ, ◌+◌, ◌-◌, ◌≤◌, ◌<◌, List, [], ◌∷◌, ◌++◌, length, take, drop, set, Some, None}
use Rattle.std.proofs.Common.{sym, ap, ◌∙◌, arith, add-one, length-append, length-take, length-drop, length-set, take-append-drop, take_at, drop_at, take-add, drop-drop, take-suc-set, drop-set-lt}
use borrow.Rule.Slice.PartMut.{put_mid}
use Rattle.number.specs.Put.{put, fitted}
use Rattle.number.specs.Put.Laws.{rest_is, back, put_fits, put_none, fits, fits_not, length_put}
use Rattle.text.specs.Parts.{Over}

-- ---- before anything is written, and what was put over the front

pub untouched : (at : ℕ) (b : List ℕ) → at ≤ length b → Over b (take at b) at b
untouched at b h = record { within = h; size = refl; front = refl; after = refl }

pub put_over : (e b out : List ℕ) (k : ℕ) → k ≡ length e → k ≤ length b → out ≡ put e b → Over b e k out
put_over e b out k count room wrote =
    let is : out ≡ e ++ drop (length e) b = wrote ∙ put_fits e b (omega arith) in
    record {
      within = room;
      size = ap length wrote ∙ length_put e b;
      front = ap (take k) is ∙ take_at e (drop (length e) b) k (sym count);
      after = ap (drop k) is ∙ drop_at e (drop (length e) b) k (sym count) ∙ ap (λ (i : ℕ). drop i b) (sym count);
    }

-- ---- how much was written, that it is one put, and one byte more

module _ {b done : List ℕ} {at : ℕ} {out : List ℕ} (o : Over b done at out) where
  front_length : length (take at out) ≡ at
  front_length = omega (arith, length-take at out, o.size, o.within)

  pub over_count : at ≡ length done
  over_count = sym front_length ∙ ap length o.front

  pub over_put : out ≡ put done b
  over_put =
      sym (take-append-drop at out)
      ∙ ap (λ (t : List ℕ). t ++ drop at out) o.front
      ∙ ap (λ (t : List ℕ). done ++ t) (o.after ∙ ap (λ (i : ℕ). drop i b) over_count)
      ∙ sym (put_fits done b (omega (arith, over_count, o.within)))

  pub byte_after : (x : ℕ) → at < length b → Over b (done ++ (x ∷ [])) (at + 1) (set out at x)
  byte_after x room = record {
    within = omega arith;
    size = length-set out at x ∙ o.size;
    front = rw (add-one at) (take-suc-set out at x (omega (arith, o.size)) ∙ ap (λ (t : List ℕ). t ++ (x ∷ [])) o.front);
    after = drop-set-lt (at + 1) out at x (omega arith) ∙ sym (drop-drop 1 at out) ∙ ap (drop 1) o.after ∙ drop-drop 1 at b;
  }

  -- ---- the rest of `out`, from `at` on, is lent; e of k bytes is put into it, and it is back as ys

  pub rest_length : length (take (length out - at) (drop at out)) ≡ length b - at
  rest_length = ap length (rest_is at out) ∙ length-drop at out ∙ ap (λ (n : ℕ). n - at) o.size

  module _ (e : List ℕ) where
    -- there is room for e in the rest
    pub rest_room : length (done ++ e) ≤ length b → length e ≤ length (take (length out - at) (drop at out))
    rest_room room = omega (arith, length-append done e, over_count, rest_length)

    pub part_after : (ys : List ℕ) (k : ℕ) → k ≡ length e → length (done ++ e) ≤ length b → ys ≡ put e (take (length out - at) (drop at out))
        → Over b (done ++ e) (at + k) (put_mid at (length out - at) out ys)
    part_after ys k count room wrote =
        let left = rest_room room in
        let part = put_over e (drop at out) ys k count (omega (arith, ap length (rest_is at out))) (wrote ∙ ap (put e) (rest_is at out)) in
        let next = put_mid at (length out - at) out ys in
        let whole : next ≡ take at out ++ ys = back at out ys (omega (arith, o.size, o.within)) in
        let rest = ap (drop at) whole ∙ drop_at (take at out) ys at front_length in
        record {
          within = omega (arith, rest_length);
          size = ap length whole ∙ omega (arith, length-append (take at out) ys, front_length, length-drop at out, part.size, o.size, o.within);
          front =
              take-add at k next
              ∙ ap (λ (t : List ℕ). take at next ++ t) (ap (take k) rest ∙ part.front)
              ∙ ap (λ (t : List ℕ). t ++ e) (ap (take at) whole ∙ take_at (take at out) ys at front_length ∙ o.front);
          after = sym (drop-drop k at next) ∙ ap (drop k) rest ∙ part.after ∙ ap (drop k) o.after ∙ drop-drop k at b;
        }

    -- the same by what the writer of a line answers: a length, or that there is no room
    pub put_after : (ys : List ℕ) (k : ℕ) → Some k ≡ fitted e (take (length out - at) (drop at out)) → ys ≡ put e (take (length out - at) (drop at out))
        → Over b (done ++ e) (at + k) (put_mid at (length out - at) out ys)
    put_after ys k answer =
        let (count, room) = fits e (take (length out - at) (drop at out)) k (sym answer) in
        part_after ys k count (omega (arith, length-append done e, over_count, rest_length, o.within))

    pub none_after : (ys : List ℕ) → None ≡ fitted e (take (length out - at) (drop at out)) → ys ≡ put e (take (length out - at) (drop at out))
        → put_mid at (length out - at) out ys ≡ out
    none_after ys answer wrote =
        let rest = take (length out - at) (drop at out) in
        let same : ys ≡ drop at out = wrote ∙ put_none e rest (fits_not e rest (sym answer)) ∙ rest_is at out in
        back at out ys (omega (arith, o.size, o.within)) ∙ ap (λ (t : List ℕ). take at out ++ t) same ∙ take-append-drop at out
