-- What the writers of numbers and records answer and leave in the buffer. In order: one number after those written before; all
-- of them or none; the record of a call. Assumes nothing.
use mathlib.Core.Path.{◌≡◌, sym, ap, ◌∙◌}
use Prim.Native.Nat.{ℕ, suc, ◌+◌, ◌-◌, ◌≤◌, ◌<◌}
use native.Mathlib.Omega.{arith}
use Rattle.std.specs.Prelude.{Option, Some}
use Rattle.std.proofs.lemmas.Option.{same_Some}
use mathlib.Core.List.{List, ◌∷◌, ◌++◌, append_assoc}
use lib.ListN.{length, take, drop, get_or, length-append, length-drop}
use lib.Seq.{take_at, drop_at, drop-drop}
use borrow.Author.Tests.{lt-ltb, le-ltb}
use borrow.Rule.Slice.PartMut.{put_mid}
use Rattle.number.specs.Leb.{encode}
use Rattle.number.specs.Put.{put, fitted}
use Rattle.number.specs.Put.Laws.{rest_is, back, put_fits, put_none, fitted_fits, length_put}
use Rattle.journal.specs.Answers.{answers, refused}
use Rattle.journal.specs.Calls.{arity_of}
use Rattle.journal.specs.Calls.Laws.{arity_none, arity_some}
use Rattle.journal.specs.Record.{encodes, body_of, record_of, fitting, recording, recorded}
use Rattle.journal.specs.Record.Laws.{encodes_suc, encodes_take}

-- ---- one number after those written before

-- the first i numbers were written over b, which is now out, and took at bytes; another is next, and there is room for all
pub record Going (ns b : List ℕ) (i : ℕ) (out : List ℕ) (at : ℕ) : Type 0 where
  pub next : i < length ns
  pub room : length (encodes ns) ≤ length b
  pub written : out ≡ put (encodes (take i ns)) b
  pub count : at ≡ length (encodes (take i ns))

module _ {ns b : List ℕ} {i : ℕ} {out : List ℕ} {at : ℕ} (g : Going ns b i out at) where
  so_far : List ℕ
  so_far = encodes (take i ns)

  one : List ℕ
  one = encode (get_or ns i 0)

  next_is : encodes (take (i + 1) ns) ≡ so_far ++ one
  unfolding so_far one
  next_is = encodes_suc ns i g.next

  fits : at + length one ≤ length b
  unfolding so_far
  fits = omega (arith, encodes_take ns (i + 1), ap length next_is, length-append so_far one, g.room, g.count)

  out_is : out ≡ so_far ++ drop at b
  unfolding so_far
  out_is = g.written ∙ put_fits so_far b (omega (arith, fits, g.count)) ∙ ap (λ (k : ℕ). so_far ++ drop k b) (sym g.count)

  out_length : length out ≡ length b
  unfolding so_far
  out_length = ap length g.written ∙ length_put so_far b

  pub at_within : at ≤ length out
  at_within = omega (arith, fits, out_length)

  room_left : length one ≤ length (drop at out)
  room_left = omega (arith, fits, out_length, length-drop at out)

  -- how many bytes the writer of one number answers
  pub next_wrote : (w : Option ℕ) → w ≡ fitted (encode (get_or ns i 0)) (take (length out - at) (drop at out))
      → w ≡ Some (length (encode (get_or ns i 0)))
  unfolding so_far one
  next_wrote w q = q ∙ ap (fitted one) (rest_is at out) ∙ fitted_fits one (drop at out) room_left

  pub next_count : (k : ℕ) → Some k ≡ fitted (encode (get_or ns i 0)) (take (length out - at) (drop at out))
      → at + k ≡ length (encodes (take (i + 1) ns))
  unfolding so_far one
  next_count k q =
      let wrote : k ≡ length one = same_Some k (length one) (next_wrote (Some k) q) in
      omega (arith, wrote, ap length next_is, length-append so_far one, g.count)

  pub next_out : (ys : List ℕ) → ys ≡ put (encode (get_or ns i 0)) (take (length out - at) (drop at out))
      → put_mid at (length out - at) out ys ≡ put (encodes (take (i + 1) ns)) b
  unfolding so_far one
  next_out ys q =
      let front : take at out ≡ so_far = ap (take at) out_is ∙ take_at so_far (drop at b) at (sym g.count) in
      let others : drop at out ≡ drop at b = ap (drop at) out_is ∙ drop_at so_far (drop at b) at (sym g.count) in
      let both : length (so_far ++ one) ≡ at + length one = omega (arith, length-append so_far one, g.count) in
      back at out ys at_within
      ∙ ap (λ (t : List ℕ). t ++ ys) front
      ∙ ap (λ (t : List ℕ). so_far ++ t) (q ∙ ap (put one) (rest_is at out) ∙ put_fits one (drop at out) room_left)
      ∙ ap (λ (t : List ℕ). so_far ++ (one ++ t)) (ap (drop (length one)) others ∙ drop-drop (length one) at b ∙ ap (λ (k : ℕ). drop k b) (sym both))
      ∙ sym (append_assoc so_far one (drop (length (so_far ++ one)) b))
      ∙ sym (put_fits (so_far ++ one) b (omega (arith, both, fits)))
      ∙ ap (λ (t : List ℕ). put t b) (sym next_is)

-- ---- all of them or none

module _ (e b : List ℕ) where
  pub all_refused : length b < length e → (refused 13 ≡ fitting e b) × (b ≡ put e b)
  unfolding fitting
  all_refused h = (simp (lt-ltb (length b) (length e) h), sym (put_none e b h))

  pub all_fit : length e ≤ length b → answers (length e) ≡ fitting e b
  unfolding fitting
  all_fit h = simp (le-ltb (length b) (length e) h)

-- ---- the record of a call that takes n numbers

module _ (code : ℕ) (ns : List ℕ) (n : ℕ) (arity : n ≡ arity_of code) where
  pub record_refused : (b : List ℕ) → n ≡ 0 → (refused 1 ≡ recording code ns b) × (b ≡ recorded code ns b)
  unfolding recording recorded
  record_refused b z = let unknown = arity_none code (sym arity ∙ z) in (simp unknown, simp unknown)

  -- the length of the body, then the body
  pub record_is : (len : ℕ) → len ≡ length (encodes (take (n + 1) (code ∷ ns))) → encodes (take (n + 2) (len ∷ code ∷ ns)) ≡ record_of code ns
  unfolding record_of body_of encodes
  record_is len e =
      let one_more : n + 1 ≡ suc (arity_of code) = omega arith in
      let two_more : n + 2 ≡ suc (suc (arity_of code)) = omega arith in
      ap (λ (k : ℕ). encodes (take k (len ∷ code ∷ ns))) two_more
      ∙ ap (λ (k : ℕ). encode k ++ encodes (code ∷ take (arity_of code) ns)) (e ∙ ap (λ (k : ℕ). length (encodes (take k (code ∷ ns)))) one_more)

  pub record_fitted : (e b : List ℕ) → (n ≡ 0 → ⊥) → e ≡ record_of code ns → (fitting e b ≡ recording code ns b) × (put e b ≡ recorded code ns b)
  unfolding recording recorded
  record_fitted e b z q =
      let is_Known = arity_some code (λ y. z (arity ∙ y)) in
      (ap (λ (t : List ℕ). fitting t b) q ∙ simp is_Known, ap (λ (t : List ℕ). put t b) q ∙ simp is_Known)
