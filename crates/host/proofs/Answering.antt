-- Answers as numbers: of a call, from its letter, its value and the marks lost; of the journal's functions. Assumes nothing.
use mathlib.Core.Path.{◌≡◌, refl, sym, ap, ◌∙◌}
use mathlib.Core.Bool.{Bool, true, false, cond}
use Rattle.std.specs.Prelude.{Option, Some, None}
use Rattle.std.specs.Option.{unwrap_or}
use mathlib.Core.List.{List}
use Prim.Native.Nat.{ℕ, ◌+◌, ◌*◌, ◌≤◌, ◌<◌}
use native.Mathlib.Omega.{arith}
use lib.ListN.{length}
use borrow.Author.Tests.{le-ltb}
use Rattle.model.specs.Calls.{Answer as Told}
use Rattle.number.specs.Leb.{AtMost, largest, longest, number}
use Rattle.number.specs.Leb.Laws.{number_bytes}
use Rattle.number.specs.Put.{fitted}
use Rattle.number.specs.Put.Laws.{fitted_fits}
use Rattle.journal.specs.Answers.{answers, refused}
use Rattle.journal.specs.Calls.{known}
use Rattle.journal.specs.Record.{longest_record, record_of, fitting, recording}
use Rattle.journal.specs.Record.Laws.{record_length}
use Rattle.answers.specs.Telling.{letter_of, value_of, lost_of}
use Rattle.host.specs.Numbers.{answer_number, answer_in, record_number, roomy_number}
use Rattle.host.specs.Numbers.Laws.{answer_back}

-- ── calls ──
pub call_numbered : (a : Told) (l v k : ℕ) → l ≡ letter_of a → v ≡ value_of a → k ≡ lost_of a → v < 256
    → (65536 * k + 256 * l + v ≡ answer_number a) × (answer_in (65536 * k + 256 * l + v) ≡ a)
call_numbered a l v k p q r h =
    let e : 65536 * k + 256 * l + v ≡ answer_number a = omega (arith, p, q, r) in
    (e, ap answer_in e ∙ answer_back a (omega (arith, q, h)))

-- ── records ──
-- where there is room for the longest record, the code alone decides
pub record_roomy : (code : ℕ) (ns out : List ℕ) → AtMost largest ns → longest_record ≤ length out
    → record_number (recording code ns out) ≡ roomy_number code ns
unfolding recording fitting
record_roomy code ns out are room = by_code (known code) refl
  where
    by_code : (t : Bool) → known code ≡ t → record_number (cond t (fitting (record_of code ns) out) (refused 1)) ≡ cond t (256 + length (record_of code ns)) 1
    by_code true k =
        let fits = le-ltb (length out) (length (record_of code ns)) (omega (arith, record_length code ns k are, room)) in
        ap (λ (b : Bool). record_number (cond b (refused 13) (answers (length (record_of code ns))))) fits
    by_code false k = refl

-- ── numbers ──
-- a good number is short
pub number_short : (bytes : List ℕ) (r : ℕ × ℕ) → Some r ≡ number largest bytes → r.1 ≤ longest
number_short bytes r e = (number_bytes bytes r.0 r.1 (sym e)).1

-- ── replies ──
-- where there is room for every reply, the answer is the text's length
pub reply_roomy : (text out : List ℕ) (most r : ℕ) → r ≡ unwrap_or (fitted text out) 0 → (most ≤ length out → length text ≤ length out)
    → most ≤ length out → r ≡ length text
reply_roomy text out most r e f h = e ∙ ap (λ (o : Option ℕ). unwrap_or o 0) (fitted_fits text out (f h))

-- and where some of it was written, it was written whole
pub reply_whole : (text out : List ℕ) (r : ℕ) → r ≡ unwrap_or (fitted text out) 0 → 0 < r → fitted text out ≡ Some r
reply_whole text out r e h = go (fitted text out) e
  where
    go : (o : Option ℕ) → r ≡ unwrap_or o 0 → o ≡ Some r
    go None q = absurd (omega (arith, q, h))
    go (Some k) q = ap Some (sym q)
