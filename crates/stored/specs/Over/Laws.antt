-- Laws of `over`. Assumes nothing.
use Rattle.std.specs.Prelude.{◌≡◌, List, [], ◌++◌, ℕ, ◌+◌, ◌≤◌, length, take, drop}
use Rattle.std.proofs.Common.{sym, ap, ap₂, ◌∙◌, append_assoc, append-nil, arith, length-append, length-take, length-drop, take-append-drop, drop_of_length-le, take_at, drop_at, drop-drop}
use Rattle.stored.specs.Over.{over}

pub over_none : (at : ℕ) (o : List ℕ) → over at [] o ≡ o
unfolding over
over_none at o = let z : at + 0 ≡ at = omega arith in ap (λ (k : ℕ). take at o ++ drop k o) z ∙ take-append-drop at o

pub over_length : (at : ℕ) (e o : List ℕ) → at + length e ≤ length o → length (over at e o) ≡ length o
unfolding over
over_length at e o h = omega (
  arith,
  length-append (take at o) (e ++ drop (at + length e) o),
  length-append e (drop (at + length e) o),
  length-take at o,
  length-drop (at + length e) o,
)

-- bytes over what follows those that were stored before
pub over_next : (b at : ℕ) (e e' o s : List ℕ) → b ≤ length o → at ≡ b + length e → s ≡ over b e o → over at e' s ≡ over b (e ++ e') o
unfolding over
over_next b at e e' o s h ha hs =
    let p = take b o ++ e in
    let t = drop (b + length e) o in
    let size : length p ≡ at = omega (arith, length-append (take b o) e, length-take b o) in
    let is : s ≡ p ++ t = hs ∙ sym (append_assoc (take b o) e t) in
    let end : b + length e + length e' ≡ b + length (e ++ e') = omega (arith, length-append e e') in
    let rest : drop (at + length e') s ≡ drop (b + length (e ++ e')) o =
    ap (λ (q : List ℕ). drop (at + length e') q) is
    ∙ sym (drop-drop (length e') at (p ++ t))
    ∙ ap (drop (length e')) (drop_at p t at size)
    ∙ drop-drop (length e') (b + length e) o
    ∙ ap (λ (k : ℕ). drop k o) end in
    ap₂ (λ (x y : List ℕ). x ++ (e' ++ y)) (ap (take at) is ∙ take_at p t at size) rest
    ∙ simp append_assoc

-- bytes over all
pub over_all : (e o : List ℕ) → length e ≡ length o → over 0 e o ≡ e
unfolding over
over_all e o h = ap (λ (t : List ℕ). e ++ t) (drop_of_length-le o {i = 0 + length e} (omega arith)) ∙ append-nil e
