-- Bytes that are loaded: some one by one, and values that calls of a function made from the bytes of each. Assumes nothing.
use Rattle.std.proofs.Common.{◌≡◌, ℕ, zero, suc, ◌+◌, ◌*◌, ◌≤◌, ◌<◌, List, [], ◌∷◌, length, take, drop, get_or, refl, sym, ap, ◌∙◌, subst, arith, ext_get_or, drop-drop, length-drop}
use native.Mathlib.Numerals.{add-one}
use native.Mathlib.Nat.{mul-suc}
use native.Mathlib.Decide.{ℕ_discrete}
use lib.Seq.{drop-cons, take_all}
use denote.Param.Members.{Mut, Called}
use Rattle.std.specs.Array.{IsFromFnResultFrom, IsFromFnResult}
use Rattle.std.specs.Simd.{first_chunks}
use Rattle.stored.specs.State.{records}
use Rattle.stored.specs.State.Laws.{length_records, getD_records}

-- ── bytes ──
-- the w bytes of s from index `at` on, one by one
abbrev pub bytes_at : ℕ → ℕ → List ℕ → List ℕ
bytes_at zero at s = []
bytes_at (suc w) at s = get_or s at 0 ∷ bytes_at w (at + 1) s

pub bytes_taken : (w at : ℕ) (s : List ℕ) → at + w ≤ length s → take w (drop at s) ≡ bytes_at w at s
bytes_taken zero at s h = refl
bytes_taken (suc w) at s h = ap (take (suc w)) (drop-cons s at 0 (omega arith) ∙ ap (λ (k : ℕ). get_or s at 0 ∷ drop k s) (sym (add-one at)))
    ∙ ap (λ (t : List ℕ). get_or s at 0 ∷ t) (bytes_taken w (at + 1) s (omega arith))

-- ── values ──
-- the j-th of k chunks
pub chunk_there : (w k : ℕ) (s : List ℕ) (j : ℕ) → j < k → get_or (first_chunks w k s) j [] ≡ take w (drop (w * j) s)
chunk_there w zero s j h = absurd (omega arith)
chunk_there w (suc k) s zero h = let z : w * 0 ≡ 0 = omega arith in ap (λ (i : ℕ). take w (drop i s)) (sym z)
chunk_there w (suc k) s (suc j) h =
    let next : w + w * j ≡ w * suc j = omega (arith, mul-suc w j) in
    chunk_there w k (drop w s) j (omega arith)
    ∙ ap (take w) (drop-drop (w * j) w s ∙ ap (λ (i : ℕ). drop i s) next)

-- calls of f at the numbers below n, which gave v of each and left f as it was
module _ {F A : Type 0} (g : Mut F (ℕ × Unit {0}) A) (f : F) (v : ℕ → A) (n : ℕ)
    (h : (i : ℕ) (y : A) (q : F) → i < n → Called g f (i, tt) y q → (y ≡ v i) × (q ≡ f)) where
  made_there : (ys : List A) (i k j : ℕ) (d : A) (p : F) → p ≡ f → i + k ≤ n → i ≤ j → j < i + k → IsFromFnResultFrom g p ys i k → get_or ys j d ≡ v j
  made_there ys i zero j d p e l a b m = absurd (omega arith)
  made_there ys i (suc k) j d p e l a b m = go (ℕ_discrete j i) (made_there ys (i + 1) k j d m.0 one.1 (omega arith))
    where
      one : (m.1 ≡ v i) × (m.0 ≡ f)
      one = h i m.1 m.0 (omega arith) (subst (λ (x : F). Called g x (i, tt) m.1 m.0) e m.3)

      go : Dec (j ≡ i) → (i + 1 ≤ j → j < i + 1 + k → IsFromFnResultFrom g m.0 ys (i + 1) k → get_or ys j d ≡ v j) → get_or ys j d ≡ v j
      go (yes q) r = ap (λ (x : ℕ). get_or ys x d) q ∙ m.2.1 d ∙ one.0 ∙ ap v (sym q)
      go (no n) r = r (omega arith) (omega arith) m.4

-- values made from the chunks of bytes are the records in them
pub loaded : {F A : Type 0} (g : Mut F (ℕ × Unit {0}) A) (f : F) (r : List ℕ → A) (w k n : ℕ) (s : List ℕ) (ys : List A) → n ≤ k
    → ((i : ℕ) (y : A) (q : F) → i < n → Called g f (i, tt) y q → (y ≡ r (get_or (first_chunks w k s) i [])) × (q ≡ f))
    → IsFromFnResult g f ys n → ys ≡ records r w n s
loaded g f r w k n s ys l h m = ext_get_or (r []) ys (records r w n s) (m.long ∙ sym (length_records r w n s)) (λ j b. at j (omega (arith, m.long)))
  where
    at : (j : ℕ) → j < n → get_or ys j (r []) ≡ get_or (records r w n s) j (r [])
    at j b = made_there g f (λ i. r (get_or (first_chunks w k s) i [])) n h ys 0 n j (r []) f refl (omega arith) (omega arith) (omega arith) m.each
        ∙ ap r (chunk_there w k s j (omega arith)) ∙ sym (getD_records r w n s j (r []) b)

-- the bytes from an index on are as many as there are
pub in_part : {A : Type 0} (r : List ℕ → A) (w n at k : ℕ) (s : List ℕ) → length s ≡ at + k → records r w n (take k (drop at s)) ≡ records r w n (drop at s)
in_part r w n at k s h = ap (records r w n) (take_all k (drop at s) (omega (arith, length-drop at s)))
