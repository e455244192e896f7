-- An array that a closure of the index makes, where the closure changes nothing. Assumes nothing.
use Rattle.std.proofs.Common.{◌≡◌, ◌∙◌, subst, ℕ, zero, suc, ◌+◌, ◌<◌, List, get_or, arith}
use Rattle.std.specs.Array.{IsFromFnResultFrom, IsFromFnResult}
use denote.Param.Members.{Mut, Called}

module _ {F B : Type 0} (g : Mut F (ℕ × Unit {0}) B) (f : F) (ys : List B) (v : ℕ → B) where
  made_from : ((i : ℕ) (r : B) (q : F) → Called g f (i, tt) r q → (r ≡ v i) × (q ≡ f))
      → (i n : ℕ) → IsFromFnResultFrom g f ys i n → (j : ℕ) → j < n → (d : B) → get_or ys (i + j) d ≡ v (i + j)
  made_from h i zero m j l d = absurd (omega arith)
  made_from h i (suc n) (q, y, e, k, m) zero l d = (let z : i + 0 ≡ i = omega arith in rw z (e.1 d ∙ (h i y q k).0))
  made_from h i (suc n) (q, y, e, k, m) (suc j) l d =
      let z : i + suc j ≡ i + 1 + j = omega arith in
      rw z (made_from h (i + 1) n (subst (λ (w : F). IsFromFnResultFrom g w ys (i + 1) n) (h i y q k).1 m) j (omega arith) d)

-- each element is what the closure gives of its index
pub made : {F B : Type 0} {g : Mut F (ℕ × Unit {0}) B} {f : F} {ys : List B} {n : ℕ} → IsFromFnResult g f ys n → (v : ℕ → B)
    → ((i : ℕ) (r : B) (q : F) → Called g f (i, tt) r q → (r ≡ v i) × (q ≡ f)) → (i : ℕ) → i < n → (d : B) → get_or ys i d ≡ v i
made {g = g} {f = f} {ys = ys} {n = n} m v h i l d = (let z : 0 + i ≡ i = omega arith in subst (λ (w : ℕ). get_or ys w d ≡ v w) z (made_from g f ys v h 0 n m.each i l d))
