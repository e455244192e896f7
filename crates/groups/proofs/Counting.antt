-- Which bytes live subjects have, by marks; a byte that none has, since thirty-two subjects cannot have thirty-three; and a mark taken off. Assumes nothing.
use mathlib.Core.Path.{◌≡◌, refl, sym, ◌∙◌, subst}
use mathlib.Core.Bool.{Bool, true, false, not, ◌&&◌}
use mathlib.Core.List.{List, [], ◌∷◌}
use mathlib.Core.Logic.{inl}
use Prim.Native.Nat.{ℕ, ◌<◌}
use native.Mathlib.Omega.{arith}
use native.Mathlib.Decide.{ℕ_discrete, dec_lt}
use borrow.Author.Tests.{eq-eqb, ne_eqb}
use Rattle.std.proofs.Common.{None, Some, Option, take}
use Rattle.std.specs.Prelude.{MatchOption}
use Rattle.std.specs.Option.{unwrap_or}
use Rattle.std.specs.List.{AllWithin, HoldsAt}
use Rattle.std.proofs.lemmas.List.{get_or-take, length-take-le}
use lib.ListN.{length, get_or, set, get_or-eq_default}
use lib.Seq.{get_or-set_same, get_or-set_other}
use lib.Dec.{T, eqb, eqb→eq, eqb_refl}
use Rattle.model.specs.Bools.{both, both_of}
use Rattle.model.specs.Lists.{In, each}
use Rattle.model.specs.Lists.Laws.{in_each}
use Rattle.tables.specs.declared.Subject.{Subject}
use Rattle.tables.specs.Records.{no_subject}
use Rattle.tables.proofs.Below.{some_of_below, below_some}
use Rattle.handles.specs.Working.{Hits}
use Rattle.groups.specs.Groups.{stands, kin_of, mate_of, Fresh}
use Rattle.groups.specs.Groups.Laws.{free_below}

module _ (ss : List Subject) (gs : List ℕ) (r : List Bool) (m : Hits (λ j v. stands ss j && eqb (get_or gs j 0) v) 256 r 32) (long : length ss ≡ 32) where
  -- a live subject is one of the 32
  low : (a : ℕ) → T (stands ss a) → a < 32
  low a h = elim (dec_lt a 32) [ yes l ↦ l | no n ↦ absurd (subst (λ (x : Subject). T (not (eqb x.live 0))) (get_or-eq_default ss no_subject {n = a} (omega arith)) h) ]

  thirty_two : length (take 32 r) ≡ 32
  thirty_two = length-take-le 32 r (omega (arith, m.long))

  pub not_taken : (v : ℕ) → v < 256 → get_or r v false ≡ false → Fresh ss gs v
  not_taken v l q a h e = subst T (sym (m.at v l) ∙ q) (below_some 32 (λ j. stands ss j && eqb (get_or gs j 0) v) a (low a h)
      (both (stands ss a) (eqb (get_or gs a 0) v) h (subst (λ (z : ℕ). T (eqb z v)) (sym e) (eqb_refl v))))

  pub all_taken : ((u : ℕ) → u < 32 → get_or r u false ≡ true) → Fresh ss gs 32
  all_taken f a h e = let k = free_below 33 (each 32 (λ j. get_or gs j 0 ∷ [])) (omega arith) in k.2 (elim (dec_lt k.0 32) [
    | yes l ↦ (let j = some_of_below 32 (λ j. stands ss j && eqb (get_or gs j 0) k.0) (subst T (sym (f k.0 l) ∙ m.at k.0 (omega arith)) tt) in
        there j.0 k.0 j.1 (eqb→eq (get_or gs j.0 0) k.0 (both_of (stands ss j.0) (eqb (get_or gs j.0 0) k.0) j.2).1))
    | no n ↦ there a k.0 (low a h) (e ∙ (let q : 32 ≡ k.0 = omega (arith, k.1) in q))
  ])
    where
      there : (j v : ℕ) → j < 32 → get_or gs j 0 ≡ v → In v (each 32 (λ j. get_or gs j 0 ∷ []))
      there j v l q = in_each 32 (λ j. get_or gs j 0 ∷ []) v j l (inl q)

  -- the first of the first 32 that is not taken, or 32
  pub first_low : (o : Option ℕ) → MatchOption o (AllWithin (λ u. u ≡ true) (take 32 r) 0 (length (take 32 r)))
      (λ i. (i < length (take 32 r)) × HoldsAt (λ u. u ≡ false) (take 32 r) i × AllWithin (λ u. u ≡ true) (take 32 r) 0 i) → unwrap_or o 32 < 33
  first_low None h = omega arith
  first_low (Some i) h = omega (arith, h.0, thirty_two)

  pub first_free : (o : Option ℕ) → MatchOption o (AllWithin (λ u. u ≡ true) (take 32 r) 0 (length (take 32 r)))
      (λ i. (i < length (take 32 r)) × HoldsAt (λ u. u ≡ false) (take 32 r) i × AllWithin (λ u. u ≡ true) (take 32 r) 0 i) → Fresh ss gs (unwrap_or o 32)
  first_free None h = all_taken (λ u l. sym (get_or-take 32 r u false l) ∙ h u false (omega arith) (omega (arith, thirty_two)))
  first_free (Some i) h = let l : i < 32 = omega (arith, h.0, thirty_two) in not_taken i (omega arith) (sym (get_or-take 32 r i false l) ∙ h.1 false)

-- the members of a group but one
pub but_own : (ss : List Subject) (gs : List ℕ) (r : List Bool) (i a : ℕ) → ((a : ℕ) → a < 32 → get_or r a false ≡ kin_of ss gs i a) → length r ≡ 32 → i < 32 → a < 32
    → get_or (set r i false) a false ≡ mate_of ss gs i a
but_own ss gs r i a h l li la = elim (ℕ_discrete a i) [
  | yes e ↦ rw (e, get_or-set_same r i false false (omega arith), eq-eqb i i refl)
  | no ne ↦ get_or-set_other r i a false false ne ∙ h a la ∙ rw (ne_eqb i a (λ q. ne (sym q)))
]
