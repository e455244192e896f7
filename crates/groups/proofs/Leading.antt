-- The lowest number in the group of each subject, worked out by one walk over the subjects: of each byte, the first live subject that has it. Assumes nothing.
use Rattle.std.proofs.Common.{◌≡◌, refl, sym, ◌∙◌, ap, subst, ℕ, ◌+◌, ◌≤◌, ◌<◌, List, length, get_or, arith, Option, None, Some}
use Rattle.std.specs.Option.{unwrap_or}
use mathlib.Core.Bool.{not}
use mathlib.Core.Logic.{◌⊎◌, inl, inr}
use native.Mathlib.Decide.{ℕ_discrete}
use lib.ListN.{set, length-set, replicate, length-replicate, get_or-replicate}
use lib.Seq.{get_or-set_same, get_or-set_other}
use lib.Dec.{T, T_not, eqb, eqb→eq, eqb_refl}
use Rattle.model.specs.Bools.{test}
use Rattle.tables.specs.declared.Subject.{Subject}
use Rattle.groups.specs.Groups.{stands, kin_of, Leads}
use Rattle.groups.specs.Groups.Laws.{kin_cases, kin_same, kin_two}

-- the first i subjects are looked at: `first` has for each byte the lowest live one of them that has it, and r the lead of each
pub record Led (ss : List Subject) (gs : List ℕ) (first : List (Option ℕ)) (r : List ℕ) (i : ℕ) : Type 0 where
  pub first_long : length first ≡ 256
  pub leads_long : length r ≡ 32
  pub found : (v l : ℕ) → v < 256 → get_or first v None ≡ Some l → (l < i) × T (stands ss l) × (get_or gs l 0 ≡ v)
  pub lead : (a : ℕ) → a < i → T (stands ss a) → (get_or first (get_or gs a 0) None ≡ Some (get_or r a 0)) × (get_or r a 0 ≤ a)
  pub off : (a : ℕ) → a < i → T (not (stands ss a)) → get_or r a 0 ≡ a

pub led_none : (ss : List Subject) (gs : List ℕ) → Led ss gs (replicate 256 None) (replicate 32 0) 0
led_none ss gs = record {
  first_long = length-replicate {A = Option ℕ} 256 None;
  leads_long = length-replicate {A = ℕ} 32 0;
  found = λ v l lv e. (let q = get_or-replicate {A = Option ℕ} 256 v None None lv in absurd (none_some l (sym q ∙ e)));
  lead = λ a la. absurd (omega arith);
  off = λ a la. absurd (omega arith);
}
  where
    none_some : (l : ℕ) → ◌≡◌ {A = Option ℕ} None (Some l) → ⊥
    none_some l e = cc

module _ (ss : List Subject) (gs : List ℕ) (low : (a : ℕ) → get_or gs a 0 < 256) (first : List (Option ℕ)) (r : List ℕ) (i : ℕ) (li : i < 32) (p : Led ss gs first r i) where
  -- a subject that is not live leads itself
  pub led_off : T (not (stands ss i)) → Led ss gs first (set r i i) (i + 1)
  led_off h = record {
    first_long = p.first_long;
    leads_long = simp length-set p.leads_long;
    found = λ v l lv e. let q = p.found v l lv e in (omega (arith, q.0), q.1, q.2);
    lead = λ a la s. elim (ℕ_discrete a i) [
      | yes e ↦ absurd (T_not (stands ss i) h (subst (λ (z : ℕ). T (stands ss z)) e s))
      | no ne ↦ rw (get_or-set_other r i a i 0 ne) (p.lead a (omega arith) s)
    ];
    off = λ a la s. elim (ℕ_discrete a i) [
      | yes e ↦ rw (e, get_or-set_same r i i 0 (omega (arith, p.leads_long)))
      | no ne ↦ get_or-set_other r i a i 0 ne ∙ p.off a (omega arith) s
    ];
  }

  -- one that is live is led by the first that has its byte
  pub led_on : T (stands ss i) → (l : ℕ) → l ≡ unwrap_or (get_or first (get_or gs i 0) None) i → Led ss gs (set first (get_or gs i 0) (Some l)) (set r i l) (i + 1)
  led_on h l el = record {
    first_long = simp length-set p.first_long;
    leads_long = simp length-set p.leads_long;
    found = λ v n lv e. elim (ℕ_discrete v (get_or gs i 0)) [
      | yes q ↦ here v n q (subst (λ (z : ℕ). get_or (set first (get_or gs i 0) (Some l)) z None ≡ Some n) q e)
      | no nq ↦ (let k = p.found v n lv (sym (off_g v nq) ∙ e) in (omega (arith, k.0), k.1, k.2))
    ];
    lead = λ a la s. elim (ℕ_discrete a i) [
      | yes e ↦ rw (e, get_or-set_same r i l 0 (omega (arith, p.leads_long))) (at_g, below)
      | no ne ↦ (let k = p.lead a (omega arith) s in rw (get_or-set_other r i a l 0 ne) (elim (ℕ_discrete (get_or gs a 0) (get_or gs i 0)) [
        | yes q ↦ (rw (q, at_g) (ap Some (same a (subst (λ (z : ℕ). get_or first z None ≡ Some (get_or r a 0)) q k.0))), k.1)
        | no nq ↦ (off_g (get_or gs a 0) nq ∙ k.0, k.1)
      ]))
    ];
    off = λ a la s. elim (ℕ_discrete a i) [
      | yes e ↦ absurd (T_not (stands ss i) (subst (λ (z : ℕ). T (not (stands ss z))) e s) h)
      | no ne ↦ get_or-set_other r i a l 0 ne ∙ p.off a (omega arith) s
    ];
  }
    where
      at_g : get_or (set first (get_or gs i 0) (Some l)) (get_or gs i 0) None ≡ Some l
      at_g = get_or-set_same first (get_or gs i 0) (Some l) None (omega (arith, low i, p.first_long))

      off_g : (v : ℕ) → (v ≡ get_or gs i 0 → ⊥) → get_or (set first (get_or gs i 0) (Some l)) v None ≡ get_or first v None
      off_g v ne = get_or-set_other first (get_or gs i 0) v (Some l) None ne

      -- what l is
      l_is : (get_or first (get_or gs i 0) None ≡ Some l) ⊎ ((get_or first (get_or gs i 0) None ≡ None) × (l ≡ i))
      l_is = go (get_or first (get_or gs i 0) None) refl
        where
          go : (o : Option ℕ) → get_or first (get_or gs i 0) None ≡ o → (get_or first (get_or gs i 0) None ≡ Some l) ⊎ ((get_or first (get_or gs i 0) None ≡ None) × (l ≡ i))
          go None q = inr (q, el ∙ ap (λ (z : Option ℕ). unwrap_or z i) q)
          go (Some k) q = inl (q ∙ ap Some (sym (el ∙ ap (λ (z : Option ℕ). unwrap_or z i) q)))

      found_l : (l < i + 1) × T (stands ss l) × (get_or gs l 0 ≡ get_or gs i 0)
      found_l = elim l_is [
        | inl q ↦ (let k = p.found (get_or gs i 0) l (low i) q in (omega (arith, k.0), k.1, k.2))
        | inr q ↦ rw q.1 (omega arith, h, refl)
      ]

      below : l ≤ i
      below = omega (arith, found_l.0)

      here : (v n : ℕ) → v ≡ get_or gs i 0 → get_or (set first (get_or gs i 0) (Some l)) (get_or gs i 0) None ≡ Some n → (n < i + 1) × T (stands ss n) × (get_or gs n 0 ≡ v)
      here v n q e = let z : l ≡ n = some_same l n (sym at_g ∙ e) in rw (q, ← z) found_l
        where
          some_same : (a b : ℕ) → ◌≡◌ {A = Option ℕ} (Some a) (Some b) → a ≡ b
          some_same a b w = cc

      same : (a : ℕ) → get_or first (get_or gs i 0) None ≡ Some (get_or r a 0) → l ≡ get_or r a 0
      same a e = elim l_is [ inl q ↦ one l (get_or r a 0) (sym q ∙ e) | inr q ↦ absurd (two (get_or r a 0) (sym q.0 ∙ e)) ]
        where
          one : (a b : ℕ) → ◌≡◌ {A = Option ℕ} (Some a) (Some b) → a ≡ b
          one a b w = cc

          two : (l : ℕ) → ◌≡◌ {A = Option ℕ} None (Some l) → ⊥
          two l e = cc

-- all are looked at
module _ (ss : List Subject) (gs : List ℕ) (low : (a : ℕ) → get_or gs a 0 < 256) (first : List (Option ℕ)) (r : List ℕ) (i : ℕ) (full : 32 ≤ i) (p : Led ss gs first r i) where
  pub led_leads : Leads (kin_of ss gs) r
  led_leads = record {
    low = λ s l. omega (arith, under s l);
    member = λ s l. elim (test (stands ss s)) [
      | inl h ↦ (let k = p.lead s (omega arith) h in let f = p.found (get_or gs s 0) (get_or r s 0) (low s) k.0 in
          kin_two ss gs s (get_or r s 0) h f.1 (subst (λ (y : ℕ). T (eqb (get_or gs s 0) y)) (sym f.2) (eqb_refl (get_or gs s 0))))
      | inr h ↦ kin_same ss gs s (get_or r s 0) (sym (p.off s (omega arith) h))
    ];
    lowest = λ s a l la k. elim (kin_cases ss gs s a k) [
      | inl e ↦ omega (arith, under s l, e)
      | inr e ↦ (let q = p.lead s (omega arith) e.0 in let z = p.lead a (omega arith) e.1 in
          let w = one (get_or r s 0) (get_or r a 0) (sym q.0 ∙ ap (λ (y : ℕ). get_or first y None) (eqb→eq (get_or gs s 0) (get_or gs a 0) e.2) ∙ z.0) in omega (arith, z.1, w))
    ];
  }
    where
      one : (a b : ℕ) → ◌≡◌ {A = Option ℕ} (Some a) (Some b) → a ≡ b
      one a b w = cc

      under : (s : ℕ) → s < 32 → get_or r s 0 ≤ s
      under s l = elim (test (stands ss s)) [ inl h ↦ (p.lead s (omega arith) h).1 | inr h ↦ omega (arith, p.off s (omega arith) h) ]
