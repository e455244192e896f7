-- Numbers for slots: where the slots in use have numbers that differ, there is a renumbering, one to one, that gives each of them its number;
-- and tables that have at each number what stands in its slot are the renumbered ones. Laws of RULES T39 to T41. Assumes nothing.
use Rattle.std.specs.Prelude.{◌≡◌, refl, Bool, true, false, not, cond, ◌⊎◌, ℕ, zero, suc, ◌<◌, T, eqb, List}
use Rattle.std.proofs.Common.{sym, ◌∙◌, ap, subst, inl, inr, arith, T_not, eqb→eq}
use Rattle.std.proofs.Math.Path.{fun_ext}
use Rattle.std.proofs.Math.Option.{Option, none, some}
use Rattle.std.proofs.Math.Dec.{eqb_refl}
use Rattle.model.specs.Bools.{test, both, both_of, cond_yes, cond_no}
use Rattle.model.specs.Flow.{Thing, subject, object}
use Rattle.model.specs.Tables.{Entry, Handle, Tables}
use Rattle.model.specs.Tables.Numbers.{hit, look, Distinct, entries, holding, by_number}
use Rattle.model.proofs.Calls.Renaming.{Renumbers, held, ren}

abbrev pub swap : ℕ → ℕ → ℕ → ℕ
swap a b n = cond (eqb n a) b (cond (eqb n b) a n)

apart : (n a : ℕ) → (n ≡ a → ⊥) → T (not (eqb n a))
apart n a f = elim (test (eqb n a)) [ inl h ↦ absurd (f (eqb→eq n a h)) | inr h ↦ h ]

swap_left : (a b : ℕ) → swap a b a ≡ b
swap_left a b = cond_yes (eqb a a) b (cond (eqb a b) a a) (eqb_refl a)

swap_right : (a b : ℕ) → swap a b b ≡ a
swap_right a b = elim (test (eqb b a)) [
  | inl h ↦ cond_yes (eqb b a) b (cond (eqb b b) a b) h ∙ eqb→eq b a h
  | inr h ↦ cond_no (eqb b a) b (cond (eqb b b) a b) h ∙ cond_yes (eqb b b) a b (eqb_refl b)
]

swap_other : (a b n : ℕ) → T (not (eqb n a)) → T (not (eqb n b)) → swap a b n ≡ n
swap_other a b n h k = cond_no (eqb n a) b (cond (eqb n b) a n) h ∙ cond_no (eqb n b) a n k

swap_swap : (a b n : ℕ) → swap a b (swap a b n) ≡ n
swap_swap a b n = elim (test (eqb n a)) [
  | inl h ↦ ap (λ (z : ℕ). swap a b (swap a b z)) (eqb→eq n a h) ∙ ap (swap a b) (swap_left a b) ∙ swap_right a b ∙ sym (eqb→eq n a h)
  | inr h ↦ (elim (test (eqb n b)) [
    | inl k ↦ ap (λ (z : ℕ). swap a b (swap a b z)) (eqb→eq n b k) ∙ ap (swap a b) (swap_right a b) ∙ swap_left a b ∙ sym (eqb→eq n b k)
    | inr k ↦ ap (swap a b) (swap_other a b n h k) ∙ swap_other a b n h k
  ])
]

module _ (live : ℕ → Bool) (N : ℕ → ℕ) where
  -- each slot below k that is in use gets its number, one after the other
  abbrev pub to : ℕ → ℕ → ℕ
  to zero n = n
  to (suc k) n = cond (live k) (swap (to k k) (N k) (to k n)) (to k n)

  abbrev pub from : ℕ → ℕ → ℕ
  from zero n = n
  from (suc k) n = cond (live k) (from k (swap (to k k) (N k) n)) (from k n)

  pub renumbers : (k : ℕ) → Renumbers (to k) (from k)
  renumbers zero = record { back = λ n. refl; forth = λ n. refl }
  renumbers (suc k) = record {
    back = λ n. go_back (live k) n (renumbers k);
    forth = λ n. go_forth (live k) n (renumbers k);
  }
    where
      go_back : (b : Bool) (n : ℕ) → Renumbers (to k) (from k) → cond b (from k (swap (to k k) (N k) (cond b (swap (to k k) (N k) (to k n)) (to k n)))) (from k (cond b (swap (to k k) (N k) (to k n)) (to k n))) ≡ n
      go_back true n r = ap (from k) (swap_swap (to k k) (N k) (to k n)) ∙ r.back n
      go_back false n r = r.back n

      go_forth : (b : Bool) (n : ℕ) → Renumbers (to k) (from k) → cond b (swap (to k k) (N k) (to k (cond b (from k (swap (to k k) (N k) n)) (from k n)))) (to k (cond b (from k (swap (to k k) (N k) n)) (from k n))) ≡ n
      go_forth true n r = ap (swap (to k k) (N k)) (r.forth (swap (to k k) (N k) n)) ∙ swap_swap (to k k) (N k) n
      go_forth false n r = r.forth n

  pub placed : (k : ℕ) → Distinct live N k → (i : ℕ) → i < k → T (live i) → to k i ≡ N i
  placed zero d i lt h = absurd (omega arith)
  placed (suc k) d i lt h = elim (test (eqb i k)) [ inl q ↦ last (eqb→eq i k q) | inr q ↦ before (less q) (placed k (λ a b l m. d a b l (omega arith))) ]
    where
      less : T (not (eqb i k)) → i < k
      less q = let n : (i ≡ k → ⊥) = (λ e. T_not (eqb i k) q (subst (λ (z : ℕ). T (eqb i z)) e (eqb_refl i))) in omega (arith, n)

      last : i ≡ k → to (suc k) i ≡ N i
      last e = subst (λ (z : ℕ). to (suc k) z ≡ N z) (sym e)
          (cond_yes (live k) (swap (to k k) (N k) (to k k)) (to k k) (subst (λ (z : ℕ). T (live z)) e h) ∙ swap_left (to k k) (N k))

      before : i < k → ((j : ℕ) → j < k → T (live j) → to k j ≡ N j) → to (suc k) i ≡ N i
      before l ih = elim (test (live k)) [
        | inl g ↦ cond_yes (live k) (swap (to k k) (N k) (to k i)) (to k i) g ∙ swap_other (to k k) (N k) (to k i)
            (apart (to k i) (to k k) (λ e. let z : i ≡ k = sym ((renumbers k).back i) ∙ ap (from k) e ∙ (renumbers k).back k in omega arith))
            (apart (to k i) (N k) (λ e. d i k l (omega arith) h g (sym (ih i l h) ∙ e))) ∙ ih i l h
        | inr g ↦ cond_no (live k) (swap (to k k) (N k) (to k i)) (to k i) g ∙ ih i l h
      ]

  -- ── tables by number are those by slot, renumbered ──
  misses : (n i : ℕ) → (T (live i) → N i ≡ n → ⊥) → T (not (hit live N n i))
  misses n i f = elim (test (hit live N n i)) [ inl h ↦ (let r = both_of (live i) (eqb (N i) n) h in absurd (f r.0 (eqb→eq (N i) n r.1))) | inr h ↦ h ]

  look_none : (a : ℕ → Option Entry) (k n : ℕ) → ((i : ℕ) → i < k → T (live i) → N i ≡ n → ⊥) → look live N a k n ≡ none
  look_none a zero n f = refl
  look_none a (suc k) n f = cond_no (hit live N n k) (a k) (look live N a k n) (misses n k (f k (omega arith))) ∙ look_none a k n (λ i l. f i (omega arith))

  look_is : (a : ℕ → Option Entry) (k : ℕ) → Distinct live N k → (i n : ℕ) → i < k → T (live i) → N i ≡ n → look live N a k n ≡ a i
  look_is a zero d i n l h e = absurd (omega arith)
  look_is a (suc k) d i n l h e = elim (test (eqb i k)) [ inl q ↦ here (eqb→eq i k q) | inr q ↦ below (less q) (look_is a k (λ x y b m. d x y b (omega arith)) i n) ]
    where
      less : T (not (eqb i k)) → i < k
      less q = let m : (i ≡ k → ⊥) = (λ z. T_not (eqb i k) q (subst (λ (y : ℕ). T (eqb i y)) z (eqb_refl i))) in omega (arith, m)

      here : i ≡ k → look live N a (suc k) n ≡ a i
      here q = subst (λ (z : ℕ). look live N a (suc k) n ≡ a z) (sym q) (cond_yes (hit live N n k) (a k) (look live N a k n)
          (both (live k) (eqb (N k) n) (subst (λ (z : ℕ). T (live z)) q h) (subst (λ (z : ℕ). T (eqb (N k) z)) (sym (ap N q) ∙ e) (eqb_refl (N k)))))

      below : i < k → (i < k → T (live i) → N i ≡ n → look live N a k n ≡ a i) → look live N a (suc k) n ≡ a i
      below b ih = cond_no (hit live N n k) (a k) (look live N a k n) (misses n k (λ g z. d i k b (omega arith) h g (e ∙ sym z))) ∙ ih b h e

  seek : (k n : ℕ) → ((i : ℕ) × (i < k) × T (live i) × (N i ≡ n)) ⊎ ((i : ℕ) → i < k → T (live i) → N i ≡ n → ⊥)
  seek zero n = inr (λ i l h e. absurd (omega arith))
  seek (suc k) n = go (seek k n) (test (hit live N n k))
    where
      go : ((i : ℕ) × (i < k) × T (live i) × (N i ≡ n)) ⊎ ((i : ℕ) → i < k → T (live i) → N i ≡ n → ⊥) → T (hit live N n k) ⊎ T (not (hit live N n k))
          → ((i : ℕ) × (i < suc k) × T (live i) × (N i ≡ n)) ⊎ ((i : ℕ) → i < suc k → T (live i) → N i ≡ n → ⊥)
      go r (inl h) = let b = both_of (live k) (eqb (N k) n) h in inl (k, omega arith, b.0, eqb→eq (N k) n b.1)
      go (inl r) (inr h) = inl (r.0, omega (arith, r.1), r.2, r.3)
      go (inr f) (inr h) = inr (λ i l g e. elim (test (eqb i k)) [
        | inl q ↦ T_not (hit live N n k) h (subst (λ (z : ℕ). T (hit live N n z)) (eqb→eq i k q) (both (live i) (eqb (N i) n) g (subst (λ (z : ℕ). T (eqb (N i) z)) e (eqb_refl (N i)))))
        | inr q ↦ f i (let m : (i ≡ k → ⊥) = (λ z. T_not (eqb i k) q (subst (λ (y : ℕ). T (eqb i y)) z (eqb_refl i))) in omega (arith, m)) g e
      ])

  module _ (ρ σ : ℕ → ℕ) (v : Renumbers ρ σ) (k : ℕ) (z : (i : ℕ) → i < k → T (live i) → ρ i ≡ N i) where
    pub distinct : Distinct live N k
    distinct i j l m a b e = let q : i ≡ j = sym (v.back i) ∙ ap σ (z i (omega arith) a ∙ e ∙ sym (z j m b)) ∙ v.back j in omega arith

    module _ (t : Tables) (f : (i : ℕ) (e : Entry) → t.at (object i) ≡ some e → (i < k) × T (live i))
        (g : (s p : ℕ) (h : Handle) → t.hand s p ≡ some h → (h.to < k) × T (live h.to)) (l : List ℕ) where
      looked : (n : ℕ) → look live N (λ i. t.at (object i)) k n ≡ t.at (object (σ n))
      looked n = elim (seek k n) [
        | inl r ↦ look_is (λ i. t.at (object i)) k distinct r.0 n r.1 r.2 r.3
            ∙ ap (λ (z : ℕ). t.at (object z)) (sym (v.back r.0) ∙ ap σ (z r.0 r.1 r.2 ∙ r.3))
        | inr b ↦ look_none (λ i. t.at (object i)) k n b ∙ sym (none_there b (t.at (object (σ n))) refl)
      ]
        where
          none_there : ((i : ℕ) → i < k → T (live i) → N i ≡ n → ⊥) → (o : Option Entry) → t.at (object (σ n)) ≡ o → t.at (object (σ n)) ≡ none
          none_there b none q = q
          none_there b (some e) q = let r = f (σ n) e q in
              absurd (b (σ n) r.0 r.1 (sym (z (σ n) r.0 r.1) ∙ v.forth n))

      at_is : (x : Thing) → entries live N t.at k x ≡ (ren ρ σ v l t).at x
      at_is (subject s) = refl
      at_is (object n) = looked n

      hand_is : (s p : ℕ) → holding live N (t.hand s p) ≡ held ρ σ v l (t.hand s p)
      hand_is s p = go (t.hand s p) refl
        where
          go : (o : Option Handle) → t.hand s p ≡ o → holding live N o ≡ held ρ σ v l o
          go none q = refl
          go (some h) q = let r = g s p h q in
              ap (λ (n : ℕ). some (record { dir = h.dir; to = n; marked = h.marked; mapped = h.mapped })) (sym (z h.to r.0 r.1))

      pub by_number_is : by_number live N t k l ≡ ren ρ σ v l t
      by_number_is = λ i. record { at = fun_ext at_is i; hand = fun_ext (λ s. fun_ext (hand_is s)) i; freeze = t.freeze; numbers = l; kin = t.kin }

-- ── one more slot, which is to have the number x ──
module _ (ρ σ : ℕ → ℕ) (v : Renumbers ρ σ) (i x : ℕ) where
  abbrev pub reseat : ℕ → ℕ
  reseat n = swap (ρ i) x (ρ n)

  abbrev pub unseat : ℕ → ℕ
  unseat n = σ (swap (ρ i) x n)

  pub reseats : Renumbers reseat unseat
  reseats = record {
    back = λ n. ap σ (swap_swap (ρ i) x (ρ n)) ∙ v.back n;
    forth = λ n. ap (swap (ρ i) x) (v.forth (swap (ρ i) x n)) ∙ swap_swap (ρ i) x n;
  }

  pub reseat_here : reseat i ≡ x
  reseat_here = swap_left (ρ i) x

  -- any other keeps its own
  pub reseat_there : (j y : ℕ) → ρ j ≡ y → (j ≡ i → ⊥) → (y ≡ x → ⊥) → reseat j ≡ y
  reseat_there j y e n m = ap (swap (ρ i) x) e ∙ swap_other (ρ i) x y
      (apart y (ρ i) (λ q. n (sym (v.back j) ∙ ap σ (e ∙ q) ∙ v.back i))) (apart y x m)
