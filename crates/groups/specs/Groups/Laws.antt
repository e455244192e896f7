-- The laws of groups as bytes: whatever the bytes are, each live subject is in one group; its members have one lead; and a byte that no live subject has. Assumes nothing.
use Rattle.std.specs.Prelude.{◌≡◌, refl, Bool, true, false, not, ◌||◌, ◌&&◌, cond, ◌⊎◌, List, [], ◌∷◌, ℕ, zero, suc, ◌<◌, ◌≤◌, length, get_or, set, eqb}
use Rattle.std.proofs.Common.{sym, ◌∙◌, ap, ap₂, subst, subst₂, arith, eq-eqb, ne_eqb, get_or-set_same, get_or-set_other, T_not, eqb→eq}
use Rattle.std.proofs.Math.Path.{fun_ext}
use Rattle.std.proofs.Math.Option.{Option, none, some}
use Rattle.std.proofs.Math.Logic.{inl, inr}
use Rattle.std.proofs.Math.Decide.{ℕ_discrete}
use Rattle.std.proofs.Math.Dec.{T, not_T, eqb_refl}
use Rattle.model.specs.Bools.{or_cases, or_left, or_right, both, both_of, is_true, is_false, cond_no}
use Rattle.model.specs.Lists.{In}
use Rattle.model.specs.Label.{label}
use Rattle.model.specs.Flow.{Thing, subject}
use Rattle.model.specs.Tables.{running, Entry, entry, Tables, with_kin, in_range, is_some, used, live}
use Rattle.model.specs.Steps.{parted, stand_in, bound}
use Rattle.model.specs.Invariant.{Teams}
use Rattle.tables.specs.declared.Subject.{Subject}
use Rattle.tables.specs.declared.Object.{Object}
use Rattle.tables.specs.declared.Handle.{Handle}
use Rattle.tables.specs.Records.{no_subject, entries, tables_of}
use Rattle.tables.specs.Records.Laws.{within}
use Rattle.tables.specs.Needs.Laws.{housed_range}
use Rattle.groups.specs.Groups.{stands, kin_of, Leads, Fresh}

-- ── groups ──
module _ (ss : List Subject) (gs : List ℕ) where
  pub kin_cases : (a b : ℕ) → T (kin_of ss gs a b) → (a ≡ b) ⊎ (T (stands ss a) × T (stands ss b) × T (eqb (get_or gs a 0) (get_or gs b 0)))
  kin_cases a b h = elim (or_cases (eqb a b) (stands ss a && (stands ss b && eqb (get_or gs a 0) (get_or gs b 0))) h) [
    | inl e ↦ inl (eqb→eq a b e)
    | inr r ↦ (let p = both_of (stands ss a) (stands ss b && eqb (get_or gs a 0) (get_or gs b 0)) r in
        let q = both_of (stands ss b) (eqb (get_or gs a 0) (get_or gs b 0)) p.1 in inr (p.0, q.0, q.1))
  ]

  pub kin_same : (a b : ℕ) → a ≡ b → T (kin_of ss gs a b)
  kin_same a b q = subst (λ (z : ℕ). T (kin_of ss gs a z)) q (or_left (eqb a a) (stands ss a && (stands ss a && eqb (get_or gs a 0) (get_or gs a 0))) (eqb_refl a))

  pub kin_two : (a b : ℕ) → T (stands ss a) → T (stands ss b) → T (eqb (get_or gs a 0) (get_or gs b 0)) → T (kin_of ss gs a b)
  kin_two a b p q r = or_right (eqb a b) (stands ss a && (stands ss b && eqb (get_or gs a 0) (get_or gs b 0)))
      (both (stands ss a) (stands ss b && eqb (get_or gs a 0) (get_or gs b 0)) p (both (stands ss b) (eqb (get_or gs a 0) (get_or gs b 0)) q r))

  -- both ways, and on from one to the next
  pub kin_back : (a b : ℕ) → T (kin_of ss gs a b) → T (kin_of ss gs b a)
  kin_back a b h = elim (kin_cases a b h) [
    | inl q ↦ kin_same b a (sym q)
    | inr r ↦ kin_two b a r.1 r.0 (subst (λ (z : ℕ). T (eqb z (get_or gs a 0))) (eqb→eq (get_or gs a 0) (get_or gs b 0) r.2) (eqb_refl (get_or gs a 0)))
  ]

  pub kin_on : (a b c : ℕ) → T (kin_of ss gs a b) → T (kin_of ss gs b c) → T (kin_of ss gs a c)
  kin_on a b c h i = elim (kin_cases a b h) [
    | inl q ↦ subst (λ (z : ℕ). T (kin_of ss gs z c)) (sym q) i
    | inr r ↦ elim (kin_cases b c i) [
      | inl q ↦ subst (λ (z : ℕ). T (kin_of ss gs a z)) q h
      | inr p ↦ kin_two a c r.0 p.1 (subst (λ (z : ℕ). T (eqb (get_or gs a 0) z)) (eqb→eq (get_or gs b 0) (get_or gs c 0) p.2) r.2)
    ]
  ]

-- two tests that hold together
same_test : (a b : Bool) → (T a → T b) → (T b → T a) → a ≡ b
same_test true true f g = refl
same_test true false f g = absurd (f tt)
same_test false true f g = absurd (g tt)
same_test false false f g = refl

kin_flip : (ss : List Subject) (gs : List ℕ) (a b : ℕ) → kin_of ss gs a b ≡ kin_of ss gs b a
kin_flip ss gs a b = same_test (kin_of ss gs a b) (kin_of ss gs b a) (kin_back ss gs a b) (kin_back ss gs b a)

module _ (rest : Tables) (ss : List Subject) (os : List Object) (hs : List Handle) (gs : List ℕ) where
  -- whatever the bytes are, each live subject is in one group, and no other is in any
  pub any_teams : length ss ≡ 32 → length os ≡ 64 → Teams (tables_of (with_kin rest (kin_of ss gs)) ss os hs)
  unfolding tables_of used
  any_teams ls lo = record {
    itself = λ a. kin_same ss gs a a refl;
    both_ways = kin_back ss gs;
    shared = kin_on ss gs;
    only = λ a b h n. elim (kin_cases ss gs a b h) [
      | inl q ↦ absurd (T_not (eqb a b) n (subst (λ (z : ℕ). T (eqb a z)) q (eqb_refl a)))
      | inr r ↦ there a r.0
    ];
  }
    where
      there : (a : ℕ) → T (stands ss a) → T (live (tables_of (with_kin rest (kin_of ss gs)) ss os hs) (subject a))
      there a h = both (in_range (subject a)) (is_some (entries ss os (subject a))) (housed_range (subject a) (within rest ss os hs ls lo (subject a) _ is)) (subst (λ (o : Option Entry). T (is_some o)) (sym is) tt)
        where
          is : entries ss os (subject a) ≡ some (entry running (label (get_or ss a no_subject).level (get_or ss a no_subject).shops))
          is = cond_no (eqb (get_or ss a no_subject).live 0) none (some (entry running (label (get_or ss a no_subject).level (get_or ss a no_subject).shops))) h

-- ── leads ──
-- the members of a group have one lead, and no others have it
module _ (kin : ℕ → ℕ → Bool) (back : (a b : ℕ) → T (kin a b) → T (kin b a)) (on : (a b c : ℕ) → T (kin a b) → T (kin b c) → T (kin a c)) (ld : List ℕ) (l : Leads kin ld) where
  pub one_lead : (a b : ℕ) → a < 32 → b < 32 → T (kin a b) → get_or ld a 0 ≡ get_or ld b 0
  one_lead a b la lb h = omega (
    arith,
    l.lowest a (get_or ld b 0) la (l.low b lb) (on a b (get_or ld b 0) h (l.member b lb)),
    l.lowest b (get_or ld a 0) lb (l.low a la) (on b a (get_or ld a 0) (back a b h) (l.member a la)),
  )

  pub lead_kin : (a b : ℕ) → a < 32 → b < 32 → get_or ld a 0 ≡ get_or ld b 0 → T (kin a b)
  lead_kin a b la lb q = on a (get_or ld a 0) b (l.member a la) (back b (get_or ld a 0) (subst (λ (z : ℕ). T (kin b z)) (sym q) (l.member b lb)))

-- ── a free byte ──
-- a byte below n that no number of a list shorter than n is
abbrev without : ℕ → List ℕ → List ℕ
without v [] = []
without v (x ∷ l) = cond (eqb x v) (without v l) (x ∷ without v l)

without_shorter : (v : ℕ) (l : List ℕ) → length (without v l) ≤ length l
without_shorter v [] = omega arith
without_shorter v (x ∷ l) = go (eqb x v) (without_shorter v l)
  where
    go : (b : Bool) → length (without v l) ≤ length l → length (cond b (without v l) (x ∷ without v l)) ≤ suc (length l)
    go true h = omega arith
    go false h = omega arith

without_one : (v : ℕ) (l : List ℕ) → In v l → length (without v l) < length l
without_one v [] i = absurd i
without_one v (x ∷ l) (inl q) = rw (eq-eqb x v q) (omega (arith, without_shorter v l))
without_one v (x ∷ l) (inr i) = go (eqb x v) (without_one v l i)
  where
    go : (b : Bool) → length (without v l) < length l → length (cond b (without v l) (x ∷ without v l)) < suc (length l)
    go true h = omega arith
    go false h = omega arith

without_keeps : (v w : ℕ) (l : List ℕ) → (w ≡ v → ⊥) → In w l → In w (without v l)
without_keeps v w [] n i = absurd i
without_keeps v w (x ∷ l) n (inl q) = rw (ne_eqb x v (λ e. n (sym q ∙ e))) (inl q)
without_keeps v w (x ∷ l) n (inr i) = go (eqb x v) (without_keeps v w l n i)
  where
    go : (b : Bool) → In w (without v l) → In w (cond b (without v l) (x ∷ without v l))
    go true h = h
    go false h = inr h

is_in : (v : ℕ) (l : List ℕ) → In v l ⊎ (In v l → ⊥)
is_in v [] = inr (λ i. i)
is_in v (x ∷ l) = go (ℕ_discrete x v) (is_in v l)
  where
    go : Dec (x ≡ v) → In v l ⊎ (In v l → ⊥) → In v (x ∷ l) ⊎ (In v (x ∷ l) → ⊥)
    go (yes e) r = inl (inl e)
    go (no n) (inl i) = inl (inr i)
    go (no n) (inr h) = inr (λ i. elim i [ inl e ↦ n e | inr j ↦ h j ])

-- a group number is free where fewer than n are in use
pub free_below : (n : ℕ) (l : List ℕ) → length l < n → (v : ℕ) × (v < n) × (In v l → ⊥)
free_below zero l h = absurd (omega arith)
free_below (suc n) l h = go (is_in n l) (free_below n (without n l))
  where
    go : In n l ⊎ (In n l → ⊥) → (length (without n l) < n → (v : ℕ) × (v < n) × (In v (without n l) → ⊥)) → (v : ℕ) × (v < suc n) × (In v l → ⊥)
    go (inr f) k = (n, omega arith, f)
    go (inl i) k = let r = k (omega (arith, without_one n l i)) in
        (r.0, omega (arith, r.1), λ j. r.2 (without_keeps n r.0 l (λ e. absurd (omega (arith, r.1, e))) j))

-- ── groups after a store ──
-- the groups are those that they were where the same subjects are live
pub kin_live : (ss ss' : List Subject) (gs : List ℕ) → ((a : ℕ) → stands ss' a ≡ stands ss a) → kin_of ss' gs ≡ kin_of ss gs
kin_live ss ss' gs f = fun_ext (λ a. fun_ext (λ b. ap₂ (λ (p q : Bool). eqb a b || (p && (q && eqb (get_or gs a 0) (get_or gs b 0)))) (f a) (f b)))

-- a record stored at c, and a byte
module _ (ss : List Subject) (gs : List ℕ) (c : ℕ) (x : Subject) (ls : length ss ≡ 32) (lg : length gs ≡ 32) (low : c < 32) where
  stands_here : stands (set ss c x) c ≡ not (eqb x.live 0)
  stands_here = ap (λ (y : Subject). not (eqb y.live 0)) (get_or-set_same ss c x no_subject (omega arith))

  stands_there : (a : ℕ) → (a ≡ c → ⊥) → stands (set ss c x) a ≡ stands ss a
  stands_there a n = ap (λ (y : Subject). not (eqb y.live 0)) (get_or-set_other ss c a x no_subject n)

  byte_here : (v : ℕ) → get_or (set gs c v) c 0 ≡ v
  byte_here v = get_or-set_same gs c v 0 (omega arith)

  byte_there : (v a : ℕ) → (a ≡ c → ⊥) → get_or (set gs c v) a 0 ≡ get_or gs a 0
  byte_there v a n = get_or-set_other gs c a v 0 n

  -- two that are not c
  apart_kin : (v a b : ℕ) → (a ≡ c → ⊥) → (b ≡ c → ⊥) → kin_of (set ss c x) (set gs c v) a b ≡ kin_of ss gs a b
  apart_kin v a b n k = ap₂ (λ (p q : Bool). eqb a b || (p && (q && eqb (get_or (set gs c v) a 0) (get_or (set gs c v) b 0)))) (stands_there a n) (stands_there b k)
      ∙ ap₂ (λ (g h : ℕ). eqb a b || (stands ss a && (stands ss b && eqb g h))) (byte_there v a n) (byte_there v b k)

  -- one that is still not live, or has a byte that no other has, is by itself
  none_here : (v a : ℕ) → (a ≡ c → ⊥) → T (not (stands ss c)) → (T (stands ss a) → get_or gs a 0 ≡ v → ⊥) → (kin_of (set ss c x) (set gs c v) c a ≡ kin_of ss gs c a)
      × (kin_of (set ss c x) (set gs c v) a c ≡ kin_of ss gs a c)
  none_here v a n d f = (first ∙ sym first', second ∙ sym second')
    where
      no_pair : (p : Bool) → (p && (stands ss a && eqb v (get_or gs a 0))) ≡ false
      no_pair p = is_false (p && (stands ss a && eqb v (get_or gs a 0))) (not_T (p && (stands ss a && eqb v (get_or gs a 0)))
          (λ h. let k = both_of (stands ss a) (eqb v (get_or gs a 0)) (both_of p (stands ss a && eqb v (get_or gs a 0)) h).1 in
          f k.0 (sym (eqb→eq v (get_or gs a 0) k.1))))

      no_pair' : (p : Bool) → (stands ss a && (p && eqb (get_or gs a 0) v)) ≡ false
      no_pair' p = is_false (stands ss a && (p && eqb (get_or gs a 0) v)) (not_T (stands ss a && (p && eqb (get_or gs a 0) v))
          (λ h. let k = both_of (stands ss a) (p && eqb (get_or gs a 0) v) h in
          f k.0 (eqb→eq (get_or gs a 0) v (both_of p (eqb (get_or gs a 0) v) k.1).1)))

      or_none : (p q : Bool) → q ≡ false → (p || q) ≡ p
      or_none true q z = refl
      or_none false q z = z

      none_left : (p q : Bool) → p ≡ false → (p && q) ≡ false
      none_left p q z = ap (λ (b : Bool). b && q) z

      none_right : (p q r : Bool) → q ≡ false → (p && (q && r)) ≡ false
      none_right true q r z = ap (λ (b : Bool). b && r) z
      none_right false q r z = refl

      first : kin_of (set ss c x) (set gs c v) c a ≡ eqb c a
      first = ap₂ (λ (q : Bool) (h : ℕ). eqb c a || (stands (set ss c x) c && (q && eqb (get_or (set gs c v) c 0) h))) (stands_there a n) (byte_there v a n)
          ∙ ap (λ (g : ℕ). eqb c a || (stands (set ss c x) c && (stands ss a && eqb g (get_or gs a 0)))) (byte_here v)
          ∙ or_none (eqb c a) _ (no_pair (stands (set ss c x) c))

      first' : kin_of ss gs c a ≡ eqb c a
      first' = or_none (eqb c a) _ (none_left (stands ss c) _ (is_false (stands ss c) d))

      second : kin_of (set ss c x) (set gs c v) a c ≡ eqb a c
      second = ap₂ (λ (q : Bool) (g : ℕ). eqb a c || (q && (stands (set ss c x) c && eqb g (get_or (set gs c v) c 0)))) (stands_there a n) (byte_there v a n)
          ∙ ap (λ (h : ℕ). eqb a c || (stands ss a && (stands (set ss c x) c && eqb (get_or gs a 0) h))) (byte_here v)
          ∙ or_none (eqb a c) _ (no_pair' (stands (set ss c x) c))

      second' : kin_of ss gs a c ≡ eqb a c
      second' = or_none (eqb a c) _ (none_right (stands ss a) (stands ss c) _ (is_false (stands ss c) d))

  -- with itself anyone is
  self_kin : (tt' : List Subject) (hs : List ℕ) → kin_of tt' hs c c ≡ true
  self_kin tt' hs = ap (λ (b : Bool). b || (stands tt' c && (stands tt' c && eqb (get_or hs c 0) (get_or hs c 0)))) (eq-eqb c c refl)

  -- RULES C113: a new subject whose byte no live one has is by itself
  pub kin_new : (v : ℕ) → T (not (stands ss c)) → Fresh ss gs v → kin_of (set ss c x) (set gs c v) ≡ kin_of ss gs
  kin_new v d f = fun_ext (λ a. fun_ext (λ b. elim (ℕ_discrete a c) [
    | yes e ↦ elim (ℕ_discrete b c) [
      | yes k ↦ rw (e, k) (self_kin (set ss c x) (set gs c v) ∙ sym (self_kin ss gs))
      | no k ↦ rw e (none_here v b k d (f b)).0
    ]
    | no n ↦ elim (ℕ_discrete b c) [ yes k ↦ rw k (none_here v a n d (f a)).1 | no k ↦ apart_kin v a b n k ]
  ]))

  -- RULES C18: one that has the byte of a live subject is in its group
  pub kin_joined : (s : ℕ) → (s ≡ c → ⊥) → T (not (stands ss c)) → T (stands ss s) → T (not (eqb x.live 0))
      → kin_of (set ss c x) (set gs c (get_or gs s 0)) ≡ bound c s (kin_of ss gs)
  kin_joined s ne d l k = fun_ext (λ a. fun_ext (λ b. at a b (ℕ_discrete a c) (ℕ_discrete b c)))
    where
      here : T (stands (set ss c x) c)
      here = subst T (sym stands_here) k

      off : (a : ℕ) → (a ≡ c → ⊥) → stand_in c s a ≡ a
      off a n = ap (λ (b : Bool). cond b s a) (ne_eqb c a (λ q. n (sym q)))

      on : (a : ℕ) → a ≡ c → stand_in c s a ≡ s
      on a e = ap (λ (b : Bool). cond b s a) (eq-eqb c a (sym e))

      -- c and another
      pair : (b : ℕ) → (b ≡ c → ⊥) → kin_of (set ss c x) (set gs c (get_or gs s 0)) c b ≡ kin_of ss gs s b
      pair b n = same_test (kin_of (set ss c x) (set gs c (get_or gs s 0)) c b) (kin_of ss gs s b)
          (λ h. elim (kin_cases (set ss c x) (set gs c (get_or gs s 0)) c b h) [
            | inl q ↦ absurd (n (sym q))
            | inr r ↦ kin_two ss gs s b l (subst T (stands_there b n) r.1)
                (subst₂ (λ (g h : ℕ). T (eqb g h)) (byte_here (get_or gs s 0)) (byte_there (get_or gs s 0) b n) r.2)
          ])
          (λ h. kin_two (set ss c x) (set gs c (get_or gs s 0)) c b here (subst T (sym (stands_there b n)) (other b h))
          (subst₂ (λ (g h : ℕ). T (eqb g h)) (sym (byte_here (get_or gs s 0))) (sym (byte_there (get_or gs s 0) b n)) (bytes b h)))
        where
          other : (b : ℕ) → T (kin_of ss gs s b) → T (stands ss b)
          other b h = elim (kin_cases ss gs s b h) [ inl q ↦ subst (λ (z : ℕ). T (stands ss z)) q l | inr r ↦ r.1 ]

          bytes : (b : ℕ) → T (kin_of ss gs s b) → T (eqb (get_or gs s 0) (get_or gs b 0))
          bytes b h = elim (kin_cases ss gs s b h) [ inl q ↦ subst (λ (z : ℕ). T (eqb (get_or gs s 0) (get_or gs z 0))) q (eqb_refl (get_or gs s 0)) | inr r ↦ r.2 ]

      at : (a b : ℕ) → Dec (a ≡ c) → Dec (b ≡ c) → kin_of (set ss c x) (set gs c (get_or gs s 0)) a b ≡ kin_of ss gs (stand_in c s a) (stand_in c s b)
      at a b (yes e) (yes k) = rw (on a e, on b k, e, k) (self_kin (set ss c x) (set gs c (get_or gs s 0)) ∙ sym (is_true (kin_of ss gs s s) (kin_same ss gs s s refl)))
      at a b (yes e) (no k) = rw (on a e, off b k, e) (pair b k)
      at a b (no n) (yes k) = rw (off a n, on b k, k) (kin_flip (set ss c x) (set gs c (get_or gs s 0)) a c ∙ pair a n ∙ kin_flip ss gs s a)
      at a b (no n) (no k) = rw (off a n, off b k) (apart_kin (get_or gs s 0) a b n k)

-- some are gone, and nobody else is touched
pub kin_parted : (ss ss' : List Subject) (gs : List ℕ) (gone : Thing → Bool) → ((a : ℕ) → stands ss' a ≡ (not (gone (subject a)) && stands ss a))
    → kin_of ss' gs ≡ parted gone (kin_of ss gs)
kin_parted ss ss' gs gone f = fun_ext (λ a. fun_ext (λ b.
    ap₂ (λ (p q : Bool). eqb a b || (p && (q && eqb (get_or gs a 0) (get_or gs b 0)))) (f a) (f b)
    ∙ go (eqb a b) (not (gone (subject a))) (stands ss a) (not (gone (subject b))) (stands ss b) (eqb (get_or gs a 0) (get_or gs b 0))))
  where
    go : (e p q r s g : Bool) → (e || ((p && q) && ((r && s) && g))) ≡ (e || (p && (r && (e || (q && (s && g))))))
    go true p q r s g = refl
    go false false q r s g = refl
    go false true q false s g = and_none q
      where
        and_none : (q : Bool) → (q && false) ≡ false
        and_none true = refl
        and_none false = refl
    go false true q true s g = refl
