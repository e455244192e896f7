-- The laws of `refusal`: it is none exactly where no test of the call fails, and n exactly where a test of number n fails and none
-- that comes earlier in the order. Assumes nothing.
use Rattle.std.specs.Prelude.{◌≡◌, refl, Bool, true, false, not, ◌||◌, ◌⊎◌, ◌↔◌, List, [], ◌∷◌, ℕ, T, eqb}
use Rattle.std.proofs.Common.{sym, ◌∙◌, ap, ap₂, subst, inl, inr, arith, T_not, eqb→eq}
use Rattle.std.proofs.Math.Option.{Option, none, some, none-ne-some, some-ne-none, some-injective}
use Rattle.std.proofs.Math.Dec.{eqb_refl}
use Rattle.model.specs.Bools.{test, or_cases, or_left, or_right, both, both_of}
use Rattle.model.specs.Lists.{In, any}
use Rattle.model.specs.Lists.Laws.{any_at}
use Rattle.model.specs.Label.{level}
use Rattle.model.specs.Tables.{Tables}
use Rattle.model.specs.Calls.{Call, Test, known, alive, present, no_pipe, leveled, freezable, new, vacant, taken, apart, unlike, others, facing, enough, suits, idle, thawed, roomy, number, broken, tests, order, breaks, first, earlier, InOrder, refusal, effect, next, Shown, level_at, given, shown, Answer, refused, lowers, last_label, fewer, outcome, said, answer}

-- ── breaks ──
breaks_of : (t : Tables) (n : ℕ) (ds : List Test) (d : Test) → In d ds → number d ≡ n → T (broken t d) → T (breaks t n ds)
breaks_of t n [] d i q b = absurd i
breaks_of t n (e ∷ ds) d (inl z) q b = or_left (elim (eqb (number e) n) as (λ _. Bool) [ true ↦ broken t e | false ↦ false ]) (breaks t n ds)
    (go (eqb (number e) n) (subst (λ (m : ℕ). T (eqb (number e) m)) (ap number z ∙ q) (eqb_refl (number e))))
  where
    go : (a : Bool) → T a → T (elim a as (λ _. Bool) [ true ↦ broken t e | false ↦ false ])
    go true u = subst (λ (x : Test). T (broken t x)) (sym z) b
    go false u = absurd u
breaks_of t n (e ∷ ds) d (inr i) q b = or_right (elim (eqb (number e) n) as (λ _. Bool) [ true ↦ broken t e | false ↦ false ])
    (breaks t n ds) (breaks_of t n ds d i q b)

breaks_at : (t : Tables) (n : ℕ) (ds : List Test) → T (breaks t n ds) → (d : Test) × In d ds × (number d ≡ n) × T (broken t d)
breaks_at t n [] h = absurd h
breaks_at t n (e ∷ ds) h = go (eqb (number e) n) (eqb→eq (number e) n) (breaks_at t n ds)
    (or_cases (elim (eqb (number e) n) as (λ _. Bool) [ true ↦ broken t e | false ↦ false ]) (breaks t n ds) h)
  where
    go : (a : Bool) → (T a → number e ≡ n) → (T (breaks t n ds) → (d : Test) × In d ds × (number d ≡ n) × T (broken t d))
        → T (elim a as (λ _. Bool) [ true ↦ broken t e | false ↦ false ]) ⊎ T (breaks t n ds) → (d : Test) × In d (e ∷ ds) × (number d ≡ n) × T (broken t d)
    go true q ih (inl b) = (e, inl refl, q tt, b)
    go false q ih (inl b) = absurd b
    go a q ih (inr b) = let r = ih b in (r.0, inr r.1, r.2, r.3)

-- ── first ──
abbrev Passed : Tables → List Test → ℕ → List ℕ → Type 0
Passed t ds n ns = (e : Test) → In e ds → T (earlier (number e) n ns) → T (not (broken t e))

unmet : (t : Tables) (ds : List Test) (n : ℕ) → ((e : Test) → In e ds → number e ≡ n → T (not (broken t e))) → T (not (breaks t n ds))
unmet t ds n f = elim (test (breaks t n ds)) [
  | inl h ↦ (let r = breaks_at t n ds h in absurd
      (T_not (broken t r.0) (f r.0 r.1 r.2) r.3))
  | inr h ↦ h
]

first_is : (t : Tables) (ds : List Test) (ns : List ℕ) (n : ℕ) → In n ns → T (breaks t n ds) → Passed t ds n ns → first t ds ns ≡ some n
first_is t ds [] n j b h = absurd j
first_is t ds (k ∷ ks) n j b h = go (test (eqb k n)) (first_is t ds ks n)
  where
    hit : (z : Bool) → T z → ◌≡◌ {A = Option ℕ} (elim z as (λ _. Option ℕ) [ true ↦ some k | false ↦ first t ds ks ]) (some k)
    hit true u = refl
    hit false u = absurd u

    miss : (z : Bool) → T (not z) → ◌≡◌ {A = Option ℕ} (elim z as (λ _. Option ℕ) [ true ↦ some k | false ↦ first t ds ks ]) (first t ds ks)
    miss true u = absurd u
    miss false u = refl

    go : T (eqb k n) ⊎ T (not (eqb k n)) → (In n ks → T (breaks t n ds) →
        ((e : Test) → In e ds → T (earlier (number e) n ks) → T (not (broken t e))) → first t ds ks ≡ some n) → first t ds (k ∷ ks) ≡ some n
    go (inl e) ih = hit (breaks t k ds) (subst (λ (z : ℕ). T (breaks t z ds)) (sym (eqb→eq k n e)) b) ∙ ap {B = Option ℕ} some (eqb→eq k n e)
    go (inr e) ih = miss (breaks t k ds) (unmet t ds k (λ c m q. h c m
        (both (not (eqb k n)) (eqb k (number c) || earlier (number c) n ks) e
        (or_left (eqb k (number c)) (earlier (number c) n ks) (subst (λ (z : ℕ). T (eqb z (number c))) q (eqb_refl (number c)))))))
        ∙ ih (elim j [ inl q ↦ absurd (T_not (eqb k n) e (subst (λ (z : ℕ). T (eqb k z)) q (eqb_refl k))) | inr q ↦ q ]) b
        (λ c m q. h c m (both (not (eqb k n)) (eqb k (number c) || earlier (number c) n ks) e (or_right (eqb k (number c)) (earlier (number c) n ks) q)))

first_hit : (t : Tables) (ds : List Test) (ns : List ℕ) (n : ℕ) → first t ds ns ≡ some n → T (breaks t n ds) × Passed t ds n ns
first_hit t ds [] n q = absurd (none-ne-some n q)
first_hit t ds (k ∷ ks) n q = go (breaks t k ds) refl q (first_hit t ds ks n)
  where
    go : (z : Bool) → breaks t k ds ≡ z → ◌≡◌ {A = Option ℕ} (elim z as (λ _. Option ℕ) [ true ↦ some k | false ↦ first t ds ks ]) (some n)
        → (first t ds ks ≡ some n → T (breaks t n ds) × ((e : Test) → In e ds → T (earlier (number e) n ks) → T (not (broken t e)))) → T
        (breaks t n ds) × ((e : Test) → In e ds → T (earlier (number e) n (k ∷ ks)) → T (not (broken t e)))
    go true e r ih = (
      subst (λ (z : ℕ). T (breaks t z ds)) (some-injective k n r) (subst T (sym e) tt),
      λ c m l. absurd (T_not (eqb k n) (both_of (not (eqb k n)) (eqb k (number c) || earlier (number c) n ks) l).0
          (subst (λ (z : ℕ). T (eqb k z)) (some-injective k n r) (eqb_refl k))),
    )
    go false e r ih = (
      (ih r).0,
      λ c m l. elim (or_cases (eqb k (number c)) (earlier (number c) n ks) (both_of (not (eqb k n)) (eqb k (number c) || earlier (number c) n ks) l).1) [
        | inl d ↦ (elim (test (broken t c)) [
          | inl b ↦ absurd
              (T_not (breaks t k ds) (subst (λ (z : Bool). T (not z)) (sym e) tt)
              (breaks_of t k ds c m (sym (eqb→eq k (number c) d)) b))
          | inr b ↦ b
        ])
        | inr d ↦ (ih r).1 c m d
      ],
    )

first_none : (t : Tables) (ds : List Test) (ns : List ℕ) → ((d : Test) → In d ds → T (not (broken t d))) → first t ds ns ≡ none
first_none t ds [] h = refl
first_none t ds (n ∷ ns) h = go (breaks t n ds) (unmet t ds n (λ e i q. h e i)) (first_none t ds ns h)
  where
    go : (b : Bool) → T (not b) → first t ds ns ≡ none → ◌≡◌ {A = Option ℕ} (elim b as (λ _. Option ℕ) [ true ↦ some n | false ↦ first t ds ns ]) none
    go true p q = absurd p
    go false p q = q

none_first : (t : Tables) (ds : List Test) (ns : List ℕ) (d : Test) → first t ds ns ≡ none → In d ds → In (number d) ns → T (not (broken t d))
none_first t ds [] d q i j = absurd j
none_first t ds (n ∷ ns) d q i j = go (breaks t n ds) refl q j (λ r k. none_first t ds ns d r i k)
  where
    go : (b : Bool) → breaks t n ds ≡ b → ◌≡◌ {A = Option ℕ} (elim b as (λ _. Option ℕ) [ true ↦ some n | false ↦ first t ds ns ]) none → In (number d) (n ∷ ns)
        → (first t ds ns ≡ none → In (number d) ns → T (not (broken t d))) → T (not (broken t d))
    go true e r k ih = absurd (some-ne-none n r)
    go false e r (inl k) ih = elim (test (broken t d)) [
      | inl b ↦ absurd
          (T_not (breaks t n ds) (subst (λ (z : Bool). T (not z)) (sym e) tt) (breaks_of t n ds d i (sym k) b))
      | inr b ↦ b
    ]
    go false e r (inr k) ih = ih r k

-- what comes before a number comes before all that the number comes before
pub earlier_on : (m n k : ℕ) (ns : List ℕ) → T (earlier m n ns) → T (earlier n k ns) → T (earlier m k ns)
earlier_on m n k [] h g = absurd h
earlier_on m n k (j ∷ ns) h g = both (not (eqb j k)) (eqb j m || earlier m k ns) b.0 (elim (or_cases (eqb j m) (earlier m n ns) a.1) [
  | inl e ↦ or_left (eqb j m) (earlier m k ns) e
  | inr l ↦ or_right (eqb j m) (earlier m k ns) (earlier_on m n k ns l (elim (or_cases (eqb j n) (earlier n k ns) b.1) [
    | inl e ↦ absurd (T_not (eqb j n) a.0 e)
    | inr r ↦ r
  ]))
])
  where
    a : T (not (eqb j n)) × T (eqb j m || earlier m n ns)
    a = both_of (not (eqb j n)) (eqb j m || earlier m n ns) h

    b : T (not (eqb j k)) × T (eqb j n || earlier n k ns)
    b = both_of (not (eqb j k)) (eqb j n || earlier n k ns) g

-- ── every number of a test stands in the order ──
listed : (d : Test) → In (number d) order
listed d = let r = any_at (λ n. eqb n (number d)) order (stands d) in subst (λ (n : ℕ). In n order) (eqb→eq r.0 (number d) r.2) r.1
  where
    stands : (d : Test) → T (any (λ n. eqb n (number d)) order)
    stands known = tt
    stands (alive s) = tt
    stands (new x) = tt
    stands (present o) = tt
    stands (no_pipe o) = tt
    stands (leveled n) = tt
    stands (freezable n) = tt
    stands (vacant s p) = tt
    stands (taken s p) = tt
    stands (apart r w) = tt
    stands (unlike a b) = tt
    stands (others s u) = tt
    stands (facing d s p) = tt
    stands (enough c) = tt
    stands (suits s o) = tt
    stands (idle o) = tt
    stands (thawed d o) = tt
    stands (roomy k) = tt

-- ── refusal ──
pub allowed_iff : (t : Tables) (c : Call) → (refusal t c ≡ none) ↔ ((d : Test) → In d (tests c) → T (not (broken t d)))
unfolding refusal
allowed_iff t c = (λ q d i. none_first t (tests c) order d q i (listed d), first_none t (tests c) order)

pub refused_is : (t : Tables) (c : Call) (d : Test) → In d (tests c) → T (broken t d) → InOrder t c (number d) → refusal t c ≡ some (number d)
unfolding refusal
refused_is t c d i b h = first_is t (tests c) order (number d) (listed d) (breaks_of t (number d) (tests c) d i refl b) h

pub refused_by : (t : Tables) (c : Call) (n : ℕ) → refusal t c ≡ some n → ((d : Test) × In d (tests c) × (number d ≡ n) × T (broken t d)) × InOrder t c n
unfolding refusal
refused_by t c n q = let r = first_hit t (tests c) order n q in (breaks_at t n (tests c) r.0, r.1)

pub refused_listed : (t : Tables) (c : Call) (n : ℕ) → refusal t c ≡ some n → In n order
refused_listed t c n q = let (d, i, e, b) = (refused_by t c n q).0 in subst (λ (k : ℕ). In k order) e (listed d)

-- calls whose tests of each number come to the same are refused alike
pub refusal_same : (t : Tables) (c e : Call) → ((n : ℕ) → breaks t n (tests c) ≡ breaks t n (tests e)) → refusal t c ≡ refusal t e
unfolding refusal
refusal_same t c e f = go order
  where
    go : (ns : List ℕ) → first t (tests c) ns ≡ first t (tests e) ns
    go [] = refl
    go (n ∷ ns) = ap₂ (λ (b : Bool) (o : Option ℕ). elim b as (λ _. Option ℕ) [ true ↦ some n | false ↦ o ]) (f n) (go ns)

-- ── the only test of its number: each of the list that has the number of d is d ──
abbrev Only : Test → List Test → Type 0
Only d [] = Unit {0}
Only d (e ∷ ds) = (T (not (eqb (number e) (number d))) ⊎ (e ≡ d)) × Only d ds

pub only : (t : Tables) (d : Test) (ds : List Test) → Only d ds → (e : Test) × In e ds × (number e ≡ number d) × T (broken t e) → T (broken t d)
only t d [] o r = absurd r.1
only t d (x ∷ ds) o (e, inr i, n, b) = only t d ds o.1 (e, i, n, b)
only t d (x ∷ ds) o (e, inl q, n, b) = elim o.0 [
  | inl m ↦ absurd (T_not (eqb (number x) (number d)) m (subst (λ (k : ℕ). T (eqb (number x) k)) (ap number q ∙ n) (eqb_refl (number x))))
  | inr z ↦ subst (λ (y : Test). T (broken t y)) (sym q ∙ z) b
]

-- ── next ──
pub next_allowed : (t : Tables) (c : Call) → refusal t c ≡ none → next t c ≡ effect t c
next_allowed t c q = ap (λ (o : Option ℕ). elim o as (λ _. Tables) [ none ↦ effect t c | some n ↦ t ]) q

pub next_refused : (t : Tables) (c : Call) (n : ℕ) → refusal t c ≡ some n → next t c ≡ t
next_refused t c n q = ap (λ (o : Option ℕ). elim o as (λ _. Tables) [ none ↦ effect t c | some n ↦ t ]) q

-- ── answers ──
-- what is answered with a refusal is refused, with that number
pub answered_refused : (t : Tables) (c : Call) (n : ℕ) → (answer t c ≡ refused n) ↔ (refusal t c ≡ some n)
unfolding answer
answered_refused t c n = go (refusal t c)
  where
    made : (b : Bool) (l k : ℕ) → outcome b l k ≡ refused n → ⊥
    made true l k e = let z : ◌≡◌ {A = ℕ} 0 1 = cc in omega arith
    made false l k e = let z : ◌≡◌ {A = ℕ} 0 1 = cc in omega arith

    allows : (x : Shown) → said t (effect t c) x ≡ refused n → ⊥
    allows (level_at x) e = made (lowers t (effect t c)) (level (last_label (t.at x) ((effect t c).at x))) (fewer (t.at x) ((effect t c).at x)) e
    allows (given k) e = let z : ◌≡◌ {A = ℕ} 0 1 = cc in omega arith

    go : (o : Option ℕ) → ((elim o as (λ _. Answer) [ none ↦ said t (effect t c) (shown t c) | some m ↦ refused m ]) ≡ refused n) ↔ (o ≡ some n)
    go none = (λ e. absurd (allows (shown t c) e), λ e. absurd (none-ne-some n e))
    go (some m) = (λ e. cc, λ e. cc)
