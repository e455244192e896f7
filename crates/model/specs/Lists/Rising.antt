-- Rising lists of numbers: two that have the same members are the same list. So a list of the live objects' numbers says nothing beside the entries (RULES T44).
-- Then how long such a list is, for RULES R17, and the first of its elements from a number on (RULES H28). Assumes nothing.
use Rattle.std.specs.Prelude.{◌≡◌, refl, Bool, true, false, not, cond, ◌⊎◌, List, [], ◌∷◌, ◌++◌, ℕ, zero, suc, ◌+◌, ◌<◌, ◌≤◌, length, T, eqb, ltb}
use Rattle.std.proofs.Common.{sym, ◌∙◌, ap, ap₂, subst, inl, inr, arith, le_refl, T_not, eqb→eq, ltb→lt, lt→ltb, nltb→le}
use Rattle.std.proofs.Math.Dec.{eqb_refl}
use Rattle.model.specs.Bools.{test, cond_yes, cond_no}
use Rattle.model.specs.Lists.{In, each, keep, insert, inserts, only, from_on}
use Rattle.model.specs.Lists.Laws.{keep_here, keep_cases, in_cases, in_each, each_in}

abbrev pub Rising : List ℕ → Type 0
Rising [] = Unit {0}
Rising (x ∷ l) = ((y : ℕ) → In y l → x < y) × Rising l

pub rising_same : (l m : List ℕ) → Rising l → Rising m → ((n : ℕ) → In n l → In n m) → ((n : ℕ) → In n m → In n l) → l ≡ m
rising_same [] [] r s f g = refl
rising_same [] (y ∷ m) r s f g = absurd (g y (inl refl))
rising_same (x ∷ l) [] r s f g = absurd (f x (inl refl))
rising_same (x ∷ l) (y ∷ m) r s f g = ap₂ {C = List ℕ} (λ (z : ℕ) (k : List ℕ). z ∷ k) heads (rising_same l m r.1 s.1
    (λ n i. past n (y ∷ m) y m refl heads (r.0 n i) (f n (inr i)))
    (λ n i. past' n heads (s.0 n i) (g n (inr i))))
  where
    one : (y ≡ x) ⊎ In x m → (x ≡ y) ⊎ In y l → x ≡ y
    one (inl e) k = sym e
    one (inr i) (inl e) = e
    one (inr i) (inr k) = let a : y < x = s.0 x i in let b : x < y = r.0 y k in absurd (omega arith)

    heads : x ≡ y
    heads = one (f x (inl refl)) (g y (inl refl))

    past : (n : ℕ) (k : List ℕ) (z : ℕ) (j : List ℕ) → k ≡ z ∷ j → x ≡ y → x < n → (y ≡ n) ⊎ In n m → In n m
    past n k z j q e l (inl d) = absurd (let c : x ≡ n = e ∙ d in omega arith)
    past n k z j q e l (inr i) = i

    past' : (n : ℕ) → x ≡ y → y < n → (x ≡ n) ⊎ In n l → In n l
    past' n e l (inl d) = absurd (let c : y ≡ n = sym e ∙ d in omega arith)
    past' n e l (inr i) = i

-- ── one more ──
not_less : (a b : ℕ) → T (not (ltb a b)) → a < b → ⊥
not_less a b n l = T_not (ltb a b) n (lt→ltb a b l)

not_same : (a b : ℕ) → T (not (eqb a b)) → a ≡ b → ⊥
not_same a b n e = T_not (eqb a b) n (subst (λ (z : ℕ). T (eqb a z)) e (eqb_refl a))

-- the three ways of an insertion
pub data Way (a x : ℕ) (l m : List ℕ) : Type 0 where
  front : a < x → m ≡ (a ∷ x ∷ l) → Way a x l m
  there : a ≡ x → m ≡ (x ∷ l) → Way a x l m
  later : x < a → m ≡ (x ∷ insert a l) → Way a x l m

way : (a x : ℕ) (l : List ℕ) → Way a x l (insert a (x ∷ l))
way a x l = elim (test (ltb a x)) [
  | inl h ↦ front (ltb→lt a x h) (cond_yes (ltb a x) (a ∷ x ∷ l) (cond (eqb a x) (x ∷ l) (x ∷ insert a l)) h)
  | inr h ↦ (elim (test (eqb a x)) [
    | inl k ↦ there (eqb→eq a x k) (cond_no (ltb a x) (a ∷ x ∷ l) (cond (eqb a x) (x ∷ l) (x ∷ insert a l)) h ∙ cond_yes (eqb a x) (x ∷ l) (x ∷ insert a l) k)
    | inr k ↦ later (let p = not_less a x h in let q = not_same a x k in omega (arith, p, q)) (cond_no (ltb a x) (a ∷ x ∷ l) (cond (eqb a x) (x ∷ l) (x ∷ insert a l)) h ∙ cond_no (eqb a x) (x ∷ l) (x ∷ insert a l) k)
  ])
]

pub insert_in : (a n : ℕ) (l : List ℕ) → In n (insert a l) → (a ≡ n) ⊎ In n l
insert_in a n [] i = i
insert_in a n (x ∷ l) i = go (way a x l) (insert_in a n l)
  where
    past : (x ≡ n) ⊎ In n (insert a l) → (In n (insert a l) → (a ≡ n) ⊎ In n l) → (a ≡ n) ⊎ In n (x ∷ l)
    past (inl e) ih = inr (inl e)
    past (inr j) ih = elim (ih j) [ inl e ↦ inl e | inr k ↦ inr (inr k) ]

    go : Way a x l (insert a (x ∷ l)) → (In n (insert a l) → (a ≡ n) ⊎ In n l) → (a ≡ n) ⊎ In n (x ∷ l)
    go (front h q) ih = subst (λ (m : List ℕ). In n m) q i
    go (there h q) ih = inr (subst (λ (m : List ℕ). In n m) q i)
    go (later h q) ih = past (subst (λ (m : List ℕ). In n m) q i) ih

pub insert_new : (a : ℕ) (l : List ℕ) → In a (insert a l)
insert_new a [] = inl refl
insert_new a (x ∷ l) = go (way a x l) (insert_new a l)
  where
    go : Way a x l (insert a (x ∷ l)) → In a (insert a l) → In a (insert a (x ∷ l))
    go (front h q) ih = subst (λ (m : List ℕ). In a m) (sym q) (inl refl)
    go (there h q) ih = subst (λ (m : List ℕ). In a m) (sym q) (inl (sym h))
    go (later h q) ih = subst (λ (m : List ℕ). In a m) (sym q) (inr ih)

pub insert_old : (a n : ℕ) (l : List ℕ) → In n l → In n (insert a l)
insert_old a n [] i = absurd i
insert_old a n (x ∷ l) i = go (way a x l) (insert_old a n l) i
  where
    go : Way a x l (insert a (x ∷ l)) → (In n l → In n (insert a l)) → (x ≡ n) ⊎ In n l → In n (insert a (x ∷ l))
    go (front h q) ih i = subst (λ (m : List ℕ). In n m) (sym q) (inr i)
    go (there h q) ih i = subst (λ (m : List ℕ). In n m) (sym q) i
    go (later h q) ih (inl e) = subst (λ (m : List ℕ). In n m) (sym q) (inl e)
    go (later h q) ih (inr j) = subst (λ (m : List ℕ). In n m) (sym q) (inr (ih j))

pub insert_rising : (a : ℕ) (l : List ℕ) → Rising l → Rising (insert a l)
insert_rising a [] r = (λ y i. absurd i, tt)
insert_rising a (x ∷ l) r = go (way a x l) (insert_rising a l r.1)
  where
    above : a < x → (y : ℕ) → (x ≡ y) ⊎ In y l → a < y
    above h y (inl e) = let z : x ≡ y = e in omega arith
    above h y (inr i) = let z : x < y = r.0 y i in omega arith

    over : x < a → (y : ℕ) → (a ≡ y) ⊎ In y l → x < y
    over h y (inl e) = let z : a ≡ y = e in omega arith
    over h y (inr i) = r.0 y i

    go : Way a x l (insert a (x ∷ l)) → Rising (insert a l) → Rising (insert a (x ∷ l))
    go (front h q) ih = subst Rising (sym q) (above h, r)
    go (there h q) ih = subst Rising (sym q) r
    go (later h q) ih = subst Rising (sym q) (λ y i. over h y (insert_in a y l i), ih)

pub insert_length : (a : ℕ) (l : List ℕ) → (In a l → ⊥) → length (insert a l) ≡ suc (length l)
insert_length a [] n = refl
insert_length a (x ∷ l) n = go (way a x l) (insert_length a l (λ i. n (inr i)))
  where
    go : Way a x l (insert a (x ∷ l)) → length (insert a l) ≡ suc (length l) → length (insert a (x ∷ l)) ≡ suc (length (x ∷ l))
    go (front h q) ih = ap length q
    go (there h q) ih = absurd (n (inl (sym h)))
    go (later h q) ih = ap length q ∙ ap suc ih

pub insert_le : (a : ℕ) (l : List ℕ) → length (insert a l) ≤ suc (length l)
insert_le a [] = omega arith
insert_le a (x ∷ l) = go (way a x l) (insert_le a l)
  where
    go : Way a x l (insert a (x ∷ l)) → length (insert a l) ≤ suc (length l) → length (insert a (x ∷ l)) ≤ suc (length (x ∷ l))
    go (front h q) ih = let e = ap length q in omega (arith, e)
    go (there h q) ih = let e = ap length q in omega (arith, e)
    go (later h q) ih = let e = ap length q in omega (arith, e, ih)

pub inserts_in : (m l : List ℕ) (n : ℕ) → In n (inserts m l) → In n m ⊎ In n l
inserts_in [] l n i = inr i
inserts_in (a ∷ m) l n i = go (insert_in a n (inserts m l) i) (inserts_in m l n)
  where
    go : (a ≡ n) ⊎ In n (inserts m l) → (In n (inserts m l) → In n m ⊎ In n l) → In n (a ∷ m) ⊎ In n l
    go (inl e) ih = inl (inl e)
    go (inr j) ih = elim (ih j) [ inl k ↦ inl (inr k) | inr k ↦ inr k ]

pub inserts_new : (m l : List ℕ) (n : ℕ) → In n m → In n (inserts m l)
inserts_new [] l n i = absurd i
inserts_new (a ∷ m) l n (inl e) = subst (λ (z : ℕ). In z (insert a (inserts m l))) e (insert_new a (inserts m l))
inserts_new (a ∷ m) l n (inr i) = insert_old a n (inserts m l) (inserts_new m l n i)

pub inserts_old : (m l : List ℕ) (n : ℕ) → In n l → In n (inserts m l)
inserts_old [] l n i = i
inserts_old (a ∷ m) l n i = insert_old a n (inserts m l) (inserts_old m l n i)

pub inserts_rising : (m l : List ℕ) → Rising l → Rising (inserts m l)
inserts_rising [] l r = r
inserts_rising (a ∷ m) l r = insert_rising a (inserts m l) (inserts_rising m l r)

-- ── some of them ──
pub only_of : (f : ℕ → Bool) (l : List ℕ) (n : ℕ) → In n (only f l) → T (f n) × In n l
only_of f [] n i = absurd i
only_of f (x ∷ l) n i = go (f x) refl i (only_of f l n)
  where
    go : (b : Bool) → f x ≡ b → In n (keep b x (only f l)) → (In n (only f l) → T (f n) × In n l) → T (f n) × In n (x ∷ l)
    go true q (inl e) ih = (subst (λ (z : ℕ). T (f z)) e (subst T (sym q) tt), inl e)
    go true q (inr j) ih = ((ih j).0, inr (ih j).1)
    go false q j ih = ((ih j).0, inr (ih j).1)

pub only_in : (f : ℕ → Bool) (l : List ℕ) (n : ℕ) → T (f n) → In n l → In n (only f l)
only_in f [] n h i = absurd i
only_in f (x ∷ l) n h i = go (f x) refl i (only_in f l n h)
  where
    go : (b : Bool) → f x ≡ b → (x ≡ n) ⊎ In n l → (In n l → In n (only f l)) → In n (keep b x (only f l))
    go true q (inl e) ih = inl e
    go true q (inr j) ih = inr (ih j)
    go false q (inl e) ih = absurd (subst T (ap f (sym e) ∙ q) h)
    go false q (inr j) ih = ih j

pub only_rising : (f : ℕ → Bool) (l : List ℕ) → Rising l → Rising (only f l)
only_rising f [] r = tt
only_rising f (x ∷ l) r = go (f x) (only_rising f l r.1)
  where
    go : (b : Bool) → Rising (only f l) → Rising (keep b x (only f l))
    go true ih = (λ y i. r.0 y (only_of f l y i).1, ih)
    go false ih = ih

pub only_le : (f : ℕ → Bool) (l : List ℕ) → length (only f l) ≤ length l
only_le f [] = omega arith
only_le f (x ∷ l) = go (f x) (only_le f l)
  where
    go : (b : Bool) → length (only f l) ≤ length l → length (keep b x (only f l)) ≤ suc (length l)
    go true h = omega arith
    go false h = omega arith

-- ── how many ──
pub from_below : (l : List ℕ) (a k : ℕ) → Rising l → ((n : ℕ) → In n l → (a ≤ n) × (n < k)) → a ≤ k → a + length l ≤ k
from_below [] a k r f h = omega arith
from_below (x ∷ l) a k r f h = let b = f x (inl refl) in
    let c : suc x + length l ≤ k = from_below l (suc x) k r.1 (λ n i. let d = r.0 n i in let e = f n (inr i) in (omega (arith, d), e.1)) (omega (arith, b.1)) in
    omega (arith, b.0, c)

pub at_most : (l : List ℕ) (k : ℕ) → Rising l → ((n : ℕ) → In n l → n < k) → length l ≤ k
at_most l k r f = let c : 0 + length l ≤ k = from_below l 0 k r (λ n i. (omega arith, f n i)) (omega arith) in omega (arith, c)

-- where one number below k is missing there is room for it
pub one_missing : (l : List ℕ) (k a : ℕ) → Rising l → ((n : ℕ) → In n l → n < k) → a < k → (In a l → ⊥) → suc (length l) ≤ k
one_missing l k a r f h n = subst (λ (z : ℕ). z ≤ k) (insert_length a l n) (at_most (insert a l) k (insert_rising a l r) (λ y i. below y (insert_in a y l i)))
  where
    below : (y : ℕ) → (a ≡ y) ⊎ In y l → y < k
    below y (inl e) = subst (λ (z : ℕ). z < k) e h
    below y (inr i) = f y i

-- ── the numbers below a bound for which a test holds ──
append_rising : (l : List ℕ) (k : ℕ) (b : Bool) → Rising l → ((n : ℕ) → In n l → n < k) → Rising (l ++ keep b k [])
append_rising [] k true r f = (λ y i. absurd i, tt)
append_rising [] k false r f = tt
append_rising (x ∷ l) k b r f = (λ y i. go y b (in_cases y l (keep b k []) i), append_rising l k b r.1 (λ n i. f n (inr i)))
  where
    go : (y : ℕ) (b : Bool) → In y l ⊎ In y (keep b k []) → x < y
    go y b (inl i) = r.0 y i
    go y true (inr (inl e)) = subst (λ (z : ℕ). x < z) e (f x (inl refl))
    go y true (inr (inr i)) = absurd i
    go y false (inr i) = absurd i

pub each_of : (k : ℕ) (f : ℕ → Bool) (n : ℕ) → In n (each k (λ i. keep (f i) i [])) → (n < k) × T (f n)
each_of k f n i = let r = each_in k (λ i. keep (f i) i []) n i in go r.0 r.1 (keep_cases (f r.0) r.0 [] n r.2)
  where
    go : (j : ℕ) → j < k → (T (f j) × (j ≡ n)) ⊎ In n [] → (n < k) × T (f n)
    go j l (inl c) = (subst (λ (z : ℕ). z < k) c.1 l, subst (λ (z : ℕ). T (f z)) c.1 c.0)
    go j l (inr c) = absurd c

pub each_has : (k : ℕ) (f : ℕ → Bool) (n : ℕ) → n < k → T (f n) → In n (each k (λ i. keep (f i) i []))
each_has k f n l h = in_each k (λ i. keep (f i) i []) n n l (keep_here (f n) n [] h)

pub each_rising : (k : ℕ) (f : ℕ → Bool) → Rising (each k (λ i. keep (f i) i []))
each_rising zero f = tt
each_rising (suc k) f = append_rising (each k (λ i. keep (f i) i [])) k (f k) (each_rising k f) (λ n i. (each_of k f n i).0)

-- a rising list that has all numbers from a to k is that long
pub from_above : (l : List ℕ) (a k : ℕ) → Rising l → ((i : ℕ) → a ≤ i → i < k → In i l) → k ≤ a + length l
from_above [] a k r f = elim (test (ltb a k)) [ inl h ↦ absurd (f a (le_refl a) (ltb→lt a k h)) | inr h ↦ (let n = not_less a k h in omega (arith, n)) ]
from_above (x ∷ l) a k r f = elim (test (ltb a k)) [
  | inl h ↦ (elim (test (ltb x a)) [
    | inl j ↦ (let c : k ≤ a + length l = from_above l a k r.1 (λ i b d. later i (omega (arith, ltb→lt x a j)) (f i b d)) in omega (arith, c))
    | inr j ↦ (let e : x ≡ a = first (not_less x a j) (f a (le_refl a) (ltb→lt a k h)) in
        let c : k ≤ suc a + length l = from_above l (suc a) k r.1 (λ i b d. later i (omega (arith, e)) (f i (omega arith) d)) in omega (arith, c))
  ])
  | inr h ↦ (let n = not_less a k h in omega (arith, n))
]
  where
    later : (i : ℕ) → x < i → (x ≡ i) ⊎ In i l → In i l
    later i b (inl e) = absurd (let c : x ≡ i = e in omega arith)
    later i b (inr j) = j

    first : (x < a → ⊥) → (x ≡ a) ⊎ In a l → x ≡ a
    first n (inl e) = e
    first n (inr j) = absurd (n (r.0 a j))

pub at_least : (l : List ℕ) (k : ℕ) → Rising l → ((i : ℕ) → i < k → In i l) → k ≤ length l
at_least l k r f = let c : k ≤ 0 + length l = from_above l 0 k r (λ i b d. f i d) in omega (arith, c)

-- ── the first from a number on ──
-- in a rising list it is the lowest of those from o on
pub from_on_is : (o r : ℕ) (l : List ℕ) → Rising l → In r l → o ≤ r → ((n : ℕ) → In n l → o ≤ n → r ≤ n) → from_on o l ≡ r
from_on_is o r [] s i a f = absurd i
from_on_is o r (x ∷ l) s i a f = go (test (ltb x o)) i (λ j. from_on_is o r l s.1 j a (λ n k. f n (inr k)))
  where
    go : T (ltb x o) ⊎ T (not (ltb x o)) → (x ≡ r) ⊎ In r l → (In r l → from_on o l ≡ r) → from_on o (x ∷ l) ≡ r
    go (inl h) (inl e) ih = absurd (let b = ltb→lt x o h in omega (arith, b, e))
    go (inl h) (inr j) ih = cond_yes (ltb x o) (from_on o l) x h ∙ ih j
    go (inr h) (inl e) ih = cond_no (ltb x o) (from_on o l) x h ∙ e
    go (inr h) (inr j) ih = absurd (let b = s.0 r j in let c = f x (inl refl) (nltb→le x o h) in omega (arith, b, c))

-- where none is from o on it is 0
pub from_on_none : (o : ℕ) (l : List ℕ) → ((n : ℕ) → In n l → o ≤ n → ⊥) → from_on o l ≡ 0
from_on_none o [] f = refl
from_on_none o (x ∷ l) f = elim (test (ltb x o)) [
  | inl h ↦ cond_yes (ltb x o) (from_on o l) x h ∙ from_on_none o l (λ n k. f n (inr k))
  | inr h ↦ absurd (f x (inl refl) (nltb→le x o h))
]
