-- Of calls that name objects 0 to 63 alone none is refused with 17, after any list of such calls: whatever would make more than 64 live is refused with 3 first. So they are
-- refused as without the test for room. States RULES R124. Assumes nothing.
use Rattle.std.specs.Prelude.{◌≡◌, refl, Bool, true, false, not, ◌||◌, List, [], ◌∷◌, ℕ, ◌+◌, ◌<◌, length, T, eqb}
use Rattle.std.proofs.Common.{sym, ◌∙◌, ap, ap₂, subst, inl, inr, arith, T_not, eqb→eq, ltb→lt}
use Rattle.std.proofs.Math.Option.{Option, none, some, none-ne-some}
use Rattle.std.proofs.Math.Dec.{eqb_refl}
use Rattle.model.specs.Bools.{or_left, or_right}
use Rattle.model.specs.Lists.{In, keep, insert}
use Rattle.model.specs.Lists.Laws.{any_of}
use Rattle.model.specs.Lists.Rising.{insert_in, insert_rising, insert_length, one_missing}
use Rattle.model.specs.Flow.{object}
use Rattle.model.specs.Tables.{reading, writing, Entry, Tables, empty, is_some}
use Rattle.model.proofs.Tables.Laws.{some_of}
use Rattle.model.specs.Calls.{Call, admit, register, create, make_pipe, opens, access, fork, thread, exec, close, exit, retire, maps, mark, freeze, connect, unknown, Raw, decode}
use Rattle.model.specs.Calls.{sheds, made, steps, effect, Test, new, unlike, roomy, number, broken, tests, order, breaks, first, refusal, next, after}
use Rattle.model.proofs.Calls.Listed.{Listed, empty_listed, made_or, stepped_left, writes_none, effect_listed, effect_at}
use Rattle.model.proofs.Calls.Passed.{is_new}

-- ── without the test for room ──
-- the objects that a call names are 0 to 63
abbrev pub Small : Call → Type 0
Small (register o n) = o < 64
Small (create s o) = o < 64
Small (make_pipe s o r w) = o < 64
Small (opens d s o p) = o < 64
Small (exec s o) = o < 64
Small (retire o) = o < 64
Small (maps s o p) = o < 64
Small (connect s u a b p q) = (a < 64) × (b < 64)
Small (admit s n) = Unit {0}
Small (access d s p) = Unit {0}
Small (fork s c) = Unit {0}
Small (thread s c) = Unit {0}
Small (close s p) = Unit {0}
Small (exit s) = Unit {0}
Small (mark s p) = Unit {0}
Small (freeze n) = Unit {0}
Small unknown = Unit {0}

-- the tests without the one for room, and their order
abbrev pub unroomed : List Test → List Test
unroomed [] = []
unroomed (d ∷ ds) = keep (not (eqb (number d) 17)) d (unroomed ds)

abbrev pub order_before : List ℕ
order_before = 1 ∷ 2 ∷ 16 ∷ 3 ∷ 4 ∷ 5 ∷ 6 ∷ 7 ∷ 8 ∷ 15 ∷ 9 ∷ 10 ∷ []

abbrev pub refusal_before : Tables → Call → Option ℕ
refusal_before t c = first t (unroomed (tests c)) order_before

-- ── tables that such calls leave ──
pub record Low (t : Tables) : Type 0 where
  pub listed : Listed t
  pub below : (n : ℕ) → In n t.numbers → n < 64

pub empty_low : Low empty
empty_low = record { listed = empty_listed; below = λ n i. absurd i }

small_made : (t : Tables) (c : Call) → Small c → (n : ℕ) → In n (made (steps t c)) → n < 64
unfolding sheds
small_made t (register o k) h n (inl q) = subst (λ (m : ℕ). m < 64) q h
small_made t (register o k) h n (inr i) = absurd i
small_made t (create s o) h n (inl q) = subst (λ (m : ℕ). m < 64) q h
small_made t (create s o) h n (inr i) = absurd i
small_made t (make_pipe s o r w) h n (inl q) = subst (λ (m : ℕ). m < 64) q h
small_made t (make_pipe s o r w) h n (inr i) = absurd i
small_made t (connect s u a b p q) h n (inl e) = subst (λ (m : ℕ). m < 64) e h.0
small_made t (connect s u a b p q) h n (inr (inl e)) = subst (λ (m : ℕ). m < 64) e h.1
small_made t (connect s u a b p q) h n (inr (inr i)) = absurd i
small_made t (access writing s p) h n i = absurd (writes_none t s p n i)
small_made t (access reading s p) h n i = absurd i
small_made t (opens d s o p) h n i = absurd i
small_made t (exec s o) h n i = absurd i
small_made t (retire o) h n i = absurd i
small_made t (maps s o p) h n i = absurd i
small_made t (admit s k) h n i = absurd i
small_made t (fork s c) h n i = absurd i
small_made t (thread s c) h n i = absurd i
small_made t (close s p) h n i = absurd i
small_made t (exit s) h n i = absurd i
small_made t (mark s p) h n i = absurd i
small_made t (freeze k) h n i = absurd i
small_made t unknown h n i = absurd i

effect_low : (t : Tables) (c : Call) → Low t → Small c → Low (effect t c)
effect_low t c l h = record {
  listed = k;
  below = λ n i. elim (made_or (steps t c) t n (stepped_left t c n (subst (λ (o : Option Entry). T (is_some o)) (effect_at t c (object n)) (k.sound n i)))) [
    | inl m ↦ small_made t c h n m
    | inr w ↦ l.below n (l.listed.complete n w)
  ];
}
  where
    k : Listed (effect t c)
    k = effect_listed t c l.listed

next_low : (t : Tables) (c : Call) → Low t → Small c → Low (next t c)
next_low t c l h = go (refusal t c)
  where
    go : (o : Option ℕ) → Low (elim o as (λ _. Tables) [ none ↦ effect t c | some n ↦ t ])
    go none = effect_low t c l h
    go (some n) = l

-- ── room ──
-- a number that is not in use leaves room for it, and two that differ for both
module _ (t : Tables) (l : Low t) where
  unused : (o : ℕ) → T (not (broken t (new (object o)))) → In o t.numbers → ⊥
  unused o h i = none-ne-some r.0 (sym (is_new t (object o) h).1 ∙ r.1)
    where
      r : (e : Entry) × (t.at (object o) ≡ some e)
      r = some_of (t.at (object o)) (l.listed.sound o i)

  one_more : (o : ℕ) → o < 64 → T (not (broken t (new (object o)))) → T (broken t (roomy 1)) → ⊥
  one_more o h n b = let k = one_missing t.numbers 64 o l.listed.rising l.below h (unused o n) in
      let c = ltb→lt 64 (length t.numbers + 1) b in omega (arith, k, c)

  two_more : (a b : ℕ) → a < 64 → b < 64 → T (not (broken t (new (object a)))) → T (not (broken t (new (object b)))) → T (not (broken t (unlike a b))) → T (broken t (roomy 2)) → ⊥
  two_more a b ha hb na nb ne z = let m = insert_length a t.numbers (unused a na) in
      let k = one_missing (insert a t.numbers) 64 b (insert_rising a t.numbers l.listed.rising) under hb other in
      let c = ltb→lt 64 (length t.numbers + 2) z in omega (arith, m, k, c)
    where
      under : (n : ℕ) → In n (insert a t.numbers) → n < 64
      under n i = elim (insert_in a n t.numbers i) [ inl q ↦ subst (λ (x : ℕ). x < 64) q ha | inr q ↦ l.below n q ]

      other : In b (insert a t.numbers) → ⊥
      other i = elim (insert_in a b t.numbers i) [
        | inl q ↦ T_not (eqb a b) ne (subst (λ (x : ℕ). T (eqb a x)) q (eqb_refl a))
        | inr q ↦ unused b nb q
      ]

-- ── the same refusal ──
-- a test of another number than 17 is asked as before
breaks_before : (t : Tables) (n : ℕ) (ds : List Test) → (n ≡ 17 → ⊥) → breaks t n ds ≡ breaks t n (unroomed ds)
breaks_before t n [] h = refl
breaks_before t n (d ∷ ds) h = go (eqb (number d) 17) (eqb→eq (number d) 17) (breaks_before t n ds h)
  where
    drop : (b : Bool) → (T b → ⊥) → (x : Bool) → ((elim b as (λ _. Bool) [ true ↦ broken t d | false ↦ false ]) || x) ≡ x
    drop true f x = absurd (f tt)
    drop false f x = refl

    go : (b : Bool) → (T b → number d ≡ 17) → breaks t n ds ≡ breaks t n (unroomed ds) → breaks t n (d ∷ ds) ≡ breaks t n (keep (not b) d (unroomed ds))
    go true e q = drop (eqb (number d) n) (λ k. h (sym (eqb→eq (number d) n k) ∙ e tt)) (breaks t n ds) ∙ q
    go false e q = ap (λ (x : Bool). (elim (eqb (number d) n) as (λ _. Bool) [ true ↦ broken t d | false ↦ false ]) || x) q

first_before : (t : Tables) (ds : List Test) (ns : List ℕ) → (In 17 ns → ⊥) → first t ds ns ≡ first t (unroomed ds) ns
first_before t ds [] h = refl
first_before t ds (n ∷ ns) h = ap₂ (λ (b : Bool) (o : Option ℕ). elim b as (λ _. Option ℕ) [ true ↦ some n | false ↦ o ])
    (breaks_before t n ds (λ e. h (inl e))) (first_before t ds ns (λ i. h (inr i)))

-- where a broken 17 comes with a broken 3, it is never said
module _ (t : Tables) (ds : List Test) (f : T (breaks t 17 ds) → T (breaks t 3 ds)) where
  unsaid : first t ds order ≡ first t ds order_before
  unsaid = ap (λ (o : Option ℕ). elim (breaks t 1 ds) as (λ _. Option ℕ) [ true ↦ some 1 | false ↦ elim (breaks t 2 ds) as (λ _. Option ℕ) [ true ↦ some 2 | false ↦ elim (breaks t 16 ds) as (λ _. Option ℕ) [ true ↦ some 16 | false ↦ o ] ] ])
      (go (breaks t 3 ds) (breaks t 17 ds) f (first t ds (4 ∷ 5 ∷ 6 ∷ 7 ∷ 8 ∷ 15 ∷ 9 ∷ 10 ∷ [])))
    where
      go : (b3 b17 : Bool) → (T b17 → T b3) → (o : Option ℕ)
          → ◌≡◌ {A = Option ℕ} (elim b3 as (λ _. Option ℕ) [ true ↦ some 3 | false ↦ elim b17 as (λ _. Option ℕ) [ true ↦ some 17 | false ↦ o ] ]) (elim b3 as (λ _. Option ℕ) [ true ↦ some 3 | false ↦ o ])
      go true b17 g o = refl
      go false true g o = absurd (g tt)
      go false false g o = refl

  unlisted : In 17 order_before → ⊥
  unlisted i = any_of (eqb 17) order_before 17 i (eqb_refl 17)

  same_first : first t ds order ≡ first t (unroomed ds) order_before
  same_first = unsaid ∙ first_before t ds order_before unlisted

-- by call: what is said to be too many has a number in use, or one number for two
or_none : (b : Bool) → T (b || false) → T b
or_none true z = tt
or_none false z = absurd z

either_way : (b : Bool) (A : Type 0) → (T (not b) → A) → (T b → A) → A
either_way true A f g = g tt
either_way false A f g = f tt

crowded_taken : (t : Tables) (c : Call) → Low t → Small c → T (breaks t 17 (tests c)) → T (breaks t 3 (tests c))
crowded_taken t (register o n) l h z = either_way (broken t (new (object o))) _ (λ k. absurd (one_more t l o h k (or_none (broken t (roomy 1)) z))) (λ k. or_left (broken t (new (object o))) _ k)
crowded_taken t (create s o) l h z = either_way (broken t (new (object o))) _ (λ k. absurd (one_more t l o h k (or_none (broken t (roomy 1)) z))) (λ k. or_left (broken t (new (object o))) _ k)
crowded_taken t (make_pipe s o r w) l h z = either_way (broken t (new (object o))) _ (λ k. absurd (one_more t l o h k (or_none (broken t (roomy 1)) z))) (λ k. or_left (broken t (new (object o))) _ k)
crowded_taken t (connect s u a b p q) l h z = either_way (broken t (new (object a))) _
    (λ ka. either_way (broken t (new (object b))) _
    (λ kb. either_way (broken t (unlike a b)) _ (λ ku. absurd (two_more t l a b h.0 h.1 ka kb ku (or_none (broken t (roomy 2)) z)))
    (λ ku. or_right (broken t (new (object a))) _ (or_right (broken t (new (object b))) _ (or_left (broken t (unlike a b)) _ ku))))
    (λ kb. or_right (broken t (new (object a))) _ (or_left (broken t (new (object b))) _ kb)))
    (λ ka. or_left (broken t (new (object a))) _ ka)
crowded_taken t (admit s n) l h z = absurd z
crowded_taken t (opens d s o p) l h z = absurd z
crowded_taken t (access d s p) l h z = absurd z
crowded_taken t (fork s c) l h z = absurd z
crowded_taken t (thread s c) l h z = absurd z
crowded_taken t (exec s o) l h z = absurd z
crowded_taken t (close s p) l h z = absurd z
crowded_taken t (exit s) l h z = absurd z
crowded_taken t (retire o) l h z = absurd z
crowded_taken t (maps s o p) l h z = absurd z
crowded_taken t (mark s p) l h z = absurd z
crowded_taken t (freeze n) l h z = absurd z
crowded_taken t unknown l h z = absurd z

refused_before : (t : Tables) (c : Call) → Low t → Small c → refusal t c ≡ refusal_before t c
unfolding refusal
refused_before t c l h = same_first t (tests c) (crowded_taken t c l h)

-- ── lists ──
abbrev pub AllSmall : List Raw → Type 0
AllSmall [] = Unit {0}
AllSmall (r ∷ rs) = Small (decode r) × AllSmall rs

after_low : (t : Tables) (rs : List Raw) → Low t → AllSmall rs → Low (after t rs)
after_low t [] l h = l
after_low t (r ∷ rs) l h = after_low (next t (decode r)) rs (next_low t (decode r) l h.0) h.1

-- RULES R124: after every such list, from empty tables, every such call is refused as without the test for room, or not
pub as_before : (rs : List Raw) (c : Call) → AllSmall rs → Small c → refusal (after empty rs) c ≡ refusal_before (after empty rs) c
as_before rs c h k = refused_before (after empty rs) c (after_low empty rs empty_low h) k
