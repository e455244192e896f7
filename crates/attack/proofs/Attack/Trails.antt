-- What is reached is reached in few steps: at most one for each possible source. Gives RULES A4. Assumes nothing.
use Rattle.std.specs.Prelude.{◌≡◌, refl, Bool, true, false, not, ◌⊎◌, List, [], ◌∷◌, ℕ, zero, suc, ◌≤◌, ◌<◌, length, T}
use Rattle.std.proofs.Common.{sym, ◌∙◌, subst, inl, inr, arith, T_not}
use Rattle.model.specs.Bools.{test}
use Rattle.model.specs.Lists.{In, keep}
use Rattle.model.specs.Lists.Laws.{keep_here, keep_there, keep_cases}
use Rattle.model.specs.Flow.{Thing, same, Edge, Reaches, here, step}
use Rattle.model.proofs.Flow.Laws.{same→eq, same_refl}

-- a chain of at most n flows
pub data Trail (es : List Edge) : ℕ → Thing → Thing → Type 0 where
  end : {n : ℕ} {x y : Thing} → x ≡ y → Trail es n x y
  via : {n : ℕ} {x y : Thing} (e : Edge) → In e es → e.src ≡ x → Trail es n e.dst y → Trail es (suc n) x y

-- ── without one source ──
-- the flows that do not leave x
abbrev pub cut : Thing → List Edge → List Edge
cut x [] = []
cut x (e ∷ es) = keep (not (same e.src x)) e (cut x es)

-- the things but x
abbrev pub omit : Thing → List Thing → List Thing
omit x [] = []
omit x (y ∷ l) = keep (not (same y x)) y (omit x l)

in_cut : (x : Thing) (es : List Edge) (e : Edge) → In e es → T (not (same e.src x)) → In e (cut x es)
in_cut x [] e i t = absurd i
in_cut x (d ∷ es) e (inl q) t = subst (λ (z : Edge). In z (cut x (d ∷ es))) q
    (keep_here (not (same d.src x)) d (cut x es) (subst (λ (z : Edge). T (not (same z.src x))) (sym q) t))
in_cut x (d ∷ es) e (inr i) t = keep_there (not (same d.src x)) d (cut x es) e (in_cut x es e i t)

pub cut_in : (x : Thing) (es : List Edge) (e : Edge) → In e (cut x es) → In e es × T (not (same e.src x))
cut_in x [] e i = absurd i
cut_in x (d ∷ es) e i = go (cut_in x es e) (keep_cases (not (same d.src x)) d (cut x es) e i)
  where
    go : (In e (cut x es) → In e es × T (not (same e.src x))) → (T (not (same d.src x)) × (d ≡ e)) ⊎ In e (cut x es) → In e (d ∷ es) × T (not (same e.src x))
    go ih (inl p) = (inl p.1, subst (λ (z : Edge). T (not (same z.src x))) p.1 p.0)
    go ih (inr j) = (inr (ih j).0, (ih j).1)

pub in_omit : (x : Thing) (l : List Thing) (y : Thing) → In y l → T (not (same y x)) → In y (omit x l)
in_omit x [] y i t = absurd i
in_omit x (z ∷ l) y (inl q) t = subst (λ (w : Thing). In w (omit x (z ∷ l))) q
    (keep_here (not (same z x)) z (omit x l) (subst (λ (w : Thing). T (not (same w x))) (sym q) t))
in_omit x (z ∷ l) y (inr i) t = keep_there (not (same z x)) z (omit x l) y (in_omit x l y i t)

omit_le : (x : Thing) (l : List Thing) → length (omit x l) ≤ length l
omit_le x [] = omega arith
omit_le x (y ∷ l) = go (not (same y x)) (omit_le x l)
  where
    go : (b : Bool) → length (omit x l) ≤ length l → length (keep b y (omit x l)) ≤ suc (length l)
    go true h = omega arith
    go false h = omega arith

pub omit_lt : (x : Thing) (l : List Thing) → In x l → length (omit x l) < length l
omit_lt x [] i = absurd i
omit_lt x (y ∷ l) (inl q) = go (same y x) (subst (λ (z : Thing). T (same y z)) q (same_refl y)) (omit_le x l)
  where
    go : (b : Bool) → T b → length (omit x l) ≤ length l → length (keep (not b) y (omit x l)) < suc (length l)
    go true t h = omega arith
    go false t h = absurd t
omit_lt x (y ∷ l) (inr i) = go (not (same y x)) (omit_lt x l i)
  where
    go : (b : Bool) → length (omit x l) < length l → length (keep b y (omit x l)) < suc (length l)
    go true h = omega arith
    go false h = omega arith

-- ── few steps ──
-- the last time that a chain leaves x
record Leaves (es : List Edge) (x y : Thing) : Type 0 where
  pub e : Edge
  pub there : In e es
  pub from : e.src ≡ x
  pub on : Reaches (cut x es) e.dst y

last_leave : (es : List Edge) (x : Thing) {w y : Thing} → Reaches es w y → Reaches (cut x es) w y ⊎ Leaves es x y
last_leave es x (here q) = inl (here q)
last_leave es x {w} {y} (step e i q r) = go (last_leave es x r) (test (same e.src x))
  where
    go : Reaches (cut x es) e.dst y ⊎ Leaves es x y → T (same e.src x) ⊎ T (not (same e.src x)) → Reaches (cut x es) w y ⊎ Leaves es x y
    go (inr l) t = inr l
    go (inl c) (inl t) = inr (record { e = e; there = i; from = same→eq e.src x t; on = c })
    go (inl c) (inr t) = inl (step e (in_cut x es e i t) q c)

-- from x itself there is no way on without the flows that leave it
stays : (es : List Edge) (x : Thing) {w y : Thing} → Reaches (cut x es) w y → w ≡ x → x ≡ y
stays es x (here q) p = sym p ∙ q
stays es x (step e i q r) p = absurd (T_not (same e.src x) (cut_in x es e i).1 (subst (λ (z : Thing). T (same e.src z)) (q ∙ p) (same_refl e.src)))

pub widen : (es : List Edge) (x : Thing) {n : ℕ} {w y : Thing} → Trail (cut x es) n w y → Trail es n w y
widen es x (end q) = end q
widen es x (via e i q r) = via e (cut_in x es e i).0 q (widen es x r)

-- at most one step for each source
short : (n : ℕ) (es : List Edge) (U : List Thing) → length U ≤ n → ((e : Edge) → In e es → In e.src U) → (x y : Thing) → Reaches es x y → Trail es n x y
short zero es [] le s x y r = go r
  where
    go : {w : Thing} → Reaches es w y → Trail es zero w y
    go (here q) = end q
    go (step e i q r) = absurd (s e i)
short zero es (u ∷ U) le s x y r = absurd (omega arith)
short (suc n) es U le s x y r = go (last_leave es x r) (λ ds W. short n ds W)
  where
    go : Reaches (cut x es) x y ⊎ Leaves es x y
        → ((ds : List Edge) (W : List Thing) → length W ≤ n → ((e : Edge) → In e ds → In e.src W) → (x y : Thing) → Reaches ds x y → Trail ds n x y)
        → Trail es (suc n) x y
    go (inl c) ih = end (stays es x c refl)
    go (inr l) ih = via l.e l.there l.from (widen es x (ih (cut x es) (omit x U) (omega (arith, omit_lt x U has)) sources l.e.dst y l.on))
      where
        has : In x U
        has = subst (λ (z : Thing). In z U) l.from (s l.e l.there)

        sources : (e : Edge) → In e (cut x es) → In e.src (omit x U)
        sources e i = let c = cut_in x es e i in in_omit x U e.src (s e c.0) c.1

-- a chain to y need not leave y: so y is no source
stop : (es : List Edge) {x y : Thing} → Reaches es x y → Reaches (cut y es) x y
stop es (here q) = here q
stop es {x} {y} (step e i q r) = go (stop es r) (test (same e.src y))
  where
    go : Reaches (cut y es) e.dst y → T (same e.src y) ⊎ T (not (same e.src y)) → Reaches (cut y es) x y
    go c (inl t) = here (sym q ∙ same→eq e.src y t)
    go c (inr t) = step e (in_cut y es e i t) q c

-- RULES A4: with n + 1 things that may be a source, the end among them, what is reached is reached in n steps
pub within_few : (n : ℕ) (es : List Edge) (U : List Thing) (x y : Thing) → length U ≤ suc n → In y U → ((e : Edge) → In e es → In e.src U) → Reaches es x y → Trail es n x y
within_few n es U x y le i s r = widen es y (short n (cut y es) (omit y U) (omega (arith, omit_lt y U i))
    (λ e j. let c = cut_in y es e j in in_omit y U e.src (s e c.0) c.1) x y (stop es r))

-- a chain never leaves a thing that does not reach its end
pub avoids : (es : List Edge) (z : Thing) {x y : Thing} → Reaches es x y → (Reaches es z y → ⊥) → Reaches (cut z es) x y
avoids es z {x} {y} r n = elim (last_leave es z r) [ inl c ↦ c | inr l ↦ absurd (n (step l.e l.there l.from (wide l.on))) ]
  where
    wide : {w : Thing} → Reaches (cut z es) w y → Reaches es w y
    wide (here q) = here q
    wide (step e i q c) = step e (cut_in z es e i).0 q (wide c)
