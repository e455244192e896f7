-- The laws of `Flow`: the test `same` is equality; `reached` lists exactly what `Reaches` says; `need` is an upper bound of what
-- the things reached demand and the least one; and it is the least *potential*: a label for each thing that is at least what the
-- thing demands and falls along every flow. Assumes nothing.
use Rattle.std.specs.Prelude.{◌≡◌, refl, Bool, true, false, not, ◌⊎◌, ◌↔◌, List, [], ◌∷◌, ◌++◌, ℕ, zero, suc, ◌+◌, ◌≤◌, length, T}
use Rattle.std.proofs.Common.{sym, ◌∙◌, ap, subst, inl, inr, arith, T_not, eqb→eq}
use Rattle.std.proofs.Math.Dec.{eqb_refl}
use Rattle.model.specs.Label.{Label, leq, ◌⊑◌, bot}
use Rattle.model.proofs.Label.Laws.{⊑_refl, ⊑_trans, join_left, join_right, join_lub, bot_least}
use Rattle.model.specs.Bools.{test}
use Rattle.model.specs.Lists.{In, keep}
use Rattle.model.specs.Lists.Laws.{in_left, in_right, in_cases, keep_here, keep_there, keep_cases, any_of, any_at}
use Rattle.model.specs.Flow.{Thing, subject, object, same, Edge, Reaches, here, step, has, targets, others, grow, spread, reached, joins, need}

-- ── same, has ──
pub same→eq : (x y : Thing) → T (same x y) → x ≡ y
same→eq (subject a) (subject b) t = ap subject (eqb→eq a b t)
same→eq (subject a) (object b) t = absurd t
same→eq (object a) (subject b) t = absurd t
same→eq (object a) (object b) t = ap object (eqb→eq a b t)

pub object_same : (a b : ℕ) → object a ≡ object b → a ≡ b
object_same a b q = eqb→eq a b (subst (λ (x : Thing). T (same (object a) x)) q (eqb_refl a))

pub subject_object : (a b : ℕ) → subject a ≡ object b → ⊥
subject_object a b q = subst (λ (x : Thing). T (same (subject a) x)) q (eqb_refl a)

pub same_refl : (x : Thing) → T (same x x)
same_refl (subject a) = eqb_refl a
same_refl (object a) = eqb_refl a

in→has : (l : List Thing) (x : Thing) → In x l → T (has l x)
in→has l x i = any_of (λ y. same y x) l x i (same_refl x)

has→in : (l : List Thing) (x : Thing) → T (has l x) → In x l
has→in l x t = let r = any_at (λ y. same y x) l t in subst (λ (z : Thing). In z l) (same→eq r.0 x r.2) r.1

-- ── Reaches ──
-- a set that no flow leaves
abbrev pub Closed : List Edge → (Thing → Type 0) → Type 0
Closed es P = (e : Edge) → In e es → P e.src → P e.dst

pub reaches_in : {es : List Edge} (P : Thing → Type 0) → Closed es P → {x y : Thing} → Reaches es x y → P x → P y
reaches_in P c (here q) p = subst P q p
reaches_in P c (step e i q r) p = reaches_in P c r (c e i (subst P (sym q) p))

pub reaches_snoc : {es : List Edge} {x y : Thing} (e : Edge) → In e es → Reaches es x y → e.src ≡ y → Reaches es x e.dst
reaches_snoc e i (here q) s = step e i (s ∙ sym q) (here refl)
reaches_snoc e i (step d j q r) s = step d j q (reaches_snoc e i r s)

-- ── targets, others ──
keep_length : {A B : Type 0} (b : Bool) (y : A) (z : B) (l : List A) (m : List B)
    → length (keep b y l) + length (keep (not b) z m) ≡ suc (length l + length m)
keep_length true y z l m = omega arith
keep_length false y z l m = omega arith

targets_length : (S : List Thing) (es : List Edge) → length (targets S es) + length (others S es) ≡ length es
targets_length S [] = refl
targets_length S (e ∷ es) = keep_length (has S e.src) e.dst e (targets S es) (others S es) ∙ ap suc (targets_length S es)

in_targets : (S : List Thing) (es : List Edge) (e : Edge) → In e es → T (has S e.src) → In e.dst (targets S es)
in_targets S [] e h t = absurd h
in_targets S (d ∷ es) e (inl q) t = subst (λ (z : Edge). In z.dst (targets S (d ∷ es))) q
    (keep_here (has S d.src) d.dst (targets S es) (subst (λ (z : Edge). T (has S z.src)) (sym q) t))
in_targets S (d ∷ es) e (inr h) t = keep_there (has S d.src) d.dst (targets S es) e.dst (in_targets S es e h t)

in_others : (S : List Thing) (es : List Edge) (e : Edge) → In e es → T (not (has S e.src)) → In e (others S es)
in_others S [] e h t = absurd h
in_others S (d ∷ es) e (inl q) t = subst (λ (z : Edge). In z (others S (d ∷ es))) q
    (keep_here (not (has S d.src)) d (others S es) (subst (λ (z : Edge). T (not (has S z.src))) (sym q) t))
in_others S (d ∷ es) e (inr h) t = keep_there (not (has S d.src)) d (others S es) e (in_others S es e h t)

others_in : (S : List Thing) (es : List Edge) (e : Edge) → In e (others S es) → In e es
others_in S [] e h = absurd h
others_in S (d ∷ es) e h = go (others_in S es e) (keep_cases (not (has S d.src)) d (others S es) e h)
  where
    go : (In e (others S es) → In e es) → (T (not (has S d.src)) × (d ≡ e)) ⊎ In e (others S es) → In e (d ∷ es)
    go ih (inl p) = inl p.1
    go ih (inr k) = inr (ih k)

targets_in : (P : Thing → Type 0) (S : List Thing) (es : List Edge) → Closed es P → ((x : Thing) → In x S → P x) → (x : Thing) → In x (targets S es) → P x
targets_in P S [] c s x h = absurd h
targets_in P S (e ∷ es) c s x h = go (targets_in P S es (λ d i. c d (inr i)) s x) (keep_cases (has S e.src) e.dst (targets S es) x h)
  where
    go : (In x (targets S es) → P x) → (T (has S e.src) × (e.dst ≡ x)) ⊎ In x (targets S es) → P x
    go ih (inl p) = subst P p.1 (c e (inl refl) (s e.src (has→in S e.src p.0)))
    go ih (inr k) = ih k

-- ── spread: the least set that holds S and that no flow leaves ──
spread_within : (P : Thing → Type 0) (n : ℕ) (es : List Edge) (S : List Thing) → Closed es P → ((x : Thing) → In x S → P x) → (x : Thing)
    → In x (spread n es S) → P x
spread_within P zero es S c s x h = s x h
spread_within P (suc n) es S c s x h = go (targets S es) (targets_in P S es c s)
    (λ S' s'. spread_within P n (others S es) S' (λ e i. c e (others_in S es e i)) s' x) h
  where
    go : (H : List Thing) → ((y : Thing) → In y H → P y)
        → ((S' : List Thing) → ((y : Thing) → In y S' → P y) → In x (spread n (others S es) S') → P x)
        → In x (grow H (spread n (others S es)) S) → P x
    go [] hH k i = s x i
    go (a ∷ H) hH k i = k ((a ∷ H) ++ S) both i
      where
        both : (y : Thing) → In y ((a ∷ H) ++ S) → P y
        both y j = elim (in_cases y (a ∷ H) S j) [ inl p ↦ hH y p | inr q ↦ s y q ]

spread_keeps : (n : ℕ) (es : List Edge) (S : List Thing) (x : Thing) → In x S → In x (spread n es S)
spread_keeps zero es S x h = h
spread_keeps (suc n) es S x h = go (targets S es) (λ S'. spread_keeps n (others S es) S' x)
  where
    go : (H : List Thing) → ((S' : List Thing) → In x S' → In x (spread n (others S es) S')) → In x (grow H (spread n (others S es)) S)
    go [] k = h
    go (a ∷ H) k = k ((a ∷ H) ++ S) (in_right x (a ∷ H) S h)

-- where there is a round for each edge
spread_closed : (n : ℕ) (es : List Edge) (S : List Thing) → length es ≤ n → Closed es (λ x. In x (spread n es S))
spread_closed zero [] S le e i h = absurd i
spread_closed zero (d ∷ es) S le e i h = absurd (omega arith)
spread_closed (suc n) es S le e i h = go (targets S es) refl (λ S'. spread_closed n (others S es) S') h
  where
    go : (H : List Thing) → targets S es ≡ H
        → ((S' : List Thing) → length (others S es) ≤ n → Closed (others S es) (λ x. In x (spread n (others S es) S')))
        → In e.src (grow H (spread n (others S es)) S) → In e.dst (grow H (spread n (others S es)) S)
    go [] q k j = absurd (subst (In e.dst) q (in_targets S es e i (in→has S e.src j)))
    go (a ∷ H) q k j = elim (test (has S e.src)) [
      | inl t ↦ spread_keeps n (others S es) ((a ∷ H) ++ S) e.dst (in_left e.dst (a ∷ H) S (subst (In e.dst) q (in_targets S es e i t)))
      | inr t ↦ k ((a ∷ H) ++ S) (omega (arith, targets_length S es, ap length q)) e (in_others S es e i t) j
    ]

-- ── reached ──
-- RULES F4: what is computed is what `Reaches` says
pub reached_is : (es : List Edge) (x y : Thing) → In y (reached es x) ↔ Reaches es x y
reached_is es x y = (
  spread_within (Reaches es x) (length es) es (x ∷ []) (λ e i r. reaches_snoc e i r refl) start y,
  λ r. reaches_in (λ z. In z (reached es x)) (spread_closed (length es) es (x ∷ []) (omega arith)) r (spread_keeps (length es) es (x ∷ []) x (inl refl)),
)
  where
    start : (z : Thing) → In z (x ∷ []) → Reaches es x z
    start z (inl q) = here q
    start z (inr b) = absurd b

-- ── need ──
pub joins_upper : (f : Thing → Label) (l : List Thing) (x : Thing) → In x l → f x ⊑ joins f l
joins_upper f [] x h = absurd h
joins_upper f (y ∷ l) x (inl e) = subst (λ (z : Thing). f z ⊑ joins f (y ∷ l)) e (join_left (f y) (joins f l))
joins_upper f (y ∷ l) x (inr h) = ⊑_trans (joins_upper f l x h) (join_right (f y) (joins f l))

pub joins_least : (f : Thing → Label) (l : List Thing) (v : Label) → ((x : Thing) → In x l → f x ⊑ v) → joins f l ⊑ v
joins_least f [] v h = bot_least
joins_least f (y ∷ l) v h = join_lub (h y (inl refl)) (joins_least f l v (λ x i. h x (inr i)))

joins_over : (f : Thing → Label) (v : Label) (l : List Thing) → T (not (leq (joins f l) v)) → (y : Thing) × In y l × T (not (leq (f y) v))
joins_over f v [] h = absurd (T_not (leq bot v) h bot_least.tested)
joins_over f v (y ∷ l) h = go (test (leq (f y) v)) (test (leq (joins f l) v)) (joins_over f v l)
  where
    go : T (leq (f y) v) ⊎ T (not (leq (f y) v)) → T (leq (joins f l) v) ⊎ T (not (leq (joins f l) v))
        → (T (not (leq (joins f l) v)) → (z : Thing) × In z l × T (not (leq (f z) v))) → (z : Thing) × In z (y ∷ l) × T (not (leq (f z) v))
    go (inr a) b ih = (y, inl refl, a)
    go (inl a) (inr b) ih = let r = ih b in (r.0, inr r.1, r.2)
    go (inl a) (inl b) ih = absurd (T_not (leq (joins f (y ∷ l)) v) h (join_lub (record { tested = a }) (record { tested = b })).tested)

module _ (es : List Edge) (f : Thing → Label) where
  -- RULES F5, F6: the need is at least what each thing reached demands ..
  pub need_upper : {x y : Thing} → Reaches es x y → f y ⊑ need f es x
  unfolding need
  need_upper {x} {y} r = joins_upper f (reached es x) y ((reached_is es x y).1 r)

  -- .. and at most any label of which that is so
  pub need_least : (x : Thing) (v : Label) → ((y : Thing) → Reaches es x y → f y ⊑ v) → need f es x ⊑ v
  unfolding need
  need_least x v h = joins_least f (reached es x) v (λ y i. h y ((reached_is es x y).0 i))

  -- what is not at most v is so because of some thing reached
  pub need_over : (x : Thing) (v : Label) → T (not (leq (need f es x) v)) → (y : Thing) × Reaches es x y × T (not (leq (f y) v))
  unfolding need
  need_over x v h = let r = joins_over f v (reached es x) h in (r.0, (reached_is es x r.0).0 r.1, r.2)

  -- ── the least potential ──
  pub need_self : (x : Thing) → f x ⊑ need f es x
  need_self x = need_upper (here refl)

  pub need_flow : (e : Edge) → In e es → need f es e.dst ⊑ need f es e.src
  need_flow e i = need_least e.dst _ (λ y r. need_upper (step e i refl r))

  pub need_below : (φ : Thing → Label) → ((x : Thing) → f x ⊑ φ x) → ((e : Edge) → In e es → φ e.dst ⊑ φ e.src) → (x : Thing) → need f es x ⊑ φ x
  need_below φ low fall x = need_least x (φ x) (λ y r. ⊑_trans (low y) (reaches_in (λ z. φ z ⊑ φ x) (λ e i p. ⊑_trans (fall e i) p) r ⊑_refl))
