-- The laws of `Steps`: a part changed, seen from any thing and any place; what stays in use; lists of steps; how a thing falls.
-- Assumes nothing.
use Rattle.std.specs.Prelude.{◌≡◌, refl, Bool, true, false, not, ◌&&◌, cond, ◌⊎◌, List, [], ◌∷◌, ◌++◌, ℕ, T, eqb}
use Rattle.std.proofs.Common.{sym, ◌∙◌, ap, subst, inl, inr, T_not, eqb→eq}
use Rattle.std.proofs.Math.Path.{fun_ext}
use Rattle.std.proofs.Math.Option.{Option, none, some, none-ne-some, some-injective}
use Rattle.std.proofs.Math.Dec.{not_T, eqb_refl}
use Rattle.model.specs.Bools.{test, both, both_of, cond_yes, cond_no, cond_cases}
use Rattle.model.specs.Lists.{In}
use Rattle.model.specs.Label.{Label, ◌⊑◌, meet, bot}
use Rattle.model.proofs.Label.Laws.{⊑_refl, meet_left, meet_right, meet_glb, meet_stays}
use Rattle.model.specs.Flow.{Thing, subject, object, same}
use Rattle.model.proofs.Flow.Laws.{same→eq, same_refl}
use Rattle.model.specs.Tables.{Kind, running, file, pipe, Entry, entry, Handle, Tables, with_at, with_hand, with_freeze, in_range, is_some, used, live, label_of, is_file, a_file, is_pipe, whole, handles, open_on, demand, with_numbers, with_kin}
use Rattle.model.proofs.Tables.Laws.{used_is, live_of}
use Rattle.model.specs.Steps.{Step, put, row, place, falls, sunk, fall, sink, apply, applies, ended, reap}

-- ── put, row, place ──
pub put_cases : (a : Thing → Option Entry) (x : Thing) (v : Option Entry) (y : Thing) (e : Option Entry) → put a x v y ≡ e
    → ((x ≡ y) × (v ≡ e)) ⊎ (T (not (same x y)) × (a y ≡ e))
put_cases a x v y e q = elim (cond_cases (same x y) v (a y) e q) [ inl p ↦ inl (same→eq x y p.0, p.1) | inr p ↦ inr p ]

pub put_same : (a : Thing → Option Entry) (x : Thing) (v : Option Entry) → put a x v x ≡ v
put_same a x v = cond_yes (same x x) v (a x) (same_refl x)

-- who took something in, and who did not
pub sink_cases : (t : Tables) (x : Thing) (d : Option Entry) (y : Thing) (e : Option Entry) → sink t x d y ≡ e
    → (T (whole t x y) × (fall y (t.at y) d ≡ e)) ⊎ (T (not (whole t x y)) × (t.at y ≡ e))
sink_cases t x d y e q = cond_cases (whole t x y) (fall y (t.at y) d) (t.at y) e q

-- what holds of an entry before and after a fall holds of it
pub sink_by : (P : Thing → Option Entry → Type 0) (t : Tables) (x : Thing) (d : Option Entry) (y : Thing) → P y (t.at y)
    → (T (whole t x y) → P y (fall y (t.at y) d)) → P y (sink t x d y)
sink_by P t x d y p f = go (whole t x y) f
  where
    go : (b : Bool) → (T b → P y (fall y (t.at y) d)) → P y (cond b (fall y (t.at y) d) (t.at y))
    go true g = g tt
    go false g = p

-- where x takes in for itself alone, its entry alone is another
pub sink_one : (t : Tables) (x : Thing) (d : Option Entry) → T (whole t x x) → ((y : Thing) → T (whole t x y) → x ≡ y) → sink t x d ≡ put t.at x (fall x (t.at x) d)
sink_one t x d w f = fun_ext (λ y. go y (test (same x y)))
  where
    go : (y : Thing) → T (same x y) ⊎ T (not (same x y)) → sink t x d y ≡ put t.at x (fall x (t.at x) d) y
    go y (inl s) = cond_yes (whole t x y) (fall y (t.at y) d) (t.at y) (subst (λ (z : Thing). T (whole t x z)) (same→eq x y s) w)
        ∙ ap (λ (z : Thing). fall z (t.at z) d) (sym (same→eq x y s)) ∙ sym (cond_yes (same x y) (fall x (t.at x) d) (t.at y) s)
    go y (inr n) = cond_no (whole t x y) (fall y (t.at y) d) (t.at y) (not_T (whole t x y) (λ v. T_not (same x y) n (subst (λ (z : Thing). T (same x z)) (f y v) (same_refl x))))
        ∙ sym (cond_no (same x y) (fall x (t.at x) d) (t.at y) n)

pub row_cases : (h : ℕ → ℕ → Option Handle) (s : ℕ) (r : ℕ → Option Handle) (s' p : ℕ) (k : Option Handle) → row h s r s' p ≡ k
    → ((s ≡ s') × (r p ≡ k)) ⊎ (T (not (eqb s s')) × (h s' p ≡ k))
row_cases h s r s' p k q = elim (cond_cases (eqb s s') (r p) (h s' p) k q) [ inl c ↦ inl (eqb→eq s s' c.0, c.1) | inr c ↦ inr c ]

pub place_cases : (h : ℕ → ℕ → Option Handle) (s p : ℕ) (v : Option Handle) (s' p' : ℕ) (k : Option Handle) → place h s p v s' p' ≡ k
    → ((s ≡ s') × (p ≡ p') × (v ≡ k)) ⊎ (h s' p' ≡ k)
place_cases h s p v s' p' k q = elim (row_cases h s (λ q. cond (eqb p q) v (h s q)) s' p' k q) [
  | inl c ↦ inner c.0
      (cond_cases (eqb p p') v (h s p') k c.1)
  | inr c ↦ inr c.1
]
  where
    inner : s ≡ s' → (T (eqb p p') × (v ≡ k)) ⊎ (T (not (eqb p p')) × (h s p' ≡ k)) → ((s ≡ s') × (p ≡ p') × (v ≡ k)) ⊎ (h s' p' ≡ k)
    inner e (inl c) = inl (e, eqb→eq p p' c.0, c.1)
    inner e (inr c) = inr (subst (λ (z : ℕ). h z p' ≡ k) e c.1)

pub place_same : (h : ℕ → ℕ → Option Handle) (s p : ℕ) (v : Option Handle) → place h s p v s p ≡ v
place_same h s p v = cond_yes (eqb s s) (cond (eqb p p) v (h s p)) (h s p) (eqb_refl s) ∙ cond_yes (eqb p p) v (h s p) (eqb_refl p)

-- another place of s, and a place of another subject
pub place_other : (h : ℕ → ℕ → Option Handle) (s p : ℕ) (v : Option Handle) (p' : ℕ) → T (not (eqb p p')) → place h s p v s p' ≡ h s p'
place_other h s p v p' n = cond_yes (eqb s s) (cond (eqb p p') v (h s p')) (h s p') (eqb_refl s) ∙ cond_no (eqb p p') v (h s p') n

pub place_apart : (h : ℕ → ℕ → Option Handle) (s p : ℕ) (v : Option Handle) (s' p' : ℕ) → T (not (eqb s s')) → place h s p v s' p' ≡ h s' p'
place_apart h s p v s' p' n = cond_no (eqb s s') (cond (eqb p p') v (h s p')) (h s' p') n

-- what had an entry is not the thing that had none
pub put_apart : (a : Thing → Option Entry) (x y : Thing) (v : Option Entry) (e : Entry) → a x ≡ none → a y ≡ some e → put a x v y ≡ a y
put_apart a x y v e n q = cond_no (same x y) v (a y) (not_T (same x y) (λ s. none-ne-some e (sym n ∙ ap a (same→eq x y s) ∙ q)))

-- ── used and live after a change ──
pub live_hand : (t : Tables) (h : ℕ → ℕ → Option Handle) (x : Thing) → T (live t x) → T (live (with_hand t h) x)
live_hand t h x l = let r = live_of t x l in both (in_range x) (used (with_hand t h) x) r.0 (subst T (used_is t x ∙ sym (used_is (with_hand t h) x)) r.1)

pub live_freeze : (t : Tables) (f : ℕ) (x : Thing) → T (live t x) → T (live (with_freeze t f) x)
live_freeze t f x l = let r = live_of t x l in both (in_range x) (used (with_freeze t f) x) r.0
    (subst T (used_is t x ∙ sym (used_is (with_freeze t f) x)) r.1)

pub live_numbers : (t : Tables) (n : List ℕ) (x : Thing) → live (with_numbers t n) x ≡ live t x
live_numbers t n x = ap (λ (b : Bool). in_range x && b) (used_is (with_numbers t n) x ∙ sym (used_is t x))

pub live_kin : (t : Tables) (k : ℕ → ℕ → Bool) (x : Thing) → T (live t x) → T (live (with_kin t k) x)
live_kin t k x l = let r = live_of t x l in both (in_range x) (used (with_kin t k) x) r.0
    (subst T (used_is t x ∙ sym (used_is (with_kin t k) x)) r.1)

-- entries that stay where they were leave live what was live
pub live_at : (t : Tables) (a : Thing → Option Entry) (x : Thing) → (T (is_some (t.at x)) → T (is_some (a x))) → T (live t x) → T (live (with_at t a) x)
live_at t a x f l = let r = live_of t x l in both (in_range x) (used (with_at t a) x) r.0
    (subst T (sym (used_is (with_at t a) x)) (f (subst T (used_is t x) r.1)))

-- ── lists of steps ──
pub applies_append : (xs ys : List Step) (t : Tables) → applies (xs ++ ys) t ≡ applies ys (applies xs t)
applies_append [] ys t = refl
applies_append (k ∷ xs) ys t = applies_append xs ys (apply k t)

-- what each step of a list keeps, the list keeps
pub applies_keep : (P : Tables → Type 0) (ks : List Step) → ((k : Step) → In k ks → (u : Tables) → P u → P (apply k u)) → (u : Tables) → P u → P (applies ks u)
applies_keep P [] f u p = p
applies_keep P (k ∷ ks) f u p = applies_keep P ks (λ j i. f j (inr i)) (apply k u) (f k (inl refl) u p)

-- ── a pipe ends with its last handle, and no sooner ──
pub ended_last : (before after : List Handle) (n : ℕ) (o : Option Entry) → T (is_pipe (object n) o) → T (open_on before n) → T
    (not (open_on after n)) → T (ended before after (object n) o)
unfolding ended
ended_last before after n o p b a = go (is_pipe (object n) o) p (both (open_on before n) (not (open_on after n)) b a)
  where
    go : (f : Bool) → T f → T (open_on before n && not (open_on after n)) → T
        (elim f as (λ _. Bool) [ true ↦ open_on before n && not (open_on after n) | false ↦ false ])
    go true p h = h
    go false p h = absurd p

pub ended_open : (before after : List Handle) (n : ℕ) (o : Option Entry) → T (open_on after n) → T (not (ended before after (object n) o))
unfolding ended
ended_open before after n o h = go (is_pipe (object n) o) (open_on before n) (open_on after n) h
  where
    go : (p a b : Bool) → T b → T (not (elim p as (λ _. Bool) [ true ↦ a && not b | false ↦ false ]))
    go true true true h = tt
    go true true false h = absurd h
    go true false b h = tt
    go false a b h = tt

pub ended_of : (before after : List Handle) (n : ℕ) (o : Option Entry) → T (ended before after (object n) o) → T (open_on before n) × T (not (open_on after n))
unfolding ended
ended_of before after n o h = go (is_pipe (object n) o) h
  where
    go : (f : Bool) → T (elim f as (λ _. Bool) [ true ↦ open_on before n && not (open_on after n) | false ↦ false ]) → T
        (open_on before n) × T (not (open_on after n))
    go true h = both_of (open_on before n) (not (open_on after n)) h
    go false h = absurd h

pub ended_subject : (before after : List Handle) (n : ℕ) (o : Option Entry) → T (not (ended before after (subject n) o))
unfolding ended
ended_subject before after n o = tt

-- where no handle goes, no pipe ends
pub reap_more : (t u : Tables) → ((n : ℕ) → T (open_on (handles t) n) → T (open_on (handles u) n)) → reap (handles t) u ≡ u
reap_more t u f = ap (with_at u) (fun_ext stays)
  where
    stays : (x : Thing) → cond (ended (handles t) (handles u) x (u.at x)) none (u.at x) ≡ u.at x
    stays (subject n) = cond_no (ended (handles t) (handles u) (subject n) (u.at (subject n))) none (u.at (subject n))
        (ended_subject (handles t) (handles u) n (u.at (subject n)))
    stays (object n) = cond_no (ended (handles t) (handles u) (object n) (u.at (object n))) none (u.at (object n))
        (not_T (ended (handles t) (handles u) (object n) (u.at (object n)))
        (λ e. let r = ended_of (handles t) (handles u) n (u.at (object n)) e in T_not (open_on (handles u) n) r.1 (f n r.0)))

-- ── fall ──
-- what does not fall is a file, and a file does not
pub falls_or_file : (x : Thing) (k : Kind) → T (not (falls x k)) → T (is_file x k)
falls_or_file (subject n) k t = absurd t
falls_or_file (object n) running t = tt
falls_or_file (object n) file t = tt
falls_or_file (object n) pipe t = absurd t

file_stays : (x : Thing) (k : Kind) → T (is_file x k) → T (not (falls x k))
file_stays (subject n) k t = absurd t
file_stays (object n) running t = tt
file_stays (object n) file t = tt
file_stays (object n) pipe t = absurd t

pub fall_some : (x : Thing) (a b : Option Entry) → T (is_some a) → T (is_some (fall x a b))
fall_some x none b t = t
fall_some x (some e) none t = tt
fall_some x (some e) (some d) t = tt

pub some_fall : (x : Thing) (a b : Option Entry) → T (is_some (fall x a b)) → T (is_some a)
some_fall x none b t = t
some_fall x (some e) b t = tt

pub fall_demand : (x : Thing) (a b : Option Entry) → demand x (fall x a b) ≡ demand x a
fall_demand x none b = refl
fall_demand x (some e) none = refl
fall_demand x (some e) (some d) = go (is_file x e.kind) (λ f. cond_no (falls x e.kind) (meet e.label d.label) e.label (file_stays x e.kind f))
  where
    go : (f : Bool) → (T f → sunk x e.kind e.label d.label ≡ e.label) → cond f (sunk x e.kind e.label d.label) bot ≡ cond f e.label bot
    go true s = s tt
    go false s = refl

-- nothing rises
pub fall_under : (x : Thing) (a b : Option Entry) (r : Entry) → fall x a b ≡ some r → (e : Entry) × (a ≡ some e) × (r.label ⊑ e.label)
fall_under x none b r q = absurd (none-ne-some r q)
fall_under x (some e) none r q = (e, refl, subst (λ (z : Entry). z.label ⊑ e.label) (some-injective e r q) ⊑_refl)
fall_under x (some e) (some d) r q = (e, refl, subst (λ (z : Entry). z.label ⊑ e.label) (some-injective _ r q) (go (falls x e.kind)))
  where
    go : (f : Bool) → cond f (meet e.label d.label) e.label ⊑ e.label
    go true = meet_left e.label d.label
    go false = ⊑_refl

pub fall_is : (P : Label → Type 0) → ((a b : Label) → P a → P b → P (meet a b)) → (x : Thing) (a b : Option Entry) (r : Entry) → ((e : Entry) → a ≡ some e → P e.label)
    → ((e : Entry) → b ≡ some e → P e.label) → fall x a b ≡ some r → P r.label
fall_is P f x none b r p q h = absurd (none-ne-some r h)
fall_is P f x (some e) none r p q h = p r h
fall_is P f x (some e) (some d) r p q h = subst (λ (z : Entry). P z.label) (some-injective _ r h) (go (falls x e.kind))
  where
    go : (k : Bool) → P (cond k (meet e.label d.label) e.label)
    go true = f e.label d.label (p e refl) (q d refl)
    go false = p e refl

pub fall_label : (x : Thing) (a b : Option Entry) → label_of (fall x a b) ⊑ label_of a
unfolding fall_under
fall_label x none b = ⊑_refl
fall_label x (some e) none = ⊑_refl
fall_label x (some e) (some d) = let r = fall_under x (some e) (some d) _ refl in
    subst (λ (z : Entry). sunk x e.kind e.label d.label ⊑ z.label) (sym (some-injective e r.0 r.1)) r.2

-- a file keeps its entry
pub file_keeps : (x : Thing) (a b : Option Entry) → T (a_file x a) → fall x a b ≡ a
file_keeps x none b t = absurd t
file_keeps x (some e) none t = refl
file_keeps x (some e) (some d) t = ap (λ (l : Label). some (entry e.kind l))
    (cond_no (falls x e.kind) (meet e.label d.label) e.label (file_stays x e.kind t))

-- who took something in and takes it in again stays as it is
pub fall_twice : (x : Thing) (a b : Option Entry) → fall x (fall x a b) b ≡ fall x a b
fall_twice x none b = refl
fall_twice x (some e) none = refl
fall_twice x (some e) (some d) = ap (λ (l : Label). some (entry e.kind l)) (go (falls x e.kind))
  where
    go : (f : Bool) → cond f (meet (cond f (meet e.label d.label) e.label) d.label) (cond f (meet e.label d.label) e.label)
        ≡ cond f (meet e.label d.label) e.label
    go true = meet_stays (meet e.label d.label) d.label (meet_right e.label d.label)
    go false = refl

-- what a receiver is after it took something in from an entry d: not above what it was, and not above d if d was at least its
-- demand (a file keeps its label: it is its own demand)
pub record Fell (x : Thing) (a : Option Entry) (d r : Entry) : Type 0 where
  pub was : Entry
  pub was_is : a ≡ some was
  pub under_was : r.label ⊑ was.label
  pub under_source : demand x a ⊑ d.label → r.label ⊑ d.label
  pub over : (v : Label) → v ⊑ was.label → v ⊑ d.label → v ⊑ r.label

pub fell : (x : Thing) (a b : Option Entry) (d r : Entry) → b ≡ some d → fall x a b ≡ some r → Fell x a d r
unfolding fall_under
fell x none b d r q f = absurd (none-ne-some r f)
fell x (some e) none d r q f = absurd (none-ne-some d q)
fell x (some e) (some d') d r q f = record {
  was = e;
  was_is = refl;
  under_was = (fall_under x (some e) (some d') r f).2;
  under_source = λ h. subst (λ (z : Label). z ⊑ d.label) l (right (falls x e.kind)
      (λ n. subst (λ (z : Label). z ⊑ d.label) (cond_yes (is_file x e.kind) e.label bot (falls_or_file x e.kind n)) h));
  over = λ v p q. subst (λ (z : Label). v ⊑ z) l (least v (falls x e.kind) p q);
}
  where
    l : cond (falls x e.kind) (meet e.label d.label) e.label ≡ r.label
    l = subst (λ (z : Entry). sunk x e.kind e.label z.label ≡ r.label) (some-injective d' d q)
        (ap (λ (z : Entry). z.label) (some-injective _ r f))

    right : (f : Bool) → (T (not f) → e.label ⊑ d.label) → cond f (meet e.label d.label) e.label ⊑ d.label
    right true h = meet_right e.label d.label
    right false h = h tt

    least : (v : Label) (f : Bool) → v ⊑ e.label → v ⊑ d.label → v ⊑ cond f (meet e.label d.label) e.label
    least v true p q = meet_glb p q
    least v false p q = p
