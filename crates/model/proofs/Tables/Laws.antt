-- The laws of `Tables`: what is live, where a subject stands, the lists of handles, flows and live things, what a thing demands,
-- and the test `safe`. Other files know `used`, `cell`, `speaks`, `things`, `handles`, `edges` and `safe` by these laws. Assumes nothing.
use Rattle.std.specs.Prelude.{◌≡◌, refl, Bool, true, false, not, cond, ◌⊎◌, ◌↔◌, List, [], ℕ, ◌<◌, T, eqb}
use Rattle.std.proofs.Common.{sym, ◌∙◌, ap, subst, inl, inr, T_not, eqb→eq, ltb→lt, lt→ltb}
use Rattle.std.proofs.Math.Option.{Option, none, some}
use Rattle.std.proofs.Math.Dec.{eqb_refl}
use Rattle.model.specs.Bools.{test, both, both_of, not_not}
use Rattle.model.specs.Lists.{In, each, keep, any}
use Rattle.model.specs.Lists.Laws.{in_left, in_right, in_cases, in_each, each_in, keep_here, keep_cases, any_of, any_at}
use Rattle.model.specs.Label.{leq, ◌⊑◌, bot}
use Rattle.model.proofs.Label.Laws.{⊑_refl, bot_least}
use Rattle.model.specs.Flow.{Thing, subject, object, Edge}
use Rattle.model.proofs.Flow.Laws.{same→eq}
use Rattle.model.specs.Tables.{Entry, Handle, Tables, with_at, with_hand, with_freeze, subjects, places, in_range, is_some, used, live, label_of, is_file, cell, whole, live_objects, live_subjects, things, one, handles_of, handles, open_on, flow, speaks, flows_of, edges, demand, needs, safe, with_numbers, named, with_kin, mates, share, shares_of}

-- ── is_some, live ──
pub some_of : {A : Type 0} (o : Option A) → T (is_some o) → (a : A) × (o ≡ some a)
some_of none t = absurd t
some_of (some a) t = (a, refl)

pub some_is : {A : Type 0} {o : Option A} {a : A} → o ≡ some a → T (is_some o)
some_is q = subst (λ o. T (is_some o)) (sym q) tt

pub live_of : (t : Tables) (x : Thing) → T (live t x) → T (in_range x) × T (used t x)
live_of t x h = both_of (in_range x) (used t x) h

-- ── used ──
pub used_is : (t : Tables) (x : Thing) → used t x ≡ is_some (t.at x)
unfolding used
used_is t x = refl

-- ── cell and speaks: they go by the entries and handles of no thing ──
pub speaks_at : (t : Tables) (a : Thing → Option Entry) (s : ℕ) → speaks (with_at t a) s ≡ speaks t s
unfolding cell speaks
speaks_at t a s = refl

pub speaks_hand : (t : Tables) (h : ℕ → ℕ → Option Handle) (s : ℕ) → speaks (with_hand t h) s ≡ speaks t s
unfolding cell speaks
speaks_hand t h s = refl

pub speaks_freeze : (t : Tables) (f s : ℕ) → speaks (with_freeze t f) s ≡ speaks t s
unfolding cell speaks
speaks_freeze t f s = refl

pub speaks_numbers : (t : Tables) (l : List ℕ) (s : ℕ) → speaks (with_numbers t l) s ≡ speaks t s
unfolding cell speaks
speaks_numbers t l s = refl

pub edges_numbers : (t : Tables) (l : List ℕ) → edges (with_numbers t l) ≡ edges t
unfolding cell speaks edges
edges_numbers t l = refl

pub speaks_kin : (t : Tables) (k : ℕ → ℕ → Bool) (s : ℕ) → speaks (with_kin t k) s ≡ speaks t s
unfolding cell speaks
speaks_kin t k s = refl

-- who speaks, speaks as its cell; in this version everybody does, and the cell is the subject itself
pub speaks_cell : (t : Tables) (s : ℕ) → speaks t s ≡ some (cell t s)
unfolding speaks
speaks_cell t s = refl

pub cell_self : (t : Tables) (s : ℕ) → cell t s ≡ subject s
unfolding cell
cell_self t s = refl

pub cell_same : (t u : Tables) (s : ℕ) → cell t s ≡ cell u s
cell_same t u s = cell_self t s ∙ sym (cell_self u s)

-- ── whole: it goes by the entries and handles of no thing; the group of a subject ──
pub whole_at : (t : Tables) (a : Thing → Option Entry) (x y : Thing) → whole (with_at t a) x y ≡ whole t x y
unfolding whole
whole_at t a (subject n) (subject m) = refl
whole_at t a (subject n) (object m) = refl
whole_at t a (object n) y = refl

pub whole_self : (t : Tables) (x : Thing) → ((a : ℕ) → T (t.kin a a)) → T (whole t x x)
unfolding whole
whole_self t (subject n) r = r n
whole_self t (object n) r = eqb_refl n

-- an object stands for itself
pub whole_object : (t : Tables) (o : ℕ) (y : Thing) → T (whole t (object o) y) → object o ≡ y
unfolding whole
whole_object t o y h = same→eq (object o) y h

-- a member of the group, or the thing itself
pub whole_cases : (t : Tables) (x y : Thing) → T (whole t x y) → (x ≡ y) ⊎ ((a : ℕ) × (b : ℕ) × (subject a ≡ x) × (subject b ≡ y) × T (t.kin a b))
unfolding whole
whole_cases t (subject a) (subject b) h = inr (a, b, refl, refl, h)
whole_cases t (subject a) (object b) h = absurd h
whole_cases t (object a) y h = inl (same→eq (object a) y h)

-- it goes by the groups alone
pub whole_by : (t u : Tables) → t.kin ≡ u.kin → (x y : Thing) → whole t x y ≡ whole u x y
unfolding whole
whole_by t u q (subject a) (subject b) = ap (λ (k : ℕ → ℕ → Bool). k a b) q
whole_by t u q (subject a) (object b) = refl
whole_by t u q (object a) y = refl

pub whole_kin : (t : Tables) (a b : ℕ) → whole t (subject a) (subject b) ≡ t.kin a b
unfolding whole
whole_kin t a b = refl

pub whole_no_object : (t : Tables) (a o : ℕ) → whole t (subject a) (object o) ≡ false
unfolding whole
whole_no_object t a o = refl

pub whole_apart : (t : Tables) (o b : ℕ) → whole t (object o) (subject b) ≡ false
unfolding whole
whole_apart t o b = refl

-- a live subject's cell and a live object have an entry
pub cell_entry : (t : Tables) (s : ℕ) → T (live t (subject s)) → (e : Entry) × (t.at (cell t s) ≡ some e)
cell_entry t s h = subst (λ (x : Thing). (e : Entry) × (t.at x ≡ some e)) (sym (cell_self t s))
    (some_of (t.at (subject s)) (subst T (used_is t (subject s)) (live_of t (subject s) h).1))

pub step_entry : (t : Tables) (s : ℕ) → T (live t (subject s)) → (e : Entry) × (t.at (subject s) ≡ some e)
step_entry t s h = some_of (t.at (subject s)) (subst T (used_is t (subject s)) (live_of t (subject s) h).1)

pub object_entry : (t : Tables) (o : ℕ) → T (live t (object o)) → (e : Entry) × (t.at (object o) ≡ some e)
object_entry t o h = some_of (t.at (object o)) (subst T (used_is t (object o)) (live_of t (object o) h).1)

-- ── handles ──
in_one : {A : Type 0} (o : Option A) (a : A) → o ≡ some a → In a (one o)
in_one o a q = subst (λ z. In a (one z)) (sym q) (inl refl)

pub of_one : {A : Type 0} (v : Option A) (k : A) → In k (one v) → v ≡ some k
of_one none k i = absurd i
of_one (some a) k (inl q) = ap {B = Option _} some q
of_one (some a) k (inr i) = absurd i

pub handle_in : (t : Tables) (s p : ℕ) (k : Handle) → s < subjects → p < places → t.hand s p ≡ some k → In k (handles t)
unfolding handles
handle_in t s p k ls lp q = in_each subjects (handles_of t) k s ls (in_each places (λ p. one (t.hand s p)) k p lp (in_one (t.hand s p) k q))

pub open_here : (t : Tables) (s p : ℕ) (k : Handle) → s < subjects → p < places → t.hand s p ≡ some k → T (open_on (handles t) k.to)
open_here t s p k ls lp q = any_of (λ z. eqb z.to k.to) (handles t) k (handle_in t s p k ls lp q) (eqb_refl k.to)

pub open_at : (t : Tables) (o : ℕ) → T (open_on (handles t) o) → (s : ℕ) × (p : ℕ) × (k : Handle) × (s < subjects) × (p < places) ×
    (t.hand s p ≡ some k) × (k.to ≡ o)
unfolding handles
open_at t o h = let r = any_at (λ z. eqb z.to o) (handles t) h in let a = each_in subjects (handles_of t) r.0
    r.1 in let b = each_in places (λ p. one (t.hand a.0 p)) r.0 a.2 in
    (a.0, b.0, r.0, a.1, b.1, of_one (t.hand a.0 b.0) r.0 b.2, eqb→eq r.0.to o r.2)

-- the handles go by nothing but what stands at the places
pub handles_by : (t u : Tables) → t.hand ≡ u.hand → handles t ≡ handles u
unfolding handles
handles_by t u q = ap (λ (h : ℕ → ℕ → Option Handle). each subjects (λ s. each places (λ p. one (h s p)))) q

pub handles_at : (t : Tables) (a : Thing → Option Entry) → handles (with_at t a) ≡ handles t
handles_at t a = handles_by (with_at t a) t refl

-- ── edges ──
abbrev handle_edges : Tables → List Edge
handle_edges t = each subjects (λ s. each places (λ p. flows_of (speaks t s) (t.hand s p)))

pub flow_edge : (t : Tables) (s p : ℕ) (x : Thing) (k : Handle) → s < subjects → p < places → speaks t s ≡ some x → t.hand s p ≡ some k
    → In (flow x k) (edges t)
unfolding edges
flow_edge t s p x k ls lp z q = in_left (flow x k) (handle_edges t) (each subjects (shares_of t))
    (in_each subjects (λ s. each places (λ p. flows_of (speaks t s) (t.hand s p))) (flow x k) s ls
    (in_each places (λ p. flows_of (speaks t s) (t.hand s p)) (flow x k) p lp
    (subst (λ (v : Option Thing). In (flow x k) (flows_of v (t.hand s p))) (sym z)
    (subst (λ (v : Option Handle). In (flow x k) (flows_of (some x) v)) (sym q) (inl refl)))))

pub share_edge : (t : Tables) (a b : ℕ) → a < subjects → b < subjects → T (mates t a (subject b)) → In (share a b) (edges t)
unfolding edges
share_edge t a b la lb h = in_right (share a b) (handle_edges t) (each subjects (shares_of t))
    (in_each subjects (shares_of t) (share a b) a la (in_each subjects (λ c. keep (mates t a (subject c)) (share a c) []) (share a b) b lb
    (keep_here (mates t a (subject b)) (share a b) [] h)))

-- an edge is the flow of a handle, or one between members of a group
pub record Flows (t : Tables) (e : Edge) : Type 0 where
  pub s : ℕ
  pub p : ℕ
  pub x : Thing
  pub k : Handle
  pub low_s : s < subjects
  pub low_p : p < places
  pub speaker : speaks t s ≡ some x
  pub holds : t.hand s p ≡ some k
  pub is : flow x k ≡ e

pub record Shares (t : Tables) (e : Edge) : Type 0 where
  pub a : ℕ
  pub b : ℕ
  pub low_a : a < subjects
  pub low_b : b < subjects
  pub linked : T (mates t a (subject b))
  pub is : share a b ≡ e

pub edge_flow : (t : Tables) (e : Edge) → In e (edges t) → Flows t e ⊎ Shares t e
unfolding edges
edge_flow t e i = elim (in_cases e (handle_edges t) (each subjects (shares_of t)) i) [
  | inl j ↦ (let r = each_in subjects (λ s. each places (λ p. flows_of (speaks t s) (t.hand s p))) e j in
      let q = each_in places (λ p. flows_of (speaks t r.0) (t.hand r.0 p)) e r.2 in
      inl (at_place r.0 q.0 r.1 q.1 (speaks t r.0) (t.hand r.0 q.0) refl refl q.2))
  | inr j ↦ (let r = each_in subjects (shares_of t) e j in
      let q = each_in subjects (λ c. keep (mates t r.0 (subject c)) (share r.0 c) []) e r.2 in
      inr (between r.0 q.0 r.1 q.1 (keep_cases (mates t r.0 (subject q.0)) (share r.0 q.0) [] e q.2)))
]
  where
    at_place : (s p : ℕ) → s < subjects → p < places → (v : Option Thing) (o : Option Handle) → speaks t s ≡ v → t.hand s p ≡ o → In e (flows_of v o) → Flows t e
    at_place s p a b none o z q j = absurd j
    at_place s p a b (some x) none z q j = absurd j
    at_place s p a b (some x) (some k) z q (inl f) = record { s = s; p = p; x = x; k = k; low_s = a; low_p = b; speaker = z; holds = q; is = f }
    at_place s p a b (some x) (some k) z q (inr f) = absurd f

    between : (a b : ℕ) → a < subjects → b < subjects → (T (mates t a (subject b)) × (share a b ≡ e)) ⊎ In e [] → Shares t e
    between a b la lb (inl c) = record { a = a; b = b; low_a = la; low_b = lb; linked = c.0; is = c.1 }
    between a b la lb (inr c) = absurd c

-- ── things ──
-- a thing that the list has where it is live: a subject in range, an object on which a handle is
abbrev pub Stands : Tables → Thing → Type 0
Stands t (subject n) = T (in_range (subject n))
Stands t (object n) = T (open_on (handles t) n)

pub thing_listed : (t : Tables) (x : Thing) (e : Entry) → Stands t x → t.at x ≡ some e → In x (things t)
unfolding things used cell
thing_listed t (subject n) e r q = in_left (subject n) (live_subjects t) (live_objects t)
    (in_each subjects (λ s. keep (used t (subject s)) (cell t s) []) (subject n) n (ltb→lt n subjects r)
    (keep_here (is_some (t.at (subject n))) (subject n) [] (some_is q)))
thing_listed t (object n) e r q = let (s, p, k, ls, lp, h, z) = open_at t n r in in_right (object n) (live_subjects t) (live_objects t)
    (in_each subjects (λ s. each places (λ p. named t (t.hand s p))) (object n) s ls
    (in_each places (λ p. named t (t.hand s p)) (object n) p lp
    (subst (λ (v : Option Handle). In (object n) (named t v)) (sym h)
    (subst (λ (m : ℕ). In (object m) (named t (some k))) z
    (keep_here (is_some (t.at (object k.to))) (object k.to) [] (some_is (ap (λ (m : ℕ). t.at (object m)) z ∙ q)))))))

pub listed_thing : (t : Tables) (x : Thing) → In x (things t) → (e : Entry) × (t.at x ≡ some e)
unfolding things used cell
listed_thing t x i = elim (in_cases x (live_subjects t) (live_objects t) i) [
  | inl j ↦ (let r = each_in subjects (λ s. keep (used t (subject s)) (cell t s) []) x j in kept (subject r.0)
      (keep_cases (is_some (t.at (subject r.0))) (subject r.0) [] x r.2))
  | inr j ↦ (let a = each_in subjects (λ s. each places (λ p. named t (t.hand s p))) x j in let b = each_in places (λ p. named t (t.hand a.0 p)) x a.2 in
      held (t.hand a.0 b.0) b.2)
]
  where
    kept : (y : Thing) → (T (is_some (t.at y)) × (y ≡ x)) ⊎ In x [] → (e : Entry) × (t.at x ≡ some e)
    kept y (inl c) = subst (λ (z : Thing). (e : Entry) × (t.at z ≡ some e)) c.1 (some_of (t.at y) c.0)
    kept y (inr b) = absurd b

    held : (v : Option Handle) → In x (named t v) → (e : Entry) × (t.at x ≡ some e)
    held none j = absurd j
    held (some k) j = kept (object k.to) (keep_cases (is_some (t.at (object k.to))) (object k.to) [] x j)

listed_range : (t : Tables) (x : Thing) → In x (things t) → T (in_range x)
unfolding things used cell
listed_range t x i = elim (in_cases x (live_subjects t) (live_objects t) i) [
  | inl j ↦ (let r = each_in subjects (λ s. keep (used t (subject s)) (cell t s) []) x j in
      kept (subject r.0) (lt→ltb r.0 subjects r.1) (keep_cases (is_some (t.at (subject r.0))) (subject r.0) [] x r.2))
  | inr j ↦ (let a = each_in subjects (λ s. each places (λ p. named t (t.hand s p))) x j in let b = each_in places (λ p. named t (t.hand a.0 p)) x a.2 in
      held (t.hand a.0 b.0) b.2)
]
  where
    kept : (y : Thing) → T (in_range y) → (T (is_some (t.at y)) × (y ≡ x)) ⊎ In x [] → T (in_range x)
    kept y r (inl c) = subst (λ (z : Thing). T (in_range z)) c.1 r
    kept y r (inr b) = absurd b

    held : (v : Option Handle) → In x (named t v) → T (in_range x)
    held none j = absurd j
    held (some k) j = kept (object k.to) tt (keep_cases (is_some (t.at (object k.to))) (object k.to) [] x j)

-- what is listed is live
pub listed_live : (t : Tables) (x : Thing) → In x (things t) → T (live t x)
unfolding used
listed_live t x i = both (in_range x) (is_some (t.at x)) (listed_range t x i) (some_is (listed_thing t x i).1)

-- ── demand ──
pub demand_label : (x : Thing) (e : Entry) → demand x (some e) ⊑ e.label
demand_label x e = go (is_file x e.kind)
  where
    go : (b : Bool) → cond b e.label bot ⊑ e.label
    go true = ⊑_refl
    go false = bot_least

-- ── safe ──
abbrev short : Tables → Thing → Bool
short t x = not (leq (needs t x) (label_of (t.at x)))

-- some live thing has a label below its need, exactly where the test fails
pub not_safe : (t : Tables) → T (not (safe t)) ↔ ((x : Thing) × In x (things t) × T (not (leq (needs t x) (label_of (t.at x)))))
unfolding safe
not_safe t = (
  λ h. any_at (short t) (things t) (not_not (any (short t) (things t)) h),
  λ r. back (any (short t) (things t))
      (any_of (short t) (things t) r.0 r.1 r.2),
)
  where
    back : (b : Bool) → T b → T (not (not b))
    back true t = tt
    back false t = t

pub safe_above : (t : Tables) → T (safe t) → (x : Thing) → In x (things t) → needs t x ⊑ label_of (t.at x)
safe_above t h x i = record {
  tested = elim (test (leq (needs t x) (label_of (t.at x)))) [
    | inl y ↦ y
    | inr n ↦ absurd
        (T_not (safe t) ((not_safe t).1 (x, i, n)) h)
  ];
}
