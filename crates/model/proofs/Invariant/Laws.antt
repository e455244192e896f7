-- How the invariant is kept, step by step. That each live thing's level is at least its need (RULES F8) is carried by a *potential*: a label for
-- each thing that is at least what the thing demands, at most a live thing's label, and falls along every flow. The need is the least
-- one, so tables with a potential are safe. Each step has one law for `Wf`, one for potentials and one for `Scaled`. Assumes nothing.
use Rattle.std.specs.Prelude.{◌≡◌, refl, Bool, true, false, not, ◌&&◌, cond, ◌⊎◌, List, ℕ, ◌<◌, T, eqb, ltb}
use Rattle.std.proofs.Common.{sym, ◌∙◌, ap, subst, subst₂, inl, inr, arith, T_not, eqb→eq, ltb→lt, lt→ltb}
use Rattle.std.proofs.Math.Path.{fun_ext}
use Rattle.std.proofs.Math.Option.{Option, none, some, none-ne-some, some-injective}
use Rattle.std.proofs.Math.Dec.{not_T, eqb_refl}
use Rattle.model.specs.Bools.{test, or_cases, or_left, or_right, both, both_of, cond_yes, cond_no, cond_cases}
use Rattle.model.specs.Lists.{In}
use Rattle.model.specs.Label.{Label, ◌⊑◌, meet, bot}
use Rattle.model.proofs.Label.Laws.{⊑_refl, ⊑_trans, bot_least}
use Rattle.model.specs.Flow.{Thing, subject, object, same, Edge}
use Rattle.model.proofs.Flow.Laws.{same→eq, need_self, need_flow, need_below}
use Rattle.model.proofs.Flow.Changes.{but}
use Rattle.model.specs.Tables.{Dir, reading, writing, Entry, Handle, Tables, empty, with_hand, with_freeze, subjects, places, in_range, is_some, used, live, cell, handles, arc, flow, speaks, edges, demand, needs, counted, clean, with_numbers, whole, mates, share}
use Rattle.model.proofs.Tables.Laws.{some_of, some_is, live_of, speaks_at, speaks_hand, speaks_freeze, speaks_cell, cell_entry, object_entry, open_here, flow_edge, edge_flow, speaks_numbers, speaks_kin, whole_cases, step_entry, share_edge}
use Rattle.model.specs.Steps.{Origin, Access, enter, hold, holds, mix, quits, put, row, place, without, vacated, sink, apply, ended, reap, parted, stand_in, bound, binds}
use Rattle.model.proofs.Steps.Laws.{put_cases, sink_cases, sink_by, row_cases, place_cases, live_hand, live_freeze, live_at, ended_open, ended_subject, live_numbers, live_kin}
use Rattle.model.proofs.Steps.Laws.{fall_some, some_fall, fall_demand, fall_is, fell}
use Rattle.model.specs.Invariant.{Ends, Teams, Wf, Safe, Labelled, Scaled, Frozen}

pub record Pot (t : Tables) (φ : Thing → Label) : Type 0 where
  pub low : (x : Thing) → demand x (t.at x) ⊑ φ x
  pub cap : (x : Thing) (e : Entry) → t.at x ≡ some e → φ x ⊑ e.label
  pub falls : (s p : ℕ) (x : Thing) (k : Handle) → speaks t s ≡ some x → t.hand s p ≡ some k → φ (flow x k).dst ⊑ φ (flow x k).src
  pub shares : (a b : ℕ) → T (t.kin a b) → φ (subject b) ⊑ φ (subject a)

pub pot_whole : {t : Tables} {φ : Thing → Label} → Pot t φ → (y z : Thing) → T (whole t y z) → φ z ⊑ φ y
pot_whole {t} {φ} i y z h = elim (whole_cases t y z h) [
  | inl q ↦ subst (λ (w : Thing). φ w ⊑ φ y) q ⊑_refl
  | inr r ↦ subst₂ (λ (v w : Thing). φ w ⊑ φ v) r.2 r.3 (i.shares r.0 r.1 r.4)
]

-- ── groups ──
pub unlike_back : (i j : ℕ) → T (not (eqb i j)) → T (not (eqb j i))
unlike_back i j n = not_T (eqb j i) (λ h. T_not (eqb i j) n (subst (λ (k : ℕ). T (eqb i k)) (sym (eqb→eq j i h)) (eqb_refl i)))

pub mates_kin : (t : Tables) (a b : ℕ) → T (mates t a (subject b)) → T (not (eqb a b)) × T (t.kin a b)
mates_kin t a b h = both_of (not (eqb a b)) (t.kin a b) h

-- both of two members of a group are live
pub mates_live : {t : Tables} → Teams t → (a b : ℕ) → T (t.kin a b) → T (not (eqb a b)) → T (live t (subject a)) × T (live t (subject b))
mates_live g a b h n = (g.only a b h n, g.only b a (g.both_ways a b h) (unlike_back a b n))

-- who is not live is by itself
pub lone : {t : Tables} → Teams t → (c b : ℕ) → t.at (subject c) ≡ none → T (t.kin c b) → c ≡ b
lone {t} g c b n h = elim (test (eqb c b)) [
  | inl e ↦ eqb→eq c b e
  | inr u ↦ (let r = step_entry t c (g.only c b h u) in absurd (none-ne-some r.0 (sym n ∙ r.1)))
]

pub teams_same : {t u : Tables} → t.kin ≡ u.kin → ((a : ℕ) → T (live t (subject a)) → T (live u (subject a))) → Teams t → Teams u
teams_same {t} {u} q f g = record {
  itself = λ a. subst (λ (k : ℕ → ℕ → Bool). T (k a a)) q (g.itself a);
  both_ways = λ a b h. subst (λ (k : ℕ → ℕ → Bool). T (k b a)) q (g.both_ways a b (was a b h));
  shared = λ a b c h i. subst (λ (k : ℕ → ℕ → Bool). T (k a c)) q (g.shared a b c (was a b h) (was b c i));
  only = λ a b h n. f a (g.only a b (was a b h) n);
}
  where
    was : (a b : ℕ) → T (u.kin a b) → T (t.kin a b)
    was a b h = subst (λ (k : ℕ → ℕ → Bool). T (k a b)) (sym q) h

empty_teams : Teams empty
empty_teams = record {
  itself = eqb_refl;
  both_ways = λ a b h. subst (λ (z : ℕ). T (eqb z a)) (eqb→eq a b h) (eqb_refl a);
  shared = λ a b c h i. subst (λ (z : ℕ). T (eqb a z)) (eqb→eq b c i) h;
  only = λ a b h n. absurd (T_not (eqb a b) n h);
}

-- who is gone is in no group
pub parted_cases : (g : Thing → Bool) (k : ℕ → ℕ → Bool) (a b : ℕ) → T (parted g k a b) → (a ≡ b) ⊎ (T (not (g (subject a))) × T (not (g (subject b))) × T (k a b))
parted_cases g k a b h = elim (or_cases (eqb a b) (not (g (subject a)) && (not (g (subject b)) && k a b)) h) [
  | inl e ↦ inl (eqb→eq a b e)
  | inr n ↦ (let r = both_of (not (g (subject a))) (not (g (subject b)) && k a b) n in
      let q = both_of (not (g (subject b))) (k a b) r.1 in inr (r.0, q.0, q.1))
]

pub parted_same : (g : Thing → Bool) (k : ℕ → ℕ → Bool) (a b : ℕ) → a ≡ b → T (parted g k a b)
parted_same g k a b q = subst (λ (z : ℕ). T (parted g k a z)) q (or_left (eqb a a) (not (g (subject a)) && (not (g (subject a)) && k a a)) (eqb_refl a))

pub parted_stays : (g : Thing → Bool) (k : ℕ → ℕ → Bool) (a b : ℕ) → T (not (g (subject a))) → T (not (g (subject b))) → T (k a b) → T (parted g k a b)
parted_stays g k a b p q h = or_right (eqb a b) (not (g (subject a)) && (not (g (subject b)) && k a b))
    (both (not (g (subject a))) (not (g (subject b)) && k a b) p (both (not (g (subject b))) (k a b) q h))

quits_teams : (t : Tables) (g : Thing → Bool) → Teams t → ((a : ℕ) → T (not (g (subject a))) → T (live t (subject a)) → T (live (apply (quits g) t) (subject a))) → Teams (apply (quits g) t)
quits_teams t g m f = record {
  itself = λ a. parted_same g t.kin a a refl;
  both_ways = λ a b h. elim (parted_cases g t.kin a b h) [
    | inl q ↦ parted_same g t.kin b a (sym q)
    | inr r ↦ parted_stays g t.kin b a r.1 r.0 (m.both_ways a b r.2)
  ];
  shared = λ a b c h i. elim (parted_cases g t.kin a b h) [
    | inl q ↦ subst (λ (z : ℕ). T (parted g t.kin z c)) (sym q) i
    | inr r ↦ elim (parted_cases g t.kin b c i) [
      | inl q ↦ subst (λ (z : ℕ). T (parted g t.kin a z)) q h
      | inr p ↦ parted_stays g t.kin a c r.0 p.1 (m.shared a b c r.2 p.2)
    ]
  ];
  only = λ a b h n. elim (parted_cases g t.kin a b h) [
    | inl q ↦ absurd (T_not (eqb a b) n (subst (λ (z : ℕ). T (eqb a z)) q (eqb_refl a)))
    | inr r ↦ f a r.0 (m.only a b r.2 n)
  ];
}

-- ── the need is the least potential ──
pub needs_least : (t : Tables) (φ : Thing → Label) → Pot t φ → (x : Thing) → needs t x ⊑ φ x
needs_least t φ v x = need_below (edges t) (λ y. demand y (t.at y)) φ v.low down x
  where
    down : (e : Edge) → In e (edges t) → φ e.dst ⊑ φ e.src
    down e i = elim (edge_flow t e i) [
      | inl r ↦ subst (λ (z : Edge). φ z.dst ⊑ φ z.src) r.is (v.falls r.s r.p r.x r.k r.speaker r.holds)
      | inr r ↦ subst (λ (z : Edge). φ z.dst ⊑ φ z.src) r.is (v.shares r.a r.b (mates_kin t r.a r.b r.linked).1)
    ]

pub pot_safe : {t : Tables} {φ : Thing → Label} → Pot t φ → Safe t
pot_safe {t} {φ} v = record { above = λ x e q. ⊑_trans (needs_least t φ v x) (v.cap x e q) }

pub row_below : {t : Tables} {s p : ℕ} {k : Handle} → Ends t s p k → s < subjects
row_below {t} {s} f = ltb→lt s subjects (live_of t (subject s) f.from).0

pub needs_pot : {t : Tables} → Wf t → Safe t → Pot t (needs t)
needs_pot {t} w v = record {
  low = λ x. need_self (edges t) (λ y. demand y (t.at y)) x;
  cap = v.above;
  falls = λ s p x k z q. let f = w.ends s p k q in need_flow (edges t) (λ y. demand y (t.at y)) (flow x k) (flow_edge t s p x k (row_below f) f.place z q);
  shares = λ a b h. elim (test (eqb a b)) [
    | inl e ↦ subst (λ (z : ℕ). needs t (subject z) ⊑ needs t (subject a)) (eqb→eq a b e) ⊑_refl
    | inr n ↦ (let r = mates_live w.teams a b h n in need_flow (edges t) (λ y. demand y (t.at y)) (share a b)
        (share_edge t a b (low a r.0) (low b r.1) (both (not (eqb a b)) (t.kin a b) n h)))
  ];
}
  where
    low : (a : ℕ) → T (live t (subject a)) → a < subjects
    low a h = ltb→lt a subjects (live_of t (subject a) h).0

-- what a flow leads from and to has an entry
speaker_entry : {t : Tables} {s p : ℕ} {x : Thing} {k : Handle} → Ends t s p k → speaks t s ≡ some x → (e : Entry) × (t.at x ≡ some e)
speaker_entry {t} {s} {x = x} f z = subst (λ (y : Thing). (e : Entry) × (t.at y ≡ some e))
    (some-injective (cell t s) x (sym (speaks_cell t s) ∙ z)) (cell_entry t s f.from)

-- ── empty tables ──
pub empty_wf : Wf empty
empty_wf = record { ends = λ s p k q. absurd (none-ne-some k q); ranged = λ x e q. absurd (none-ne-some e q); teams = empty_teams }

pub empty_pot : Pot empty (λ x. bot)
empty_pot = record { low = λ x. bot_least; cap = λ x e q. bot_least; falls = λ s p x k z q. absurd (none-ne-some k q); shares = λ a b h. ⊑_refl }

pub empty_scaled : Scaled empty
empty_scaled = record { within = λ x e q. absurd (none-ne-some e q) }

pub empty_frozen : Frozen empty
empty_frozen = record { bounded = omega arith }

-- ── tables that no calls made ──
-- once cleaned, nothing dangles in them
pub clean_wf : (t : Tables) → ((x : Thing) (e : Entry) → t.at x ≡ some e → T (in_range x)) → Teams t → Wf (clean t)
unfolding clean
clean_wf t r g = record { ends = λ s p k q. joins s p (t.hand s p) k q; ranged = r; teams = teams_same refl (λ a. live_hand t h (subject a)) g }
  where
    h : ℕ → ℕ → Option Handle
    h s p = counted (ltb p places && live t (subject s)) (λ o. live t (object o)) (t.hand s p)

    joins : (s p : ℕ) (o : Option Handle) (k : Handle) → counted (ltb p places && live t (subject s)) (λ o. live t (object o)) o ≡ some k
        → Ends (with_hand t h) s p k
    joins s p none k q = absurd (none-ne-some k q)
    joins s p (some j) k q = elim (cond_cases ((ltb p places && live t (subject s)) && live t (object j.to)) (some j) none (some k) q) [
      | inl c ↦ (let a = both_of (ltb p places && live t (subject s)) (live t (object j.to)) c.0 in let b = both_of (ltb p places)
          (live t (subject s)) a.0 in
          record {
            from = live_hand t h (subject s) b.1;
            to = live_hand t h (object k.to)
                (subst (λ (z : Handle). T (live t (object z.to))) (some-injective j k c.1) a.1);
            place = ltb→lt p places
                b.0;
          })
      | inr c ↦ absurd (none-ne-some k c.1)
    ]

-- and where nothing dangles, cleaning changes nothing
pub clean_same : (t : Tables) → Wf t → clean t ≡ t
unfolding clean
clean_same t w = ap (with_hand t) (fun_ext (λ s. fun_ext (λ p. point s p (t.hand s p) refl)))
  where
    point : (s p : ℕ) (o : Option Handle) → t.hand s p ≡ o → counted (ltb p places && live t (subject s)) (λ n. live t (object n)) o ≡ o
    point s p none q = refl
    point s p (some k) q = let f = w.ends s p k q in cond_yes ((ltb p places && live t (subject s)) && live t (object k.to)) (some k) none
        (both (ltb p places && live t (subject s)) (live t (object k.to))
        (both (ltb p places) (live t (subject s)) (lt→ltb p places f.place) f.from) f.to)

-- ── enter ──
pub wf_enter : (t : Tables) (x : Thing) (e : Entry) (g : Origin) → T (in_range x) → Wf t → Wf (apply (enter x e g) t)
wf_enter t x e g r w = record {
  ends = λ s p k q. let f = w.ends s p k q in record {
    from = live_at t a (subject s) (more (subject s)) f.from;
    to = live_at t a
        (object k.to) (more (object k.to)) f.to;
    place = f.place;
  };
  ranged = λ y d q. elim (put_cases t.at x (some e) y (some d) q) [ inl c ↦ subst (λ (z : Thing). T (in_range z)) c.0 r | inr c ↦ w.ranged y d c.1 ];
  teams = teams_same refl (λ m. live_at t a (subject m) (more (subject m))) w.teams;
}
  where
    a : Thing → Option Entry
    a = put t.at x (some e)

    more : (y : Thing) → T (is_some (t.at y)) → T (is_some (a y))
    more y h = go (same x y)
      where
        go : (b : Bool) → T (is_some (cond b (some e) (t.at y)))
        go true = tt
        go false = h

pub labelled_enter : (P : Label → Type 0) (t : Tables) (x : Thing) (e : Entry) (g : Origin) → P e.label → Labelled P t → Labelled P (apply (enter x e g) t)
labelled_enter P t x e g h v = record {
  within = λ y d q. elim (put_cases t.at x (some e) y (some d) q) [
    | inl c ↦ subst (λ (z : Entry). P z.label) (some-injective e d c.1) h
    | inr c ↦ v.within y d c.1
  ];
}

-- what has an entry is not the thing without one
apart : (t : Tables) (x y : Thing) (e : Entry) → t.at x ≡ none → t.at y ≡ some e → T (not (same x y))
apart t x y e n q = not_T (same x y) (λ s. none-ne-some e (sym n ∙ ap t.at (same→eq x y s) ∙ q))

pub but_other : (t : Tables) (φ : Thing → Label) (x : Thing) (v : Label) (y : Thing) → t.at x ≡ none → (e : Entry) × (t.at y ≡ some e) → but φ x v y ≡ φ y
but_other t φ x v y n r = cond_no (same x y) v (φ y) (apart t x y r.0 n r.1)

arc_falls : (φ ψ : Thing → Label) (d : Dir) (x y : Thing) → φ x ≡ ψ x → φ y ≡ ψ y → φ (arc d x y).dst ⊑ φ (arc d x y).src → ψ
    (arc d x y).dst ⊑ ψ (arc d x y).src
arc_falls φ ψ reading x y p q h = subst₂ (λ a b. a ⊑ b) p q h
arc_falls φ ψ writing x y p q h = subst₂ (λ a b. a ⊑ b) q p h

pub pot_enter : (t : Tables) (φ : Thing → Label) (x : Thing) (e : Entry) (g : Origin) (v : Label) → Wf t → Pot t φ → t.at x ≡ none
    → demand x (some e) ⊑ v → v ⊑ e.label → Pot (apply (enter x e g) t) (but φ x v)
pot_enter t φ x e g v w i n lo hi = record { low = λ y. low' y (same x y) (same→eq x y); cap = λ y d q. cap' (same x y) y d q; falls = falls'; shares = shares' }
  where
    shares' : (a b : ℕ) → T (t.kin a b) → but φ x v (subject b) ⊑ but φ x v (subject a)
    shares' a b h = elim (test (eqb a b)) [
      | inl q ↦ subst (λ (z : ℕ). but φ x v (subject z) ⊑ but φ x v (subject a)) (eqb→eq a b q) ⊑_refl
      | inr m ↦ (let r = mates_live w.teams a b h m in subst₂ (λ (p q : Label). p ⊑ q)
          (sym (but_other t φ x v (subject b) n (step_entry t b r.1))) (sym (but_other t φ x v (subject a) n (step_entry t a r.0))) (i.shares a b h))
    ]

    low' : (y : Thing) (b : Bool) → (T b → x ≡ y) → demand y (cond b (some e) (t.at y)) ⊑ cond b v (φ y)
    low' y true s = subst (λ (z : Thing). demand z (some e) ⊑ v) (s tt) lo
    low' y false s = i.low y

    cap' : (b : Bool) (y : Thing) (d : Entry) → cond b (some e) (t.at y) ≡ some d → cond b v (φ y) ⊑ d.label
    cap' true y d q = subst (λ (z : Entry). v ⊑ z.label) (some-injective e d q) hi
    cap' false y d q = i.cap y d q

    kept : (y : Thing) → (d : Entry) × (t.at y ≡ some d) → φ y ≡ but φ x v y
    kept y r = sym (but_other t φ x v y n r)

    falls' : (s p : ℕ) (y : Thing) (k : Handle) → speaks (apply (enter x e g) t) s ≡ some y → t.hand s p ≡ some k → but φ x v
        (flow y k).dst ⊑ but φ x v (flow y k).src
    falls' s p y k z q = let z' = sym (speaks_at t (put t.at x (some e)) s) ∙ z in let f = w.ends s p k q in
        arc_falls φ (but φ x v) k.dir y (object k.to) (kept y (speaker_entry f z'))
        (kept (object k.to) (object_entry t k.to f.to)) (i.falls s p y k z' q)

-- ── handles change, entries stay: hold, holds ──
pub wf_hand : (t : Tables) (h : ℕ → ℕ → Option Handle) → Wf t →
    ((s p : ℕ) (k : Handle) → h s p ≡ some k → (t.hand s p ≡ some k) ⊎ Ends t s p k) → Wf (with_hand t h)
wf_hand t h w f = record {
  ends = λ s p k q. (let g = elim (f s p k q) as (λ _. Ends t s p k) [ inl o ↦ w.ends s p k o | inr n ↦ n ] in
      record { from = live_hand t h (subject s) g.from; to = live_hand t h (object k.to) g.to; place = g.place });
  ranged = w.ranged;
  teams = teams_same refl (λ a. live_hand t h (subject a)) w.teams;
}

pub pot_hand : (t : Tables) (φ : Thing → Label) (h : ℕ → ℕ → Option Handle) → Pot t φ
    → ((s p : ℕ) (x : Thing) (k : Handle) → speaks t s ≡ some x → h s p ≡ some k → (t.hand s p ≡ some k) ⊎
    (φ (flow x k).dst ⊑ φ (flow x k).src)) → Pot (with_hand t h) φ
pot_hand t φ h i f = record {
  low = i.low;
  cap = i.cap;
  falls = λ s p x k z q. (let z' = sym (speaks_hand t h s) ∙ z in
      elim (f s p x k z' q) [ inl o ↦ i.falls s p x k z' o | inr n ↦ n ]);
  shares = i.shares;
}

pub labelled_same : (P : Label → Type 0) {t u : Tables} → ((x : Thing) → u.at x ≡ t.at x) → Labelled P t → Labelled P u
labelled_same P e v = record { within = λ x d q. v.within x d (sym (e x) ∙ q) }

-- place p of s takes the handle k
pub wf_hold : (t : Tables) (s p : ℕ) (k : Handle) → Wf t → Ends t s p k → Wf (apply (hold s p (some k)) t)
wf_hold t s p k w f = wf_hand t (place t.hand s p (some k)) w (λ s' p' k' q. elim (place_cases t.hand s p (some k) s' p' (some k') q) [
  | inl c ↦ inr (subst (λ (z : Handle). Ends t s' p' z) (some-injective k k' c.2) (subst₂ (λ a b. Ends t a b k) c.0 c.1 f))
  | inr c ↦ inl c
])

pub pot_hold : (t : Tables) (φ : Thing → Label) (s p : ℕ) (k : Handle) → Pot t φ →
    ((x : Thing) → speaks t s ≡ some x → φ (flow x k).dst ⊑ φ (flow x k).src) → Pot (apply (hold s p (some k)) t) φ
pot_hold t φ s p k i f = pot_hand t φ (place t.hand s p (some k)) i (λ s' p' x k' z q. elim (place_cases t.hand s p (some k) s' p' (some k') q) [
  | inl c ↦ inr (subst (λ (m : Handle). φ (flow x m).dst ⊑ φ (flow x m).src) (some-injective k k' c.2) (f x (ap (speaks t) c.0 ∙ z)))
  | inr c ↦ inl c
])

-- ── fewer handles and subjects, the same objects ──
pub record Less (t u : Tables) : Type 0 where
  pub was_at : (x : Thing) (e : Entry) → u.at x ≡ some e → t.at x ≡ some e
  pub objects_stay : (o : ℕ) → u.at (object o) ≡ t.at (object o)
  pub hands : (s p : ℕ) (k : Handle) → u.hand s p ≡ some k → t.hand s p ≡ some k
  pub ends : (s p : ℕ) (k : Handle) → u.hand s p ≡ some k → Ends t s p k → Ends u s p k
  pub talks : (s p : ℕ) (x : Thing) (k : Handle) → u.hand s p ≡ some k → speaks u s ≡ some x → speaks t s ≡ some x
  pub kin_was : (a b : ℕ) → T (u.kin a b) → T (not (eqb a b)) → T (t.kin a b)
  pub teamed : Teams t → Teams u

pub less_hand : (t : Tables) (h : ℕ → ℕ → Option Handle) → ((s p : ℕ) (k : Handle) → h s p ≡ some k → t.hand s p ≡ some k) → Less t (with_hand t h)
less_hand t h f = record {
  was_at = λ x e q. q;
  objects_stay = λ o. refl;
  hands = f;
  talks = λ s p x k q z. sym (speaks_hand t h s) ∙ z;
  kin_was = λ a b k n. k;
  teamed = teams_same refl (λ a. live_hand t h (subject a));
  ends = λ s p k q g. record { from = live_hand t h (subject s) g.from; to = live_hand t h (object k.to) g.to; place = g.place };
}

pub less_close : (t : Tables) (s p : ℕ) → Less t (apply (hold s p none) t)
less_close t s p = less_hand t (place t.hand s p none) (λ s' p' k q. elim
    (place_cases t.hand s p none s' p' (some k) q) [ inl c ↦ absurd (none-ne-some k c.2) | inr c ↦ c ])

pub less_row : (t : Tables) (s : ℕ) → Less t (apply (holds s (λ p. none)) t)
less_row t s = less_hand t (row t.hand s (λ p. none)) (λ s' p k q. elim
    (row_cases t.hand s (λ p. none) s' p (some k) q) [ inl c ↦ absurd (none-ne-some k c.1) | inr c ↦ c.1 ])

-- another freeze takes no handle away
pub less_freeze : (t : Tables) (f : ℕ) → Less t (with_freeze t f)
less_freeze t f = record {
  was_at = λ x e q. q;
  objects_stay = λ o. refl;
  hands = λ s p k q. q;
  talks = λ s p x k q z. sym (speaks_freeze t f s) ∙ z;
  kin_was = λ a b k n. k;
  teamed = teams_same refl (λ a. live_freeze t f (subject a));
  ends = λ s p k q g. record { from = live_freeze t f (subject s) g.from; to = live_freeze t f (object k.to) g.to; place = g.place };
}

pub less_numbers : (t : Tables) (n : List ℕ) → Less t (with_numbers t n)
less_numbers t n = record {
  was_at = λ x e q. q;
  objects_stay = λ o. refl;
  hands = λ s p k q. q;
  talks = λ s p x k q z. sym (speaks_numbers t n s) ∙ z;
  kin_was = λ a b k m. k;
  teamed = teams_same refl (λ a. subst T (sym (live_numbers t n (subject a))));
  ends = λ s p k q g. record { from = subst T (sym (live_numbers t n (subject s))) g.from; to = subst T (sym (live_numbers t n (object k.to))) g.to; place = g.place };
}

pub less_trans : {t u v : Tables} → Less t u → Less u v → Less t v
less_trans l m = record {
  was_at = λ x e q. l.was_at x e (m.was_at x e q);
  objects_stay = λ o. m.objects_stay o ∙ l.objects_stay o;
  hands = λ s p k q. l.hands s p k (m.hands s p k q);
  talks = λ s p x k q z. l.talks s p x k (m.hands s p k q) (m.talks s p x k q z);
  kin_was = λ a b h n. l.kin_was a b (m.kin_was a b h n) n;
  teamed = λ g. m.teamed (l.teamed g);
  ends = λ s p k q f. m.ends s p k q (l.ends s p k (m.hands s p k q) f);
}

pub less_wf : {t u : Tables} → Less t u → Wf t → Wf u
less_wf l w = record { ends = λ s p k q. l.ends s p k q (w.ends s p k (l.hands s p k q)); ranged = λ x e q. w.ranged x e (l.was_at x e q); teams = l.teamed w.teams }

pub less_pot : {t u : Tables} (φ : Thing → Label) → Less t u → Pot t φ → Pot u φ
less_pot {t} {u} φ l i = record {
  low = λ x. low' x (u.at x) (l.was_at x);
  cap = λ x e q. i.cap x e (l.was_at x e q);
  falls = λ s p x k z q. i.falls s p x k (l.talks s p x k q z) (l.hands s p k q);
  shares = λ a b h. elim (test (eqb a b)) [
    | inl e ↦ subst (λ (z : ℕ). φ (subject z) ⊑ φ (subject a)) (eqb→eq a b e) ⊑_refl
    | inr n ↦ i.shares a b (l.kin_was a b h n)
  ];
}
  where
    low' : (x : Thing) (o : Option Entry) → ((e : Entry) → o ≡ some e → t.at x ≡ some e) → demand x o ⊑ φ x
    low' x none f = bot_least
    low' x (some e) f = subst (λ (o : Option Entry). demand x o ⊑ φ x) (f e refl) (i.low x)

pub less_labelled : (P : Label → Type 0) {t u : Tables} → Less t u → Labelled P t → Labelled P u
less_labelled P l v = record { within = λ x e q. v.within x e (l.was_at x e q) }

-- ── subjects end ──
pub less_quits : (t : Tables) (g : Thing → Bool) → ((o : ℕ) → T (not (g (object o)))) → Less t (apply (quits g) t)
unfolding used
less_quits t g n = record {
  was_at = λ x e q. kept (g x) (t.at x) e q;
  objects_stay = λ o. cond_no (g (object o)) none (t.at (object o)) (n o);
  hands = λ s p k q. (holds (g (subject s)) (t.hand s p) k q).1;
  talks = λ s p x k q z. sym (speaks_hand t (vacated g t.hand) s) ∙ sym (speaks_at (with_hand t (vacated g t.hand)) a s)
      ∙ sym (speaks_kin (without g (with_hand t (vacated g t.hand))) (parted g t.kin) s) ∙ z;
  kin_was = λ a b h m. elim (parted_cases g t.kin a b h) [
    | inl q ↦ absurd (T_not (eqb a b) m (subst (λ (z : ℕ). T (eqb a z)) q (eqb_refl a)))
    | inr r ↦ r.2
  ];
  teamed = λ m. quits_teams t g m (λ b h. live_at t a (subject b) (stays (subject b) h));
  ends = λ s p k q f. record {
    from = live_at t a (subject s) (stays (subject s) (holds (g (subject s)) (t.hand s p) k q).0) f.from;
    to = live_at t a (object k.to) (stays (object k.to) (n k.to)) f.to;
    place = f.place;
  };
}
  where
    a : Thing → Option Entry
    a x = cond (g x) none (t.at x)

    kept : (b : Bool) (o : Option Entry) (e : Entry) → cond b none o ≡ some e → o ≡ some e
    kept true o e q = absurd (none-ne-some e q)
    kept false o e q = q

    holds : (b : Bool) (o : Option Handle) (k : Handle) → cond b none o ≡ some k → T (not b) × (o ≡ some k)
    holds true o k q = absurd (none-ne-some k q)
    holds false o k q = (tt, q)

    stays : (x : Thing) → T (not (g x)) → T (is_some (t.at x)) → T (is_some (a x))
    stays x h s = subst (λ (o : Option Entry). T (is_some o)) (sym (cond_no (g x) none (t.at x) h)) s

-- ── fewer things, same handles: leave, and the end of a pipe ──
-- what is left was there
left : (gone : Bool) (o : Option Entry) (e : Entry) → cond gone none o ≡ some e → o ≡ some e
left true o e q = absurd (none-ne-some e q)
left false o e q = q

-- no handle joins a thing that goes
pub wf_without : (gone : Thing → Bool) (t : Tables) → Wf t →
    ((s p : ℕ) (k : Handle) → t.hand s p ≡ some k → T (not (gone (subject s))) × T (not (gone (object k.to))))
    → ((s : ℕ) → T (not (gone (subject s)))) → Wf (without gone t)
wf_without gone t w n m = record {
  ends = λ s p k q. (let f = w.ends s p k q in record {
    from = live_at t a (subject s) (stays (gone (subject s)) (t.at (subject s)) (n s p k q).0) f.from;
    to = live_at t a (object k.to) (stays (gone (object k.to)) (t.at (object k.to)) (n s p k q).1) f.to;
    place = f.place;
  });
  ranged = λ x e q. w.ranged x e (left (gone x) (t.at x) e q);
  teams = teams_same refl (λ s. live_at t a (subject s) (stays (gone (subject s)) (t.at (subject s)) (m s))) w.teams;
}
  where
    a : Thing → Option Entry
    a x = cond (gone x) none (t.at x)

    stays : (b : Bool) (o : Option Entry) → T (not b) → T (is_some o) → T (is_some (cond b none o))
    stays true o u l = absurd u
    stays false o u l = l

pub pot_without : (gone : Thing → Bool) (t : Tables) (φ : Thing → Label) → Pot t φ → Pot (without gone t) φ
pot_without gone t φ i = record {
  low = λ y. low' (gone y) y;
  cap = λ y d q. cap' (gone y) y d q;
  falls = λ s p x k z q. i.falls s p x k
      (sym (speaks_at t (λ x. cond (gone x) none (t.at x)) s) ∙ z) q;
  shares = i.shares;
}
  where
    low' : (b : Bool) (y : Thing) → demand y (cond b none (t.at y)) ⊑ φ y
    low' true y = bot_least
    low' false y = i.low y

    cap' : (b : Bool) (y : Thing) (d : Entry) → cond b none (t.at y) ≡ some d → φ y ⊑ d.label
    cap' true y d q = absurd (none-ne-some d q)
    cap' false y d q = i.cap y d q

pub labelled_without : (P : Label → Type 0) (gone : Thing → Bool) (t : Tables) → Labelled P t → Labelled P (without gone t)
labelled_without P gone t v = record { within = λ x e q. v.within x e (left (gone x) (t.at x) e q) }

pub wf_reap : (before : List Handle) (t : Tables) → Wf t → Wf (reap before t)
wf_reap before t w = wf_without (λ x. ended before (handles t) x (t.at x)) t w (λ s p k q. (
  ended_subject before (handles t) s (t.at (subject s)),
  ended_open before (handles t) k.to (t.at (object k.to)) (let f = w.ends s p k q in open_here t s p k (row_below f) f.place q),
)) (λ s. ended_subject before (handles t) s (t.at (subject s)))

pub pot_reap : (before : List Handle) (t : Tables) (φ : Thing → Label) → Pot t φ → Pot (reap before t) φ
pot_reap before t φ i = pot_without (λ x. ended before (handles t) x (t.at x)) t φ i

-- ── data moves: mix ──
pub wf_mix : (t : Tables) (m : Access) (a b y x : Thing) → Wf t → Wf (apply (mix m a b y x) t)
wf_mix t m a b y x w = record {
  ends = λ s p k q. (let f = w.ends s p k q in record {
    from = live_at t c (subject s) (more (subject s)) f.from;
    to = live_at t c
        (object k.to) (more (object k.to)) f.to;
    place = f.place;
  });
  ranged = λ z e q. elim (sink_cases t y (t.at x) z (some e) q) [
    | inl d ↦ (let r = some_of (t.at z) (some_fall z (t.at z) (t.at x) (some_is d.1)) in w.ranged z r.0 r.1)
    | inr d ↦ w.ranged z e d.1
  ];
  teams = teams_same refl (λ s. live_at t c (subject s) (more (subject s))) w.teams;
}
  where
    c : Thing → Option Entry
    c = sink t y (t.at x)

    more : (z : Thing) → T (is_some (t.at z)) → T (is_some (c z))
    more z h = sink_by (λ v o. T (is_some o)) t y (t.at x) z h (λ b. fall_some z (t.at z) (t.at x) h)

-- where two labels are P, what falls from the one to the other is
pub labelled_mix : (P : Label → Type 0) → ((a b : Label) → P a → P b → P (meet a b)) → (t : Tables) (m : Access) (a b y x : Thing) → Labelled P t → Labelled P (apply (mix m a b y x) t)
labelled_mix P f t m a b y x v = record {
  within = λ z e q. elim (sink_cases t y (t.at x) z (some e) q) [
    | inl c ↦ fall_is P f z (t.at z) (t.at x) e (v.within z) (v.within x) c.1
    | inr c ↦ v.within z e c.1
  ];
}

-- the condition of every move of data: the source has an entry, and the receiver's potential is at most its label
pub record Feeds (t : Tables) (φ : Thing → Label) (y x : Thing) : Type 0 where
  pub source : Entry
  pub source_is : t.at x ≡ some source
  pub under : φ y ⊑ source.label

pub pot_mix : (t : Tables) (φ : Thing → Label) (m : Access) (a b y x : Thing) → Pot t φ → Feeds t φ y x → Pot (apply (mix m a b y x) t) φ
pot_mix t φ m a b y x i v = record {
  low = λ z. sink_by (λ w o. demand w o ⊑ φ w) t y (t.at x) z (i.low z)
      (λ b. subst (λ (l : Label). l ⊑ φ z) (sym (fall_demand z (t.at z) (t.at x))) (i.low z));
  cap = cap';
  falls = λ s p z k u q. i.falls s p z k
      (sym (speaks_at t (sink t y (t.at x)) s) ∙ u) q;
  shares = i.shares;
}
  where
    cap' : (z : Thing) (r : Entry) → sink t y (t.at x) z ≡ some r → φ z ⊑ r.label
    cap' z r f = elim (sink_cases t y (t.at x) z (some r) f) [
      | inl c ↦ (let g = fell z (t.at z) (t.at x) v.source r v.source_is c.1 in
          g.over (φ z) (i.cap z g.was g.was_is) (⊑_trans (pot_whole i y z c.0) v.under))
      | inr c ↦ i.cap z r c.1
    ]

-- along a flow data may move
pub flow_feeds : (t : Tables) (φ : Thing → Label) → Wf t → Pot t φ → (s p : ℕ) (x : Thing) (k : Handle) → speaks t s ≡ some x
    → t.hand s p ≡ some k → Feeds t φ (flow x k).dst (flow x k).src
flow_feeds t φ w i s p x k z q = go k.dir (i.falls s p x k z q)
  where
    f : Ends t s p k
    f = w.ends s p k q

    go : (d : Dir) → φ (arc d x (object k.to)).dst ⊑ φ (arc d x (object k.to)).src → Feeds t φ (arc d x (object k.to)).dst
        (arc d x (object k.to)).src
    go reading h = let r = object_entry t k.to f.to in record {
      source = r.0;
      source_is = r.1;
      under = ⊑_trans h
          (i.cap (object k.to) r.0 r.1);
    }
    go writing h = let r = speaker_entry f z in record { source = r.0; source_is = r.1; under = ⊑_trans h (i.cap x r.0 r.1) }

-- ── the first joins the second's group ──
pub stand_in_cases : (c s a : ℕ) → ((c ≡ a) × (stand_in c s a ≡ s)) ⊎ (T (not (eqb c a)) × (stand_in c s a ≡ a))
stand_in_cases c s a = elim (test (eqb c a)) [ inl e ↦ inl (eqb→eq c a e, cond_yes (eqb c a) s a e) | inr n ↦ inr (n, cond_no (eqb c a) s a n) ]

pub binds_teams : (t : Tables) (c s : ℕ) → T (live t (subject c)) → T (live t (subject s)) → Teams t → Teams (apply (binds c s) t)
binds_teams t c s lc ls m = record {
  itself = λ a. m.itself (stand_in c s a);
  both_ways = λ a b h. m.both_ways (stand_in c s a) (stand_in c s b) h;
  shared = λ a b d h i. m.shared (stand_in c s a) (stand_in c s b) (stand_in c s d) h i;
  only = λ a b h n. live_kin t (bound c s t.kin) (subject a) (lives a b h n);
}
  where
    lives : (a b : ℕ) → T (t.kin (stand_in c s a) (stand_in c s b)) → T (not (eqb a b)) → T (live t (subject a))
    lives a b h n = elim (stand_in_cases c s a) [
      | inl q ↦ subst (λ (z : ℕ). T (live t (subject z))) q.0 lc
      | inr q ↦ elim (test (eqb a (stand_in c s b))) [
        | inr u ↦ m.only a (stand_in c s b) (subst (λ (z : ℕ). T (t.kin z (stand_in c s b))) q.1 h) u
        | inl e ↦ elim (stand_in_cases c s b) [
          | inl p ↦ subst (λ (z : ℕ). T (live t (subject z))) (sym (eqb→eq a (stand_in c s b) e ∙ p.1)) ls
          | inr p ↦ absurd (T_not (eqb a b) n (subst (λ (z : ℕ). T (eqb a z)) p.1 e))
        ]
      ]
    ]

pub wf_binds : (t : Tables) (c s : ℕ) → T (live t (subject c)) → T (live t (subject s)) → Wf t → Wf (apply (binds c s) t)
wf_binds t c s lc ls w = record {
  ends = λ z p k q. let f = w.ends z p k q in record {
    from = live_kin t (bound c s t.kin) (subject z) f.from;
    to = live_kin t (bound c s t.kin) (object k.to) f.to;
    place = f.place;
  };
  ranged = w.ranged;
  teams = binds_teams t c s lc ls w.teams;
}

pub pot_binds : (t : Tables) (φ : Thing → Label) (c s : ℕ) → Pot t φ → φ (subject c) ≡ φ (subject s) → Pot (apply (binds c s) t) φ
pot_binds t φ c s i q = record {
  low = i.low;
  cap = i.cap;
  falls = λ z p x k u h. i.falls z p x k (sym (speaks_kin t (bound c s t.kin) z) ∙ u) h;
  shares = λ a b h. subst₂ (λ (x y : Label). x ⊑ y) (alike b) (alike a) (i.shares (stand_in c s a) (stand_in c s b) h);
}
  where
    alike : (a : ℕ) → φ (subject (stand_in c s a)) ≡ φ (subject a)
    alike a = elim (stand_in_cases c s a) [
      | inl r ↦ ap (λ (z : ℕ). φ (subject z)) r.1 ∙ sym q ∙ ap (λ (z : ℕ). φ (subject z)) r.0
      | inr r ↦ ap (λ (z : ℕ). φ (subject z)) r.1
    ]
