-- What the steps and the calls do to the needs of all things (RULES F7, C1 to C18), so that needs that are kept can be brought up to date. Assumes nothing.
--
-- In order: a call's needs are those after its steps, for a pipe that ends changes none (`effect_needs`); steps that change none; a handle that comes
-- or goes is a flow that does (`Adds`), for which `Flow.Changes` has the laws; and what is known outright: a new thing, a pipe, a fork, a mark, a retired
-- file, a subject that leads to no file and exits. Where none of this speaks, needs are worked out anew.
use Rattle.std.specs.Prelude.{◌≡◌, refl, Bool, true, false, not, ◌&&◌, cond, ◌⊎◌, List, [], ◌∷◌, ◌++◌, ℕ, ◌<◌, eqb}
use Rattle.std.proofs.Common.{sym, ◌∙◌, ap, ap₂, subst, subst₂, arith, T_not, eqb→eq, ltb→lt}
use Rattle.std.proofs.Math.Path.{fun_ext}
use Rattle.std.proofs.Math.Logic.{inl, inr}
use Rattle.std.proofs.Math.Option.{Option, none, some, none-ne-some, some-injective}
use Rattle.std.proofs.Math.Dec.{T, not_T, eqb_refl}
use Rattle.model.specs.Bools.{test, both, cond_yes, cond_no}
use Rattle.model.specs.Lists.{In, each}
use Rattle.model.specs.Lists.Laws.{in_each, each_in}
use Rattle.model.specs.Label.{Label, ◌⊑◌, bot}
use Rattle.model.proofs.Label.Laws.{⊑-antisym, ⊑_refl, ⊑_trans, bot_least}
use Rattle.model.specs.Flow.{Thing, subject, object, same, Edge, Reaches, need, joins}
use Rattle.model.proofs.Flow.Laws.{same→eq, same_refl, need_flow, joins_upper, joins_least}
use Rattle.model.proofs.Flow.Changes.{Sub, Adds, Fresh, but, need_alone, need_agree, need_others, need_pipe, remove_thing, remove_thing_far, add_quiet, adds_same, need_more, but_here, need_fresh}
use Rattle.model.specs.Tables.{Kind, running, file, pipe, Dir, reading, writing, Entry, entry, Handle, handle, mapping, with_mark, Tables, with_at, subjects, places, label_of, is_pipe, cell, handles, open_on, arc, flow, speaks, flows_of, edges, demand, needs, with_numbers, live, mates, share, shares_of}
use Rattle.model.proofs.Tables.Laws.{open_here, speaks_at, speaks_cell, cell_self, object_entry, flow_edge, edge_flow, edges_numbers, live_of, step_entry, share_edge, Shares}
use Rattle.model.specs.Steps.{Origin, Access, reads, writes, runs, enter, leave, hold, holds, mix, put, place, sink, apply, applies, ended, reap, quits, binds, stand_in}
use Rattle.model.proofs.Steps.Laws.{put_same, sink_by, row_cases, place_cases, place_same, fall_demand}
use Rattle.model.specs.Invariant.{Wf}
use Rattle.model.proofs.Invariant.Laws.{row_below, Less, less_close, less_quits, mates_kin, mates_live, parted_cases, parted_stays, stand_in_cases}
use Rattle.model.specs.Calls.{Call, make_pipe, opens, maps, access, fork, thread, exec, exit, retire, mark, freeze, target, marking, sheds, steps, effect}
use Rattle.model.proofs.Calls.Moving.{rereads_keep}

-- ── entries change, demands do not ──
pub edges_at : (t : Tables) (a : Thing → Option Entry) → edges (with_at t a) ≡ edges t
unfolding edges
edges_at t a = ap (λ (w : ℕ → Option Thing). each subjects (λ s. each places (λ p. flows_of (w s) (t.hand s p))) ++ each subjects (shares_of t)) (fun_ext (speaks_at t a))

-- what changes entries and no demand changes no need
pub needs_at : (t : Tables) (a : Thing → Option Entry) → ((y : Thing) → demand y (a y) ≡ demand y (t.at y)) → (x : Thing) → needs (with_at t a) x ≡ needs t x
needs_at t a q x = ap (λ (es : List Edge). need (λ y. demand y (a y)) es x) (edges_at t a)
    ∙ need_agree (λ y. demand y (a y)) (edges t) (λ y. demand y (t.at y)) x (λ y r. q y)

put_demand : (a : Thing → Option Entry) (x : Thing) (v : Option Entry) → demand x v ≡ demand x (a x) → (y : Thing) → demand y (put a x v y) ≡ demand y (a y)
put_demand a x v q y = go (same x y) (same→eq x y)
  where
    go : (b : Bool) → (T b → x ≡ y) → demand y (cond b v (a y)) ≡ demand y (a y)
    go true e = subst (λ (z : Thing). demand z v ≡ demand z (a z)) (e tt) q
    go false e = refl

pub subject_demand : (n : ℕ) (o : Option Entry) → demand (subject n) o ≡ bot
subject_demand n none = refl
subject_demand n (some e) = refl

-- ── a pipe that ends ──
pub needs_reap : (before : List Handle) (t : Tables) (x : Thing) → needs (reap before t) x ≡ needs t x
unfolding ended
needs_reap before t = needs_at t (λ x. cond (ended before (handles t) x (t.at x)) none (t.at x)) (λ y. gone y (t.at y))
  where
    by_kind : (n : ℕ) (k : Kind) (l : Label) (b : Bool)
        → demand (object n) (cond (elim (is_pipe (object n) (some (entry k l))) as (λ _. Bool) [ true ↦ b | false ↦ false ]) none (some (entry k l))) ≡ demand
        (object n) (some (entry k l))
    by_kind n running l b = refl
    by_kind n file l b = refl
    by_kind n pipe l true = refl
    by_kind n pipe l false = refl

    gone : (y : Thing) (o : Option Entry) → demand y (cond (ended before (handles t) y o) none o) ≡ demand y o
    gone (subject n) o = refl
    gone (object n) none = refl
    gone (object n) (some e) = by_kind n e.kind e.label _

pub needs_numbers : (t : Tables) (n : List ℕ) (x : Thing) → needs (with_numbers t n) x ≡ needs t x
needs_numbers t n x = ap (λ (es : List Edge). need (λ y. demand y (t.at y)) es x) (edges_numbers t n)

relisted_needs : (t : Tables) (c : Call) (x : Thing) → needs (effect t c) x ≡ needs (reap (handles t) (applies (steps t c) t)) x
unfolding effect
relisted_needs t c x = needs_numbers (reap (handles t) (applies (steps t c) t)) _ x

-- RULES C102: the needs after a call are those after its steps
pub effect_needs : (t : Tables) (c : Call) (x : Thing) → needs (effect t c) x ≡ needs (applies (steps t c) t) x
unfolding effect
effect_needs t c x = relisted_needs t c x ∙ needs_reap (handles t) (applies (steps t c) t) x

-- ── steps that change no need ──
-- data moves and labels fall
pub mix_needs : (t : Tables) (m : Access) (a b y x : Thing) (z : Thing) → needs (apply (mix m a b y x) t) z ≡ needs t z
mix_needs t m a b y x = needs_at t (sink t y (t.at x)) (λ z. sink_by (λ w o. demand w o ≡ demand w (t.at w)) t y (t.at x) z refl (λ b. fall_demand z (t.at z) (t.at x)))

-- a subject has another entry
pub subject_needs : (t : Tables) (s : ℕ) (v : Option Entry) (x : Thing) → needs (with_at t (put t.at (subject s) v)) x ≡ needs t x
subject_needs t s v = needs_at t (put t.at (subject s) v) demands
  where
    none_asked : (n : ℕ) (a b : Option Entry) → demand (subject n) a ≡ demand (subject n) b
    none_asked n none none = refl
    none_asked n none (some b) = refl
    none_asked n (some a) none = refl
    none_asked n (some a) (some b) = refl

    demands : (y : Thing) → demand y (put t.at (subject s) v y) ≡ demand y (t.at y)
    demands (subject n) = none_asked n (put t.at (subject s) v (subject n)) (t.at (subject n))
    demands (object n) = refl

-- a read or a write, with the reads of mappers behind it
pub access_needs : (t : Tables) (d : Dir) (s p : ℕ) (z : Thing) → needs (effect t (access d s p)) z ≡ needs t z
access_needs t d s p z = effect_needs t (access d s p) z ∙ went d z
  where
    x : Thing
    x = target (t.hand s p)

    went : (e : Dir) (y : Thing) → needs (applies (steps t (access e s p)) t) y ≡ needs t y
    went reading y = mix_needs t reads (subject s) x (cell t s) x y
    went writing y = rereads_keep (λ u. (w : Thing) → needs u w ≡ needs t w) t x (λ m h u q w. mix_needs u reads (subject m) x (cell t m) x w ∙ q w)
        (apply (mix writes x (subject s) x (cell t s)) t) (λ w. mix_needs t writes x (subject s) x (cell t s) w) y

-- the freeze
pub freeze_needs : (t : Tables) (n : ℕ) (x : Thing) → needs (effect t (freeze n)) x ≡ needs t x
unfolding edges speaks
freeze_needs t n x = effect_needs t (freeze n) x

-- a map's needs are those with its handle, an exec's those without what it drops
pub maps_needs : (t : Tables) (s o p : ℕ) (x : Thing) → needs (effect t (maps s o p)) x ≡ needs (apply (hold s p (some (mapping o))) t) x
maps_needs t s o p x = effect_needs t (maps s o p) x ∙ mix_needs (apply (hold s p (some (mapping o))) t) reads (subject s) (object o) (cell t s) (object o) x

pub exec_needs : (t : Tables) (s o : ℕ) (x : Thing) → needs (effect t (exec s o)) x ≡ needs (applies (sheds t s) t) x
unfolding sheds
exec_needs t s o x = effect_needs t (exec s o) x ∙ mix_needs (applies (sheds t s) t) runs (subject s) (object o) (cell t s) (object o) x

-- ── flows by handles ──
speaks_self : (t : Tables) (s : ℕ) → speaks t s ≡ some (subject s)
speaks_self t s = speaks_cell t s ∙ ap {B = Option Thing} some (cell_self t s)

-- nobody else is in the group of s
pub record Alone (t : Tables) (s : ℕ) : Type 0 where
  pub no_mate : (m : ℕ) → T (mates t s (subject m)) → ⊥

-- the members of a group have one need
pub kin_needs : {t : Tables} → Wf t → (a b : ℕ) → T (t.kin a b) → needs t (subject b) ⊑ needs t (subject a)
kin_needs {t} w a b h = elim (test (eqb a b)) [
  | inl e ↦ subst (λ (z : ℕ). needs t (subject z) ⊑ needs t (subject a)) (eqb→eq a b e) ⊑_refl
  | inr n ↦ (let l = mates_live w.teams a b h n in need_flow (edges t) (λ y. demand y (t.at y)) (share a b)
      (share_edge t a b (low a l.0) (low b l.1) (both (not (eqb a b)) (t.kin a b) n h)))
]
  where
    low : (c : ℕ) → T (live t (subject c)) → c < subjects
    low c g = ltb→lt c subjects (live_of t (subject c) g).0

-- u has the handles of t, and k in a place of s
pub record Opened (t u : Tables) (s : ℕ) (k : Handle) : Type 0 where
  pub groups : t.kin ≡ u.kin
  pub at_place : ℕ
  pub held : u.hand s at_place ≡ some k
  pub more : (s' p : ℕ) (j : Handle) → t.hand s' p ≡ some j → u.hand s' p ≡ some j
  pub only : (s' p : ℕ) (j : Handle) → u.hand s' p ≡ some j → (t.hand s' p ≡ some j) ⊎ ((s ≡ s') × (k ≡ j))

-- handles stand in range
pub record Ranged (t : Tables) : Type 0 where
  pub bounds : (s p : ℕ) (k : Handle) → t.hand s p ≡ some k → (s < subjects) × (p < places)

pub wf_ranged : {t : Tables} → Wf t → Ranged t
wf_ranged w = record { bounds = λ s p k q. let f = w.ends s p k q in (row_below f, f.place) }

hold_ranged : (t : Tables) (s p : ℕ) (v : Option Handle) → s < subjects → p < places → Ranged t → Ranged (apply (hold s p v) t)
hold_ranged t s p v ls lp w = record {
  bounds = λ s' p' k q. elim (place_cases t.hand s p v s' p' (some k) q)
      [ inl c ↦ (subst (λ (z : ℕ). z < subjects) c.0 ls, subst (λ (z : ℕ). z < places) c.1 lp) | inr c ↦ w.bounds s' p' k c ];
}

-- a handle, in range by the tables u, makes a flow
pub edge_in : {u : Tables} (t : Tables) {s p : ℕ} {k : Handle} → Ranged u → u.hand s p ≡ some k → t.hand s p ≡ some k → In (flow (subject s) k) (edges t)
edge_in {u} t {s} {p} {k} w q h = let b = w.bounds s p k q in flow_edge t s p (subject s) k b.0 b.1 (speaks_self t s) h

-- a flow comes of a handle
pub record Held (t : Tables) (e : Edge) : Type 0 where
  pub s : ℕ
  pub p : ℕ
  pub k : Handle
  pub holds : t.hand s p ≡ some k
  pub is : flow (subject s) k ≡ e

-- or is one between members of a group
pub in_edge : (t : Tables) (e : Edge) → In e (edges t) → Held t e ⊎ Shares t e
in_edge t e i = elim (edge_flow t e i) [
  | inl r ↦ inl (record {
    s = r.s;
    p = r.p;
    k = r.k;
    holds = r.holds;
    is = ap (λ (x : Thing). flow x r.k)
        (some-injective _ _ (sym (speaks_self t r.s) ∙ r.speaker)) ∙ r.is;
  })
  | inr r ↦ inr r
]

-- the groups are those of t
pub share_in : {t : Tables} (u : Tables) {e : Edge} → t.kin ≡ u.kin → Shares t e → In e (edges u)
share_in u q r = subst (λ (z : Edge). In z (edges u)) r.is
    (share_edge u r.a r.b r.low_a r.low_b (subst (λ (k : ℕ → ℕ → Bool). T (not (eqb r.a r.b) && k r.a r.b)) q r.linked))

-- a handle more is a flow more, wherever its place
pub opened_adds : {t u : Tables} {s : ℕ} {k : Handle} → Ranged u → Opened t u s k → Adds (flow (subject s) k) (edges t) (edges u)
opened_adds {t} {u} {s} {k} w o = record {
  more = record {
    all = λ e i. elim (in_edge t e i) [
      | inl r ↦ (let h = o.more r.s r.p r.k r.holds in subst (λ (z : Edge). In z (edges u)) r.is (edge_in u w h h))
      | inr r ↦ share_in u o.groups r
    ];
  };
  new = edge_in u w o.held o.held;
  only = λ d i. elim (in_edge u d i) [
    | inl r ↦ elim (o.only r.s r.p r.k r.holds) [
      | inl h ↦ inl (subst (λ (z : Edge). In z (edges t)) r.is (edge_in t w r.holds h))
      | inr c ↦ inr (ap₂ (λ a b. flow (subject a) b) c.0 c.1 ∙ r.is)
    ]
    | inr r ↦ inl (share_in t (sym o.groups) r)
  ];
}

-- ── a handle comes or goes ──
hold_opened : (t : Tables) (s p : ℕ) (k : Handle) → t.hand s p ≡ none → Opened t (apply (hold s p (some k)) t) s k
hold_opened t s p k n = record {
  groups = refl;
  at_place = p;
  held = place_same t.hand s p (some k);
  more = λ s' p' j q. elim (place_cases t.hand s p (some k) s' p' (place t.hand s p (some k) s' p') refl)
      [ inl c ↦ absurd (none-ne-some j (sym n ∙ ap₂ t.hand c.0 c.1 ∙ q)) | inr c ↦ sym c ∙ q ];
  only = λ s' p' j q. elim (place_cases t.hand s p (some k) s' p' (some j) q) [ inl c ↦ inr (c.0, some-injective k j c.2) | inr c ↦ inl c ];
}

-- an open, a map: one flow comes
pub hold_adds : (t : Tables) (s p : ℕ) (k : Handle) → Wf t → s < subjects → p < places → t.hand s p ≡ none
    → Adds (flow (subject s) k) (edges t) (edges (apply (hold s p (some k)) t))
hold_adds t s p k w ls lp n = opened_adds (hold_ranged t s p (some k) ls lp (wf_ranged w)) (hold_opened t s p k n)

-- a close: one flow goes
pub close_adds : (t : Tables) (s p : ℕ) (k : Handle) → Wf t → t.hand s p ≡ some k → Adds (flow (subject s) k) (edges (apply (hold s p none) t)) (edges t)
close_adds t s p k w q = opened_adds (wf_ranged w) (record {
  groups = refl;
  at_place = p;
  held = q;
  more = (less_close t s p).hands;
  only = λ s' p' j h. elim (place_cases t.hand s p none s' p' (place t.hand s p none s' p') refl)
      [ inl c ↦ inr (c.0, some-injective k j (sym q ∙ ap₂ t.hand c.0 c.1 ∙ h)) | inr c ↦ inl (sym c ∙ h) ];
})

-- an open that falls by the needs of before changes none
pub open_quiet : (t : Tables) (d : Dir) (s o p : ℕ) → Wf t → s < subjects → p < places → t.hand s p ≡ none
    → needs t (arc d (subject s) (object o)).dst ⊑ needs t (arc d (subject s) (object o)).src → (x : Thing) → needs (effect t (opens d s o p)) x ≡ needs t x
open_quiet t d s o p w ls lp n h x = effect_needs t (opens d s o p) x ∙ add_quiet (λ y. demand y (t.at y)) (hold_adds t s p (handle d o) w ls lp n) h x

-- a map too: it reads
pub map_quiet : (t : Tables) (s o p : ℕ) → Wf t → s < subjects → p < places → t.hand s p ≡ none → needs t (subject s) ⊑ needs t (object o) → (x : Thing)
    → needs (effect t (maps s o p)) x ≡ needs t x
map_quiet t s o p w ls lp n h x = maps_needs t s o p x ∙ add_quiet (λ y. demand y (t.at y)) (hold_adds t s p (mapping o) w ls lp n) h x

-- a map's handle makes the flow of the open for reading
pub mapping_needs : (t : Tables) (s o p : ℕ) → Wf t → s < subjects → p < places → t.hand s p ≡ none → (x : Thing)
    → needs (apply (hold s p (some (mapping o))) t) x ≡ needs (apply (hold s p (some (handle reading o))) t) x
mapping_needs t s o p w ls lp n = adds_same (λ y. demand y (t.at y)) (hold_adds t s p (mapping o) w ls lp n) (hold_adds t s p (handle reading o) w ls lp n)

pub maps_open_needs : (t : Tables) (s o p : ℕ) → Wf t → s < subjects → p < places → t.hand s p ≡ none → (x : Thing)
    → needs (effect t (maps s o p)) x ≡ needs (apply (hold s p (some (handle reading o))) t) x
maps_open_needs t s o p w ls lp n x = maps_needs t s o p x ∙ mapping_needs t s o p w ls lp n x

-- ── a mark ──
marked_flow : (x : Thing) (o : Option Handle) (k : Handle) → marking o ≡ some k → (j : Handle) × (o ≡ some j) × (flow x j ≡ flow x k)
marked_flow x none k q = absurd (none-ne-some k q)
marked_flow x (some j) k q = (j, refl, ap (flow x) (some-injective (with_mark j) k q))

-- a mark changes no flow
pub mark_needs : (t : Tables) (s p : ℕ) → Wf t → (x : Thing) → needs (effect t (mark s p)) x ≡ needs t x
mark_needs t s p w x = effect_needs t (mark s p) x ∙ ⊑-antisym (need_more f (record { all = back }) x) (need_more f (record { all = forth }) x)
  where
    f : Thing → Label
    f y = demand y (t.at y)

    u : Tables
    u = apply (hold s p (marking (t.hand s p))) t

    back : (e : Edge) → In e (edges u) → In e (edges t)
    back e i = elim (in_edge u e i) [
      | inr r ↦ share_in t refl r
      | inl r ↦ elim (place_cases t.hand s p (marking (t.hand s p)) r.s r.p (some r.k) r.holds) [
        | inl c ↦ (let m = marked_flow (subject s) (t.hand s p) r.k c.2 in
            subst (λ (z : Edge). In z (edges t)) (m.2 ∙ ap (λ (y : ℕ). flow (subject y) r.k) c.0 ∙ r.is) (edge_in t (wf_ranged w) m.1 m.1))
        | inr c ↦ subst (λ (z : Edge). In z (edges t)) r.is (edge_in t (wf_ranged w) c c)
      ]
    ]

    forth : (e : Edge) → In e (edges t) → In e (edges u)
    forth e i = elim (in_edge t e i) [
      | inr r ↦ share_in u refl r
      | inl r ↦ (let b = (wf_ranged w).bounds r.s r.p r.k r.holds in
          elim (place_cases t.hand s p (marking (t.hand s p)) r.s r.p (u.hand r.s r.p) refl) [
            | inl c ↦ subst (λ (z : Edge). In z (edges u)) r.is
                (flow_edge u r.s r.p (subject r.s) (with_mark r.k) b.0 b.1 (speaks_self u r.s)
                (sym c.2 ∙ ap marking (ap₂ t.hand c.0 c.1 ∙ r.holds)))
            | inr c ↦ subst (λ (z : Edge). In z (edges u)) r.is (edge_in u (wf_ranged w) r.holds (sym c ∙ r.holds))
          ])
    ]

-- ── a thing without an entry has no flow ──
arc_entries : (t : Tables) (d : Dir) (x y : Thing) → (e : Entry) × (t.at x ≡ some e) → (e : Entry) × (t.at y ≡ some e)
    → ((e : Entry) × (t.at (arc d x y).src ≡ some e)) × ((e : Entry) × (t.at (arc d x y).dst ≡ some e))
arc_entries t reading x y a b = (b, a)
arc_entries t writing x y a b = (a, b)

pub fresh_none : (t : Tables) (z : Thing) → Wf t → t.at z ≡ none → Fresh z (edges t)
fresh_none t z w n = record { leaves = λ e i q. never e.src (ends e i).0 q; enters = λ e i q. never e.dst (ends e i).1 q }
  where
    never : (y : Thing) → (e : Entry) × (t.at y ≡ some e) → y ≡ z → ⊥
    never y r q = none-ne-some r.0 (sym n ∙ ap t.at (sym q) ∙ r.1)

    ends : (e : Edge) → In e (edges t) → ((d : Entry) × (t.at e.src ≡ some d)) × ((d : Entry) × (t.at e.dst ≡ some d))
    ends e i = elim (in_edge t e i) [
      | inl r ↦ (let f = w.ends r.s r.p r.k r.holds in
          subst (λ (z : Edge). ((d : Entry) × (t.at z.src ≡ some d)) × ((d : Entry) × (t.at z.dst ≡ some d))) r.is
          (arc_entries t r.k.dir (subject r.s) (object r.k.to) (step_entry t r.s f.from) (object_entry t r.k.to f.to)))
      | inr r ↦ (let m = mates_kin t r.a r.b r.linked in let l = mates_live w.teams r.a r.b m.1 m.0 in
          subst (λ (z : Edge). ((d : Entry) × (t.at z.src ≡ some d)) × ((d : Entry) × (t.at z.dst ≡ some d))) r.is
          (step_entry t r.a l.0, step_entry t r.b l.1))
    ]

subject_object : (a b : ℕ) → subject a ≡ object b → ⊥
subject_object a b q = let z : ◌≡◌ {A = ℕ} 0 1 = cc in omega arith

-- ── pipe ──
-- the new pipe needs what its maker needs, and no other need changes
pub pipe_needs : (t : Tables) (s o r w : ℕ) → Wf t → s < subjects → r < places → w < places → t.at (object o) ≡ none → t.hand s r ≡ none → t.hand s w ≡ none
    → (r ≡ w → ⊥)
    → (x : Thing) → needs (effect t (make_pipe s o r w)) x ≡ but (needs t) (object o) (needs t (subject s)) x
unfolding effect
pipe_needs t s o r w v ls lr lw n nr nw ne x = relisted_needs t (make_pipe s o r w) x ∙ needs_reap (handles t) (with_at b a) x
    ∙ needs_at b a (put_demand t.at (object o) made (sym (ap (demand (object o)) n))) x
    ∙ need_pipe (λ y. demand y (t.at y)) (fresh_none t (object o) v n) (subject_object s o) (ap (demand (object o)) n)
    (opened_adds (hold_ranged t s r (some (handle reading o)) ls lr (wf_ranged v)) (hold_opened t s r (handle reading o) nr))
    (opened_adds (hold_ranged m s w (some (handle writing o)) ls lw (hold_ranged t s r (some (handle reading o)) ls lr (wf_ranged v)))
    (hold_opened m s w (handle writing o) still)) x
  where
    m : Tables
    m = apply (hold s r (some (handle reading o))) t

    b : Tables
    b = apply (hold s w (some (handle writing o))) m

    made : Option Entry
    made = some (entry pipe (label_of (t.at (cell t s))))

    a : Thing → Option Entry
    a = put t.at (object o) made

    still : m.hand s w ≡ none
    still = elim (place_cases t.hand s r (some (handle reading o)) s w (m.hand s w) refl) [ inl c ↦ absurd (ne c.1) | inr c ↦ sym c ∙ nw ]

-- ── fork ──
-- what s needs by its own handles: the largest need of what it writes
abbrev pub written_at : Option Handle → List Thing
written_at none = []
written_at (some k) = elim k.dir [ reading ↦ [] | writing ↦ object k.to ∷ [] ]

abbrev pub own_need : Tables → ℕ → Label
own_need t s = joins (needs t) (each places (λ p. written_at (t.hand s p)))

-- the child needs what the parent needs by its own handles, and no other need changes
pub fork_needs : (t : Tables) (s c : ℕ) → Wf t → c < subjects → t.at (subject c) ≡ none → (x : Thing)
    → needs (effect t (fork s c)) x ≡ but (needs t) (subject c) (own_need t s) x
unfolding effect
fork_needs t s c w lc n x = relisted_needs t (fork s c) x ∙ needs_reap (handles t) (with_at u (put t.at (subject c) child)) x
    ∙ needs_at u (put t.at (subject c) child) (put_demand t.at (subject c) child (sym (subject_demand c (t.at (subject c))))) x
    ∙ need_fresh f (record { all = more }) v (fresh_none t (subject c) w n) (subst (λ (b : Label). b ⊑ v) (sym (subject_demand c (t.at (subject c)))) bot_least)
    (joins_least (needs t) written (need f (edges u) (subject c)) (λ o i. let r = each_in places (λ p. written_at (t.hand s p)) o i in
    leads r.0 r.1 (t.hand s r.0) refl o r.2)) only x
  where
    u : Tables
    u = apply (holds c (t.hand s)) t

    f : Thing → Label
    f y = demand y (t.at y)

    child : Option Entry
    child = some (entry running (label_of (t.at (cell t s))))

    written : List Thing
    written = each places (λ p. written_at (t.hand s p))

    v : Label
    v = own_need t s

    φ : Thing → Label
    φ = but (needs t) (subject c) v

    row_same : (p : ℕ) → u.hand c p ≡ t.hand s p
    row_same p = cond_yes (eqb c c) (t.hand s p) (t.hand c p) (eqb_refl c)

    empty_row : (p : ℕ) (k : Handle) → t.hand c p ≡ some k → ⊥
    empty_row p k q = let r = step_entry t c (w.ends c p k q).from in none-ne-some r.0 (sym n ∙ r.1)

    more : (e : Edge) → In e (edges t) → In e (edges u)
    more e i = elim (in_edge t e i) [
      | inl r ↦ subst (λ (z : Edge). In z (edges u)) r.is
          (edge_in u (wf_ranged w) r.holds (elim (row_cases t.hand c (t.hand s) r.s r.p (u.hand r.s r.p) refl) [
            | inl q ↦ absurd (empty_row r.p r.k (ap (λ (y : ℕ). t.hand y r.p) q.0 ∙ r.holds))
            | inr q ↦ sym q.1 ∙ r.holds
          ]))
      | inr r ↦ share_in u refl r
    ]

    -- what the parent writes, in its places
    at_place : (k : Handle) (d : Dir) (o : Thing) → In o (elim d as (λ _. List Thing) [ reading ↦ [] | writing ↦ object k.to ∷ [] ]) → (d ≡ writing) × (object k.to ≡ o)
    at_place k reading o i = absurd i
    at_place k writing o (inl q) = (refl, q)
    at_place k writing o (inr i) = absurd i

    leads : (p : ℕ) → p < places → (h : Option Handle) → t.hand s p ≡ h → (o : Thing) → In o (written_at h) → needs t o ⊑ need f (edges u) (subject c)
    leads p lp none q o i = absurd i
    leads p lp (some k) q o i = let r = at_place k k.dir o i in
        ⊑_trans (need_more f {es = edges t} (record { all = more }) o) (subst (λ (y : Thing). need f (edges u) y ⊑ need f (edges u) (subject c)) r.1
        (subst (λ (d : Dir). need f (edges u) (arc d (subject c) (object k.to)).dst ⊑ need f (edges u) (arc d (subject c) (object k.to)).src) r.0
        (need_flow (edges u) f (flow (subject c) k) (flow_edge u c p (subject c) k lc lp (speaks_self u c) (row_same p ∙ q)))))

    -- the parent needs as much
    under_parent : v ⊑ needs t (subject s)
    under_parent = joins_least (needs t) written (needs t (subject s)) (λ o i. let r = each_in places (λ p. written_at (t.hand s p)) o i in
        go r.0 (t.hand s r.0) refl o r.2)
      where
        go : (p : ℕ) (h : Option Handle) → t.hand s p ≡ h → (o : Thing) → In o (written_at h) → needs t o ⊑ needs t (subject s)
        go p none q o i = absurd i
        go p (some k) q o i = let r = at_place k k.dir o i in
            subst (λ (y : Thing). needs t y ⊑ needs t (subject s)) r.1
            (subst (λ (d : Dir). needs t (arc d (subject s) (object k.to)).dst ⊑ needs t (arc d (subject s) (object k.to)).src) r.0
            (need_flow (edges t) f (flow (subject s) k) (edge_in t (wf_ranged w) q q)))

    -- a flow of the child falls
    child_falls : (p : ℕ) (k : Handle) → p < places → t.hand s p ≡ some k → φ (flow (subject c) k).dst ⊑ φ (flow (subject c) k).src
    child_falls p k lp q = go k.dir refl
      where
        go : (d : Dir) → k.dir ≡ d → φ (arc d (subject c) (object k.to)).dst ⊑ φ (arc d (subject c) (object k.to)).src
        go reading e = subst (λ (b : Label). b ⊑ needs t (object k.to)) (sym (but_here (needs t) (subject c) v)) (⊑_trans under_parent
            (subst (λ (d : Dir). needs t (arc d (subject s) (object k.to)).dst ⊑ needs t (arc d (subject s) (object k.to)).src) e
            (need_flow (edges t) f (flow (subject s) k) (edge_in t (wf_ranged w) q q))))
        go writing e = subst (λ (b : Label). needs t (object k.to) ⊑ b) (sym (but_here (needs t) (subject c) v))
            (joins_upper (needs t) written (object k.to) (in_each places (λ p. written_at (t.hand s p)) (object k.to) p lp
            (subst (λ (h : Option Handle). In (object k.to) (written_at h)) (sym q)
            (subst (λ (d : Dir). In (object k.to) (elim d as (λ _. List Thing) [ reading ↦ [] | writing ↦ object k.to ∷ [] ])) (sym e) (inl refl)))))

    only : (d : Edge) → In d (edges u) → In d (edges t) ⊎ (φ d.dst ⊑ φ d.src)
    only d i = elim (in_edge u d i) [
      | inl r ↦ elim (row_cases t.hand c (t.hand s) r.s r.p (some r.k) r.holds) [
        | inl q ↦ inr (subst (λ (z : Edge). φ z.dst ⊑ φ z.src) (ap (λ (y : ℕ). flow (subject y) r.k) q.0 ∙ r.is)
            (child_falls r.p r.k ((wf_ranged w).bounds s r.p r.k q.1).1 q.1))
        | inr q ↦ inl (subst (λ (z : Edge). In z (edges t)) r.is (edge_in t (wf_ranged w) q.1 q.1))
      ]
      | inr r ↦ inl (share_in t refl r)
    ]

-- ── thread ──
-- the new member needs what the group needs, and no other need changes
pub thread_needs : (t : Tables) (s c : ℕ) → Wf t → s < subjects → c < subjects → t.at (subject c) ≡ none → (s ≡ c → ⊥) → (x : Thing)
    → needs (effect t (thread s c)) x ≡ but (needs t) (subject c) (needs t (subject s)) x
unfolding effect
thread_needs t s c w ls lc n ne x = relisted_needs t (thread s c) x ∙ needs_reap (handles t) (with_at u (put t.at (subject c) joined)) x
    ∙ needs_at u (put t.at (subject c) joined) (put_demand t.at (subject c) joined (sym (subject_demand c (t.at (subject c))))) x
    ∙ need_fresh f (record { all = more }) v (fresh_none t (subject c) w n)
    (subst (λ (b : Label). b ⊑ v) (sym (subject_demand c (t.at (subject c)))) bot_least)
    (⊑_trans (need_more f {es = edges t} (record { all = more }) (subject s)) (need_flow (edges u) f (share c s) back)) only x
  where
    u : Tables
    u = apply (binds c s) t

    f : Thing → Label
    f y = demand y (t.at y)

    joined : Option Entry
    joined = some (entry running (label_of (t.at (cell t s))))

    v : Label
    v = needs t (subject s)

    φ : Thing → Label
    φ = but (needs t) (subject c) v

    itself : stand_in c s c ≡ s
    itself = cond_yes (eqb c c) s c (eqb_refl c)

    -- whoever else it is stands for itself
    other : (a : ℕ) → (c ≡ a → ⊥) → stand_in c s a ≡ a
    other a h = cond_no (eqb c a) s a (not_T (eqb c a) (λ e. h (eqb→eq c a e)))

    unlike : (a b : ℕ) → (a ≡ b → ⊥) → T (not (eqb a b))
    unlike a b h = not_T (eqb a b) (λ e. h (eqb→eq a b e))

    back : In (share c s) (edges u)
    back = share_edge u c s lc ls (both (not (eqb c s)) (u.kin c s) (unlike c s (λ q. ne (sym q)))
        (subst₂ (λ (a b : ℕ). T (t.kin a b)) (sym itself) (sym (other s (λ q. ne (sym q)))) (w.teams.itself s)))

    more : (e : Edge) → In e (edges t) → In e (edges u)
    more e i = elim (in_edge t e i) [
      | inl r ↦ subst (λ (z : Edge). In z (edges u)) r.is (edge_in u (wf_ranged w) r.holds r.holds)
      | inr r ↦ (let m = mates_kin t r.a r.b r.linked in let l = mates_live w.teams r.a r.b m.1 m.0 in
          subst (λ (z : Edge). In z (edges u)) r.is (share_edge u r.a r.b r.low_a r.low_b (both (not (eqb r.a r.b)) (u.kin r.a r.b) m.0
          (subst₂ (λ (a b : ℕ). T (t.kin a b)) (sym (other r.a (there r.a l.0))) (sym (other r.b (there r.b l.1))) m.1))))
    ]
      where
        there : (a : ℕ) → T (live t (subject a)) → c ≡ a → ⊥
        there a l q = let r = step_entry t a l in none-ne-some r.0 (sym n ∙ ap (λ (z : ℕ). t.at (subject z)) q ∙ r.1)

    -- the figure of whom a subject stands for
    figure : (a : ℕ) → φ (subject a) ≡ needs t (subject (stand_in c s a))
    figure a = elim (stand_in_cases c s a) [
      | inl r ↦ ap (λ (z : ℕ). φ (subject z)) (sym r.0) ∙ but_here (needs t) (subject c) v ∙ ap (λ (z : ℕ). needs t (subject z)) (sym r.1)
      | inr r ↦ cond_no (eqb c a) v (needs t (subject a)) r.0 ∙ ap (λ (z : ℕ). needs t (subject z)) (sym r.1)
    ]

    only : (d : Edge) → In d (edges u) → In d (edges t) ⊎ (φ d.dst ⊑ φ d.src)
    only d i = elim (in_edge u d i) [
      | inl r ↦ inl (subst (λ (z : Edge). In z (edges t)) r.is (edge_in t (wf_ranged w) r.holds r.holds))
      | inr r ↦ inr (subst (λ (z : Edge). φ z.dst ⊑ φ z.src) r.is (subst₂ (λ (a b : Label). a ⊑ b) (sym (figure r.b)) (sym (figure r.a))
          (kin_needs w (stand_in c s r.a) (stand_in c s r.b) (mates_kin u r.a r.b r.linked).1)))
    ]

-- ── exit ──
module _ (t : Tables) (s : ℕ) (w : Wf t) where
  pub left : Tables
  left = apply (quits (same (subject s))) t

  left_less : Less t left
  unfolding left
  left_less = less_quits t (same (subject s)) (λ o. tt)

  left_sub : Sub (edges left) (edges t)
  left_sub = record {
    all = λ e i. elim (in_edge left e i) [
      | inl r ↦ (let h = left_less.hands r.s r.p r.k r.holds in subst (λ (z : Edge). In z (edges t)) r.is (edge_in t (wf_ranged w) h h))
      | inr r ↦ (let m = mates_kin left r.a r.b r.linked in subst (λ (z : Edge). In z (edges t)) r.is
          (share_edge t r.a r.b r.low_a r.low_b (both (not (eqb r.a r.b)) (t.kin r.a r.b) m.0 (left_less.kin_was r.a r.b m.1 m.0))))
    ];
  }

  left_only : (e : Edge) → In e (edges t) → In e (edges left) ⊎ (e.src ≡ subject s) ⊎ (e.dst ≡ subject s)
  unfolding left
  left_only e i = elim (in_edge t e i) [
    | inl r ↦ elim (row_cases t.hand s (λ p. none) r.s r.p (left.hand r.s r.p) refl) [
      | inl q ↦ inr (touches r.k.dir r.k.to (ap (λ (y : ℕ). flow (subject y) r.k) q.0 ∙ r.is))
      | inr q ↦ inl (subst (λ (z : Edge). In z (edges left)) r.is (edge_in left (wf_ranged w) r.holds (sym q.1 ∙ r.holds)))
    ]
    | inr r ↦ between r.a r.b r.is r.low_a r.low_b (mates_kin t r.a r.b r.linked) (test (eqb s r.a)) (test (eqb s r.b))
  ]
    where
      touches : (d : Dir) (o : ℕ) → arc d (subject s) (object o) ≡ e → (e.src ≡ subject s) ⊎ (e.dst ≡ subject s)
      touches reading o q = inr (sym (ap (λ (z : Edge). z.dst) q))
      touches writing o q = inl (sym (ap (λ (z : Edge). z.src) q))

      between : (a b : ℕ) → share a b ≡ e → a < subjects → b < subjects → T (not (eqb a b)) × T (t.kin a b) → T (eqb s a) ⊎ T (not (eqb s a)) → T (eqb s b) ⊎ T (not (eqb s b))
          → In e (edges left) ⊎ (e.src ≡ subject s) ⊎ (e.dst ≡ subject s)
      between a b q la lb m (inl h) y = inr (inl (sym (ap (λ (z : Edge). z.src) q) ∙ ap subject (sym (eqb→eq s a h))))
      between a b q la lb m (inr n) (inl h) = inr (inr (sym (ap (λ (z : Edge). z.dst) q) ∙ ap subject (sym (eqb→eq s b h))))
      between a b q la lb m (inr n) (inr h) = inl (subst (λ (z : Edge). In z (edges left)) q
          (share_edge left a b la lb (both (not (eqb a b)) (left.kin a b) m.0 (parted_stays (same (subject s)) t.kin a b n h m.1))))

  -- a subject that leads to no file ends: no need changes
  pub vacate_quiet : needs t (subject s) ≡ bot → (x : Thing) → needs left x ≡ needs t x
  unfolding left
  vacate_quiet q x = need_agree (λ y. demand y (left.at y)) (edges left) (λ y. demand y (t.at y)) x (λ y r. same_demand y)
      ∙ remove_thing (λ y. demand y (t.at y)) left_sub (subject s) left_only q x
    where
      same_demand : (y : Thing) → demand y (left.at y) ≡ demand y (t.at y)
      same_demand = put_demand t.at (subject s) none (sym (subject_demand s (t.at (subject s))))

  -- the needs after an exit are those once the subject is gone
  pub exit_needs : (x : Thing) → needs (effect t (exit s)) x ≡ needs left x
  unfolding left
  exit_needs x = effect_needs t (exit s) x

  gone_demand : (x : Thing) → needs left x ≡ need (λ y. demand y (t.at y)) (edges left) x
  unfolding left
  gone_demand x = need_agree (λ y. demand y (left.at y)) (edges left) (λ y. demand y (t.at y)) x
      (λ y r. put_demand t.at (subject s) none (sym (subject_demand s (t.at (subject s)))) y)

  -- what does not reach the subject keeps its need
  pub exit_far : (x : Thing) → (Reaches (edges t) x (subject s) → ⊥) → needs (effect t (exit s)) x ≡ needs t x
  exit_far x n = exit_needs x ∙ gone_demand x ∙ remove_thing_far (λ y. demand y (t.at y)) left_sub (subject s) left_only x n

  left_fresh : Fresh (subject s) (edges left)
  unfolding left
  left_fresh = record { leaves = λ e i q. touched e i (inl q); enters = λ e i q. touched e i (inr q) }
    where
      gone : (s' p : ℕ) (k : Handle) → left.hand s' p ≡ some k → subject s' ≡ subject s → ⊥
      gone s' p k h q = let z : s ≡ s' = cc in
          none-ne-some k (sym (cond_yes (eqb s s') none (t.hand s' p) (subst (λ (y : ℕ). T (eqb s y)) z (eqb_refl s))) ∙ h)

      never : (d : Dir) (o : ℕ) (e : Edge) (s' p : ℕ) (k : Handle) → arc d (subject s') (object o) ≡ e → left.hand s' p ≡ some k
          → (e.src ≡ subject s) ⊎ (e.dst ≡ subject s) → ⊥
      never reading o e s' p k q h (inl z) = subject_object s o (sym z ∙ sym (ap (λ (y : Edge). y.src) q))
      never reading o e s' p k q h (inr z) = gone s' p k h (ap (λ (y : Edge). y.dst) q ∙ z)
      never writing o e s' p k q h (inl z) = gone s' p k h (ap (λ (y : Edge). y.src) q ∙ z)
      never writing o e s' p k q h (inr z) = subject_object s o (sym z ∙ sym (ap (λ (y : Edge). y.dst) q))

      is_s : (a : ℕ) → subject a ≡ subject s → T (not (eqb s a)) → ⊥
      is_s a q n = T_not (eqb s a) n (let z : s ≡ a = cc in subst (λ (y : ℕ). T (eqb s y)) z (eqb_refl s))

      apart : (a b : ℕ) (e : Edge) → share a b ≡ e → T (not (eqb a b)) → (a ≡ b) ⊎ (T (not (eqb s a)) × T (not (eqb s b)) × T (t.kin a b))
          → (e.src ≡ subject s) ⊎ (e.dst ≡ subject s) → ⊥
      apart a b e q n (inl z) h = T_not (eqb a b) n (subst (λ (y : ℕ). T (eqb a y)) z (eqb_refl a))
      apart a b e q n (inr r) (inl h) = is_s a (ap (λ (y : Edge). y.src) q ∙ h) r.0
      apart a b e q n (inr r) (inr h) = is_s b (ap (λ (y : Edge). y.dst) q ∙ h) r.1

      touched : (e : Edge) → In e (edges left) → (e.src ≡ subject s) ⊎ (e.dst ≡ subject s) → ⊥
      touched e i h = elim (in_edge left e i) [
        | inl r ↦ never r.k.dir r.k.to e r.s r.p r.k r.is r.holds h
        | inr r ↦ (let m = mates_kin left r.a r.b r.linked in apart r.a r.b e r.is m.0 (parted_cases (same (subject s)) t.kin r.a r.b m.1) h)
      ]

-- ── a thing comes, or goes ──
-- what comes needs what it demands, and no other need changes
pub enter_needs : (t : Tables) (z : Thing) (e : Entry) (g : Origin) → Wf t → t.at z ≡ none → (x : Thing)
    → needs (apply (enter z e g) t) x ≡ but (needs t) z (demand z (some e)) x
enter_needs t z e g w n x = ap (λ (es : List Edge). need f es x) (edges_at t (put t.at z (some e)))
    ∙ go (same z x) (same→eq z x) (λ m q. T_not (same z x) m (subst (λ (y : Thing). T (same z y)) (sym q) (same_refl z)))
  where
    f : Thing → Label
    f y = demand y (put t.at z (some e) y)

    v : Fresh z (edges t)
    v = fresh_none t z w n

    go : (b : Bool) → (T b → z ≡ x) → (T (not b) → x ≡ z → ⊥) → need f (edges t) x ≡ cond b (demand z (some e)) (needs t x)
    go true p q = subst (λ (y : Thing). need f (edges t) y ≡ demand z (some e)) (p tt) (need_alone f (edges t) z v.leaves
        ∙ ap (demand z) (put_same t.at z (some e)))
    go false p q = need_others f (edges t) (λ y. demand y (t.at y)) z v.enters
        (λ y m. ap (demand y) (cond_no (same z y) (some e) (t.at y) (not_T (same z y) (λ k. m (sym (same→eq z y k)))))) x (q tt)

-- what no flow touches goes: no other need changes
pub leave_needs : (t : Tables) (z : Thing) → Fresh z (edges t) → (x : Thing) → (x ≡ z → ⊥) → needs (apply (leave z) t) x ≡ needs t x
leave_needs t z v x ne = ap (λ (es : List Edge). need (λ y. demand y (put t.at z none y)) es x) (edges_at t (put t.at z none))
    ∙ need_others (λ y. demand y (put t.at z none y)) (edges t) (λ y. demand y (t.at y)) z v.enters
    (λ y m. ap (demand y) (cond_no (same z y) none (t.at y) (not_T (same z y) (λ k. m (sym (same→eq z y k)))))) x ne

-- a file that is open nowhere is touched by no flow ..
fresh_idle : (t : Tables) (o : ℕ) → Wf t → T (not (open_on (handles t) o)) → Fresh (object o) (edges t)
fresh_idle t o w n = record { leaves = λ e i q. never e i (inl q); enters = λ e i q. never e i (inr q) }
  where
    on : (d : Dir) (s k : ℕ) (e : Edge) → arc d (subject s) (object k) ≡ e → (e.src ≡ object o) ⊎ (e.dst ≡ object o) → k ≡ o
    on reading s k e q (inl h) = let z : object k ≡ object o = ap (λ (y : Edge). y.src) q ∙ h in cc
    on reading s k e q (inr h) = absurd (subject_object s o (ap (λ (y : Edge). y.dst) q ∙ h))
    on writing s k e q (inl h) = absurd (subject_object s o (ap (λ (y : Edge). y.src) q ∙ h))
    on writing s k e q (inr h) = let z : object k ≡ object o = ap (λ (y : Edge). y.dst) q ∙ h in cc

    no_object : (a b : ℕ) (e : Edge) → share a b ≡ e → (e.src ≡ object o) ⊎ (e.dst ≡ object o) → ⊥
    no_object a b e q (inl h) = subject_object a o (ap (λ (y : Edge). y.src) q ∙ h)
    no_object a b e q (inr h) = subject_object b o (ap (λ (y : Edge). y.dst) q ∙ h)

    never : (e : Edge) → In e (edges t) → (e.src ≡ object o) ⊎ (e.dst ≡ object o) → ⊥
    never e i h = elim (in_edge t e i) [
      | inl r ↦ (let b = (wf_ranged w).bounds r.s r.p r.k r.holds in
          T_not (open_on (handles t) o) n (subst (λ (y : ℕ). T (open_on (handles t) y)) (on r.k.dir r.s r.k.to e r.is h)
          (open_here t r.s r.p r.k b.0 b.1 r.holds)))
      | inr r ↦ no_object r.a r.b e r.is h
    ]

-- .. so that no other need changes when it is retired
pub retire_needs : (t : Tables) (o : ℕ) → Wf t → T (not (open_on (handles t) o)) → (x : Thing) → (x ≡ object o → ⊥) → needs (effect t (retire o)) x ≡ needs t x
retire_needs t o w n x ne = effect_needs t (retire o) x ∙ leave_needs t (object o) (fresh_idle t o w n) x ne
