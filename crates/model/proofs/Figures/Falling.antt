-- A thing falls no lower than its need while no handle goes (RULES F17): needs only grow then, and no level is below its need (RULES F8). Assumes nothing.
use Rattle.std.specs.Prelude.{◌≡◌, refl, Bool, true, false, cond, not, ◌⊎◌, List, [], ◌∷◌, ℕ, ◌<◌, eqb}
use Rattle.std.proofs.Common.{sym, ◌∙◌, ap, ap₂, subst₂, arith, T_not, eqb→eq, ltb→lt}
use Rattle.std.proofs.Math.Path.{subst}
use Rattle.std.proofs.Math.Logic.{inl, inr}
use Rattle.std.proofs.Math.Option.{Option, none, some, none-ne-some}
use Rattle.std.proofs.Math.Dec.{T}
use Rattle.model.specs.Bools.{test, both, cond_no}
use Rattle.model.specs.Lists.{In}
use Rattle.model.specs.Label.{Label, ◌⊑◌, bot}
use Rattle.model.proofs.Label.Laws.{⊑_refl, ⊑_trans, bot_least}
use Rattle.model.specs.Flow.{Thing, subject, object, Edge, same, Reaches, here}
use Rattle.model.proofs.Flow.Laws.{same→eq, reaches_in, reaches_snoc, need_upper, need_least}
use Rattle.model.specs.Tables.{Dir, reading, writing, Entry, Tables, empty, is_some, live, arc, edges, demand, needs, subjects, share}
use Rattle.model.proofs.Tables.Laws.{live_of, used_is, step_entry, share_edge}
use Rattle.model.specs.Steps.{Step, enter, leave, hold, holds, mix, quits, freezes, put, apply, applies, binds, stand_in}
use Rattle.model.proofs.Steps.Laws.{put_same, sink_by, fall_demand}
use Rattle.model.specs.Invariant.{Teams, Wf, Kept}
use Rattle.model.proofs.Invariant.Laws.{mates_kin, mates_live, parted_stays, stand_in_cases}
use Rattle.model.specs.Calls.{Call, admit, register, create, make_pipe, opens, access, fork, thread, exec, close, exit, retire, maps, mark, freeze, connect, unknown, Raw, decode, target, rereads, sheds, steps, effect, broken, new, idle, refusal, next, after}
use Rattle.model.proofs.Calls.Refusals.{allowed_iff}
use Rattle.model.proofs.Calls.Passed.{is_new, Passed}
use Rattle.model.proofs.Calls.Moving.{reread_of}
use Rattle.model.proofs.Calls.Dangling.{call_wf}
use Rattle.model.proofs.Calls.Needs.{edge_in, in_edge, wf_ranged, subject_demand, effect_needs, retire_needs}
use Rattle.model.proofs.Calls.Kept.{next_kept, always_kept}
use Rattle.model.specs.Figures.{Lasts, Lasting}
use Rattle.model.proofs.Figures.Laws.{Makes, step_lived, effect_lived}

-- ── flows stay, and demands ──
none_under : {a b : Label} → a ≡ bot → a ⊑ b
none_under {a} {b} q = subst (λ (c : Label). c ⊑ b) (sym q) bot_least

-- who was of one group still is, as far as both are live
abbrev Together : Tables → Tables → Type 0
Together t u = (a b : ℕ) → T (t.kin a b) → T (not (eqb a b)) → T (live u (subject a)) → T (live u (subject b)) → T (u.kin a b)

-- what stands in the flows is live
reached_live : {u : Tables} → Wf u → {x y : Thing} → Reaches (edges u) x y → T (live u x) → T (live u y)
reached_live {u} w = reaches_in (λ z. T (live u z)) (λ e i h. elim (in_edge u e i) [
  | inl r ↦ (let f = w.ends r.s r.p r.k r.holds in subst (λ (z : Edge). T (live u z.dst)) r.is (to r.k.dir r.s r.k.to f.from f.to))
  | inr r ↦ (let m = mates_kin u r.a r.b r.linked in subst (λ (z : Edge). T (live u z.dst)) r.is (mates_live w.teams r.a r.b m.1 m.0).1)
])
  where
    to : (d : Dir) (s o : ℕ) → T (live u (subject s)) → T (live u (object o)) → T (live u (arc d (subject s) (object o)).dst)
    to reading s o f g = f
    to writing s o f g = g

-- where no handle goes, what is live reaches what it reached, but for subjects that ended; these had no handle
module _ (t u : Tables) (v : Wf t) (w : Wf u) (l : Lasts t u) (g : Together t u) (x : Thing) (h : T (live u x)) where
  record Ghost (y : Thing) : Type 0 where
    who : ℕ
    mate : ℕ
    is : subject who ≡ y
    gone : T (not (live u (subject who)))
    reached_mate : Reaches (edges u) x (subject mate)
    kin_mate : T (t.kin mate who)

  -- a member that is reached shares with b, or b has ended
  onward : (a b : ℕ) → Reaches (edges u) x (subject a) → T (t.kin a b) → Reaches (edges u) x (subject b) ⊎ Ghost (subject b)
  onward a b r k = elim (test (eqb a b)) [
    | inl e ↦ inl (subst (λ (z : ℕ). Reaches (edges u) x (subject z)) (eqb→eq a b e) r)
    | inr n ↦ elim (test (live u (subject b))) [
      | inl m ↦ (let i = reached_live w r h in inl (reaches_snoc (share a b) (share_edge u a b (low a i) (low b m)
          (both (not (eqb a b)) (u.kin a b) n (g a b k n i m))) r refl))
      | inr m ↦ inr (record { who = b; mate = a; is = refl; gone = m; reached_mate = r; kin_mate = k })
    ]
  ]
    where
      low : (a : ℕ) → T (live u (subject a)) → a < subjects
      low a i = ltb→lt a subjects (live_of u (subject a) i).0

  still_reached : (e : Edge) → In e (edges t) → Reaches (edges u) x e.src ⊎ Ghost e.src → Reaches (edges u) x e.dst ⊎ Ghost e.dst
  still_reached e i p = elim (in_edge t e i) [
    | inl r ↦ (let q = l.still r.s r.p r.k r.holds in
        along (subst (λ (z : Edge). In z (edges u)) (ap₂ (λ (d : Dir) (o : ℕ). arc d (subject r.s) (object o)) q.2 q.3 ∙ r.is) (edge_in u (wf_ranged w) q.1 q.1))
        (λ z. T_not (live u (subject z.who)) z.gone (subst (λ (y : ℕ). T (live u (subject y))) (holder r.k.dir r.s r.k.to z.who r.is z.is)
        (w.ends r.s r.p q.0 q.1).from)) p)
    | inr r ↦ (let m = mates_kin t r.a r.b r.linked in subst (λ (y : Thing). Reaches (edges u) x y ⊎ Ghost y) (ap (λ (z : Edge). z.dst) r.is)
        (between r.a r.b m.1 (subst (λ (y : Thing). Reaches (edges u) x y ⊎ Ghost y) (sym (ap (λ (z : Edge). z.src) r.is)) p)))
  ]
    where
      along : In e (edges u) → (Ghost e.src → ⊥) → Reaches (edges u) x e.src ⊎ Ghost e.src → Reaches (edges u) x e.dst ⊎ Ghost e.dst
      along j n (inl r) = inl (reaches_snoc e j r refl)
      along j n (inr z) = absurd (n z)

      holder : (d : Dir) (s o m : ℕ) → arc d (subject s) (object o) ≡ e → subject m ≡ e.src → s ≡ m
      holder reading s o m q z = absurd (let y : subject m ≡ object o = z ∙ sym (ap (λ (f : Edge). f.src) q) in let k : ◌≡◌ {A = ℕ} 0 1 = cc in omega arith)
      holder writing s o m q z = let y : subject m ≡ subject s = z ∙ sym (ap (λ (f : Edge). f.src) q) in let k : s ≡ m = cc in k

      between : (a b : ℕ) → T (t.kin a b) → Reaches (edges u) x (subject a) ⊎ Ghost (subject a) → Reaches (edges u) x (subject b) ⊎ Ghost (subject b)
      between a b k (inl r) = onward a b r k
      between a b k (inr z) = onward z.mate b z.reached_mate (v.teams.shared z.mate a b (subst (λ (y : ℕ). T (t.kin z.mate y)) (let q : subject z.who ≡ subject a = z.is in let j : z.who ≡ a = cc in j) z.kin_mate) k)

  -- so that its need is no lower, where demands are not
  needs_grow : ((y : Thing) → demand y (t.at y) ⊑ demand y (u.at y)) → needs t x ⊑ needs u x
  needs_grow d = need_least (edges t) (λ y. demand y (t.at y)) x (needs u x)
      (λ y r. by y (reaches_in (λ z. Reaches (edges u) x z ⊎ Ghost z) still_reached r (inl (here refl))))
    where
      by : (y : Thing) → Reaches (edges u) x y ⊎ Ghost y → demand y (t.at y) ⊑ needs u x
      by y (inl r) = ⊑_trans (d y) (need_upper (edges u) (λ z. demand z (u.at z)) r)
      by y (inr z) = subst (λ (a : Thing). demand a (t.at a) ⊑ needs u x) z.is (none_under (subject_demand z.who (t.at (subject z.who))))

-- a step that enters or removes nothing which demanded something in t
abbrev Calm : Tables → Step → Type 0
Calm t (enter z e g) = t.at z ≡ none
Calm t (leave z) = demand z (t.at z) ≡ bot
Calm t (hold s p v) = Unit {0}
Calm t (holds s r) = Unit {0}
Calm t (mix m a b y z) = Unit {0}
Calm t (quits g) = (o : ℕ) → T (not (g (object o)))
Calm t (binds c s) = t.at (subject c) ≡ none
Calm t (freezes n) = Unit {0}

abbrev Grown : Tables → Tables → Type 0
Grown t u = (y : Thing) → demand y (t.at y) ⊑ demand y (u.at y)

put_grown : (t u : Tables) (z : Thing) (v : Option Entry) → Grown t u → demand z (t.at z) ⊑ demand z v → (y : Thing)
    → demand y (t.at y) ⊑ demand y (put u.at z v y)
put_grown t u z v g h y = go (same z y) (same→eq z y)
  where
    go : (b : Bool) → (T b → z ≡ y) → demand y (t.at y) ⊑ demand y (cond b v (u.at y))
    go true e = subst (λ (w : Thing). demand w (t.at w) ⊑ demand w v) (e tt) h
    go false e = g y

step_grown : (t : Tables) (k : Step) → Calm t k → (u : Tables) → Grown t u → Grown t (apply k u)
step_grown t (enter z e g) c u f = put_grown t u z (some e) f (none_under (ap (demand z) c))
step_grown t (leave z) c u f = put_grown t u z none f (none_under c)
step_grown t (hold s p v) c u f = f
step_grown t (holds s r) c u f = f
step_grown t (mix m a b y z) c u f = λ w. sink_by (λ v o. demand v (t.at v) ⊑ demand v o) u y (u.at z) w (f w)
    (λ b. subst (λ (d : Label). demand w (t.at w) ⊑ d) (sym (fall_demand w (u.at w) (u.at z))) (f w))
step_grown t (quits g) c u f = λ w. left w
  where
    left : (w : Thing) → demand w (t.at w) ⊑ demand w (cond (g w) none (u.at w))
    left (subject n) = none_under (subject_demand n (t.at (subject n)))
    left (object n) = subst (λ (o : Option Entry). demand (object n) (t.at (object n)) ⊑ demand (object n) o) (sym (cond_no (g (object n)) none (u.at (object n)) (c n))) (f (object n))
step_grown t (binds d s) c u f = f
step_grown t (freezes n) c u f = f

abbrev Calms : Tables → List Step → Type 0
Calms t [] = Unit {0}
Calms t (k ∷ ks) = Calm t k × Calms t ks

steps_grown : (t : Tables) (ks : List Step) → Calms t ks → (u : Tables) → Grown t u → Grown t (applies ks u)
steps_grown t [] c u f = f
steps_grown t (k ∷ ks) c u f = steps_grown t ks c.1 (apply k u) (step_grown t k c.0 u f)

-- no step parts two who stay
step_together : (t : Tables) → Teams t → (k : Step) → Calm t k → (u : Tables) → Together t u → Together t (apply k u)
step_together t m k c u f a b h n i j = go k c (was k c a l.0 i) (was k c b l.1 j) i j
  where
    l : T (live t (subject a)) × T (live t (subject b))
    l = mates_live m a b h n

    there : (z : Thing) (d : ℕ) → t.at z ≡ none → T (live t (subject d)) → z ≡ subject d → ⊥
    there z d q y e = let r = step_entry t d y in none-ne-some r.0 (sym q ∙ ap t.at e ∙ r.1)

    was : (k : Step) → Calm t k → (d : ℕ) → T (live t (subject d)) → T (live (apply k u) (subject d)) → T (live u (subject d))
    was k c d y z = elim (step_lived k u (subject d) z) [ inl v ↦ v | inr v ↦ absurd (made k c v) ]
      where
        made : (k : Step) → Calm t k → Makes k (subject d) → ⊥
        made (enter z e g) c q = there z d c y q
        made (leave z) c q = q
        made (hold s p v) c q = q
        made (holds s r) c q = q
        made (mix m a b y z) c q = q
        made (quits g) c q = q
        made (binds c s) e q = q
        made (freezes n) c q = q

    stays : (g : Thing → Bool) (d : ℕ) → T (live (apply (quits g) u) (subject d)) → T (not (g (subject d)))
    stays g d z = go' (g (subject d)) (u.at (subject d)) (subst T (used_is (apply (quits g) u) (subject d)) (live_of (apply (quits g) u) (subject d) z).1)
      where
        go' : (c : Bool) (o : Option Entry) → T (is_some (cond c none o)) → T (not c)
        go' true o s = absurd s
        go' false o s = tt

    itself : (c s d : ℕ) → t.at (subject c) ≡ none → T (live t (subject d)) → stand_in c s d ≡ d
    itself c s d q y = elim (stand_in_cases c s d) [ inl r ↦ absurd (there (subject c) d q y (ap subject r.0)) | inr r ↦ r.1 ]

    go : (k : Step) → Calm t k → T (live u (subject a)) → T (live u (subject b)) → T (live (apply k u) (subject a)) → T (live (apply k u) (subject b)) → T ((apply k u).kin a b)
    go (enter z e g) c p q i j = f a b h n p q
    go (leave z) c p q i j = f a b h n p q
    go (hold s r v) c p q i j = f a b h n p q
    go (holds s r) c p q i j = f a b h n p q
    go (mix m x y z v) c p q i j = f a b h n p q
    go (quits g) c p q i j = parted_stays g u.kin a b (stays g a i) (stays g b j) (f a b h n p q)
    go (binds d s) c p q i j = subst₂ (λ (x y : ℕ). T (u.kin x y)) (sym (itself d s a c l.0)) (sym (itself d s b c l.1)) (f a b h n p q)
    go (freezes z) c p q i j = f a b h n p q

steps_together : (t : Tables) → Teams t → (ks : List Step) → Calms t ks → (u : Tables) → Together t u → Together t (applies ks u)
steps_together t m [] c u f = f
steps_together t m (k ∷ ks) c u f = steps_together t m ks c.1 (apply k u) (step_together t m k c.0 u f)

module _ (t : Tables) where
  -- ── the steps of each call ──
  new_calm : (z : Thing) → T (not (broken t (new z))) → t.at z ≡ none
  new_calm z h = (is_new t z h).1

  rereads_calm : (x : Thing) → Calms t (rereads t x)
  rereads_calm x = go (rereads t x) (λ k i. subst (Calm t) (reread_of t x k i).is tt)
    where
      go : (ks : List Step) → ((k : Step) → In k ks → Calm t k) → Calms t ks
      go [] f = tt
      go (k ∷ ks) f = (f k (inl refl), go ks (λ j i. f j (inr i)))

  -- a retire takes away what demanded something, and no other call does
  calm : (c : Call) → Passed t c → ((o : ℕ) × (retire o ≡ c)) ⊎ Calms t (steps t c)
  unfolding sheds
  calm (admit s n) m = inr (new_calm (subject s) (m (new (subject s)) (inl refl)), tt)
  calm (register o n) m = inr (new_calm (object o) (m (new (object o)) (inl refl)), tt)
  calm (create s o) m = inr (new_calm (object o) (m (new (object o)) (inr (inl refl))), tt)
  calm (make_pipe s o r w) m = inr (new_calm (object o) (m (new (object o)) (inr (inl refl))), (tt, (tt, tt)))
  calm (opens d s o p) m = inr (tt, tt)
  calm (access reading s p) m = inr (tt, tt)
  calm (access writing s p) m = inr (tt, rereads_calm (target (t.hand s p)))
  calm (fork s c) m = inr (new_calm (subject c) (m (new (subject c)) (inr (inl refl))), (tt, tt))
  calm (thread s c) m = inr (new_calm (subject c) (m (new (subject c)) (inr (inl refl))), (new_calm (subject c) (m (new (subject c)) (inr (inl refl))), tt))
  calm (exec s o) m = inr ((λ o. tt), (tt, (tt, tt)))
  calm (close s p) m = inr (tt, tt)
  calm (exit s) m = inr ((λ o. tt), tt)
  calm (retire o) m = inl (o, refl)
  calm (maps s o p) m = inr (tt, (tt, tt))
  calm (mark s p) m = inr (tt, tt)
  calm (freeze n) m = inr (tt, tt)
  calm (connect s u a b p q) m = inr (
    new_calm (object a) (m (new (object a)) (inr (inr (inr (inl refl))))),
    (new_calm (object b) (m (new (object b)) (inr (inr (inr (inr (inl refl)))))), (tt, (tt, (tt, (tt, tt))))),
  )
  calm unknown m = inr tt

  -- ── one call ──
  module _ (v : Kept t) (x : Thing) where
    -- a file that is retired is nobody's way to anything
    retired : (o : ℕ) → Passed t (retire o) → T (live (effect t (retire o)) x) → needs t x ⊑ needs (effect t (retire o)) x
    retired o m l = subst (λ (a : Label). needs t x ⊑ a)
        (sym (retire_needs t o v.wf (m (idle o) (inr (inr (inl refl)))) x (λ q. gone (subst (λ (z : Thing). T (live (effect t (retire o)) z)) q l)))) ⊑_refl
      where
        u : Tables
        u = applies (steps t (retire o)) t

        gone : T (live (effect t (retire o)) (object o)) → ⊥
        gone h = subst T (used_is u (object o) ∙ ap is_some (put_same t.at (object o) none)) (live_of u (object o) (effect_lived t (retire o) (object o) h)).1

    -- where no handle goes, no need gets smaller
    call_grows : (c : Call) → Passed t c → Lasts t (effect t c) → T (live (effect t c) x) → needs t x ⊑ needs (effect t c) x
    unfolding effect
    call_grows c m l h = elim (calm c m) [
      | inl r ↦ subst (λ (d : Call). Passed t d → T (live (effect t d) x) → needs t x ⊑ needs (effect t d) x) r.1 (retired r.0) m h
      | inr k ↦ subst (λ (a : Label). needs t x ⊑ a) (sym (effect_needs t c x))
          (needs_grow t (applies (steps t c) t) v.wf (call_wf t v.wf c m) (record { still = l.still })
          (steps_together t v.wf.teams (steps t c) k t (λ a b q n i j. q)) x (effect_lived t c x h) (steps_grown t (steps t c) k t (λ y. ⊑_refl)))
    ]

    next_grows : (c : Call) → Lasts t (next t c) → T (live (next t c) x) → needs t x ⊑ needs (next t c) x
    next_grows c = go (refusal t c) refl
      where
        to : Option ℕ → Tables
        to o = elim o as (λ _. Tables) [ none ↦ effect t c | some n ↦ t ]

        go : (o : Option ℕ) → refusal t c ≡ o → Lasts t (to o) → T (live (to o) x) → needs t x ⊑ needs (to o) x
        go none q l h = call_grows c ((allowed_iff t c).0 q) l h
        go (some n) q l h = ⊑_refl

-- ── lists of calls ──
pub lasting_above : (x : Thing) (t : Tables) (rs : List Raw) → Kept t → Lasting x t rs → (e : Entry) → (after t rs).at x ≡ some e → needs t x ⊑ e.label
lasting_above x t [] v l e q = v.safe.above x e q
lasting_above x t (r ∷ rs) v l e q = ⊑_trans (next_grows t v x (decode r) l.0 l.1)
    (lasting_above x (next t (decode r)) rs (next_kept t (decode r) v) l.2 e q)

-- RULES F17: from empty tables, whatever calls came first: while no handle goes, what is live falls no lower than its need was
pub falls_no_lower : (x : Thing) (qs rs : List Raw) → Lasting x (after empty qs) rs → (e : Entry) → (after (after empty qs) rs).at x ≡ some e
    → needs (after empty qs) x ⊑ e.label
falls_no_lower x qs rs = lasting_above x (after empty qs) rs (always_kept qs)
