-- That no level is below its need stays so under every allowed call, and what that takes: that nothing dangles, and that a mapping is for reading, which the rules keep and
-- every monitor's tables have. No more of what calls from the empty tables leave (`Kept`) is asked. Assumes nothing.
use Rattle.std.specs.Prelude.{◌≡◌, refl, Bool, true, false, not, cond, ◌⊎◌, [], ◌∷◌, ℕ, eqb}
use Rattle.std.proofs.Common.{sym, ◌∙◌, ap, subst₂, inl, inr, T_not}
use Rattle.std.proofs.Math.Path.{subst}
use Rattle.std.proofs.Math.Option.{Option, none, some, some-injective}
use Rattle.std.proofs.Math.Dec.{T}
use Rattle.model.specs.Bools.{test, not_not}
use Rattle.model.specs.Label.{Label, leq, ◌⊑◌}
use Rattle.model.proofs.Label.Laws.{⊑_refl, bot_least}
use Rattle.model.specs.Lists.{In}
use Rattle.model.specs.Flow.{Thing, subject, object, same, Edge, Reaches, here, step}
use Rattle.model.proofs.Flow.Laws.{need_least, object_same, subject_object}
use Rattle.model.proofs.Flow.Changes.{but, but_here}
use Rattle.model.specs.Tables.{Kind, running, file, pipe, Dir, reading, writing, Entry, entry, Handle, handle, mapping, with_mark, Tables}
use Rattle.model.specs.Tables.{in_range, label_of, cell, handles, open_on, arc, flow, speaks, edges, demand, needs, safe}
use Rattle.model.proofs.Tables.Laws.{speaks_at, speaks_hand, speaks_cell, cell_self, cell_same, cell_entry, object_entry}
use Rattle.model.proofs.Tables.Laws.{open_here, Flows, edge_flow, Stands, thing_listed, listed_thing, demand_label, not_safe, safe_above}
use Rattle.model.specs.Steps.{Origin, outside, blank, copied, reads, writes, runs, enter, hold, mix, quits, freezes, put, row}
use Rattle.model.specs.Steps.{place, apply, applies}
use Rattle.model.proofs.Steps.Laws.{row_cases, place_same, applies_append}
use Rattle.model.specs.Invariant.{Wf, Safe, Mapped, Kept}
use Rattle.model.proofs.Invariant.Laws.{Pot, pot_safe, needs_pot, Less, less_close, less_quits, less_freeze, less_numbers, less_wf, less_pot, Feeds, flow_feeds}
use Rattle.model.proofs.Invariant.Laws.{wf_mix}
use Rattle.model.proofs.Invariant.Laws.{but_other, pot_enter, pot_hand, pot_hold, pot_without, pot_reap, pot_mix, pot_binds}
use Rattle.model.specs.Calls.{Call, admit, register, create, make_pipe, opens, access, fork, thread, exec, close, exit, retire, maps, mark, freeze, connect, unknown}
use Rattle.model.specs.Calls.{target, marking, sheds, channel, steps, stepped, effect, Test, alive, present, new, taken, facing, enough, suits, broken, refusal}
use Rattle.model.proofs.Calls.Refusals.{allowed_iff}
use Rattle.model.proofs.Calls.Passed.{is_alive, is_present, is_new, is_taken, is_facing, Passed, sheds_less}
use Rattle.model.proofs.Calls.Moving.{Through, rereads_keep}
use Rattle.model.proofs.Calls.Dangling.{open_wf, map_wf, connect_wf, call_wf}

-- a mapping is for reading
abbrev pub MapsRead : Tables → Type 0
MapsRead t = (s p : ℕ) (k : Handle) → t.hand s p ≡ some k → T k.mapped → k.dir ≡ reading

pub mapped_read : {t : Tables} → Mapped t → MapsRead t
mapped_read v s p k q h = (v.each s p k q h).for_reading

-- nothing dangles, no level is below its need, and a mapping is for reading
pub record Sound (t : Tables) : Type 0 where
  pub wf : Wf t
  pub safe : Safe t
  pub for_reading : MapsRead t

pub kept_sound : {t : Tables} → Kept t → Sound t
kept_sound v = record { wf = v.wf; safe = v.safe; for_reading = mapped_read v.mapped }

-- an object on which no handle is reaches nothing, so that it needs no more than its own label
pub idle_need : (u : Tables) (o : ℕ) (e : Entry) → u.at (object o) ≡ some e → T (not (open_on (handles u) o)) → needs u (object o) ⊑ e.label
idle_need u o e q n = need_least (edges u) (λ y. demand y (u.at y)) (object o) e.label only
  where
    from : (f : Edge) → In f (edges u) → f.src ≡ object o → ⊥
    from f i z = elim (edge_flow u f i) [ inl r ↦ stuck r r.k.dir refl | inr r ↦ subject_object r.a o (ap (λ (v : Edge). v.src) r.is ∙ z) ]
      where
        stuck : (r : Flows u f) (d : Dir) → r.k.dir ≡ d → ⊥
        stuck r reading g = T_not (open_on (handles u) o) n (subst (λ (m : ℕ). T (open_on (handles u) m))
            (object_same r.k.to o (sym (ap (λ (v : Dir). (arc v r.x (object r.k.to)).src) g) ∙ ap (λ (v : Edge). v.src) r.is ∙ z))
            (open_here u r.s r.p r.k r.low_s r.low_p r.holds))
        stuck r writing g = subject_object r.s o (sym (cell_self u r.s) ∙ some-injective (cell u r.s) r.x (sym (speaks_cell u r.s) ∙ r.speaker) ∙
            sym (ap (λ (v : Dir). (arc v r.x (object r.k.to)).src) g) ∙ ap (λ (v : Edge). v.src) r.is ∙ z)

    only : (y : Thing) → Reaches (edges u) (object o) y → demand y (u.at y) ⊑ e.label
    only y (here z) = subst (λ (x : Thing). demand x (u.at x) ⊑ e.label) z
        (subst (λ (v : Option Entry). demand (object o) v ⊑ e.label) (sym q) (demand_label (object o) e))
    only y (step f i z r) = absurd (from f i z)

-- tables that pass the test
pub safe_sound : (u : Tables) → Wf u → T (safe u) → Safe u
safe_sound u w h = record { above = covered }
  where
    listed : (x : Thing) (e : Entry) → u.at x ≡ some e → Stands u x → needs u x ⊑ e.label
    listed x e q g = subst (λ (o : Option Entry). needs u x ⊑ label_of o) q (safe_above u h x (thing_listed u x e g q))

    covered : (x : Thing) (e : Entry) → u.at x ≡ some e → needs u x ⊑ e.label
    covered (subject n) e q = listed (subject n) e q (w.ranged (subject n) e q)
    covered (object n) e q = elim (test (open_on (handles u) n)) [ inl g ↦ listed (object n) e q g | inr g ↦ idle_need u n e q g ]

pub safe_complete : (u : Tables) → Safe u → T (safe u)
safe_complete u v = elim (test (safe u)) [
  | inl h ↦ h
  | inr n ↦ (let r = (not_safe u).0 n in let l = listed_thing u r.0 r.1 in
      absurd (T_not (leq (needs u r.0) (label_of (u.at r.0))) r.2
      (subst (λ (o : Option Entry). needs u r.0 ⊑ label_of o) (sym l.1) (v.above r.0 l.0 l.1)).tested))
]

-- ── what moves data ──
-- the condition under which a read or write moves data
pub access_feeds : (t : Tables) (φ : Thing → Label) → Wf t → Pot t φ → (d : Dir) (s p : ℕ) (k : Handle) → t.hand s p ≡ some k → k.dir ≡ d
    → Feeds t φ (arc d (cell t s) (target (t.hand s p))).dst (arc d (cell t s) (target (t.hand s p))).src
access_feeds t φ w i d s p k q e = subst (λ (o : Option Handle). Feeds t φ (arc d (cell t s) (target o)).dst (arc d (cell t s) (target o)).src) (sym q)
    (subst (λ (z : Dir). Feeds t φ (arc z (cell t s) (object k.to)).dst (arc z (cell t s) (object k.to)).src) e
    (flow_feeds t φ w i s p (cell t s) k (speaks_cell t s) q))

-- and an exec, in the tables that are left once it dropped what it drops
pub exec_feeds : (t : Tables) (s o : ℕ) → T (not (broken t (present o))) → T (not (broken t (suits s o))) → Feeds (applies (sheds t s) t)
    (needs (applies (sheds t s) t)) (cell t s) (object o)
exec_feeds t s o h g = let r = object_entry t o (is_present t o h) in record {
  source = r.0;
  source_is = (sheds_less t s).objects_stay o ∙ r.1;
  under = subst (λ (e : Option Entry). needs (applies (sheds t s) t) (cell t s) ⊑ label_of e) r.1
      (record { tested = not_not (leq (needs (applies (sheds t s) t) (cell t s)) (label_of (t.at (object o)))) g });
}

-- on the way through the reads that follow a write: the handles are those of t, nothing dangles, and φ is still a potential
pub record Going (t : Tables) (φ : Thing → Label) (u : Tables) : Type 0 where
  pub hands : u.hand ≡ t.hand
  pub wf : Wf u
  pub pot : Pot u φ

module _ (t : Tables) (φ : Thing → Label) where
  pub going_written : Wf t → Pot t φ → (s : ℕ) (x : Thing) → Feeds t φ x (cell t s) → Going t φ (apply (mix writes x (subject s) x (cell t s)) t)
  going_written w i s x f = record { hands = refl; wf = wf_mix t writes x (subject s) x (cell t s) w; pot = pot_mix t φ writes x (subject s) x (cell t s) i f }

  -- and each of these reads moves data along a mapping
  pub reread_feeds : MapsRead t → (x : Thing) (s : ℕ) → Through t x s → (u : Tables) → Going t φ u → Feeds u φ (cell t s) x
  reread_feeds v x s h u g = subst (Feeds u φ (cell t s)) h.on
      (subst (λ (d : Dir). Feeds u φ (arc d (cell t s) (object k.to)).dst (arc d (cell t s) (object k.to)).src)
      (v s h.place k h.held h.maps)
      (flow_feeds u φ g.wf g.pot s h.place (cell t s) k (speaks_cell u s ∙ ap {B = Option Thing} some (cell_same u t s))
      (ap (λ (f : ℕ → ℕ → Option Handle). f s h.place) g.hands ∙ h.held)))
    where
      k : Handle
      k = h.handle

  pub going_next : MapsRead t → (x : Thing) (s : ℕ) → Through t x s → (u : Tables) → Going t φ u → Going t φ (apply (mix reads (subject s) x (cell t s) x) u)
  going_next v x s h u g = record {
    hands = g.hands;
    wf = wf_mix u reads (subject s) x (cell t s) x g.wf;
    pot = pot_mix u φ reads (subject s) x (cell t s) x g.pot (reread_feeds v x s h u g);
  }

-- ── map ──
-- a map that is allowed would be allowed as an open for reading
pub map_opens : (t : Tables) (s o p : ℕ) → Passed t (maps s o p) → Passed t (opens reading s o p)
map_opens t s o p m e (inl z) = m e (inl z)
map_opens t s o p m e (inr (inl z)) = m e (inr (inl z))
map_opens t s o p m e (inr (inr (inl z))) = m e (inr (inr (inr (inl z))))
map_opens t s o p m e (inr (inr (inr (inl z)))) = m e (inr (inr (inr (inr (inl z)))))
map_opens t s o p m e (inr (inr (inr (inr (inl z))))) = subst (λ (k : Test). T (not (broken t k))) z tt
map_opens t s o p m e (inr (inr (inr (inr (inr z))))) = absurd z

-- another handle of the same flow, at the same place
pub pot_swap : (t : Tables) (φ : Thing → Label) (s p : ℕ) (j k : Handle) → j.dir ≡ k.dir → j.to ≡ k.to
    → Pot (apply (hold s p (some j)) t) φ → Pot (apply (hold s p (some k)) t) φ
pot_swap t φ s p j k d o i = record {
  low = i.low;
  cap = i.cap;
  falls = λ s' p' x l z q. (let r = was (eqb s s') (eqb p p') (t.hand s p') (t.hand s' p') l q in
      subst₂ (λ (d : Dir) (n : ℕ). φ (arc d x (object n)).dst ⊑ φ (arc d x (object n)).src) r.2 r.3
      (i.falls s' p' x r.0 (speaks_hand t (place t.hand s p (some j)) s' ∙ sym (speaks_hand t (place t.hand s p (some k)) s') ∙ z) r.1));
  shares = i.shares;
}
  where
    was : (a b : Bool) (f g : Option Handle) (l : Handle) → cond a (cond b (some k) f) g ≡ some l
        → (i : Handle) × (cond a (cond b (some j) f) g ≡ some i) × (i.dir ≡ l.dir) × (i.to ≡ l.to)
    was false b f g l q = (l, q, refl, refl)
    was true false f g l q = (l, q, refl, refl)
    was true true f g l q = let e = some-injective k l q in (j, refl, d ∙ ap (λ (z : Handle). z.dir) e, o ∙ ap (λ (z : Handle). z.to) e)

-- the tables with the new mapping, before s falls, have a potential, and along the mapping data may move
pub record MapMoves (t : Tables) (s o p : ℕ) : Type 0 where
  pub potential : Thing → Label
  pub pot : Pot (apply (hold s p (some (mapping o))) t) potential
  pub feeds : Feeds (apply (hold s p (some (mapping o))) t) potential (cell t s) (object o)

pub map_feeds : (t : Tables) (s o p : ℕ) → Wf t → Passed t (maps s o p) → MapMoves t s o p
map_feeds t s o p w m = record {
  potential = needs u;
  pot = i;
  feeds = flow_feeds u' (needs u) (map_wf t w s o p m) i s p (cell t s) (mapping o) (speaks_cell u' s ∙ ap {B = Option Thing} some (cell_same u' t s))
      (place_same t.hand s p (some (mapping o)));
}
  where
    u : Tables
    u = apply (hold s p (some (handle reading o))) t

    u' : Tables
    u' = apply (hold s p (some (mapping o))) t

    opened : Wf u
    opened = open_wf t w reading s o p (map_opens t s o p m)

    i : Pot u' (needs u)
    i = pot_swap t (needs u) s p (handle reading o) (mapping o) refl refl (needs_pot opened
        (safe_sound u opened (not_not (safe u) (m (enough (opens reading s o p)) (inr (inr (inr (inr (inl refl)))))))))

-- ── call by call ──
module _ (t : Tables) (v : Sound t) where
  pot : Pot t (needs t)
  pot = needs_pot v.wf v.safe

  enter_safe : (x : Thing) (e : Entry) (g : Origin) → T (not (broken t (new x))) → Safe (apply (enter x e g) t)
  unfolding pot
  enter_safe x e g h = let f = is_new t x h in pot_safe (pot_enter t (needs t) x e g e.label v.wf pot f.1 (demand_label x e) ⊑_refl)

  less_safe : (u : Tables) → Less t u → Safe u
  unfolding pot
  less_safe u l = pot_safe (less_pot (needs t) l pot)

  exit_safe : (s : ℕ) → Safe (applies (steps t (exit s)) t)
  exit_safe s = less_safe (apply (quits (same (subject s))) t) (less_quits t (same (subject s)) (λ o. tt))

  mark_safe : (s p : ℕ) → T (not (broken t (taken s p))) → Safe (applies (steps t (mark s p)) t)
  unfolding pot
  mark_safe s p h = let r = is_taken t s p h in subst (λ (o : Option Handle). Safe (apply (hold s p (marking o)) t)) (sym r.1)
      (pot_safe (pot_hold t (needs t) s p (with_mark r.0) pot (λ x z. pot.falls s p x r.0 z r.1)))

  retire_safe : (o : ℕ) → Safe (applies (steps t (retire o)) t)
  unfolding pot
  retire_safe o = pot_safe (pot_without (same (object o)) t (needs t) pot)

  open_safe : (d : Dir) (s o p : ℕ) → Passed t (opens d s o p) → Safe (applies (steps t (opens d s o p)) t)
  open_safe d s o p m = safe_sound u (open_wf t v.wf d s o p m) (not_not (safe u) (m (enough (opens d s o p)) (inr (inr (inr (inl refl))))))
    where
      u : Tables
      u = apply (hold s p (some (handle d o))) t

module _ (t : Tables) (v : Sound t) where
  map_safe : (s o p : ℕ) → Passed t (maps s o p) → Safe (applies (steps t (maps s o p)) t)
  map_safe s o p m = let r = map_feeds t s o p v.wf m in
      pot_safe (pot_mix u r.potential reads (subject s) (object o) (cell t s) (object o) r.pot r.feeds)
    where
      u : Tables
      u = apply (hold s p (some (mapping o))) t

  access_safe : (d : Dir) (s p : ℕ) → Passed t (access d s p) → Safe (applies (steps t (access d s p)) t)
  access_safe d s p m = went d (let r = is_facing t d s p (m (taken s p) (inr (inl refl)))
      (m (facing d s p) (inr (inr (inl refl)))) in access_feeds t (needs t) v.wf (pot t v) d s p r.0 r.1 r.2)
    where
      x : Thing
      x = target (t.hand s p)

      written : Tables
      written = apply (mix writes x (subject s) x (cell t s)) t

      went : (d : Dir) → Feeds t (needs t) (arc d (cell t s) x).dst (arc d (cell t s) x).src → Safe (applies (steps t (access d s p)) t)
      went reading f = pot_safe (pot_mix t (needs t) reads (subject s) x (cell t s) x (pot t v) f)
      went writing f = pot_safe (rereads_keep (λ u. Going t (needs t) u) t x
          (λ m h u g. going_next t (needs t) v.for_reading x m h u g) written (going_written t (needs t) v.wf (pot t v) s x f)).pot

  exec_safe : (s o : ℕ) → T (not (broken t (present o))) → T (not (broken t (suits s o))) → Safe (applies (steps t (exec s o)) t)
  exec_safe s o h g = subst Safe (sym (applies_append (sheds t s) (mix runs (subject s) (object o) (cell t s) (object o) ∷ []) t))
      (pot_safe (pot_mix u (needs u) runs (subject s) (object o) (cell t s) (object o)
      (needs_pot (less_wf (sheds_less t s) v.wf) (less_safe t v u (sheds_less t s))) (exec_feeds t s o h g)))
    where
      u : Tables
      u = applies (sheds t s) t

  -- ── a new thing at s's label, its potential s's: fork and pipe ──
  module _ (s : ℕ) (hs : T (not (broken t (alive s)))) where
    own : (e : Entry) × (t.at (cell t s) ≡ some e)
    own = cell_entry t s (is_alive t s hs)

    under_own : needs t (cell t s) ⊑ label_of (t.at (cell t s))
    unfolding own
    under_own = subst (λ (o : Option Entry). needs t (cell t s) ⊑ label_of o) (sym own.1) (v.safe.above (cell t s) own.0 own.1)

    entered_pot : (x : Thing) (k : Kind) (g : Origin) → t.at x ≡ none → demand x (some (entry k (label_of (t.at (cell t s))))) ⊑ needs t (cell t s)
        → Pot (apply (enter x (entry k (label_of (t.at (cell t s)))) g) t) (but (needs t) x (needs t (cell t s)))
    entered_pot x k g n lo = pot_enter t (needs t) x (entry k (label_of (t.at (cell t s)))) g (needs t (cell t s)) v.wf (pot t v) n lo under_own

    fork_safe : (c : ℕ) → T (not (broken t (new (subject c)))) → Safe (applies (steps t (fork s c)) t)
    unfolding own
    fork_safe c hc = pot_safe (pot_hand u ψ (row t.hand c (t.hand s)) (entered_pot (subject c) running g n.1 bot_least) falls')
      where
        n : T (in_range (subject c)) × (t.at (subject c) ≡ none)
        n = is_new t (subject c) hc

        e : Entry
        e = entry running (label_of (t.at (cell t s)))

        g : Origin
        g = copied (cell t s)

        u : Tables
        u = apply (enter (subject c) e g) t

        ψ : Thing → Label
        ψ = but (needs t) (subject c) (needs t (cell t s))

        child : (x : Thing) → speaks u c ≡ some x → subject c ≡ x
        child x z = sym (cell_self u c) ∙ some-injective (cell u c) x (sym (speaks_cell u c) ∙ z)

        same_need : needs t (cell t s) ≡ ψ (subject c)
        same_need = sym (but_here (needs t) (subject c) (needs t (cell t s)))

        falls_child : (k : Handle) (d : Dir) → needs t (arc d (cell t s) (object k.to)).dst ⊑ needs t
            (arc d (cell t s) (object k.to)).src → ψ (arc d (subject c) (object k.to)).dst ⊑ ψ
            (arc d (subject c) (object k.to)).src
        falls_child k reading h = subst (λ (a : Label). a ⊑ needs t (object k.to)) same_need h
        falls_child k writing h = subst (λ (a : Label). needs t (object k.to) ⊑ a) same_need h

        falls' : (s' p : ℕ) (x : Thing) (k : Handle) → speaks u s' ≡ some x → row t.hand c (t.hand s) s' p ≡ some k →
            (t.hand s' p ≡ some k) ⊎ (ψ (flow x k).dst ⊑ ψ (flow x k).src)
        falls' s' p x k z q = elim (row_cases t.hand c (t.hand s) s' p (some k) q) [
          | inl r ↦ inr (subst (λ (y : Thing). ψ (flow y k).dst ⊑ ψ (flow y k).src) (child x (ap (speaks u) r.0 ∙ z))
              (falls_child k k.dir ((pot t v).falls s p (cell t s) k (speaks_cell t s) r.1)))
          | inr r ↦ inl r.1
        ]

    thread_safe : (c : ℕ) → T (not (broken t (new (subject c)))) → Safe (applies (steps t (thread s c)) t)
    unfolding own
    thread_safe c hc = pot_safe (pot_binds u ψ c s (entered_pot (subject c) running g n.1 bot_least) alike)
      where
        n : T (in_range (subject c)) × (t.at (subject c) ≡ none)
        n = is_new t (subject c) hc

        g : Origin
        g = copied (cell t s)

        u : Tables
        u = apply (enter (subject c) (entry running (label_of (t.at (cell t s)))) g) t

        ψ : Thing → Label
        ψ = but (needs t) (subject c) (needs t (cell t s))

        alike : ψ (subject c) ≡ ψ (subject s)
        alike = but_here (needs t) (subject c) (needs t (cell t s)) ∙ sym (but_other t (needs t) (subject c) (needs t (cell t s)) (cell t s) n.1 own)
            ∙ ap ψ (cell_self t s)

    pipe_safe : (o r w : ℕ) → Passed t (make_pipe s o r w) → Safe (applies (steps t (make_pipe s o r w)) t)
    unfolding own
    pipe_safe o r w m = pot_safe (pot_hold u₁ ψ s w (handle writing o)
        (pot_hold u ψ s r (handle reading o) (entered_pot (object o) pipe blank n.1 bot_least) (λ x z. rises x z))
        (λ x z. sinks x (sym (speaks_hand u (place u.hand s r (some (handle reading o))) s) ∙ z)))
      where
        n : T (in_range (object o)) × (t.at (object o) ≡ none)
        n = is_new t (object o) (m (new (object o)) (inr (inl refl)))

        e : Entry
        e = entry pipe (label_of (t.at (cell t s)))

        u : Tables
        u = apply (enter (object o) e blank) t

        u₁ : Tables
        u₁ = apply (hold s r (some (handle reading o))) u

        ψ : Thing → Label
        ψ = but (needs t) (object o) (needs t (cell t s))

        mine : (x : Thing) → speaks u s ≡ some x → ψ (object o) ≡ ψ x
        mine x z = but_here (needs t) (object o) (needs t (cell t s)) ∙ sym (but_other t (needs t) (object o) (needs t (cell t s)) (cell t s) n.1 own)
            ∙ ap ψ (some-injective (cell t s) x (sym (speaks_cell t s) ∙ sym (speaks_at t (put t.at (object o) (some e)) s) ∙ z))

        rises : (x : Thing) → speaks u s ≡ some x → ψ x ⊑ ψ (object o)
        rises x z = subst (λ (a : Label). a ⊑ ψ (object o)) (mine x z) ⊑_refl

        sinks : (x : Thing) → speaks u s ≡ some x → ψ (object o) ⊑ ψ x
        sinks x z = subst (λ (a : Label). ψ (object o) ⊑ a) (mine x z) ⊑_refl

  connect_safe : (s r a b p q : ℕ) → Passed t (connect s r a b p q) → Safe (applies (channel t s r a b p q) t)
  connect_safe s r a b p q m = safe_sound u (connect_wf t v.wf s r a b p q (λ e i h. m e i))
      (not_not (safe u) (m (enough (connect s r a b p q)) (inr (inr (inr (inr (inr (inr (inr (inr (inr (inr (inr (inl refl))))))))))))))
    where
      u : Tables
      u = applies (channel t s r a b p q) t

  call_safe : (c : Call) → Passed t c → Safe (applies (steps t c) t)
  call_safe (admit s n) m = enter_safe t v (subject s) (entry running n) outside (m (new (subject s)) (inl refl))
  call_safe (register o n) m = enter_safe t v (object o) (entry file n) outside (m (new (object o)) (inl refl))
  call_safe (create s o) m = enter_safe t v (object o) (entry file (label_of (t.at (cell t s)))) blank (m (new (object o)) (inr (inl refl)))
  call_safe (make_pipe s o r w) m = pipe_safe s (m (alive s) (inl refl)) o r w m
  call_safe (opens d s o p) m = open_safe t v d s o p m
  call_safe (access d s p) m = access_safe d s p m
  call_safe (fork s c) m = fork_safe s (m (alive s) (inl refl)) c (m (new (subject c)) (inr (inl refl)))
  call_safe (thread s c) m = thread_safe s (m (alive s) (inl refl)) c (m (new (subject c)) (inr (inl refl)))
  call_safe (exec s o) m = exec_safe s o (m (present o) (inr (inl refl))) (m (suits s o) (inr (inr (inr (inl refl)))))
  call_safe (close s p) m = less_safe t v (apply (hold s p none) t) (less_close t s p)
  call_safe (exit s) m = exit_safe t v s
  call_safe (retire o) m = retire_safe t v o
  call_safe (maps s o p) m = map_safe s o p m
  call_safe (mark s p) m = mark_safe t v s p (m (taken s p) (inr (inl refl)))
  call_safe (freeze n) m = less_safe t v (apply (freezes n) t) (less_freeze t n)
  call_safe (connect s r a b p q) m = connect_safe s r a b p q m
  call_safe unknown m = v.safe

-- ── pipes end ──
-- no level is below its need after an allowed call; the list of numbers is of no matter
pub stepped_pot : (t : Tables) (c : Call) → Sound t → refusal t c ≡ none → Pot (stepped t c) (needs (applies (steps t c) t))
stepped_pot t c v q = let m = (allowed_iff t c).0 q in let u = applies (steps t c) t in
    pot_reap (handles t) u (needs u) (needs_pot (call_wf t v.wf c m) (call_safe t v c m))

pub effect_safe : (t : Tables) (c : Call) → Sound t → refusal t c ≡ none → Safe (effect t c)
unfolding effect
effect_safe t c v q = pot_safe (less_pot (needs (applies (steps t c) t)) (less_numbers (stepped t c) _) (stepped_pot t c v q))
