-- A map of a file is refused as the open for reading of the same numbers is, and with no other number (RULES R119, R118). Two things that make no difference to refusal 9: whether an exec's need is taken with the caller's mappings or without them (RULES R110), and whether
-- a map is tested before the caller falls or after (RULES R119). Assumes nothing.
use Rattle.std.specs.Prelude.{◌≡◌, refl, Bool, true, false, not, ◌||◌, cond, ◌⊎◌, ◌↔◌, ℕ, T, eqb}
use Rattle.std.proofs.Common.{sym, ◌∙◌, ap, subst, subst₂, inl, inr, eqb→eq}
use Rattle.std.proofs.Math.Option.{Option, none, some, none-ne-some, some-injective}
use Rattle.model.specs.Bools.{yes_not_not, is_false}
use Rattle.model.specs.Lists.{In}
use Rattle.model.specs.Label.{Label, ◌⊑◌}
use Rattle.model.proofs.Label.Laws.{⊑_trans, ⊑-antisym}
use Rattle.model.specs.Flow.{Thing, subject, object, Edge, Reaches, here}
use Rattle.model.proofs.Flow.Laws.{reaches_in, reaches_snoc, need_upper, need_least}
use Rattle.model.specs.Tables.{Dir, reading, Entry, Handle, handle, mapping, Tables, is_some, is_pipe, label_of, cell, arc, flow, speaks, edges, demand, needs, safe, mates}
use Rattle.model.proofs.Tables.Laws.{some_of, some_is, speaks_hand, speaks_at, speaks_cell, flow_edge, edge_flow, cell_same}
use Rattle.model.specs.Steps.{reads, hold, holds, row, apply, applies, quits}
use Rattle.model.proofs.Steps.Laws.{sink_by, fall_some, fall_demand}
use Rattle.model.specs.Invariant.{Wf}
use Rattle.model.proofs.Invariant.Laws.{Pot, pot_safe, needs_pot, wf_mix, pot_mix}
use Rattle.model.specs.Calls.{opens, maps, lasting, sheds, steps, Test, number, alive, present, no_pipe, vacant, enough, broken, order, earlier, InOrder, refusal}
use Rattle.model.proofs.Calls.Refusals.{refusal_same}
use Rattle.model.proofs.Calls.Passed.{Passed}
use Rattle.model.proofs.Calls.Mapped.{sink_label}
use Rattle.model.proofs.Calls.Dangling.{placed_wf}
use Rattle.model.proofs.Calls.Sound.{safe_sound, safe_complete, pot_swap, map_feeds}
use Rattle.model.proofs.Calls.Needs.{share_in}
use Rattle.model.specs.Demand2.{opened}

-- ── a map is refused as the open for reading is ──
-- RULES R118, R119: no test but that of a pipe tells them apart; the freeze asks nothing of either
pub map_as_open : (t : Tables) (s o p : ℕ) → T (not (is_pipe (object o) (t.at (object o)))) → refusal t (maps s o p) ≡ refusal t (opens reading s o p)
map_as_open t s o p n = refusal_same t (maps s o p) (opens reading s o p) (λ k. ap (λ (b : Bool). with_number k (alive s) || (with_number k (present o) || b))
    (ap (λ (b : Bool). b || (with_number k (vacant s p) || (with_number k (enough (opens reading s o p)) || false)))
    (quiet (eqb 5 k) (broken t (no_pipe o)) (is_false (broken t (no_pipe o)) n))
    ∙ ap (λ (b : Bool). with_number k (vacant s p) || (with_number k (enough (opens reading s o p)) || (b || false))) (sym (quiet (eqb 15 k) false refl))))
  where
    -- a test that counts where it has this number
    with_number : ℕ → Test → Bool
    with_number k d = elim (eqb (number d) k) as (λ _. Bool) [ true ↦ broken t d | false ↦ false ]

    -- a test that passes counts nowhere
    quiet : (b x : Bool) → x ≡ false → elim b as (λ _. Bool) [ true ↦ x | false ↦ false ] ≡ false
    quiet true x q = q
    quiet false x q = refl

-- ── an exec, with the caller's mappings or without them ──
-- flows that are missing and lead to c itself take nothing from what c reaches
needs_under : (t u : Tables) (c : Thing) → t.at ≡ u.at → ((e : Edge) → In e (edges t) → In e (edges u) ⊎ (e.dst ≡ c)) → needs t c ⊑ needs u c
needs_under t u c q f = need_least (edges t) (λ y. demand y (t.at y)) c (needs u c) (λ y r. subst (λ (a : Thing → Option Entry). demand y (a y) ⊑ needs u c) (sym q)
    (need_upper (edges u) (λ z. demand z (u.at z)) (reaches_in (Reaches (edges u) c) (λ e i p. step e (f e i) p) r (here refl))))
  where
    step : (e : Edge) → In e (edges u) ⊎ (e.dst ≡ c) → Reaches (edges u) c e.src → Reaches (edges u) c e.dst
    step e (inl i) r = reaches_snoc e i r refl
    step e (inr q) r = here (sym q)

-- a place without its handle where that is marked
abbrev unmarked : Option Handle → Option Handle
unmarked none = none
unmarked (some k) = cond k.marked none (some k)

-- a row h₀ of s, with its mappings or without them
shed_either : (t : Tables) (s : ℕ) (h₀ : ℕ → Option Handle) → ((p : ℕ) (k : Handle) → h₀ p ≡ some k → T k.mapped → k.dir ≡ reading)
    → needs (apply (holds s (λ p. lasting (h₀ p))) t) (cell t s) ≡ needs (apply (holds s (λ p. unmarked (h₀ p))) t) (cell t s)
shed_either t s h₀ v = ⊑-antisym (needs_under u m (cell t s) refl fewer) (needs_under m u (cell t s) refl back)
  where
    u : Tables
    u = apply (holds s (λ p. lasting (h₀ p))) t

    m : Tables
    m = apply (holds s (λ p. unmarked (h₀ p))) t

    -- what lasts is not marked
    was : (o : Option Handle) (k : Handle) → lasting o ≡ some k → unmarked o ≡ some k
    was none k q = q
    was (some j) k q = go j.marked j.mapped q
      where
        go : (a b : Bool) → cond (a || b) none (some j) ≡ some k → cond a none (some j) ≡ some k
        go true b q = q
        go false true q = absurd (none-ne-some k q)
        go false false q = q

    -- what is not marked lasts, but for mappings
    lasts : (o : Option Handle) (k : Handle) → unmarked o ≡ some k → (lasting o ≡ some k) ⊎ ((o ≡ some k) × T k.mapped)
    lasts none k q = inl q
    lasts (some j) k q = go j.marked j.mapped refl q
      where
        go : (a b : Bool) → j.mapped ≡ b → cond a none (some j) ≡ some k → (cond (a || b) none (some j) ≡ some k) ⊎ ((some j ≡ some k) × T k.mapped)
        go true b e q = absurd (none-ne-some k q)
        go false true e q = inr (q, subst (λ (z : Handle). T z.mapped) (some-injective j k q) (subst T (sym e) tt))
        go false false e q = inl q

    hu : ℕ → ℕ → Option Handle
    hu = row t.hand s (λ p. lasting (h₀ p))

    hm : ℕ → ℕ → Option Handle
    hm = row t.hand s (λ p. unmarked (h₀ p))

    fewer : (e : Edge) → In e (edges u) → In e (edges m) ⊎ (e.dst ≡ cell t s)
    fewer e i = elim (edge_flow u e i) [
      | inr r ↦ inl (share_in m refl r)
      | inl r ↦ inl (subst (λ (z : Edge). In z (edges m)) r.is
          (flow_edge m r.s r.p r.x r.k r.low_s r.low_p (speaks_hand t hm r.s ∙ sym (speaks_hand t hu r.s) ∙ r.speaker)
          (go (eqb s r.s) (t.hand r.s r.p) (h₀ r.p) r.k r.holds)))
    ]
      where
        go : (b : Bool) (o h : Option Handle) (k : Handle) → cond b (lasting h) o ≡ some k → cond b (unmarked h) o ≡ some k
        go true o h k q = was h k q
        go false o h k q = q

    back : (e : Edge) → In e (edges m) → In e (edges u) ⊎ (e.dst ≡ cell t s)
    back e i = elim (edge_flow m e i) [
      | inr r ↦ inl (share_in u refl r)
      | inl r ↦ (let z = sym (speaks_hand t hm r.s) ∙ r.speaker in
          go (eqb s r.s) r.s (eqb→eq s r.s) r.p r.x r.k z r.is
          (λ h. flow_edge u r.s r.p r.x r.k r.low_s r.low_p (speaks_hand t hu r.s ∙ z) h) r.holds)
    ]
      where
        go : (b : Bool) (s' : ℕ) → (T b → s ≡ s') → (p : ℕ) (x : Thing) (k : Handle) → speaks t s' ≡ some x → flow x k ≡ e
            → (cond b (lasting (h₀ p)) (t.hand s' p) ≡ some k → In (flow x k) (edges u))
            → cond b (unmarked (h₀ p)) (t.hand s' p) ≡ some k → In e (edges u) ⊎ (e.dst ≡ cell t s)
        go false s' j p x k z d f q = inl (subst (λ (y : Edge). In y (edges u)) d (f q))
        go true s' j p x k z d f q = elim (lasts (h₀ p) k q) [
          | inl h ↦ inl (subst (λ (y : Edge). In y (edges u)) d (f h))
          | inr h ↦ inr (sym (ap (λ (y : Edge). y.dst) d) ∙ ap (λ (w : Dir). (arc w x (object k.to)).dst) (v p k h.0 h.1)
              ∙ some-injective x (cell t s) (sym z ∙ sym (ap (speaks t) (j tt)) ∙ speaks_cell t s))
        ]

-- RULES R110: where the mappings of s are for reading, its need without them, the other members of its group gone, is its need with them
pub mappings_no_matter : (t : Tables) (s : ℕ) → ((p : ℕ) (k : Handle) → t.hand s p ≡ some k → T k.mapped → k.dir ≡ reading)
    → needs (applies (sheds t s) t) (cell t s) ≡ needs (apply (holds s (λ p. unmarked (t.hand s p))) (apply (quits (mates t s)) t)) (cell t s)
unfolding sheds
mappings_no_matter t s v = ap (needs (apply (holds s (λ p. lasting (t.hand s p))) u)) (cell_same t u s) ∙ shed_either u s (t.hand s) v
    ∙ ap (needs (apply (holds s (λ p. unmarked (t.hand s p))) u)) (cell_same u t s)
  where
    u : Tables
    u = apply (quits (mates t s)) t

-- ── a map, before the fall or after it ──
-- RULES R119: in the tables with the new mapping every level is enough before s falls if and only if it is after
pub map_either_way : (t : Tables) → Wf t → (s o p : ℕ) → InOrder t (maps s o p) 9
    → T (safe (opened t reading s o p)) ↔ T (safe (applies (steps t (maps s o p)) t))
map_either_way t w s o p f = (to, from)
  where
    u : Tables
    u = apply (hold s p (some (mapping o))) t

    fallen : Tables
    fallen = applies (steps t (maps s o p)) t

    ok : (k : Handle) → k.to ≡ o → Wf (apply (hold s p (some k)) t)
    ok k q = placed_wf t w s p k (f (alive s) (inl refl) tt) (subst (λ (n : ℕ). T (not (broken t (present n)))) (sym q) (f (present o) (inr (inl refl)) tt))
        (f (vacant s p) (inr (inr (inr (inl refl)))) tt)

    passed : T (safe (opened t reading s o p)) → Passed t (maps s o p)
    passed h e (inl z) = f e (inl z) (subst (λ (k : Test). T (earlier (number k) 9 order)) z tt)
    passed h e (inr (inl z)) = f e (inr (inl z)) (subst (λ (k : Test). T (earlier (number k) 9 order)) z tt)
    passed h e (inr (inr (inl z))) = f e (inr (inr (inl z))) (subst (λ (k : Test). T (earlier (number k) 9 order)) z tt)
    passed h e (inr (inr (inr (inl z)))) = f e (inr (inr (inr (inl z)))) (subst (λ (k : Test). T (earlier (number k) 9 order)) z tt)
    passed h e (inr (inr (inr (inr (inl z))))) = subst (λ (k : Test). T (not (broken t k))) z (yes_not_not (safe (opened t reading s o p)) h)
    passed h e (inr (inr (inr (inr (inr z))))) = absurd z

    to : T (safe (opened t reading s o p)) → T (safe fallen)
    to h = let r = map_feeds t s o p w (passed h) in
        safe_complete fallen (pot_safe (pot_mix u r.potential reads (subject s) (object o) (cell t s) (object o) r.pot r.feeds))

    -- the potential of the tables after the fall is one of those before it: no level was lower
    before : Pot fallen (needs fallen) → Pot u (needs fallen)
    before i = record {
      low = λ x. subst (λ (l : Label). l ⊑ needs fallen x) (demanded x) (i.low x);
      cap = λ x e q. (let r = there x e q in ⊑_trans (i.cap x r.0 r.1) r.2);
      falls = λ s' p' x k z q. i.falls s' p' x k (speaks_at u fallen.at s' ∙ z) q;
      shares = i.shares;
    }
      where
        demanded : (x : Thing) → demand x (fallen.at x) ≡ demand x (t.at x)
        demanded x = sink_by (λ w o. demand w o ≡ demand w (t.at w)) u (cell t s) (t.at (object o)) x refl (λ b. fall_demand x (t.at x) (t.at (object o)))

        there : (x : Thing) (e : Entry) → t.at x ≡ some e → (d : Entry) × (fallen.at x ≡ some d) × (d.label ⊑ e.label)
        there x e q = let d = some_of (fallen.at x) (sink_by (λ w o. T (is_some o)) u (cell t s) (t.at (object o)) x (some_is q)
            (λ b. fall_some x (t.at x) (t.at (object o)) (some_is q))) in
            (d.0, d.1, subst₂ (λ (a b : Option Entry). label_of a ⊑ label_of b) d.1 q (sink_label u (cell t s) (object o) x))

    from : T (safe fallen) → T (safe (opened t reading s o p))
    from h = safe_complete (opened t reading s o p) (pot_safe (pot_swap t (needs fallen) s p (mapping o) (handle reading o) refl refl
        (before (needs_pot after (safe_sound fallen after h)))))
      where
        after : Wf fallen
        after = wf_mix u reads (subject s) (object o) (cell t s) (object o) (ok (mapping o) refl)
