-- Handles that are told although they are gone, or are not told because they are spare. With fewer handles no allowed open, and no allowed exec, becomes refused
-- (RULES R9): a host may leave closes out, as long as it tells them before it goes by a refusal. A second handle of a subject on the same object, in the same
-- direction, changes no reach (RULES F4): a copy of a handle need not be told. Of all tables in which no handle dangles. Assumes nothing.
use Rattle.std.specs.Prelude.{◌≡◌, refl, Bool, true, false, not, ◌&&◌, cond, ◌⊎◌, ◌↔◌, List, ℕ, ◌<◌, T, eqb, ltb}
use Rattle.std.proofs.Common.{sym, ◌∙◌, ap, ap₂, subst₂, inl, inr, T_not}
use Rattle.std.proofs.Math.Path.{subst, fun_ext}
use Rattle.std.proofs.Math.Option.{Option, none, some, none-ne-some}
use Rattle.std.proofs.Math.Dec.{eqb_refl}
use Rattle.model.specs.Bools.{not_not, yes_not_not, neither, nor, cond_yes, cond_no}
use Rattle.model.specs.Lists.{In}
use Rattle.model.specs.Label.{leq, ◌⊑◌}
use Rattle.model.proofs.Label.Laws.{⊑_trans, ⊑-antisym, bot_least}
use Rattle.model.specs.Flow.{Thing, subject, object, Edge, Reaches, here, step}
use Rattle.model.proofs.Flow.Laws.{need_self, need_flow, need_below}
use Rattle.model.proofs.Flow.Changes.{Sub, Adds, remove_twin}
use Rattle.model.specs.Tables.{Dir, Entry, Handle, handle, Tables, with_hand, places, in_range, is_some, live, label_of, is_pipe, cell, handles, arc, flow, speaks, edges, demand, needs, safe, mates}
use Rattle.model.proofs.Tables.Laws.{used_is, some_is, object_entry, flow_edge, edge_flow, speaks_hand, speaks_at, speaks_numbers, speaks_kin, cell_same}
use Rattle.model.specs.Steps.{hold, holds, quits, row, place, without, vacated, parted, apply, applies, ended, reap}
use Rattle.model.proofs.Steps.Laws.{row_cases, place_cases, place_apart, ended_subject}
use Rattle.model.specs.Invariant.{Wf, Safe}
use Rattle.model.proofs.Invariant.Laws.{row_below, less_close}
use Rattle.model.specs.Calls.{Test, opens, exec, close, lasting, sheds, shut, effect, refusal, next, alive, vacant, no_pipe, enough, suits, thawed, broken}
use Rattle.model.proofs.Calls.Passed.{Passed}
use Rattle.model.proofs.Calls.Refusals.{allowed_iff}
use Rattle.model.proofs.Calls.Dangling.{open_wf}
use Rattle.model.proofs.Calls.Sound.{safe_sound, safe_complete}
use Rattle.model.proofs.Calls.Needs.{wf_ranged, edge_in, hold_adds, share_in}

-- ── with fewer handles no allowed open becomes refused ──
-- u is t without some handles, and without some pipes
pub record Fewer (t u : Tables) : Type 0 where
  pub was_at : (x : Thing) (e : Entry) → u.at x ≡ some e → t.at x ≡ some e
  pub subjects_stay : (s : ℕ) → u.at (subject s) ≡ t.at (subject s)
  pub hands : (s p : ℕ) (k : Handle) → u.hand s p ≡ some k → t.hand s p ≡ some k
  pub talks : (s : ℕ) (x : Thing) → speaks u s ≡ some x → speaks t s ≡ some x
  pub groups : u.kin ≡ t.kin
  pub same_freeze : u.freeze ≡ t.freeze

module _ {t u : Tables} (f : Fewer t u) where
  fewer_edges : (e : Edge) → In e (edges u) → In e (edges t)
  fewer_edges e i = elim (edge_flow u e i) [
    | inl r ↦ subst (λ (z : Edge). In z (edges t)) r.is
        (flow_edge t r.s r.p r.x r.k r.low_s r.low_p (f.talks r.s r.x r.speaker) (f.hands r.s r.p r.k r.holds))
    | inr r ↦ share_in t f.groups r
  ]

  -- RULES F7
  pub fewer_needs : (x : Thing) → needs u x ⊑ needs t x
  fewer_needs = need_below (edges u) (λ y. demand y (u.at y)) (needs t) (λ y. low y (u.at y) (f.was_at y))
      (λ e i. need_flow (edges t) (λ y. demand y (t.at y)) e (fewer_edges e i))
    where
      low : (y : Thing) (o : Option Entry) → ((e : Entry) → o ≡ some e → t.at y ≡ some e) → demand y o ⊑ needs t y
      low y none g = bot_least
      low y (some e) g = subst (λ (o : Option Entry). demand y o ⊑ needs t y) (g e refl) (need_self (edges t) (λ y. demand y (t.at y)) y)

  fewer_safe : Safe t → Safe u
  fewer_safe v = record { above = λ x e q. ⊑_trans (fewer_needs x) (v.above x e (f.was_at x e q)) }

  -- the same handle comes in both
  fewer_hold : (s p : ℕ) (k : Handle) → Fewer (apply (hold s p (some k)) t) (apply (hold s p (some k)) u)
  fewer_hold s p k = record {
    was_at = f.was_at;
    subjects_stay = f.subjects_stay;
    hands = λ s' p' j q. more (eqb s s') (eqb p p') (u.hand s p') (u.hand s' p') (t.hand s p') (t.hand s' p') j (f.hands s p') (f.hands s' p') q;
    talks = λ n x z. speaks_hand t (place t.hand s p (some k)) n ∙ f.talks n x (sym (speaks_hand u (place u.hand s p (some k)) n) ∙ z);
    groups = f.groups;
    same_freeze = f.same_freeze;
  }
    where
      more : (a b : Bool) (g h g' h' : Option Handle) (j : Handle) → ((i : Handle) → g ≡ some i → g' ≡ some i) → ((i : Handle) → h ≡ some i → h' ≡ some i)
          → cond a (cond b (some k) g) h ≡ some j → cond a (cond b (some k) g') h' ≡ some j
      more true true g h g' h' j m n q = q
      more true false g h g' h' j m n q = m j q
      more false b g h g' h' j m n q = n j q

  object_there : (o : ℕ) → T (live u (object o)) → u.at (object o) ≡ t.at (object o)
  object_there o h = let r = object_entry u o h in r.1 ∙ sym (f.was_at (object o) r.0 r.1)

  still : (s : ℕ) → T (not (broken t (alive s))) → T (not (broken u (alive s)))
  still s h = subst (λ (b : Bool). T (not (not (in_range (subject s) && b)))) (used_is t (subject s) ∙ ap is_some (sym (f.subjects_stay s)) ∙ sym (used_is u (subject s))) h

  -- the subjects that end, and the handles that go, are the same in both
  fewer_quits : (g : Thing → Bool) → Fewer (apply (quits g) t) (apply (quits g) u)
  fewer_quits g = record {
    was_at = λ x e q. left (g x) (t.at x) (u.at x) e (f.was_at x) q;
    subjects_stay = λ n. ap (cond (g (subject n)) none) (f.subjects_stay n);
    hands = λ n p k q. left (g (subject n)) (t.hand n p) (u.hand n p) k (f.hands n p) q;
    talks = λ n x z. quits_speaks t g n ∙ f.talks n x (sym (quits_speaks u g n) ∙ z);
    groups = ap (parted g) f.groups;
    same_freeze = f.same_freeze;
  }
    where
      left : {A : Type 0} (b : Bool) (o v : Option A) (a : A) → ((a : A) → v ≡ some a → o ≡ some a) → cond b none v ≡ some a → cond b none o ≡ some a
      left true o v a h q = q
      left false o v a h q = h a q

      quits_speaks : (w : Tables) (g : Thing → Bool) (n : ℕ) → speaks (apply (quits g) w) n ≡ speaks w n
      quits_speaks w g n = speaks_kin (without g (with_hand w (vacated g w.hand))) (parted g w.kin) n
          ∙ speaks_at (with_hand w (vacated g w.hand)) (λ x. cond (g x) none (w.at x)) n ∙ speaks_hand w (vacated g w.hand) n

  fewer_holds : (s : ℕ) (r r' : ℕ → Option Handle) → ((p : ℕ) (k : Handle) → r' p ≡ some k → r p ≡ some k) → Fewer (apply (holds s r) t) (apply (holds s r') u)
  fewer_holds s r r' h = record {
    was_at = f.was_at;
    subjects_stay = f.subjects_stay;
    hands = λ n p k q. go (eqb s n) n p k q;
    talks = λ n x z. speaks_hand t (row t.hand s r) n ∙ f.talks n x (sym (speaks_hand u (row u.hand s r') n) ∙ z);
    groups = f.groups;
    same_freeze = f.same_freeze;
  }
    where
      go : (b : Bool) (n p : ℕ) (k : Handle) → cond b (r' p) (u.hand n p) ≡ some k → cond b (r p) (t.hand n p) ≡ some k
      go true n p k q = h p k q
      go false n p k q = f.hands n p k q

  same_mates : (s : ℕ) → mates u s ≡ mates t s
  same_mates s = fun_ext (λ x. go x)
    where
      go : (x : Thing) → mates u s x ≡ mates t s x
      go (subject m) = ap (λ (k : ℕ → ℕ → Bool). not (eqb s m) && k s m) f.groups
      go (object o) = refl

-- what an exec drops, the mates g of s and handles of s, it drops in both
abbrev shed : (Thing → Bool) → ℕ → Tables → Tables
shed g s t = apply (holds s (λ p. lasting (t.hand s p))) (apply (quits g) t)

fewer_shed : {t u : Tables} → Fewer t u → (g : Thing → Bool) (s : ℕ) → Fewer (shed g s t) (shed g s u)
fewer_shed {t} {u} f g s = fewer_holds (fewer_quits f g) s (λ p. lasting (t.hand s p)) (λ p. lasting (u.hand s p))
    (λ p k q. lasts (u.hand s p) (t.hand s p) k (f.hands s p) q)
  where
    lasts : (v o : Option Handle) (k : Handle) → ((k : Handle) → v ≡ some k → o ≡ some k) → lasting v ≡ some k → lasting o ≡ some k
    lasts none o k h q = absurd (none-ne-some k q)
    lasts (some j) o k h q = ap lasting (h j refl) ∙ q

fewer_sheds : {t u : Tables} → Fewer t u → (s : ℕ) → Fewer (applies (sheds t s) t) (applies (sheds u s) u)
unfolding sheds
fewer_sheds {t} {u} f s = subst (λ (g : Thing → Bool). Fewer (shed (mates t s) s t) (shed g s u)) (sym (same_mates f s)) (fewer_shed f (mates t s) s)

module _ {t u : Tables} (f : Fewer t u) where
  -- RULES R2, R4, R7, R9, R15: where the object is there; a pipe that has ended is refused with 4
  pub fewer_opens : Wf t → (d : Dir) (s o p : ℕ) → T (live u (object o)) → refusal t (opens d s o p) ≡ none → refusal u (opens d s o p) ≡ none
  fewer_opens w d s o p lo q = (allowed_iff u (opens d s o p)).1 passed
    where
      m : Passed t (opens d s o p)
      m = (allowed_iff t (opens d s o p)).0 q

      t' : Tables
      t' = apply (hold s p (some (handle d o))) t

      u' : Tables
      u' = apply (hold s p (some (handle d o))) u

      empty_too : (v : Option Handle) → u.hand s p ≡ v → T (not (is_some (t.hand s p))) → T (not (is_some v))
      empty_too none z h = tt
      empty_too (some k) z h = absurd (T_not (is_some (t.hand s p)) h (some_is (f.hands s p k z)))

      passed : Passed u (opens d s o p)
      passed e (inl z) = subst (λ (k : Test). T (not (broken u k))) z (still f s (m (alive s) (inl refl)))
      passed e (inr (inl z)) = subst (λ (k : Test). T (not (broken u k))) z (yes_not_not (live u (object o)) lo)
      passed e (inr (inr (inl z))) = let r = neither (not (ltb p places)) (is_some (t.hand s p)) (m (vacant s p) (inr (inr (inl refl)))) in
          subst (λ (k : Test). T (not (broken u k))) z (nor (not (ltb p places)) (is_some (u.hand s p)) r.0 (empty_too (u.hand s p) refl r.1))
      passed e (inr (inr (inr (inl z)))) = subst (λ (k : Test). T (not (broken u k))) z (yes_not_not (safe u') (safe_complete u'
          (fewer_safe (fewer_hold f s p (handle d o)) (safe_sound t' (open_wf t w d s o p m) (not_not (safe t') (m (enough (opens d s o p)) (inr (inr (inr (inl refl))))))))))
      passed e (inr (inr (inr (inr (inl z))))) = subst (λ (k : Test). T (not (broken u k))) z
          (subst₂ (λ (n : ℕ) (v : Option Entry). T (not (shut n d (object o) v))) (sym f.same_freeze) (sym (object_there f o lo))
          (m (thawed d o) (inr (inr (inr (inr (inl refl)))))))
      passed e (inr (inr (inr (inr (inr z))))) = absurd z

  -- RULES R2, R4, R5, R9: nor an exec
  pub fewer_execs : (s o : ℕ) → T (live u (object o)) → refusal t (exec s o) ≡ none → refusal u (exec s o) ≡ none
  fewer_execs s o lo q = (allowed_iff u (exec s o)).1 passed
    where
      m : Passed t (exec s o)
      m = (allowed_iff t (exec s o)).0 q

      enough_left : needs (applies (sheds u s) u) (cell u s) ⊑ label_of (u.at (object o))
      enough_left = subst₂ (λ (x : Thing) (v : Option Entry). needs (applies (sheds u s) u) x ⊑ label_of v) (cell_same t u s) (sym (object_there f o lo))
          (⊑_trans (fewer_needs (fewer_sheds f s) (cell t s))
          (record { tested = not_not (leq (needs (applies (sheds t s) t) (cell t s)) (label_of (t.at (object o)))) (m (suits s o) (inr (inr (inr (inl refl))))) }))

      passed : Passed u (exec s o)
      passed e (inl z) = subst (λ (k : Test). T (not (broken u k))) z (still f s (m (alive s) (inl refl)))
      passed e (inr (inl z)) = subst (λ (k : Test). T (not (broken u k))) z (yes_not_not (live u (object o)) lo)
      passed e (inr (inr (inl z))) = subst (λ (k : Test). T (not (broken u k))) z
          (subst (λ (v : Option Entry). T (not (is_pipe (object o) v))) (sym (object_there f o lo)) (m (no_pipe o) (inr (inr (inl refl)))))
      passed e (inr (inr (inr (inl z)))) = subst (λ (k : Test). T (not (broken u k))) z
          (yes_not_not (leq (needs (applies (sheds u s) u) (cell u s)) (label_of (u.at (object o)))) enough_left.tested)
      passed e (inr (inr (inr (inr z)))) = absurd z

-- a close is such a change, and so are many
pub fewer_same : {t : Tables} → Fewer t t
fewer_same = record { was_at = λ x e q. q; subjects_stay = λ s. refl; hands = λ s p k q. q; talks = λ s x z. z; groups = refl; same_freeze = refl }

pub fewer_on : {t u v : Tables} → Fewer t u → Fewer u v → Fewer t v
fewer_on f g = record {
  was_at = λ x e q. f.was_at x e (g.was_at x e q);
  subjects_stay = λ s. g.subjects_stay s ∙ f.subjects_stay s;
  hands = λ s p k q. f.hands s p k (g.hands s p k q);
  talks = λ s x z. f.talks s x (g.talks s x z);
  groups = g.groups ∙ f.groups;
  same_freeze = g.same_freeze ∙ f.same_freeze;
}

pub fewer_close : (t : Tables) (s p : ℕ) → Fewer t (next t (close s p))
unfolding effect
fewer_close t s p = go (refusal t (close s p))
  where
    u : Tables
    u = apply (hold s p none) t

    r : Tables
    r = reap (handles t) u

    left : (b : Bool) (o : Option Entry) (e : Entry) → cond b none o ≡ some e → o ≡ some e
    left true o e q = absurd (none-ne-some e q)
    left false o e q = q

    closed : Fewer t (effect t (close s p))
    closed = record {
      was_at = λ x e q. left (ended (handles t) (handles u) x (t.at x)) (t.at x) e q;
      subjects_stay = λ n. cond_no (ended (handles t) (handles u) (subject n) (t.at (subject n))) none (t.at (subject n))
          (ended_subject (handles t) (handles u) n (t.at (subject n)));
      hands = (less_close t s p).hands;
      talks = λ n x z. sym (speaks_hand t (place t.hand s p none) n) ∙ sym (speaks_at u r.at n) ∙ sym (speaks_numbers r _ n) ∙ z;
      groups = refl;
      same_freeze = refl;
    }

    go : (o : Option ℕ) → Fewer t (elim o as (λ _. Tables) [ none ↦ effect t (close s p) | some n ↦ t ])
    go none = closed
    go (some n) = fewer_same

-- ── a spare handle changes no reach ──
reaches_sub : {es ds : List Edge} {x y : Thing} → Sub es ds → Reaches es x y → Reaches ds x y
reaches_sub m (here q) = here q
reaches_sub m (step e i q r) = step e (m.all e i) q (reaches_sub m r)

-- s holds the handle j at q, and k, on the same object and in the same direction, comes to the empty place p
module _ (t : Tables) (w : Wf t) (s p q : ℕ) (j k : Handle) (held : t.hand s q ≡ some j) (way : j.dir ≡ k.dir) (on : j.to ≡ k.to) (free : t.hand s p ≡ none)
    (low : p < places) where
  abbrev spare : Tables
  spare = apply (hold s p (some k)) t

  adds : Adds (flow (subject s) k) (edges t) (edges spare)
  adds = hold_adds t s p k w (row_below (w.ends s q j held)) low free

  twin : In (flow (subject s) k) (edges t)
  twin = subst₂ (λ (d : Dir) (o : ℕ). In (arc d (subject s) (object o)) (edges t)) way on (edge_in t (wf_ranged w) held held)

  -- RULES F4
  pub spare_reach : (x y : Thing) → Reaches (edges spare) x y ↔ Reaches (edges t) x y
  spare_reach x y = (
    reaches_sub (record { all = λ e i. elim (adds.only e i) [ inl h ↦ h | inr z ↦ subst (λ (d : Edge). In d (edges t)) z twin ] }),
    reaches_sub adds.more,
  )

  -- RULES F7: nor a need
  pub spare_needs : (x : Thing) → needs spare x ≡ needs t x
  spare_needs x = sym (remove_twin (λ y. demand y (t.at y)) adds twin x)

  -- RULES C10, R110: nor what an exec asks, where the two are marked alike
  pub spare_execs : j ≡ k → (x : Thing) → needs (applies (sheds spare s) spare) x ≡ needs (applies (sheds t s) t) x
  unfolding sheds
  spare_execs alike x = subst (λ (g : Thing → Bool). needs (shed g s spare) x ≡ needs v x) (same_mates fewer_spare s) (⊑-antisym
      (need_below (edges u) (λ y. demand y (u.at y)) (needs v) (need_self (edges v) (λ y. demand y (v.at y)))
      (λ e i. need_flow (edges v) (λ y. demand y (v.at y)) e (was e i)) x) (fewer_needs (fewer_shed fewer_spare (mates t s) s) x))
    where
      u : Tables
      u = shed (mates t s) s spare

      v : Tables
      v = shed (mates t s) s t

      fewer_spare : Fewer spare t
      fewer_spare = record {
        was_at = λ x e q. q;
        subjects_stay = λ n. refl;
        hands = less_spare;
        talks = λ n y z. speaks_hand t (place t.hand s p (some k)) n ∙ z;
        groups = refl;
        same_freeze = refl;
      }
        where
          less_spare : (n r : ℕ) (i : Handle) → t.hand n r ≡ some i → place t.hand s p (some k) n r ≡ some i
          less_spare n r i z = elim (place_cases t.hand s p (some k) n r (place t.hand s p (some k) n r) refl)
              [ inl c ↦ absurd (none-ne-some i (sym free ∙ ap₂ t.hand c.0 c.1 ∙ z)) | inr c ↦ sym c ∙ z ]

      at_row : (r : ℕ) (i : Handle) → lasting (t.hand s r) ≡ some i → v.hand s r ≡ some i
      at_row r i z = cond_yes (eqb s s) (lasting (t.hand s r)) (vacated (mates t s) t.hand s r) (eqb_refl s) ∙ z

      -- a handle that is left stands at its place without the spare one, or the other one of the two does
      left : (n r : ℕ) (i : Handle) → u.hand n r ≡ some i → v.hand n r ≡ some i ⊎ ((s ≡ n) × (v.hand s q ≡ some i))
      left n r i z = elim (row_cases (vacated (mates t s) spare.hand) s (λ m. lasting (spare.hand s m)) n r (some i) z) [
        | inl c ↦ elim (place_cases t.hand s p (some k) s r (spare.hand s r) refl) [
          | inl d ↦ inr (c.0, at_row q i (ap lasting (held ∙ ap {B = Option Handle} some alike ∙ d.2) ∙ c.1))
          | inr d ↦ inl (subst (λ (m : ℕ). v.hand m r ≡ some i) c.0 (at_row r i (ap lasting d ∙ c.1)))
        ]
        | inr c ↦ inl (cond_no (eqb s n) (lasting (t.hand s r)) (vacated (mates t s) t.hand n r) c.0
            ∙ ap (cond (mates t s (subject n)) none) (sym (place_apart t.hand s p (some k) n r c.0)) ∙ c.1)
      ]

      was : (e : Edge) → In e (edges u) → In e (edges v)
      was e i = elim (edge_flow u e i) [
        | inl r ↦ (let says = sym (speaks_hand v u.hand r.s) ∙ r.speaker in subst (λ (z : Edge). In z (edges v)) r.is
            (elim (left r.s r.p r.k r.holds) [
              | inl h ↦ flow_edge v r.s r.p r.x r.k r.low_s r.low_p says h
              | inr h ↦ flow_edge v r.s q r.x r.k r.low_s (w.ends s q j held).place says (subst (λ (m : ℕ). v.hand m q ≡ some r.k) h.0 h.1)
            ]))
        | inr r ↦ share_in v refl r
      ]
