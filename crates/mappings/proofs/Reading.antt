-- Who has a file mapped, worked out handle by handle and by leads, is what the rules ask; the subjects once these and their mates have taken it in are
-- the tables after the rules' reads; and a label that fell is found by comparing the subjects. Assumes nothing.
use mathlib.Core.Path.{◌≡◌, refl, sym, ◌∙◌, ap, subst, subst₂, fun_ext}
use mathlib.Core.Bool.{Bool, true, false, not, ◌||◌, ◌&&◌, cond}
use mathlib.Core.Logic.{inl}
use mathlib.Core.Option.{Option, none, some, none-ne-some, some-injective}
use mathlib.Core.List.{List}
use Prim.Native.Nat.{ℕ, zero, suc, ◌+◌, ◌*◌, ◌/◌, ◌%◌, ◌<◌, min}
use native.Mathlib.Omega.{arith}
use native.Mathlib.Decide.{dec_lt}
use borrow.Author.Tests.{lt-ltb, ne_eqb}
use Rattle.std.specs.Bool.{MatchBool}
use Rattle.std.specs.List.{zip, AllWithin, HoldsAt}
use Rattle.std.proofs.lemmas.Slice.Zip.{length-zip, get_or-zip}
use lib.ListN.{length, get_or, get_or-eq_default}
use lib.Bits.{bit_and}
use lib.Dec.{T, eqb, eqb→eq, eqb_refl, lt→ltb}
use Rattle.model.specs.Bools.{both, both_of, is_true, not_not}
use Rattle.model.specs.Lists.{In}
use Rattle.model.specs.Lists.Laws.{in_each, any_of}
use Rattle.model.specs.Label.{Label, leq, ◌⊑◌, meet, label}
use Rattle.model.proofs.Label.Laws.{⊑_refl, meet_labels}
use Rattle.model.specs.Flow.{Thing, subject, object, same}
use Rattle.model.specs.Tables.{running, file, pipe, Entry, entry, Tables, with_at, places, a_file, cell, whole, one, handles_of}
use Rattle.model.specs.Tables.{Handle as Held}
use Rattle.model.specs.Steps.{Step, fall, sink, applies}
use Rattle.model.specs.Calls.{has_mapped, rereads, lowers}
use Rattle.model.proofs.Calls.Moving.{has_mapped_at, took, reread_by, rereads_none, rereads_file, lowers_none, lowers_some}
use Rattle.tables.specs.declared.Subject.{Subject}
use Rattle.tables.specs.declared.Object.{Object}
use Rattle.tables.specs.declared.Handle.{Handle}
use Rattle.tables.specs.Records.{subject_entry, object_entry, joins, held, no_subject, no_object, no_handle, entries, tables_of}
use Rattle.tables.specs.Working.{some_below, fallen_by}
use Rattle.tables.proofs.Below.{some_of_below, below_some, none_below, same_test}
use Rattle.handles.specs.Working.{Hits}
use Rattle.groups.specs.Groups.{stands, kin_of, Leads, taken_by}
use Rattle.groups.specs.Groups.Laws.{kin_back, kin_on, one_lead, lead_kin}
use Rattle.mappings.specs.Working.{maps_on, sank_by}

-- ── who has it mapped ──
-- a record that is a mapping on o
slot_maps : (h : Handle) (o : ℕ) → T (maps_on h o) → (eqb h.way 3 ≡ true) × (h.object ≡ o)
slot_maps h o t = let (w, q) = both_of (eqb h.way 3) (eqb h.object o) t in (is_true (eqb h.way 3) w, eqb→eq h.object o q)

module _ (rest : Tables) (ss : List Subject) (os : List Object) (hs : List Handle) (o : ℕ) where
  abbrev t : Tables
  t = tables_of rest ss os hs

  at_place : (s p : ℕ) → p < 16 → t.hand s p ≡ held (get_or hs (s * 16 + p) no_handle)
  unfolding tables_of
  at_place s p l = rw (lt-ltb p 16 l)

  -- the record of a mapping on o, at a place of s
  maps_here : (s p : ℕ) → p < 16 → eqb (get_or hs (s * 16 + p) no_handle).way 3 ≡ true → (get_or hs (s * 16 + p) no_handle).object ≡ o → T (has_mapped t (object o) s)
  maps_here s p l w q = any_of (λ k. k.mapped && same (object k.to) (object o)) (handles_of t s) (joins h)
      (in_each places (λ j. one (t.hand s j)) (joins h) p l (subst (λ (v : Option Held). In (joins h) (one v)) (sym is) (inl refl)))
      (both (eqb h.way 3) (eqb h.object o) (subst T (sym w) tt) (subst (λ (n : ℕ). T (eqb n o)) (sym q) (eqb_refl o)))
    where
      h : Handle
      h = get_or hs (s * 16 + p) no_handle

      -- what is a mapping is no empty place
      is : t.hand s p ≡ some (joins h)
      is = at_place s p l ∙ ap (λ (b : Bool). cond b none (some (joins h)))
          (let e : h.way ≡ 3 = eqb→eq h.way 3 (subst T (sym w) tt) in ne_eqb h.way 0 (λ z. omega arith))

  -- and back
  mapped_slot : (s p : ℕ) (k : Held) → p < 16 → t.hand s p ≡ some k → T k.mapped → k.to ≡ o → T (maps_on (get_or hs (s * 16 + p) no_handle) o)
  mapped_slot s p k lp q m e = go (eqb h.way 0) (sym (at_place s p lp) ∙ q)
    where
      h : Handle
      h = get_or hs (s * 16 + p) no_handle

      go : (b : Bool) → cond b none (some (joins h)) ≡ some k → T (maps_on h o)
      go true z = absurd (none-ne-some k z)
      go false z = let j = some-injective (joins h) k z in
          both (eqb h.way 3) (eqb h.object o) (subst (λ (i : Held). T i.mapped) (sym j) m)
          (subst (λ (n : ℕ). T (eqb n o)) (sym (ap (λ (i : Held). i.to) j ∙ e)) (eqb_refl o))

  -- who took it in is found below a bound, and no object did
  took_below : (n : ℕ) (y : Thing) → took t o n y ≡ some_below n (λ s. has_mapped t (object o) s && whole t (cell t s) y)
  took_below zero y = refl
  took_below (suc n) y = ap (λ (b : Bool). b || (has_mapped t (object o) n && whole t (cell t n) y)) (took_below n y)

  pub no_object_took : (n m : ℕ) → took t o n (object m) ≡ false
  unfolding whole cell
  no_object_took n m = took_below n (object m) ∙ none_below n _ (λ s l. and_false (has_mapped t (object o) s))
    where
      and_false : (b : Bool) → (b && false) ≡ false
      and_false true = refl
      and_false false = refl

  -- those led by the lead of one who has it mapped are those who took it in
  module _ (gs ld : List ℕ) (kin : rest.kin ≡ kin_of ss gs) (leads : Leads (kin_of ss gs) ld) where
    whole_kin : (a b : ℕ) → whole t (cell t a) (subject b) ≡ kin_of ss gs a b
    unfolding tables_of whole cell
    whole_kin a b = ap (λ (f : ℕ → ℕ → Bool). f a b) kin

    abbrev slot : ℕ → ℕ → Bool
    slot j s = maps_on (get_or hs j no_handle) o && eqb (get_or ld (j / 16) 0 % 32) s

    pub readers_lead : (r : List Bool) → Hits slot 32 r 512 → (a : ℕ) → a < 32 → get_or r (get_or ld a 0 % 32) false ≡ took t o 32 (subject a)
    readers_lead r m a l = m.at (get_or ld a 0 % 32) (omega arith)
        ∙ same_test _ _ (λ h. there (some_of_below 512 (λ j. slot j (get_or ld a 0 % 32)) h)) (λ h. back (some_of_below 32 takes (subst T (took_below 32 (subject a)) h)))
      where
        takes : ℕ → Bool
        takes s = has_mapped t (object o) s && whole t (cell t s) (subject a)

        there : (j : ℕ) × (j < 512) × T (slot j (get_or ld a 0 % 32)) → T (took t o 32 (subject a))
        there (j, lj, h) = let (m, z) = both_of (maps_on (get_or hs j no_handle) o) (eqb (get_or ld (j / 16) 0 % 32) (get_or ld a 0 % 32)) h in
            let (w, q) = slot_maps (get_or hs j no_handle) o m in
            let d : get_or ld (j / 16) 0 % 32 ≡ get_or ld a 0 % 32 = eqb→eq (get_or ld (j / 16) 0 % 32) (get_or ld a 0 % 32) z in
            let n : j / 16 < 32 = omega arith in
            let e : (j / 16) * 16 + j % 16 ≡ j = omega arith in
            subst T (sym (took_below 32 (subject a))) (below_some 32 takes (j / 16) n
            (both (has_mapped t (object o) (j / 16)) (whole t (cell t (j / 16)) (subject a)) (maps_here (j / 16) (j % 16) (omega arith) (rw e w) (rw e q))
            (subst T (sym (whole_kin (j / 16) a)) (lead_kin (kin_of ss gs) (kin_back ss gs) (kin_on ss gs) ld leads (j / 16) a n l
            (omega (arith, d, leads.low (j / 16) n, leads.low a l))))))

        back : (s : ℕ) × (s < 32) × T (takes s) → T (some_below 512 (λ j. slot j (get_or ld a 0 % 32)))
        back (s, ls, h) = let (i, k) = both_of (has_mapped t (object o) s) (whole t (cell t s) (subject a)) h in
            let v = has_mapped_at t (object o) s i in
            let d : (s * 16 + v.place) / 16 ≡ s = omega (arith, v.low) in
            let e = one_lead (kin_of ss gs) (kin_back ss gs) (kin_on ss gs) ld leads s a ls l (subst T (whole_kin s a) k) in
            below_some 512 (λ j. slot j (get_or ld a 0 % 32)) (s * 16 + v.place) (omega (arith, v.low))
            (both (maps_on (get_or hs (s * 16 + v.place) no_handle) o) (eqb (get_or ld ((s * 16 + v.place) / 16) 0 % 32) (get_or ld a 0 % 32))
            (mapped_slot s v.place v.handle v.low v.held v.maps (number v.on)) (rw (d, e) (eqb_refl (get_or ld a 0 % 32))))
          where
            number : {a b : ℕ} → object a ≡ object b → a ≡ b
            number q = cc

-- ── what they become ──
-- a subject that reads something of level l and set m
taken_entry : (s : ℕ) (x : Subject) (l m : ℕ) → subject_entry (fallen_by x l m) ≡ fall (subject s) (subject_entry x) (some (entry file (label l m)))
taken_entry s x l m = at (eqb x.live 0)
  where
    at : (z : Bool) → cond z none (some (entry running (label (min x.level l) (bit_and x.shops m))))
        ≡ fall (subject s) (cond z none (some (entry running (label x.level x.shops)))) (some (entry file (label l m)))
    at true = refl
    at false = ap (λ (b : Label). some (entry running b)) (sym (meet_labels x.level x.shops l m))

-- who is live stays so
pub taken_live : (ss r : List Subject) (takes : List Bool) (l m : ℕ) → length ss ≡ 32 → length r ≡ 32
    → ((a : ℕ) → a < 32 → get_or r a no_subject ≡ taken_by (get_or ss a no_subject) (get_or takes a false) l m) → (a : ℕ) → stands r a ≡ stands ss a
taken_live ss r takes l m ls lr g a = elim (dec_lt a 32) [
  | yes h ↦ ap (λ (x : Subject). not (eqb x.live 0)) (g a h) ∙ still (get_or ss a no_subject) (get_or takes a false)
  | no n ↦ ap (λ (x : Subject). not (eqb x.live 0)) (get_or-eq_default r no_subject {n = a} (omega arith) ∙ sym (get_or-eq_default ss no_subject {n = a} (omega arith)))
]
  where
    still : (x : Subject) (b : Bool) → not (eqb (taken_by x b l m).live 0) ≡ not (eqb x.live 0)
    still x true = refl
    still x false = refl

-- a subject and its mates take in something
pub group_read : (rest : Tables) (ss : List Subject) (os : List Object) (hs : List Handle) (gs : List ℕ) (s l m : ℕ) (d : Entry) (r : List Subject) (takes : List Bool)
    → s < 32 → rest.kin ≡ kin_of ss gs → d.label ≡ label l m → length ss ≡ 32 → length r ≡ 32
    → ((a : ℕ) → a < 32 → get_or takes a false ≡ kin_of ss gs (s % 32) a)
    → ((a : ℕ) → a < 32 → get_or r a no_subject ≡ taken_by (get_or ss a no_subject) (get_or takes a false) l m)
    → tables_of rest r os hs ≡ with_at (tables_of rest ss os hs) (sink (tables_of rest ss os hs) (subject s) (some d))
unfolding tables_of whole
group_read rest ss os hs gs s l m d r takes low k e ls lr f g = ap (with_at (tables_of rest ss os hs)) (fun_ext at)
  where
    same_s : s % 32 ≡ s
    same_s = omega arith

    by : (a : ℕ) (b : Bool) → subject_entry (taken_by (get_or ss a no_subject) b l m)
        ≡ cond b (fall (subject a) (subject_entry (get_or ss a no_subject)) (some d)) (subject_entry (get_or ss a no_subject))
    by a true = taken_entry a (get_or ss a no_subject) l m ∙ label_alone (subject_entry (get_or ss a no_subject))
      where
        label_alone : (v : Option Entry) → fall (subject a) v (some (entry file (label l m))) ≡ fall (subject a) v (some d)
        label_alone none = refl
        label_alone (some c) = ap (λ (b : Label). some (entry c.kind (meet c.label b))) (sym e)
    by a false = refl

    beyond : (x : Thing) (v c : Option Entry) (b : Bool) → v ≡ none → none ≡ cond b (fall x v c) v
    beyond x v c true z = rw z
    beyond x v c false z = sym z

    at : (x : Thing) → entries r os x ≡ sink (tables_of rest ss os hs) (subject s) (some d) x
    at (object n) = refl
    at (subject n) = go (dec_lt n 32)
      where
        go : Dec (n < 32) → subject_entry (get_or r n no_subject)
            ≡ cond (rest.kin s n) (fall (subject n) (subject_entry (get_or ss n no_subject)) (some d)) (subject_entry (get_or ss n no_subject))
        go (yes h) = ap subject_entry (g n h) ∙ by n (get_or takes n false)
            ∙ ap (λ (b : Bool). cond b (fall (subject n) (subject_entry (get_or ss n no_subject)) (some d)) (subject_entry (get_or ss n no_subject)))
            (f n h ∙ ap (λ (i : ℕ). kin_of ss gs i n) same_s ∙ ap (λ (z : ℕ → ℕ → Bool). z s n) (sym k))
        go (no h) = ap subject_entry (get_or-eq_default r no_subject {n = n} (omega arith))
            ∙ beyond (subject n) (subject_entry (get_or ss n no_subject)) (some d) (rest.kin s n)
            (ap subject_entry (get_or-eq_default ss no_subject {n = n} (omega arith)))

module _ (rest : Tables) (ss : List Subject) (os : List Object) (hs : List Handle) (o : ℕ) (y : Object) (q : get_or os o no_object ≡ y) where
  -- a pipe is not read
  pub pipe_unread : (y.kind ≡ 1 → ⊥) → tables_of rest ss os hs ≡ applies (rereads (tables_of rest ss os hs) (object o)) (tables_of rest ss os hs)
  unfolding tables_of
  pipe_unread n = ap (λ (ks : List Step). applies ks (tables_of rest ss os hs)) (sym (rereads_none (tables_of rest ss os hs) (object o) no_file))
    where
      no_file : T (not (a_file (object o) (object_entry (get_or os o no_object))))
      no_file = rw (q, ne_eqb y.kind 1 n) (go (eqb y.kind 0))
        where
          go : (b : Bool) → T (not (a_file (object o) (cond b none (some (entry pipe (label y.level y.shops))))))
          go true = tt
          go false = tt

  -- a file is taken in by those who have it mapped and by their mates
  pub file_read : (r : List Subject) (takes : List Bool) → y.kind ≡ 1 → length ss ≡ 32 → length r ≡ 32
      → ((a : ℕ) → a < 32 → get_or takes a false ≡ took (tables_of rest ss os hs) o 32 (subject a))
      → ((a : ℕ) → a < 32 → get_or r a no_subject ≡ taken_by (get_or ss a no_subject) (get_or takes a false) y.level y.shops)
      → tables_of rest r os hs ≡ applies (rereads (tables_of rest ss os hs) (object o)) (tables_of rest ss os hs)
  unfolding tables_of
  file_read r takes k ls lr f g = ap (with_at (tables_of rest ss os hs)) (fun_ext at)
      ∙ sym (rereads_file (tables_of rest ss os hs) o (subst (λ (v : Option Entry). T (a_file (object o) v)) (sym there) tt))
    where
      there : object_entry (get_or os o no_object) ≡ some (entry file (label y.level y.shops))
      there = rw (q, k)

      by : (a : ℕ) (b : Bool) → subject_entry (taken_by (get_or ss a no_subject) b y.level y.shops)
          ≡ cond b (fall (subject a) (subject_entry (get_or ss a no_subject)) (object_entry (get_or os o no_object))) (subject_entry (get_or ss a no_subject))
      by a true = taken_entry a (get_or ss a no_subject) y.level y.shops ∙ ap (fall (subject a) (subject_entry (get_or ss a no_subject))) (sym there)
      by a false = refl

      -- beyond the array nothing stands, nor falls
      beyond : (x : Thing) (v d : Option Entry) (b : Bool) → v ≡ none → none ≡ cond b (fall x v d) v
      beyond x v d true e = rw e
      beyond x v d false e = sym e

      at : (x : Thing) → entries r os x ≡ reread_by (tables_of rest ss os hs) o 32 x
      at (object n) = rw (no_object_took rest ss os hs o 32 n)
      at (subject n) = go (dec_lt n 32)
        where
          go : Dec (n < 32) → subject_entry (get_or r n no_subject) ≡ reread_by (tables_of rest ss os hs) o 32 (subject n)
          go (yes l) = ap subject_entry (g n l) ∙ by n (get_or takes n false)
              ∙ ap (λ (b : Bool). cond b (fall (subject n) (subject_entry (get_or ss n no_subject)) (object_entry (get_or os o no_object))) (subject_entry (get_or ss n no_subject))) (f n l)
          go (no h) = ap subject_entry (get_or-eq_default r no_subject {n = n} (omega arith))
              ∙ beyond (subject n) (subject_entry (get_or ss n no_subject)) (object_entry (get_or os o no_object)) (took (tables_of rest ss os hs) o 32 (subject n))
              (ap subject_entry (get_or-eq_default ss no_subject {n = n} (omega arith)))

-- ── a label that fell ──
module _ (rest : Tables) (before after : List Subject) (os : List Object) (hs : List Handle) where
  pub found_lower : (s : ℕ) → s < 32 → sank_by (get_or before s no_subject) (get_or after s no_subject) ≡ true
      → lowers (tables_of rest before os hs) (tables_of rest after os hs) ≡ true
  unfolding tables_of
  found_lower s l q = go (eqb x.live 0) refl (eqb y.live 0) refl q
    where
      x : Subject
      x = get_or before s no_subject

      y : Subject
      y = get_or after s no_subject

      go : (a : Bool) → eqb x.live 0 ≡ a → (b : Bool) → eqb y.live 0 ≡ b → cond a false (cond b false (not (leq (label x.level x.shops) (label y.level y.shops)))) ≡ true
          → lowers (tables_of rest before os hs) (tables_of rest after os hs) ≡ true
      go true d b e z = absurd (subst T (sym z) tt)
      go false d true e z = absurd (subst T (sym z) tt)
      go false d false e z = lowers_some (tables_of rest before os hs) (tables_of rest after os hs) (record {
        thing = subject s;
        was = entry running (label x.level x.shops);
        now = entry running (label y.level y.shops);
        stands = lt→ltb s 32 l;
        there = ap (λ (b : Bool). cond b none (some (entry running (label x.level x.shops)))) d;
        then = ap (λ (b : Bool). cond b none (some (entry running (label y.level y.shops)))) e;
        less = subst T (sym z) tt;
      })

  pub none_lower : length before ≡ 32 → ((s : ℕ) → s < 32 → sank_by (get_or before s no_subject) (get_or after s no_subject) ≡ false)
      → lowers (tables_of rest before os hs) (tables_of rest after os hs) ≡ false
  unfolding tables_of
  none_lower lb f = lowers_none (tables_of rest before os hs) (tables_of rest after os hs) at
    where
      kept : (x y : Subject) (e d : Entry) → sank_by x y ≡ false → subject_entry x ≡ some e → subject_entry y ≡ some d → e.label ⊑ d.label
      kept x y e d z p r = go (eqb x.live 0) (eqb y.live 0) z p r
        where
          go : (a b : Bool) → cond a false (cond b false (not (leq (label x.level x.shops) (label y.level y.shops)))) ≡ false → cond a none (some (entry running (label x.level x.shops))) ≡ some e
              → cond b none (some (entry running (label y.level y.shops))) ≡ some d → e.label ⊑ d.label
          go true b z p r = absurd (none-ne-some e p)
          go false true z p r = absurd (none-ne-some d r)
          go false false z p r = subst₂ (λ (i j : Entry). i.label ⊑ j.label) (some-injective _ e p) (some-injective _ d r)
              (record { tested = not_not (leq (label x.level x.shops) (label y.level y.shops)) (subst (λ (w : Bool). T (not w)) (sym z) tt) })

      at : (x : Thing) (e d : Entry) → entries before os x ≡ some e → entries after os x ≡ some d → e.label ⊑ d.label
      at (object n) e d p r = subst (λ (i : Entry). e.label ⊑ i.label) (some-injective e d (sym p ∙ r)) ⊑_refl
      at (subject n) e d p r = go (dec_lt n 32)
        where
          go : Dec (n < 32) → e.label ⊑ d.label
          go (yes l) = kept (get_or before n no_subject) (get_or after n no_subject) e d (f n l) p r
          go (no h) = absurd (none-ne-some e (sym (ap subject_entry (get_or-eq_default before no_subject {n = n} (omega arith))) ∙ p))

  -- one of the pairs of records sank, or none did
  pub any_lower : (r : Bool) → length before ≡ 32 → length after ≡ 32
      → MatchBool r ((k : ℕ) × (k < length (zip before after)) × HoldsAt (λ p. sank_by p.0 p.1 ≡ true) (zip before after) k)
      (AllWithin (λ p. sank_by p.0 p.1 ≡ false) (zip before after) 0 (length (zip before after)))
      → lowers (tables_of rest before os hs) (tables_of rest after os hs) ≡ r
  any_lower true lb la (k, l, h) = let n : k < 32 = omega (arith, length-zip before after, l) in
      found_lower k n (rw (get_or-zip before after k (no_subject, no_subject) (omega arith) (omega arith)) at (h (no_subject, no_subject)))
  any_lower false lb la h = none_lower lb (λ s l. rw (get_or-zip before after s (no_subject, no_subject) (omega arith) (omega arith)) at
      (h s (no_subject, no_subject) (omega arith) (omega (arith, length-zip before after))))
