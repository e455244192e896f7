-- What a search for a shortest chain finds is a chain behind the call with the fewest handles. The tables t are those before the call, by slot, and u those that it would
-- make. Assumes nothing.
use mathlib.Core.Path.{◌≡◌, refl, sym, ◌∙◌, ap, subst}
use mathlib.Core.Bool.{not, cond}
use mathlib.Core.Logic.{inl, inr}
use mathlib.Core.Option.{some, some-injective}
use mathlib.Core.List.{List, [], ◌∷◌}
use Prim.Native.Nat.{ℕ, zero, suc, ◌+◌, ◌-◌, ◌/◌, ◌≤◌, ◌<◌}
use native.Mathlib.Omega.{arith}
use borrow.Author.Tests.{lt-ltb, le-ltb}
use lib.ListN.{length, get_or, take}
use lib.Dec.{T, T_not, ltb, lt→ltb, eqb, eqb→eq}
use Rattle.model.specs.Bools.{test}
use Rattle.model.specs.Label.{Label, leq}
use Rattle.model.proofs.Label.Laws.{⊑_refl}
use Rattle.model.specs.Flow.{Thing, subject, object}
use Rattle.model.specs.Tables.{Entry, Tables, label_of, whole}
use Rattle.model.specs.Tables.{Handle as Held}
use Rattle.model.proofs.Tables.Laws.{step_entry, whole_self, whole_cases, whole_by, whole_kin}
use Rattle.model.specs.Invariant.{Wf, Even}
use Rattle.model.specs.Calls.{Call, effect}
use Rattle.attack.specs.Attack.{Barred, Begins, Chain}
use Rattle.attack.specs.Attack.{Way as Run}
use Rattle.tables.specs.declared.Subject.{Subject}
use Rattle.tables.specs.declared.Object.{Object}
use Rattle.tables.specs.declared.Handle.{Handle}
use Rattle.tables.specs.Records.{object_entry, no_object, entries, hands}
use Rattle.groups.specs.Groups.{Leads}
use Rattle.ways.specs.declared.Way.{Way}
use Rattle.ways.specs.Paths.{thing, Path, end, via, Stands, Is, Goal, Trail, Found}
use Rattle.why.specs.Working.{front_of, end_of, steps_of, Tells}
use Rattle.why.proofs.Bridge.{number, path, with_lead, Reached, way_from, front, Fronted, way_front}

-- ── lists ──
take_few : (n : ℕ) (l : List ℕ) → length (take n l) ≤ n
take_few zero l = omega arith
take_few (suc n) [] = omega arith
take_few (suc n) (x ∷ l) = omega (arith, take_few n l)

take_first : (n : ℕ) (l : List ℕ) → 0 < n → get_or (take n l) 0 0 ≡ get_or l 0 0
take_first zero l g = absurd (omega arith)
take_first (suc n) [] g = refl
take_first (suc n) (x ∷ l) g = refl

-- ── what stands before the call ──
thing_low : (x : ℕ) → x < 32 → thing x ≡ subject x
thing_low x l = rw (lt-ltb x 32 l)

thing_high : (o : ℕ) → thing (32 + o) ≡ object o
thing_high o = let e : 32 + o - 32 ≡ o = omega arith in rw (le-ltb (32 + o) 32 (omega arith), e)

-- the members of a group are live where one is, and have its label
module _ (t : Tables) (w : Wf t) (ev : Even t) where
  same_label : (a b : Thing) → T (whole t a b) → (e : Entry) → t.at b ≡ some e → (d : Entry) × (t.at a ≡ some d) × (d.label ≡ e.label)
  same_label a b h e q = elim (whole_cases t a b h) [
    | inl z ↦ (e, ap t.at z ∙ q, refl)
    | inr r ↦ go r.0 r.1 r.2 r.3 r.4
  ]
    where
      go : (m n : ℕ) → subject m ≡ a → subject n ≡ b → T (t.kin m n) → (d : Entry) × (t.at a ≡ some d) × (d.label ≡ e.label)
      go m n p z k = elim (test (eqb m n)) [
        | inl i ↦ (e, ap t.at (sym p ∙ ap subject (eqb→eq m n i) ∙ z) ∙ q, refl)
        | inr i ↦ (let r = step_entry t m (w.teams.only m n k i) in
            (r.0, ap t.at (sym p) ∙ r.1, ap label_of (sym r.1) ∙ ev.one_level m n k ∙ ap (λ (y : Thing). label_of (t.at y)) z ∙ ap label_of q))
      ]

-- a chain of no handle leads to no file that its start must not reach
module _ (os : List Object) (y : ℕ) (a : Label) (g : Goal os a y) where
  not_own : (e : Entry) → object_entry (get_or os g.slot no_object) ≡ some e → e.label ≡ a → ⊥
  not_own e q z = T_not (leq g.entry.label a) g.higher
      (subst (λ (b : Label). T (leq g.entry.label b)) (ap (λ (d : Entry). d.label) (some-injective g.entry e (sym g.there ∙ q)) ∙ z) ⊑_refl.tested)

path_empty : (ld : List ℕ) (hs : List Handle) {x y : ℕ} {l : List ℕ} → Path ld hs x l y → length l ≡ 0 → x ≡ y
path_empty ld hs (end q) e = q
path_empty ld hs (via i a b c r) e = absurd (omega arith)

-- the file of a goal, and what a barred file is
barred_goal : (t : Tables) (os : List Object) (at : (o : ℕ) → t.at (object o) ≡ object_entry (get_or os o no_object)) (x : Thing) (y : ℕ) (a : Label) (e : Entry)
    (g : Goal os a y) → t.at x ≡ some e → e.label ≡ a → Barred t x (object g.slot)
barred_goal t os at x y a e g q z = record {
  low_entry = e;
  low_live = q;
  high_entry = g.entry;
  high_live = at g.slot ∙ g.there;
  high_file = g.is_a_file;
  insufficient = subst (λ (b : Label). T (not (leq g.entry.label b))) (sym z) g.higher;
}

pub record Aim (os : List Object) (a : Label) (high : Thing) : Type 0 where
  pub slot : ℕ
  pub is : high ≡ object slot
  pub goal : Goal os a (32 + slot)

-- ── a call that any thing may be behind, and one that runs a program ──
module _ (t : Tables) (c : Call) (wt : Wf t) (ss : List Subject) (os : List Object) (at : (x : Thing) → t.at x ≡ entries ss os x)
    (low : (o : ℕ) (e : Entry) → t.at (object o) ≡ some e → o < 64)
    (wu : Wf (effect t c)) (hs : List Handle) (ld : List ℕ) (hand : (effect t c).hand ≡ hands hs) (led : Leads (effect t c).kin ld)
    (lo : (s p : ℕ) (k : Held) → (effect t c).hand s p ≡ some k → k.to < 64) where
  abbrev u : Tables
  u = effect t c

  abbrev num : Thing → ℕ
  num x = number wu hs ld hand led lo x

  at_object : (o : ℕ) → t.at (object o) ≡ object_entry (get_or os o no_object)
  at_object o = at (object o)

  aim : (x high : Thing) (b : Barred t x high) → Aim os b.low_entry.label high
  aim x (subject n) b = absurd b.high_file
  aim x (object o) b = record {
    slot = o;
    is = refl;
    goal = record {
      slot = o;
      low = low o b.high_entry b.high_live;
      is = refl;
      entry = b.high_entry;
      there = sym (at_object o) ∙ b.high_live;
      is_a_file = b.high_file;
      higher = b.insufficient;
    };
  }

  num_low : (x : Thing) (e : Entry) → t.at x ≡ some e → num x < 96
  num_low (subject s) e q = omega arith
  num_low (object o) e q = let l = low o e q in omega arith

  -- ── any thing ──
  module _ (ev : Even t) (kin : (effect t c).kin ≡ t.kin) (starts : (x : Thing) → Begins c x x) (started : (a x : Thing) → Begins c a x → a ≡ x) where
    whole_same : (a b : Thing) → T (whole u a b) → T (whole t a b)
    whole_same a b h = subst T (whole_by u t kin a b) h

    whole_back : (a b : Thing) → T (whole t a b) → T (whole t b a)
    whole_back a b h = elim (whole_cases t a b h) [
      | inl q ↦ subst (λ (x : Thing). T (whole t x a)) q (whole_self t a wt.teams.itself)
      | inr r ↦ subst (λ (x : Thing). T (whole t x a)) r.3 (subst (λ (x : Thing). T (whole t (subject r.1) x)) r.2
          (subst T (sym (whole_kin t r.1 r.0)) (wt.teams.both_ways r.0 r.1 r.4)))
    ]

    nonempty : (x y : ℕ) (m : List ℕ) → Trail (Stands ss os) os ld hs x m y → 0 < length m
    nonempty x y m r = go (length m) refl
      where
        go : (n : ℕ) → length m ≡ n → 0 < length m
        go zero e = absurd (not_own os y r.label r.goal r.starts.entry
            (sym (ap (entries ss os) (ap thing (path_empty ld hs r.path e ∙ r.goal.is) ∙ thing_high r.goal.slot)) ∙ r.starts.there) r.starts.label_is)
        go (suc n) e = omega arith

    trail_chain : (x y : ℕ) (m : List ℕ) (i : ℕ) → get_or m 0 0 ≡ i → Trail (Stands ss os) os ld hs x m y
        → Chain t c (cond (ltb x 32) (subject (i / 16)) (object (x - 32))) (object (y - 32)) m
    trail_chain x y m i e r = subst (λ (j : ℕ). Chain t c (front wu hs ld hand led lo x j) (object (y - 32)) m) e
        (subst (λ (z : ℕ). Chain t c (front wu hs ld hand led lo x (get_or m 0 0)) (object z) m) (sym slot_is) (record {
          barred = barred_goal t os at_object f y r.label own.0 r.goal own.1 (own.2 ∙ r.starts.label_is);
          start = f;
          begins = starts f;
          way = b.way;
        }))
      where
        slot_is : y - 32 ≡ r.goal.slot
        slot_is = let q = r.goal.is in omega arith

        b : Fronted wu hs ld hand led lo x m r.goal.slot
        b = way_front wu hs ld hand led lo r.path r.goal.slot r.goal.is (nonempty x y m r)

        f : Thing
        f = front wu hs ld hand led lo x (get_or m 0 0)

        own : (d : Entry) × (t.at f ≡ some d) × (d.label ≡ r.starts.entry.label)
        own = same_label t wt ev f (thing x) (whole_same f (thing x) (subst (λ (z : ℕ). T (whole u f (thing z))) b.numbered (with_lead wu hs ld hand led lo f b.ranged)))
            r.starts.entry (at (thing x) ∙ r.starts.there)

    chain_trail : (a high : Thing) (m : List ℕ) → Chain t c a high m → Trail (Stands ss os) os ld hs (num a) m (num high)
    chain_trail a high m k = record {
      label = k.barred.low_entry.label;
      starts = record {
        low = num_low a k.barred.low_entry k.barred.low_live;
        entry = own.0;
        there = sym (at (thing (num a))) ∙ own.1;
        label_is = own.2;
      };
      goal = subst (Goal os k.barred.low_entry.label) (sym (ap num h.is)) h.goal;
      path = path wu hs ld hand led lo (subst (λ (x : Thing). Run u x m high) (sym (started a k.start k.begins)) k.way);
    }
      where
        h : Aim os k.barred.low_entry.label high
        h = aim a high k.barred

        own : (d : Entry) × (t.at (thing (num a)) ≡ some d) × (d.label ≡ k.barred.low_entry.label)
        own = same_label t wt ev (thing (num a)) a
            (whole_back a (thing (num a)) (whole_same a (thing (num a)) (with_lead wu hs ld hand led lo a (wt.ranged a k.barred.low_entry k.barred.low_live))))
            k.barred.low_entry k.barred.low_live

    pub any_tells : (w : Way) → Found (Stands ss os) os ld hs w.start w.steps w.count w.end → Tells t c w
    any_tells w f = record {
      few = f.few;
      none = λ z a high m k. f.none z (num a) (num high) m (chain_trail a high m k);
      chain = λ g. trail_chain w.start w.end (take w.count w.steps) (get_or w.steps 0 0) (take_first w.count w.steps g) (f.trail g);
      fewest = λ g a high m k. (let n = f.fewest g (num a) (num high) m (chain_trail a high m k) in omega (arith, n, take_few w.count w.steps));
      ends = λ g. (let q = (f.trail g).goal.is in omega arith);
    }

  -- ── the program o of s, which is alone in its group then ──
  module _ (s o : ℕ) (ls : s < 32) (e : Entry) (there : t.at (object o) ≡ some e)
      (starts : Begins c (object o) (subject s)) (started : (a x : Thing) → Begins c a x → (a ≡ object o) × (subject s ≡ x))
      (alone : (z : Thing) → T (whole (effect t c) (subject s) z) → subject s ≡ z) where
    own_number : num (subject s) ≡ s
    own_number = let q : subject s ≡ subject (num (subject s)) = alone (thing (num (subject s))) (with_lead wu hs ld hand led lo (subject s) (lt→ltb s 32 ls)) ∙ thing_low (num (subject s)) (omega arith) in
        sym (subject_same s (num (subject s)) q)
      where
        subject_same : (a b : ℕ) → subject a ≡ subject b → a ≡ b
        subject_same a b q = cc

    trail_run : (x y : ℕ) (m : List ℕ) → Trail (Is s e.label) os ld hs x m y → Chain t c (object o) (object (y - 32)) m
    trail_run x y m r = subst (λ (z : ℕ). Chain t c (object o) (object z) m) (sym slot_is) (record {
      barred = barred_goal t os at_object (object o) y r.label e r.goal there (sym r.starts.1);
      start = subject s;
      begins = starts;
      way = subst (λ (z : Thing). Run u z m (object r.goal.slot)) (sym (alone b.z b.member)) b.way;
    })
      where
        slot_is : y - 32 ≡ r.goal.slot
        slot_is = let q = r.goal.is in omega arith

        b : Reached wu hs ld hand led lo (subject s) m r.goal.slot
        b = way_from wu hs ld hand led lo r.path r.goal.slot r.goal.is (subject s) (lt→ltb s 32 ls) (own_number ∙ sym r.starts.0)

    run_trail : (a high : Thing) (m : List ℕ) → Chain t c a high m → Trail (Is s e.label) os ld hs s m (num high)
    run_trail a high m k = record {
      label = e.label;
      starts = (refl, refl);
      goal = subst (λ (b : Label). Goal os b (num high)) (ap (λ (d : Entry). d.label) same) (subst (Goal os k.barred.low_entry.label) (sym (ap num h.is)) h.goal);
      path = subst (λ (n : ℕ). Path ld hs n m (num high)) own_number (path wu hs ld hand led lo (subst (λ (x : Thing). Run u x m high) (sym (started a k.start k.begins).1) k.way));
    }
      where
        h : Aim os k.barred.low_entry.label high
        h = aim a high k.barred

        same : k.barred.low_entry ≡ e
        same = some-injective k.barred.low_entry e (sym k.barred.low_live ∙ ap t.at (started a k.start k.begins).0 ∙ there)

    -- w starts at the program instead
    pub run_tells : (w : Way) (a : ℕ) → Found (Is s e.label) os ld hs a w.steps w.count w.end → w.start ≡ 32 + o → Tells t c w
    run_tells w a f z = record {
      few = f.few;
      none = λ q a high m k. f.none q s (num high) m (run_trail a high m k);
      chain = λ g. subst (λ (x : Thing). Chain t c x (end_of w) (steps_of w)) (sym front_is) (trail_run a w.end (take w.count w.steps) (f.trail g));
      fewest = λ g a high m k. (let n = f.fewest g s (num high) m (run_trail a high m k) in omega (arith, n, take_few w.count w.steps));
      ends = λ g. (let q = (f.trail g).goal.is in omega arith);
    }
      where
        front_is : front_of w ≡ object o
        front_is = ap (λ (x : ℕ). cond (ltb x 32) (subject (get_or w.steps 0 0 / 16)) (object (x - 32))) z ∙ (let q : 32 + o - 32 ≡ o = omega arith in rw (le-ltb (32 + o) 32 (omega arith), q))
