-- What holds of a call by slot holds of the call by number, on the tables by number: one renumbering carries all of it over. Assumes nothing.
use mathlib.Core.Path.{◌≡◌, refl, sym, ◌∙◌, ap, ap₂, subst, subst₂}
use mathlib.Core.Bool.{Bool, true, false, not, ◌&&◌, cond}
use mathlib.Core.Logic.{◌⊎◌, inl, inr}
use mathlib.Core.Option.{Option, none, none-ne-some}
use mathlib.Core.List.{List, [], ◌∷◌, map}
use Prim.Native.Nat.{ℕ, suc, ◌+◌, ◌<◌}
use native.Mathlib.Omega.{arith}
use native.Mathlib.Decide.{dec_lt}
use lib.ListN.{length, get_or, replicate, length-replicate, get_or-replicate, get_or-eq_default}
use lib.Dec.{T, T_not, eqb, eqb_refl}
use Rattle.model.specs.Lists.{In, inserts}
use Rattle.model.specs.Lists.Rising.{Rising, insert_length, inserts_in, inserts_new, inserts_rising, each_rising, each_of, each_has}
use Rattle.model.specs.Flow.{Thing, object}
use Rattle.model.specs.Tables.{Entry, Tables, empty, with_numbers, is_some, clean}
use Rattle.model.proofs.Tables.Laws.{used_is, live_of, some_is}
use Rattle.model.specs.Invariant.{Wf}
use Rattle.model.proofs.Invariant.Laws.{clean_same, empty_wf}
use Rattle.model.specs.Calls.{Call, made, steps, effect, refusal, answer, refused, allowed, lowered}
use Rattle.model.specs.Calls.{Answer as Told}
use Rattle.model.proofs.Calls.Refusals.{answered_refused}
use Rattle.model.proofs.Calls.Dangling.{effect_wf}
use Rattle.model.proofs.Calls.Renaming.{Renumbers, call, ren, answer_ren, refusal_ren, effect_ren, clean_ren}
use Rattle.model.proofs.Calls.Slots.{by_number_is, distinct}
use Rattle.model.proofs.Calls.Listed.{Listed, listed_same, effect_listed}
use Rattle.model.specs.Promise.{Kind, Meets}
use Rattle.tables.specs.declared.Object.{Object}
use Rattle.tables.specs.Records.{object_entry, no_object, tables_of}
use Rattle.tables.specs.Slots.{slot_used, Here, repeated, single}
use Rattle.tables.specs.Working.{some_below}
use Rattle.tables.specs.Needs.{figure_of}
use Rattle.model.specs.Figures.{Ready}
use Rattle.tables.proofs.Below.{below_some}
use Rattle.tables.proofs.Seating.{singled_long, singled_at, apart_single}
use Rattle.model.specs.Bools.{both}
use Rattle.gatekeeper.specs.declared.Monitor.{Monitor}
use Rattle.gatekeeper.specs.View.{used_slots, slots, called, numbers_of, straight_view, once, view, Apart, Steady, Honest, Whole, Tidy, monitors, Right}
use Rattle.gatekeeper.specs.View.Laws.{honest_tidy}
use Rattle.gatekeeper.specs.declared.Reply.{Reply}
use Rattle.gatekeeper.proofs.Owned.{Long}
use Rattle.answers.specs.Telling.{told, refuses}
use Rattle.refusals.specs.Refusing.{Room}
use Rattle.gatekeeper.specs.Numbering.{Lift}
use Rattle.gatekeeper.specs.Acting.{Fit, Sound, Neat, slotted, Firm, Acts, Keeps, settled}
use Rattle.gatekeeper.proofs.Acting.{used_entry, entry_used, entry_low, settles}

-- ── lists ──
mapped_of : (f : ℕ → ℕ) (l : List ℕ) (n : ℕ) → In n (map f l) → (i : ℕ) × In i l × (f i ≡ n)
mapped_of f [] n h = absurd h
mapped_of f (x ∷ l) n (inl e) = (x, inl refl, e)
mapped_of f (x ∷ l) n (inr h) = let r = mapped_of f l n h in (r.0, inr r.1, r.2)

mapped_in : (f : ℕ → ℕ) (l : List ℕ) (i : ℕ) → In i l → In (f i) (map f l)
mapped_in f [] i h = absurd h
mapped_in f (x ∷ l) i (inl e) = inl (ap f e)
mapped_in f (x ∷ l) i (inr h) = inr (mapped_in f l i h)

-- numbers that differ are as many once they are in order
sorted_long : (f : ℕ → ℕ) (l : List ℕ) → Rising l → ((i j : ℕ) → In i l → In j l → f i ≡ f j → i ≡ j) → length (inserts (map f l) []) ≡ length l
sorted_long f [] r d = refl
sorted_long f (x ∷ l) r d = insert_length (f x) (inserts (map f l) []) new ∙ ap suc (sorted_long f l r.1 (λ i j a b. d i j (inr a) (inr b)))
  where
    mine : In (f x) (map f l) ⊎ ⊥ → ⊥
    mine (inl h) = let k = mapped_of f l (f x) h in let e : x ≡ k.0 = d x k.0 (inl refl) (inr k.1) (sym k.2) in let b = r.0 k.0 k.1 in absurd (omega (arith, e, b))
    mine (inr h) = h

    new : In (f x) (inserts (map f l) []) → ⊥
    new h = mine (inserts_in (map f l) [] (f x) h)

-- ── the numbers that are listed are those of the slots in use ──
module _ (m : Monitor) (lo : length m.objects ≡ 64) where
  slot_of : (i : ℕ) → In i (used_slots m.objects) → (i < 64) × T (slot_used m.objects i)
  slot_of i h = let r = each_of (length m.objects) (slot_used m.objects) i h in (omega (arith, r.0), r.1)

  -- a number that is listed has its slot
  pub listed_of : (n : ℕ) → In n (numbers_of m) → (i : ℕ) × Here m.objects m.numbers n i
  listed_of n h = elim (inserts_in (map (called m) (used_slots m.objects)) [] n h) [
    | inl k ↦ (let r = mapped_of (called m) (used_slots m.objects) n k in let q = slot_of r.0 r.1 in (r.0, (q.0, q.1, r.2)))
    | inr k ↦ absurd k
  ]

  -- and the number of a slot in use is listed
  pub in_listed : (i : ℕ) → i < 64 → T (slot_used m.objects i) → In (called m i) (numbers_of m)
  in_listed i l u = inserts_new (map (called m) (used_slots m.objects)) [] (called m i)
      (mapped_in (called m) (used_slots m.objects) i (each_has (length m.objects) (slot_used m.objects) i (omega (arith, l)) u))

-- ── the tables by number are those by slot, renumbered ──
module _ (m : Monitor) (lo : length m.objects ≡ 64) (w : Wf (clean (slots m))) (ρ σ : ℕ → ℕ) (v : Renumbers ρ σ)
    (names : (i : ℕ) → i < 64 → T (slot_used m.objects i) → ρ i ≡ called m i) where
  abbrev S : Tables
  S = clean (slots m)

  at_is : (i : ℕ) → S.at (object i) ≡ object_entry (get_or m.objects i no_object)
  unfolding clean tables_of
  at_is i = refl

  there : (i : ℕ) → T (is_some (S.at (object i))) → (i < 64) × T (slot_used m.objects i)
  there i h = let e = subst (λ (o : Option Entry). T (is_some o)) (at_is i) h in (omega (arith, lo, entry_low m.objects i e), entry_used m.objects i e)

  pub view_is : straight_view m ≡ ren ρ σ v (numbers_of m) (clean (slots m))
  unfolding straight_view
  view_is = by_number_is (slot_used m.objects) (called m) ρ σ v 64 names S
      (λ i e q. there i (some_is q))
      (λ s p h q. there h.to (subst T (used_is S (object h.to)) (live_of S (object h.to) (w.ends s p h q).to).1))
      (numbers_of m)

  pub view_clean : clean (straight_view m) ≡ straight_view m
  view_clean = ap clean view_is ∙ clean_ren ρ σ v (numbers_of m) S ∙ ap (ren ρ σ v (numbers_of m)) (clean_same S w) ∙ sym view_is

  pub view_long : length (numbers_of m) ≡ length (used_slots m.objects)
  view_long = sorted_long (called m) (used_slots m.objects) (each_rising (length m.objects) (slot_used m.objects))
      (λ i j a b e. let p = slot_of m lo i a in let q = slot_of m lo j b in
      sym (v.back i) ∙ ap σ (names i p.0 p.1 ∙ e ∙ sym (names j q.0 q.1)) ∙ v.back j)

  pub view_listed : Listed (straight_view m)
  view_listed = subst Listed (sym view_is) (record {
    rising = inserts_rising (map (called m) (used_slots m.objects)) [] tt;
    sound = λ n h. sound n (listed_of m lo n h);
    complete = λ n h. (let r = there (σ n) h in
        subst (λ (k : ℕ). In k (numbers_of m)) (sym (names (σ n) r.0 r.1) ∙ v.forth n) (in_listed m lo (σ n) r.0 r.1));
  })
    where
      sound : (n : ℕ) → (i : ℕ) × Here m.objects m.numbers n i → T (is_some (S.at (object (σ n))))
      sound n (i, (l, u, e)) = subst (λ (j : ℕ). T (is_some (S.at (object j)))) (sym (v.back i) ∙ ap σ (names i l u ∙ e))
          (subst (λ (o : Option Entry). T (is_some o)) (sym (at_is i)) (used_entry m.objects i u))

-- ── the call ──
-- n is what the call makes of m by slot
module _ (m n : Monitor) (c k : Call) (a : Told) (ns : List ℕ) (lo : length m.objects ≡ 64) (ln : length n.objects ≡ 64) (w : Wf (clean (slots m)))
    (L : Lift m.objects m.numbers c k ns) (s : Sound m) (z : Meets slotted m k a n)
    (named : (i : ℕ) → i < 64 → T (slot_used n.objects i) → L.ρ i ≡ called n i) where
  abbrev T' : Tables
  T' = clean (slots m)

  abbrev re : List ℕ → Tables → Tables
  re l t = ren L.ρ L.σ L.one_to_one l t

  seen : straight_view m ≡ re (numbers_of m) T'
  seen = view_is m lo w L.ρ L.σ L.one_to_one L.names

  long : length (numbers_of m) ≡ length T'.numbers
  unfolding clean tables_of
  long = view_long m lo w L.ρ L.σ L.one_to_one L.names

  cleaned : clean (straight_view m) ≡ straight_view m
  cleaned = view_clean m lo w L.ρ L.σ L.one_to_one L.names

  called_is : (l : List ℕ) → call L.ρ L.σ L.one_to_one l k ≡ c
  called_is = L.call_is

  same_refusal : refusal (clean (straight_view m)) c ≡ refusal T' k
  same_refusal = ap₂ refusal (cleaned ∙ seen) (sym (called_is (numbers_of m))) ∙ refusal_ren L.ρ L.σ L.one_to_one (numbers_of m) T' long k

  pub answers : a ≡ answer (clean (straight_view m)) c
  answers = z.answered s ∙ sym (ap₂ answer (cleaned ∙ seen) (sym (called_is (numbers_of m))) ∙ answer_ren L.ρ L.σ L.one_to_one (numbers_of m) T' long k)

  module _ (q : refusal (clean (straight_view m)) c ≡ none) where
    free : refusal T' k ≡ none
    free = sym same_refusal ∙ q

    made_so : slots n ≡ effect T' k
    made_so = z.moved s free

    wf_after : Wf (slots n)
    wf_after = subst Wf (sym made_so) (effect_wf T' k w free)

    stands : clean (slots n) ≡ slots n
    stands = clean_same (slots n) wf_after

    wf_clean : Wf (clean (slots n))
    wf_clean = subst Wf (sym stands) wf_after

    seen_after : straight_view n ≡ re (numbers_of n) (effect T' k)
    seen_after = view_is n ln wf_clean L.ρ L.σ L.one_to_one named ∙ ap (re (numbers_of n)) (stands ∙ made_so)

    effect_so : effect (straight_view m) c ≡ with_numbers (re (numbers_of m) (effect T' k)) (effect (straight_view m) c).numbers
    effect_so = subst₂ (λ (t : Tables) (x : Call). effect t x ≡ with_numbers (re (numbers_of m) (effect T' k)) (effect t x).numbers) (sym seen) (called_is (numbers_of m))
        (effect_ren L.ρ L.σ L.one_to_one (numbers_of m) T' k)

    same_at : (x : Thing) → (straight_view n).at x ≡ (effect (straight_view m) c).at x
    same_at x = ap (λ (t : Tables). t.at x) seen_after ∙ sym (ap (λ (t : Tables). t.at x) effect_so)

    same_numbers : (straight_view n).numbers ≡ (effect (straight_view m) c).numbers
    same_numbers = listed_same (view_listed n ln wf_clean L.ρ L.σ L.one_to_one named)
        (effect_listed (straight_view m) c (view_listed m lo w L.ρ L.σ L.one_to_one L.names)) same_at

    pub moves : straight_view n ≡ effect (clean (straight_view m)) c
    moves = seen_after ∙ ap (λ (l : List ℕ). re l (effect T' k)) (ap (λ (t : Tables). t.numbers) (sym seen_after) ∙ same_numbers) ∙ sym effect_so ∙ ap (λ (t : Tables). effect t c) (sym cleaned)

-- a monitor whose numbers differ, and which by slot is what it says
abbrev plain : Kind Monitor
plain = record { view = straight_view; honest = λ m. Apart m × Sound m; whole = Whole; tidy = λ m. Apart m × Neat m; right = Fit; claim = λ m. m.sure }

-- what the code has when it has made call k on t, and r is the reply: t is m once it is readied and has the numbers of new objects
pub record Made (m t : Monitor) (c k : Call) (r : Reply) : Type 0 where
  pub tables : Neat m → slots t ≡ clean (slots m)
  pub needs : t.needs ≡ m.needs
  pub sure : t.sure ≡ m.sure
  pub objects : Neat m → t.objects ≡ m.objects
  pub lift : Apart m → Neat m → Lift m.objects m.numbers c k t.numbers
  pub acts : Firm t → Room (slots t) k → Acts t k (told r.answer) r.monitor
  pub keeps : Wf (slots t) → Room (slots t) k → Keeps t k r.monitor

module _ (m t : Monitor) (c k : Call) (r : Reply) (lo : length m.objects ≡ 64) (lr : length r.monitor.objects ≡ 64) (w : Wf (clean (slots m)))
    (y : Made m t c k r) where
  room : Apart m → Neat m → Room (slots t) k
  unfolding tables_of
  room d v = (y.lift d v).room (slots t) (λ i. ap (λ (os : List Object). object_entry (get_or os i no_object)) (y.objects v)) (ap used_slots (y.objects v))

  neat : Sound m → Neat m
  neat h q = (h q).0.wf

  wf_ready : Neat m → Wf (slots t)
  wf_ready v = subst Wf (sym (y.tables v)) w

  -- the monitor that came, or the one that is handed back, has the numbers that the renumbering gives
  named : (d : Apart m) (v : Neat m) (b : Bool) (i : ℕ) → i < 64 → T (slot_used (cond b m r.monitor).objects i) → (y.lift d v).ρ i ≡ called (cond b m r.monitor) i
  named d v true i l u = (y.lift d v).names i l u
  named d v false i l u = let x = y.keeps (wf_ready v) (room d v) in
      (y.lift d v).after (slots t) i l (subst (λ (os : List Object). T (slot_used os i) ⊎ In i (made (steps (slots t) k))) (y.objects v) (x.came i u))
      ∙ ap (λ (ns : List ℕ). get_or ns i 0) (sym x.numbered)

  long_either : (b : Bool) → length (cond b m r.monitor).objects ≡ 64
  long_either true = lo
  long_either false = lr

  apart_either : Apart m → Neat m → (b : Bool) → Apart (cond b m r.monitor)
  apart_either d v b = distinct (slot_used (cond b m r.monitor).objects) (called (cond b m r.monitor)) (y.lift d v).ρ (y.lift d v).σ (y.lift d v).one_to_one 64 (named d v b)

  by_slot : Apart m → Neat m → Meets slotted m k (told r.answer) (settled m r).monitor
  by_slot d v = settles m t k r (settled m r) w y.tables y.needs y.sure (λ firm. y.acts firm (room d v)) (λ h. y.keeps h (room d v)) refl

  pub numbered : Meets plain m c (told r.answer) (settled m r).monitor
  numbered = record {
    unchanged = λ j p. ap (λ (b : Told). cond (refuses b) m r.monitor) p;
    answered = λ h. let v = neat h.1 in
        answers m (settled m r).monitor c k (told r.answer) t.numbers lo (long_either (refuses (told r.answer))) w (y.lift h.0 v) h.1 (by_slot h.0 v)
        (named h.0 v (refuses (told r.answer)));
    moved = λ h p. (let v = neat h.1 in
        moves m (settled m r).monitor c k (told r.answer) t.numbers lo (long_either (refuses (told r.answer))) w (y.lift h.0 v) h.1 (by_slot h.0 v)
        (named h.0 v (refuses (told r.answer))) p);
    emptied = λ h f. (apart_either h.0 h.1 (refuses (told r.answer)), (by_slot h.0 h.1).emptied h.1 f);
    stays = λ h. (let v = neat h.1 in (apart_either h.0 v (refuses (told r.answer)), (by_slot h.0 v).stays h.1));
    neat = λ h. (apart_either h.0 h.1 (refuses (told r.answer)), (by_slot h.0 h.1).neat h.1);
    says = λ h. (by_slot h.0 h.1).says h.1;
    kept = λ h x. (by_slot h.0 h.1).kept h.1 x;
  }

-- ── the empty tables ──
all_same : {A : Type 0} (n i : ℕ) (a : A) → get_or (replicate n a) i a ≡ a
all_same n i a = go (dec_lt i n)
  where
    go : Dec (i < n) → get_or (replicate n a) i a ≡ a
    go (yes l) = get_or-replicate n i a a l
    go (no h) = get_or-eq_default (replicate n a) a {n = i} (omega (arith, length-replicate n a))

none_used : (i : ℕ) → T (slot_used (replicate 64 no_object) i) → ⊥
none_used i u = subst (λ (y : Object). T (not (eqb y.kind 0))) (all_same 64 i no_object) u

pub view_empty : (m : Monitor) → m.objects ≡ replicate 64 no_object → slots m ≡ empty → straight_view m ≡ empty
view_empty m o q = view_is m (ap length o ∙ length-replicate 64 no_object) (subst Wf (sym (ap clean q ∙ clean_same empty empty_wf)) empty_wf) (λ n. n) (λ n. n) (record { back = λ n. refl; forth = λ n. refl })
    (λ i l u. absurd (none_used i (subst (λ (os : List Object). T (slot_used os i)) o u)))
    ∙ ap₂ (λ (l : List ℕ) (t : Tables). ren (λ n. n) (λ n. n) (record { back = λ n. refl; forth = λ n. refl }) l t) (ap (λ (os : List Object). inserts (map (called m) (used_slots os)) []) o) (ap clean q ∙ clean_same empty empty_wf)

pub apart_empty : (m : Monitor) → m.objects ≡ replicate 64 no_object → Apart m
apart_empty m o i j l k u v e = none_used i (subst (λ (os : List Object). T (slot_used os i)) o u)

-- ── of slots that have one number the first counts ──
single_at : (os : List Object) (ns : List ℕ) (i : ℕ) → get_or (single os ns) i no_object ≡ cond (repeated os ns i) no_object (get_or os i no_object)
single_at os ns i = singled_at (repeated os ns) 0 os i ∙ (let e : 0 + i ≡ i = omega arith in ap (λ (k : ℕ). cond (repeated os ns k) no_object (get_or os i no_object)) e)

pub single_long : (os : List Object) (ns : List ℕ) → length (single os ns) ≡ length os
single_long os ns = singled_long (repeated os ns) 0 os

pub once_long : (m : Monitor) → Long m → Long (once m)
once_long m g = record { subjects = g.subjects; objects = single_long m.objects m.numbers ∙ g.objects; handles = g.handles; needs = g.needs; groups = g.groups }

single_used : (os : List Object) (ns : List ℕ) (i : ℕ) → T (slot_used (single os ns) i) → T (slot_used os i) × T (not (repeated os ns i))
single_used os ns i u = go (repeated os ns i) (subst (λ (y : Object). T (not (eqb y.kind 0))) (single_at os ns i) u)
  where
    go : (b : Bool) → T (not (eqb (cond b no_object (get_or os i no_object)).kind 0)) → T (slot_used os i) × T (not b)
    go true h = absurd h
    go false h = (h, tt)

again : (os : List Object) (ns : List ℕ) (i j : ℕ) → i < j → T (slot_used os i) → T (slot_used os j) → get_or ns i 0 ≡ get_or ns j 0 → T (repeated os ns j)
again os ns i j l u v e = both (slot_used os j) (some_below j (λ k. slot_used os k && eqb (get_or ns k 0) (get_or ns j 0))) v
    (below_some j (λ k. slot_used os k && eqb (get_or ns k 0) (get_or ns j 0)) i l (both (slot_used os i) (eqb (get_or ns i 0) (get_or ns j 0)) u
    (subst (λ (z : ℕ). T (eqb (get_or ns i 0) z)) e (eqb_refl (get_or ns i 0)))))

pub once_apart : (m : Monitor) → Apart (once m)
once_apart m i j l k u v e = let a = single_used m.objects m.numbers i u in let b = single_used m.objects m.numbers j v in
    T_not (repeated m.objects m.numbers j) b.1 (again m.objects m.numbers i j l a.0 b.0 e)

pub single_same : (m : Monitor) → length m.objects ≡ 64 → Apart m → single m.objects m.numbers ≡ m.objects
single_same m lo d = apart_single m.objects m.numbers lo d

pub once_same : (m : Monitor) → length m.objects ≡ 64 → Apart m → once m ≡ m
once_same m lo d = ap (λ (os : List Object). made_of m os) (single_same m lo d)
  where
    made_of : Monitor → List Object → Monitor
    made_of m os = record { subjects = m.subjects; objects = os; handles = m.handles; freeze = m.freeze; needs = m.needs; groups = m.groups; sure = m.sure; numbers = m.numbers }

-- ── the call, for every monitor ──
-- m is the monitor that came, and the call is made on it once of slots with one number the first alone counts
module _ (m t : Monitor) (c k : Call) (r : Reply) (lo : length m.objects ≡ 64) (lr : length r.monitor.objects ≡ 64) (w : Wf (clean (slots (once m))))
    (y : Tidy m → Made (once m) t c k r) where
  -- what m claims is so of it then
  once_neat : Tidy m → Neat (once m)
  once_neat h q = let x = h q in subst (λ (n : Monitor). Wf (slots n)) (sym (once_same m lo x.0)) x.1

  once_sound : Honest m → Sound (once m)
  once_sound h q = let x = h q in subst (λ (n : Monitor). Steady (slots n) × Ready (slots n) (figure_of n.needs)) (sym (once_same m lo x.0)) (x.1, x.2)

  full : Tidy m → Meets plain (once m) c (told r.answer) (settled (once m) r).monitor
  full h = numbered (once m) t c k r (single_long m.objects m.numbers ∙ lo) lr w (y h)

  full_answer : (h : Honest m) → told r.answer ≡ answer (clean (view m)) c
  full_answer h = (full (honest_tidy m h)).answered (once_apart m, once_sound h)

  -- a reply that is no refusal
  passes : (h : Honest m) → refusal (clean (view m)) c ≡ none → refuses (told r.answer) ≡ false
  passes h s = go (told r.answer) refl
    where
      go : (v : Told) → told r.answer ≡ v → refuses v ≡ false
      go (allowed l) i = refl
      go (lowered l lost) i = refl
      go (refused j) i = absurd (none-ne-some j (sym s ∙ (answered_refused (clean (view m)) c j).0 (sym (full_answer h) ∙ i)))

  wholes : (v : Told) → told r.answer ≡ v → ((j : ℕ) → told r.answer ≡ refused j → ⊥) → Whole (cond (refuses v) (once m) r.monitor) → Whole (cond (refuses v) m r.monitor)
  wholes (allowed l) p f x = x
  wholes (lowered l lost) p f x = x
  wholes (refused j) p f x = absurd (f j p)

  -- what holds of the reply holds of the monitor that is handed back: it is m, or the reply's
  module _ (b : Bool) where
    tidies : Tidy m → (Apart (cond b (once m) r.monitor) × Neat (cond b (once m) r.monitor)) → Tidy (cond b m r.monitor)
    tidies h x = go b x
      where
        go : (b : Bool) → (Apart (cond b (once m) r.monitor) × Neat (cond b (once m) r.monitor)) → Tidy (cond b m r.monitor)
        go true x = h
        go false x = λ q. (x.0, x.1 q)

    honours : Honest m → (Apart (cond b (once m) r.monitor) × Sound (cond b (once m) r.monitor)) → Honest (cond b m r.monitor)
    honours h x = go b x
      where
        go : (b : Bool) → (Apart (cond b (once m) r.monitor) × Sound (cond b (once m) r.monitor)) → Honest (cond b m r.monitor)
        go true x = h
        go false x = λ q. (x.0, (x.1 q).0, (x.1 q).1)

    claims : (cond b (once m) r.monitor).sure ≡ m.sure → (cond b m r.monitor).sure ≡ m.sure
    claims x = go b x
      where
        go : (b : Bool) → (cond b (once m) r.monitor).sure ≡ m.sure → (cond b m r.monitor).sure ≡ m.sure
        go true x = refl
        go false x = x

    rights : Right m → Apart (cond b (once m) r.monitor) → Fit (cond b (once m) r.monitor) → Right (cond b m r.monitor)
    rights h d x = go b d x
      where
        go : (b : Bool) → Apart (cond b (once m) r.monitor) → Fit (cond b (once m) r.monitor) → Right (cond b m r.monitor)
        go true d x = h
        go false d x = subst (λ (n : Monitor). Ready (clean (slots n)) (figure_of r.monitor.needs)) (sym (once_same r.monitor lr d)) x

  pub meets : (a : Reply) → a ≡ settled m r → Meets monitors m c (told a.answer) a.monitor
  meets a q = subst (λ (x : Reply). Meets monitors m c (told x.answer) x.monitor) (sym q) (record {
    unchanged = λ j p. ap (λ (v : Told). cond (refuses v) m r.monitor) p;
    answered = full_answer;
    moved = λ h s. (let x = full (honest_tidy m h) in let e = passes h s in let d = (x.stays (once_apart m, once_sound h)).0 in
        ap (λ (b : Bool). view (cond b m r.monitor)) e
        ∙ ap straight_view (once_same r.monitor lr (subst (λ (b : Bool). Apart (cond b (once m) r.monitor)) e d))
        ∙ sym (ap (λ (b : Bool). straight_view (cond b (once m) r.monitor)) e) ∙ x.moved (once_apart m, once_sound h) s);
    emptied = λ h f. wholes (told r.answer) refl f ((full h).emptied (once_apart m, once_neat h) f);
    stays = λ h. honours (refuses (told r.answer)) h ((full (honest_tidy m h)).stays (once_apart m, once_sound h));
    neat = λ h. tidies (refuses (told r.answer)) h ((full h).neat (once_apart m, once_neat h));
    says = λ h. claims (refuses (told r.answer)) ((full h).says (once_apart m, once_neat h));
    kept = λ h x. (let z = full h in
        rights (refuses (told r.answer)) x (z.neat (once_apart m, once_neat h)).0 (z.kept (once_apart m, once_neat h) x));
  })

-- ── a sure monitor, whose tables are read as they stand ──
pub view_slots : (m : Monitor) → length m.objects ≡ 64 → Apart m → Wf (slots m) → (ρ σ : ℕ → ℕ) (v : Renumbers ρ σ)
    → ((i : ℕ) → i < 64 → T (slot_used m.objects i) → ρ i ≡ called m i)
    → (view m ≡ ren ρ σ v (numbers_of m) (slots m)) × (length (numbers_of m) ≡ length (slots m).numbers)
unfolding tables_of
view_slots m lo d w ρ σ v names = let e = clean_same (slots m) w in let u = subst Wf (sym e) w in (
  ap straight_view (once_same m lo d) ∙ view_is m lo u ρ σ v names ∙ ap (ren ρ σ v (numbers_of m)) e,
  view_long m lo u ρ σ v names,
)

pub empty_view : (m : Monitor) → m.objects ≡ replicate 64 no_object → slots m ≡ empty → (once m ≡ m) × (view m ≡ empty)
empty_view m o q = let e = once_same m (ap length o ∙ length-replicate 64 no_object) (apart_empty m o) in (e, ap straight_view e ∙ view_empty m o q)
