-- What is told of a monitor by number: the kept need of a subject and of an object, the lowest number from another on, and that a monitor is assured. The
-- tables by number are those by slot renumbered, and neither a need nor whether a level is below one goes by which numbers objects have. Assumes nothing.
use mathlib.Core.Path.{◌≡◌, refl, sym, ◌∙◌, ap, subst}
use mathlib.Core.Bool.{Bool, true, false, not, cond}
use mathlib.Core.Logic.{◌⊎◌, inl, inr}
use mathlib.Core.Option.{Option, none, some}
use mathlib.Core.List.{List, [], map}
use Prim.Native.Nat.{ℕ, ◌+◌, ◌%◌, ◌≤◌, ◌<◌}
use native.Mathlib.Omega.{arith}
use lib.ListN.{length, get_or}
use lib.Dec.{T}
use borrow.Author.Tests.{lt-ltb, le-ltb}
use Rattle.model.specs.Lists.{In, from_on}
use Rattle.model.specs.Lists.Rising.{from_on_is, from_on_none, inserts_rising}
use Rattle.labels.specs.Codes.{coded}
use Rattle.labels.specs.Codes.Laws.{coded_zero}
use Rattle.model.specs.Flow.{Thing, subject, object}
use Rattle.model.specs.Tables.{Entry, Tables, used, clean, needs, safe}
use Rattle.model.proofs.Tables.Laws.{used_is, some_is}
use Rattle.model.specs.Invariant.{Wf, Safe}
use Rattle.model.proofs.Invariant.Laws.{clean_same}
use Rattle.model.specs.Figures.{Ready}
use Rattle.model.proofs.Figures.Laws.{needs_none}
use Rattle.model.proofs.Calls.Sound.{safe_sound}
use Rattle.model.proofs.Calls.Renaming.{Renumbers, thing, ren, needs_ren, safe_ren}
use Rattle.model.specs.Tables.Numbers.{holding, by_number}
use Rattle.model.proofs.Calls.Slots.{to, from, renumbers, placed}
use Rattle.model.specs.Tally.{held, drops}
use Rattle.model.proofs.Tally.Laws.{held_ren, drops_ren}
use Rattle.tables.specs.declared.Object.{Object}
use Rattle.tables.specs.declared.Handle.{Handle}
use Rattle.tables.specs.Records.{object_entry, no_object, tables_of}
use Rattle.tables.specs.Slots.{slot_used, Absent, Here, Found, NoneFrom, Lowest, First, single}
use Rattle.tables.specs.Needs.{figure_of}
use Rattle.tables.specs.Working.{object_at}
use Rattle.gatekeeper.specs.declared.Monitor.{Monitor}
use Rattle.gatekeeper.specs.View.{used_slots, beside, slots, called, numbers_of, straight_view, once, view, Right, kept_need, KeptAt, Assured}
use Rattle.gatekeeper.proofs.Acting.{used_entry, entry_used, entry_low}
use Rattle.gatekeeper.proofs.Keeping.{Told}
use Rattle.gatekeeper.proofs.Numbered.{listed_of, in_listed, view_is, view_clean, single_long, once_apart, once_same}

-- ── tables by number and by slot ──
module _ (m : Monitor) (lo : length m.objects ≡ 64) (w : Wf (clean (slots (once m)))) (ρ₀ σ₀ : ℕ → ℕ) (v₀ : Renumbers ρ₀ σ₀)
    (gives : (i : ℕ) → i < 64 → T (slot_used (single m.objects m.numbers) i) → ρ₀ i ≡ called m i) where
  renumbered : clean (view m) ≡ ren ρ₀ σ₀ v₀ (numbers_of (once m)) (clean (slots (once m)))
  renumbered = let l = single_long m.objects m.numbers ∙ lo in view_clean (once m) l w ρ₀ σ₀ v₀ gives ∙ view_is (once m) l w ρ₀ σ₀ v₀ gives

  thing_need : (x : Thing) → needs (clean (view m)) (thing ρ₀ σ₀ v₀ (numbers_of (once m)) x) ≡ needs (clean (slots (once m))) x
  thing_need x = ap (λ (t : Tables). needs t (thing ρ₀ σ₀ v₀ (numbers_of (once m)) x)) renumbered ∙ needs_ren ρ₀ σ₀ v₀ (numbers_of (once m)) (clean (slots (once m))) x

  safe_same : safe (clean (view m)) ≡ safe (clean (slots (once m)))
  safe_same = ap safe renumbered ∙ safe_ren ρ₀ σ₀ v₀ (numbers_of (once m)) (clean (slots (once m)))

-- a renumbering from the slots
module _ (m : Monitor) where
  abbrev forth : ℕ → ℕ
  forth = to (slot_used (single m.objects m.numbers)) (called m) 64

  abbrev back : ℕ → ℕ
  back = from (slot_used (single m.objects m.numbers)) (called m) 64

  given : (j : ℕ) → j < 64 → T (slot_used (single m.objects m.numbers) j) → forth j ≡ called m j
  given = placed (slot_used (single m.objects m.numbers)) (called m) 64 (once_apart m)

-- nothing dangles in the tables by number
pub view_read : (m : Monitor) → length m.objects ≡ 64 → Wf (clean (slots (once m))) → clean (view m) ≡ view m
view_read m lo w = view_clean (once m) (single_long m.objects m.numbers ∙ lo) w (forth m) (back m) (renumbers (slot_used (single m.objects m.numbers)) (called m) 64) (given m)

-- ── what stands at a number, and at a place ──
pub told_subject : (m : Monitor) (s : ℕ) → (view m).at (subject s) ≡ (slots (once m)).at (subject s)
unfolding straight_view clean
told_subject m s = refl

pub told_place : (m : Monitor) (s p : ℕ) → (view m).hand s p ≡ holding (slot_used (single m.objects m.numbers)) (called m) ((clean (slots (once m))).hand s p)
unfolding straight_view
told_place m s p = refl

pub slot_entry : (m : Monitor) (j : ℕ) → (clean (slots m)).at (object j) ≡ object_entry (get_or m.objects j no_object)
unfolding clean tables_of
slot_entry m j = refl

module _ (m : Monitor) (lo : length m.objects ≡ 64) (w : Wf (clean (slots (once m)))) (o : ℕ) (ρ₀ σ₀ : ℕ → ℕ) (v₀ : Renumbers ρ₀ σ₀)
    (gives : (i : ℕ) → i < 64 → T (slot_used (single m.objects m.numbers) i) → ρ₀ i ≡ called m i) where
  abbrev at_slots : List Object
  at_slots = single m.objects m.numbers

  as_slot : (clean (view m)).at (object o) ≡ object_entry (get_or at_slots (σ₀ o) no_object)
  as_slot = ap (λ (t : Tables). t.at (object o)) (renumbered m lo w ρ₀ σ₀ v₀ gives) ∙ slot_entry (once m) (σ₀ o)

  entry_here : (i : ℕ) → Here at_slots m.numbers o i → (clean (view m)).at (object o) ≡ object_entry (get_or at_slots i no_object)
  entry_here i h = as_slot ∙ ap (λ (j : ℕ). object_entry (get_or at_slots j no_object)) (ap σ₀ (sym (gives i h.0 h.1 ∙ h.2)) ∙ v₀.back i)

  -- where no slot in use has the number, none stands at it
  entry_absent : Absent at_slots m.numbers o → (clean (view m)).at (object o) ≡ none
  entry_absent a = as_slot ∙ go (object_entry (get_or at_slots (σ₀ o) no_object)) refl
    where
      los : length (single m.objects m.numbers) ≡ 64
      los = single_long m.objects m.numbers ∙ lo

      go : (x : Option Entry) → object_entry (get_or (single m.objects m.numbers) (σ₀ o) no_object) ≡ x → x ≡ none
      go none e = refl
      go (some z) e = let l : σ₀ o < 64 = (let h = entry_low at_slots (σ₀ o) (some_is e) in omega (arith, los, h)) in let u = entry_used at_slots (σ₀ o) (some_is e) in
          absurd (a (σ₀ o) l u (sym (gives (σ₀ o) l u) ∙ v₀.forth o))

found_low : (i : ℕ) (y x : Object) → i < 64 → y ≡ object_at i x → y ≡ x
found_low i y x l q = q ∙ ap (λ (b : Bool). cond b x no_object) (lt-ltb i 64 l)

found_high : (i : ℕ) (y x : Object) → i ≡ 64 → y ≡ object_at i x → object_entry y ≡ none
found_high i y x e q = ap object_entry (q ∙ ap (λ (b : Bool). cond b x no_object) (le-ltb i 64 (omega (arith, e))))

-- (i: where object o was found)
pub told_entry : (m : Monitor) → length m.objects ≡ 64 → Wf (clean (slots (once m))) → (o i : ℕ) (y : Object) → Found (single m.objects m.numbers) m.numbers o i
    → y ≡ object_at i (get_or (single m.objects m.numbers) (i % 64) no_object) → (view m).at (object o) ≡ object_entry y
told_entry m lo w o i y f q = ap (λ (t : Tables). t.at (object o)) (sym (view_read m lo w)) ∙ elim f.is [
  | inl h ↦ entry_here m lo w o (forth m) (back m) (renumbers (slot_used (single m.objects m.numbers)) (called m) 64) (given m) i h
      ∙ sym (ap object_entry (found_low i y (get_or (single m.objects m.numbers) (i % 64) no_object) h.0 q ∙ ap (λ (j : ℕ). get_or (single m.objects m.numbers) j no_object) (low_rest i h.0)))
  | inr h ↦ entry_absent m lo w o (forth m) (back m) (renumbers (slot_used (single m.objects m.numbers)) (called m) 64) (given m) h.0
      ∙ sym (found_high i y (get_or (single m.objects m.numbers) (i % 64) no_object) h.1 q)
]
  where
    low_rest : (i : ℕ) → i < 64 → i % 64 ≡ i
    low_rest i l = omega arith

-- ── how many handles a subject holds, and how many of them an exec drops ──
module _ (m : Monitor) (lo : length m.objects ≡ 64) (w : Wf (clean (slots (once m)))) (s : ℕ) where
  as_renumbered : clean (view m) ≡ ren (forth m) (back m) (renumbers (slot_used (single m.objects m.numbers)) (called m) 64) (numbers_of (once m)) (clean (slots (once m)))
  as_renumbered = renumbered m lo w (forth m) (back m) (renumbers (slot_used (single m.objects m.numbers)) (called m) 64) (given m)

  pub held_same : held (clean (view m)) s ≡ held (clean (slots (once m))) s
  held_same = ap (λ (t : Tables). held t s) as_renumbered
      ∙ held_ren (forth m) (back m) (renumbers (slot_used (single m.objects m.numbers)) (called m) 64) (numbers_of (once m)) (clean (slots (once m))) s

  pub drops_same : drops (clean (view m)) s ≡ drops (clean (slots (once m))) s
  drops_same = ap (λ (t : Tables). drops t s) as_renumbered
      ∙ drops_ren (forth m) (back m) (renumbers (slot_used (single m.objects m.numbers)) (called m) 64) (numbers_of (once m)) (clean (slots (once m))) s

-- ── the kept need of a subject ──
-- (x: what stands at the subject's number)
pub subject_need : (m : Monitor) → length m.objects ≡ 64 → (w : Wf (clean (slots (once m)))) (s n : ℕ) → Told (once m) w (subject s) n
    → (n ≡ kept_need m s) × (Right m → coded n ≡ needs (clean (view m)) (subject s))
unfolding Told used tables_of
subject_need m lo w s n z = (z.0, λ r. z.1 r ∙ sym (thing_need m lo w (forth m) (back m) (renumbers (slot_used (single m.objects m.numbers)) (called m) 64) (given m) (subject s)))

-- ── the kept need of an object ──
module _ (m : Monitor) (lo : length m.objects ≡ 64) (w : Wf (clean (slots (once m)))) (o : ℕ) (ρ₀ σ₀ : ℕ → ℕ) (v₀ : Renumbers ρ₀ σ₀)
    (gives : (i : ℕ) → i < 64 → T (slot_used (single m.objects m.numbers) i) → ρ₀ i ≡ called m i) where
  abbrev os : List Object
  os = single m.objects m.numbers

  los : length os ≡ 64
  los = single_long m.objects m.numbers ∙ lo

  by_slot_need : (i : ℕ) → ρ₀ i ≡ o → needs (clean (view m)) (object o) ≡ needs (clean (slots (once m))) (object i)
  by_slot_need i e = ap (λ (n : ℕ). needs (clean (view m)) (object n)) (sym e) ∙ thing_need m lo w ρ₀ σ₀ v₀ gives (object i)

  pub need_here : (i : ℕ) → Here os m.numbers o i → Right m → coded (get_or m.needs (32 + i) 0) ≡ needs (clean (view m)) (object o)
  unfolding clean tables_of
  need_here i h r = r.need_is (object i) (subst T (sym (used_is (clean (slots (once m))) (object i))) (used_entry os i h.1))
      ∙ sym (by_slot_need i (gives i h.0 h.1 ∙ h.2))

  pub need_absent : Absent os m.numbers o → coded 0 ≡ needs (clean (view m)) (object o)
  unfolding clean tables_of
  need_absent a = coded_zero ∙ sym (by_slot_need (σ₀ o) (v₀.forth o) ∙ needs_none (clean (slots (once m))) (object (σ₀ o)) w (go (object_entry (get_or os (σ₀ o) no_object)) refl))
    where
      go : (x : Option Entry) → object_entry (get_or os (σ₀ o) no_object) ≡ x → object_entry (get_or os (σ₀ o) no_object) ≡ none
      go none q = q
      go (some e) q = let l : σ₀ o < 64 = (let h = entry_low os (σ₀ o) (some_is q) in omega (arith, los, h)) in let u = entry_used os (σ₀ o) (some_is q) in absurd (a (σ₀ o) l u (sym (gives (σ₀ o) l u) ∙ v₀.forth o))

-- what is told of object o, by where it was found
pub told_need : (m : Monitor) → length m.objects ≡ 64 → Wf (clean (slots (once m))) → (o i r : ℕ) → Found (single m.objects m.numbers) m.numbers o i
    → ((i < 64) × (r ≡ get_or m.needs (32 + i % 64) 0)) ⊎ ((64 ≤ i) × (r ≡ 0)) → KeptAt m o r × (Right m → coded r ≡ needs (clean (view m)) (object o))
told_need m lo w o i r f z = go f.is z
  where
    os : List Object
    os = single m.objects m.numbers

    go : Here os m.numbers o i ⊎ (Absent os m.numbers o × (i ≡ 64)) → ((i < 64) × (r ≡ get_or m.needs (32 + i % 64) 0)) ⊎ ((64 ≤ i) × (r ≡ 0))
        → KeptAt m o r × (Right m → coded r ≡ needs (clean (view m)) (object o))
    go (inl h) (inl k) = let e : r ≡ get_or m.needs (32 + i) 0 = k.1 ∙ (let q : 32 + i % 64 ≡ 32 + i = (let l = k.0 in omega (arith, l)) in ap (λ (j : ℕ). get_or m.needs j 0) q) in
        (inl (i, h, e), λ x. ap coded e ∙ need_here m lo w o (forth m) (back m) (renumbers (slot_used os) (called m) 64) (given m) i h x)
    go (inl h) (inr k) = absurd (let a = h.0 in let b = k.0 in omega (arith, a, b))
    go (inr h) (inl k) = absurd (let a = h.1 in let b = k.0 in omega (arith, a, b))
    go (inr h) (inr k) = (inr (h.0, k.1), λ x. ap coded k.1 ∙ need_absent m lo w o (forth m) (back m) (renumbers (slot_used os) (called m) 64) (given m) h.0)

-- ── the lowest number from o on ──
-- what is found among the slots is the first of the numbers that are listed
pub told_from : (m : Monitor) → length m.objects ≡ 64 → (o r : ℕ) → First (single m.objects m.numbers) m.numbers o r
    → r ≡ from_on o (view m).numbers
unfolding straight_view
told_from m lo o r f = go f.is
  where
    n : Monitor
    n = once m

    long : length n.objects ≡ 64
    long = single_long m.objects m.numbers ∙ lo

    go : Lowest n.objects m.numbers o 64 r ⊎ (NoneFrom n.objects m.numbers o 64 × (r ≡ 0)) → r ≡ from_on o (numbers_of n)
    go (inl ((i, l, u, e), a, g)) = sym (from_on_is o r (numbers_of n) (inserts_rising (map (called n) (used_slots n.objects)) [] tt)
        (subst (λ (k : ℕ). In k (numbers_of n)) e (in_listed n long i l u)) a
        (λ k h b. let (j, (l, u, e)) = listed_of n long k h in subst (λ (z : ℕ). r ≤ z) e (g j l u (subst (λ (z : ℕ). o ≤ z) (sym e) b))))
    go (inr (g, e)) = e ∙ sym (from_on_none o (numbers_of n)
        (λ k h b. let (j, (l, u, e)) = listed_of n long k h in g j l u (subst (λ (z : ℕ). o ≤ z) (sym e) b)))

-- ── assured ──
module _ (m : Monitor) (lo : length m.objects ≡ 64) (w : Wf (clean (slots (once m)))) (hs : List Handle) (ns : List ℕ) (short : Bool) (k : ℕ)
    (q : tables_of (beside (once m)) m.subjects (single m.objects m.numbers) hs ≡ clean (slots (once m))) (r : Ready (clean (slots (once m))) (figure_of ns))
    (tested : short ≡ not (safe (clean (slots (once m))))) (e : k ≡ cond short 0 1) where
  abbrev n : Monitor
  n = record { subjects = m.subjects; objects = single m.objects m.numbers; handles = hs; freeze = m.freeze; needs = ns; groups = m.groups; sure = k; numbers = m.numbers }

  t : Tables
  t = clean (slots (once m))

  long : length (single m.objects m.numbers) ≡ 64
  long = single_long m.objects m.numbers ∙ lo

  alone : once n ≡ n
  alone = once_same n long (once_apart m)

  twice : clean (slots n) ≡ t
  unfolding t
  twice = ap clean q ∙ clean_same (clean (slots (once m))) w

  turned : (b : Bool) → ◌≡◌ {A = ℕ} (cond (not b) 0 1) (cond b 1 0)
  turned true = refl
  turned false = refl

  earned : (b : Bool) → ◌≡◌ {A = ℕ} (cond (not b) 0 1) 1 → T b
  earned true z = tt
  earned false z = absurd (omega (arith, z))

  shown : view n ≡ view m
  unfolding t straight_view
  shown = ap straight_view alone ∙ ap (λ (u : Tables). by_number (slot_used (single m.objects m.numbers)) (called m) u 64 (numbers_of (once m))) twice

  pub assured_is : Assured m n
  unfolding t
  assured_is = record {
    same = refl;
    tables = shown ∙ sym (view_read m lo w);
    emptied = subst Wf (sym q) w;
    right = subst (λ (x : Monitor). Ready (clean (slots x)) (figure_of ns)) (sym alone) (subst (λ (u : Tables). Ready u (figure_of ns)) (sym twice) r);
    claim = e ∙ ap (λ (b : Bool). cond {A = ℕ} b 0 1) tested ∙ turned (safe t)
        ∙ ap (λ (b : Bool). cond {A = ℕ} b 1 0) (sym (safe_same m lo w (forth m) (back m) (renumbers (slot_used (single m.objects m.numbers)) (called m) 64) (given m)));
    honest = λ z. (
      once_apart m,
      record { wf = subst Wf (sym q) w; safe = subst Safe (sym q) (safe_sound t w (earned (safe t) (ap (λ (b : Bool). cond {A = ℕ} b 0 1) (sym tested) ∙ sym e ∙ z))) },
      subst (λ (u : Tables). Ready u (figure_of ns)) (sym q) r,
    );
  }
