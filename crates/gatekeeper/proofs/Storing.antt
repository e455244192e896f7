-- What stands in a monitor's arrays at the numbers that a call names, and each call's stores as the rules' effect: one law a call. Assumes nothing.
use mathlib.Core.Path.{◌≡◌, refl, sym, ◌∙◌, ap, ap₂, subst, subst₂, fun_ext}
use mathlib.Core.Bool.{Bool, true, false, not, ◌||◌, ◌&&◌, cond}
use mathlib.Core.Logic.{inl, inr}
use mathlib.Core.Option.{Option, none, some, none-ne-some, some-injective}
use mathlib.Core.List.{List}
use Prim.Native.Nat.{ℕ, ◌+◌, ◌*◌, ◌%◌, ◌≤◌, ◌<◌}
use native.Mathlib.Omega.{arith}
use native.Mathlib.Decide.{ℕ_discrete}
use borrow.Author.Tests.{lt-ltb, ltb-false, eq-eqb, ne_eqb}
use lib.ListN.{length, get_or, set, length-set}
use lib.Seq.{get_or-set_same, get_or-set_other}
use lib.Dec.{T, T_not, eqb, eqb→eq, eqb_refl, leb, ltb, ltb→lt, lt→ltb}
use Rattle.model.specs.Bools.{is_false, not_not, neither}
use Rattle.model.specs.Lists.{In}
use Rattle.model.specs.Sets.{lost}
use Rattle.model.specs.Label.{Label, leq, label, in_scale, bot}
use Rattle.model.proofs.Label.Laws.{level_label, shops_label, level_in_scale, shops_in_scale}
use Rattle.labels.specs.Codes.{coded}
use Rattle.labels.specs.Codes.Laws.{coded_zero}
use Rattle.model.specs.Flow.{Thing, subject, object, same}
use Rattle.model.proofs.Flow.Changes.{but}
use Rattle.model.specs.Tables.{running, file, pipe, reading, writing, Entry, entry, handle, mapping, Tables, empty, with_at, with_hand, with_kin, is_some, live, label_of, cell, handles, open_on, needs, safe}
use Rattle.model.specs.Tables.{Handle as Held}
use Rattle.model.proofs.Tables.Laws.{used_is, live_of, cell_self, whole_by, handles_by}
use Rattle.model.specs.Steps.{reads as reads-file, hold, mix, quits, put, row, place, parted, bound, fall, sink, apply, applies, reap}
use Rattle.model.specs.Invariant.{Ends, Wf, Safe}
use Rattle.model.proofs.Invariant.Laws.{wf_hold, wf_mix, less_wf}
use Rattle.model.specs.Calls.{Call, admit, register, create, make_pipe, opens, access, fork, thread, exec, close, exit, retire, maps, mark, freeze, connect, rereads, marking, sheds, channel, steps, effect, Test, number, known, alive, present, no_pipe, leveled, freezable, new, vacant, taken, apart, unlike, others, facing, enough, suits, idle, thawed, broken, tests, order, earlier, InOrder, breaks, refusal, allowed, lowers, outcome, roomy}
use Rattle.model.specs.Calls.{Answer as Told}
use Rattle.model.proofs.Calls.Refusals.{refused_by}
use Rattle.model.proofs.Calls.Passed.{is_alive, is_present, is_new, is_place, is_vacant, sheds_less}
use Rattle.model.proofs.Calls.Dangling.{connect_wf}
use Rattle.model.proofs.Calls.Needs.{own_need}
use Rattle.model.specs.Figures.{Ready}
use Rattle.model.proofs.Figures.Laws.{access_ready, mark_ready, freeze_ready, retire_ready, admit_ready, register_ready, create_ready, pipe_ready, fork_ready, thread_ready, effect_ready, anew_ready, mapping_ready, map_ready, exec_ready, exit_ready}
use Rattle.tables.specs.declared.Subject.{Subject}
use Rattle.tables.specs.declared.Object.{Object}
use Rattle.tables.specs.declared.Handle.{Handle}
use Rattle.tables.specs.Records.{subject_entry, object_entry, joins, held, no_subject, no_object, no_handle, hands, tables_of}
use Rattle.tables.specs.Records.Laws.{subject_there, object_there, handle_there, store_subject, store_object, store_handle, store_close, slot_low}
use Rattle.tables.specs.Needs.{figure_of, Needed}
use Rattle.groups.specs.Groups.{stands, kin_of, Fresh}
use Rattle.groups.specs.Groups.Laws.{kin_live, kin_new, kin_joined, kin_parted}
use Rattle.tables.specs.Needs.Laws.{set_ready}
use Rattle.refusals.proofs.Finding.{alone}
use Rattle.refusals.specs.Refusing.{Room, Refuses, Late, direction}
use Rattle.keeping.proofs.Closing.{anew}
use Rattle.tables.specs.Working.{subject_at, object_at, handle_at, joining, fallen_by, sunken_by, Outlives}
use Rattle.gatekeeper.specs.declared.Monitor.{Monitor}
use Rattle.gatekeeper.specs.View.{beside, slots}
use Rattle.gatekeeper.specs.Acting.{Acts, Keeps, way_by}
use Rattle.gatekeeper.proofs.Owned.{Long}
use Rattle.gatekeeper.proofs.Doing.{Does, passed, row_low, new_row, not_leb, new_column, place_low, found, found_place, found_to, found_live, full_subject, full_object, full_held, own, low_row_live, admit_does, register_does, create_does, pipe_does, open_does, read_does, write_does, fork_does, thread_does, exec_does, map_does, connect_does, close_does, exit_does, retire_does, mark_does, freeze_does}
use Rattle.gatekeeper.proofs.Acting.{seen, acts}

-- the monitor with these arrays and groups, and the freeze of m; and with the groups of m
abbrev pub grouped : Monitor → List Subject → List ℕ → List Object → List Handle → List ℕ → Monitor
grouped m ss gs os hs ns = record { numbers = m.numbers; needs = ns; subjects = ss; objects = os; handles = hs; freeze = m.freeze; groups = gs; sure = m.sure }

abbrev pub monitor : Monitor → List Subject → List Object → List Handle → List ℕ → Monitor
monitor m ss os hs ns = grouped m ss m.groups os hs ns

-- a label that a call may name is two bytes
module _ (t : Tables) (c : Call) (l n : ℕ) (e : refusal t c ≡ none) (i : In (leveled (label l n)) (tests c)) where
  named : T (in_scale (label l n))
  named = not_not (in_scale (label l n)) (passed t c e (leveled (label l n)) i)

  level_low : l % 256 ≡ l
  level_low = let h : l ≤ 15 = subst (λ (k : ℕ). k ≤ 15) (level_label l n) (level_in_scale (label l n) named) in omega arith

  shops_low : n % 256 ≡ n
  shops_low = let h : n ≤ 255 = subst (λ (k : ℕ). k ≤ 255) (shops_label l n) (shops_in_scale (label l n) named) in omega arith

-- ── all handles ──
all_handles : (m : Monitor) → handles (slots m) ≡ handles (with_hand empty (hands m.handles))
unfolding tables_of
all_handles m = handles_by (slots m) (with_hand empty (hands m.handles)) refl

-- pipes end whatever the groups are
reap_kin : (before : List Held) (t : Tables) (k : ℕ → ℕ → Bool) → with_kin (reap before t) k ≡ reap before (with_kin t k)
unfolding handles
reap_kin before t k = refl

-- ── the tests before the late ones ──
abbrev then : Bool → ℕ → Option ℕ → Option ℕ
then b n o = elim b as (λ _. Option ℕ) [ true ↦ some n | false ↦ o ]

-- what comes before 15 comes before 9 and 10, too
before_late : (d : Test) → T (earlier (number d) 15 order) → T (earlier (number d) 9 order) × T (earlier (number d) 10 order)
before_late known h = (tt, tt)
before_late (alive s) h = (tt, tt)
before_late (present o) h = (tt, tt)
before_late (no_pipe o) h = (tt, tt)
before_late (leveled n) h = (tt, tt)
before_late (freezable n) h = (tt, tt)
before_late (new x) h = (tt, tt)
before_late (vacant s p) h = (tt, tt)
before_late (taken s p) h = (tt, tt)
before_late (apart p q) h = (tt, tt)
before_late (unlike a b) h = (tt, tt)
before_late (others s u) h = (tt, tt)
before_late (facing d s p) h = (tt, tt)
before_late (enough c) h = absurd h
before_late (suits s o) h = absurd h
before_late (idle o) h = absurd h
before_late (thawed d o) h = absurd h
before_late (roomy k) h = (tt, tt)

-- where no early row refuses, the tests of the early rows pass
early_passed : (t : Tables) (c : Call) → Refuses t c 0 → InOrder t c 15
early_passed t c z d i h = go (refusal t c) refl
  where
    b : T (earlier (number d) 9 order) × T (earlier (number d) 10 order)
    b = before_late d h

    before : (b15 b9 b10 : Bool) (n : ℕ) → then b15 15 (then b9 9 (then b10 10 none)) ≡ some n → T (earlier (number d) n order)
    before true b9 b10 n q = subst (λ (k : ℕ). T (earlier (number d) k order)) (some-injective 15 n q) h
    before false true b10 n q = subst (λ (k : ℕ). T (earlier (number d) k order)) (some-injective 9 n q) b.0
    before false false true n q = subst (λ (k : ℕ). T (earlier (number d) k order)) (some-injective 10 n q) b.1
    before false false false n q = absurd (none-ne-some n q)

    go : (o : Option ℕ) → refusal t c ≡ o → T (not (broken t d))
    go none q = passed t c q d i
    go (some n) q = (refused_by t c n q).1 d i (before (breaks t 15 (tests c)) (breaks t 9 (tests c)) (breaks t 10 (tests c)) n (sym z.said ∙ q))

-- the ends of pipes at two places of a subject: one reads and one writes
abbrev joined : (ℕ → ℕ → Option Held) → ℕ → ℕ → ℕ → ℕ → ℕ → ℕ → ℕ → Option Held
joined h s p q from to = place (place h s p (some (handle reading from))) s q (some (handle writing to))

abbrev Joins : List Handle → ℕ → ℕ → ℕ → ℕ → ℕ → List Handle → Type 0
Joins hs s p q from to next = (rest : Tables) (ss : List Subject) (os : List Object)
    → tables_of rest ss os next ≡ with_hand (tables_of rest ss os hs) (joined (hands hs) s p q from to)

joined_same : (h : ℕ → ℕ → Option Held) (s p q from to : ℕ) → s < 32 → p < 16 → q < 16 → from < 64 → to < 64
    → joined h (s % 32) (p % 16) (q % 16) (from % 64) (to % 64) ≡ joined h s p q from to
joined_same h s p q from to ls lp lq lf lt =
    let a : s % 32 ≡ s = omega arith in
    let b : p % 16 ≡ p = omega arith in
    let c : q % 16 ≡ q = omega arith in
    let d : from % 64 ≡ from = omega arith in
    let e : to % 64 ≡ to = omega arith in
    rw (a, b, c, d, e)

-- the handles with one row of places changed; the objects that are left when pipes end; needs from whole arrays, and the flow test by them
abbrev Rowed : List Handle → ℕ → (ℕ → Option Held) → List Handle → Type 0
Rowed hs s places after = (rest : Tables) (ss : List Subject) (os : List Object)
    → tables_of rest ss os after ≡ with_hand (tables_of rest ss os hs) (row (hands hs) s places)

abbrev Reaps : List Object → List Handle → List Handle → List Object → Type 0
Reaps os before after left = (rest : Tables) (ss : List Subject) (t : Tables) → handles t ≡ handles (with_hand empty (hands before))
    → tables_of rest ss left after ≡ reap (handles t) (tables_of rest ss os after)

abbrev Works : List Subject → List ℕ → List Object → List Handle → List ℕ → Type 0
Works ss gs os hs ns = (rest : Tables) → rest.kin ≡ kin_of ss gs → Wf (tables_of rest ss os hs) → Needed (tables_of rest ss os hs) ns

abbrev Shorts : List Subject → List Object → List ℕ → Bool → Type 0
Shorts ss os ns r = (rest : Tables) (hs : List Handle) → Wf (tables_of rest ss os hs) → Ready (tables_of rest ss os hs) (figure_of ns)
    → r ≡ not (safe (tables_of rest ss os hs))

-- the figures once a handle came, and whether some label is below one
abbrev pub Opening : Monitor → Bool → List Handle → ℕ → Handle → List ℕ → Bool → Type 0
Opening m sure next s h ns short = (rest : Tables) (t : Tables) (p : ℕ) → rest.kin ≡ kin_of m.subjects m.groups → Wf t → Ends t s p (joins h) → t.hand s p ≡ none
    → tables_of rest m.subjects m.objects next ≡ apply (hold s p (some (joins h))) t → (sure ≡ true → Ready t (figure_of m.needs))
    → Ready (tables_of rest m.subjects m.objects next) (figure_of ns) × ((sure ≡ true → Safe t) → short ≡ not (safe (tables_of rest m.subjects m.objects next)))

-- what a monitor that is sure says
abbrev Says : Monitor → Type 0
Says m = m.sure ≡ 1 → Safe (slots m) × Ready (slots m) (figure_of m.needs)

module _ (m : Monitor) (g : Long m) where
  -- ── what stands at a number ──
  pub subject_got : (s : ℕ) (x : Subject) → x ≡ subject_at s (get_or m.subjects (s % 32) no_subject) → (slots m).at (subject s) ≡ subject_entry x
  subject_got s x q = subject_there (beside m) m.subjects m.objects m.handles s g.subjects ∙ ap subject_entry (sym q)

  pub object_got : (o : ℕ) (y : Object) → y ≡ object_at o (get_or m.objects (o % 64) no_object) → (slots m).at (object o) ≡ object_entry y
  object_got o y q = object_there (beside m) m.subjects m.objects m.handles o g.objects ∙ ap object_entry (sym q)

  pub handle_got : (s p : ℕ) (h : Handle) → h ≡ handle_at s p (get_or m.handles (s % 32 * 16 + p % 16) no_handle) → (slots m).hand s p ≡ held h
  handle_got s p h q = handle_there (beside m) m.subjects m.objects m.handles s p g.handles ∙ ap held (sym q)

  -- the record of a live object is that at its number
  object_low : (o : ℕ) → o < 64 → object_at o (get_or m.objects (o % 64) no_object) ≡ get_or m.objects (o % 64) no_object
  object_low o l = ap (λ (b : Bool). cond b (get_or m.objects (o % 64) no_object) no_object) (lt-ltb o 64 l)

  -- ── stores ──
  -- the tables by three arrays, whose groups follow
  seen_is : (ss : List Subject) (gs : List ℕ) (os : List Object) (hs : List Handle) (ns : List ℕ) → seen m (grouped m ss gs os hs ns)
      ≡ with_kin (tables_of (beside m) ss os hs) (kin_of ss gs)
  unfolding tables_of
  seen_is ss gs os hs ns = refl

  put_subject : (s : ℕ) (v : Subject) → s < 32 → tables_of (beside m) (set m.subjects (s % 32) v) m.objects m.handles ≡ with_at (slots m)
      (put (slots m).at (subject s) (subject_entry v))
  put_subject s v l = store_subject (beside m) m.subjects m.objects m.handles s v g.subjects l

  -- the groups of m are beside its arrays
  kept_kin : (ss : List Subject) (os : List Object) (hs : List Handle) (a : Thing → Option Entry)
      → (with_kin (tables_of (beside m) ss os hs) (slots m).kin ≡ tables_of (beside m) ss os hs)
      × (with_kin (with_at (tables_of (beside m) ss os hs) a) (slots m).kin ≡ with_at (tables_of (beside m) ss os hs) a)
  unfolding tables_of
  kept_kin ss os hs a = (refl, refl)

  -- the groups where who is live stays so
  same_kin : (ss : List Subject) → ((a : ℕ) → stands ss a ≡ stands m.subjects a) → kin_of ss m.groups ≡ (slots m).kin
  unfolding tables_of
  same_kin ss f = kin_live m.subjects ss m.groups f

  own_kin : (slots m).kin ≡ kin_of m.subjects m.groups
  unfolding tables_of
  own_kin = refl

  -- a number that is not in use, and one that is
  not_standing : (c : ℕ) → c < 32 → (slots m).at (subject c) ≡ none → T (not (stands m.subjects (c % 32)))
  unfolding tables_of
  not_standing c l q = let e : c % 32 ≡ c = omega arith in go (eqb (get_or m.subjects (c % 32) no_subject).live 0) (ap (λ (i : ℕ). subject_entry (get_or m.subjects i no_subject)) e ∙ q)
    where
      go : (b : Bool) → cond b none (some (entry running (label (get_or m.subjects (c % 32) no_subject).level (get_or m.subjects (c % 32) no_subject).shops))) ≡ none → T (not (not b))
      go true z = tt
      go false z = absurd (none-ne-some _ (sym z))

  standing : (s : ℕ) → s < 32 → T (live (slots m) (subject s)) → T (stands m.subjects (s % 32))
  unfolding tables_of
  standing s l h = let e : s % 32 ≡ s = omega arith in go (eqb (get_or m.subjects (s % 32) no_subject).live 0)
      (subst (λ (i : ℕ). T (is_some (subject_entry (get_or m.subjects i no_subject)))) (sym e) (subst T (used_is (slots m) (subject s)) (live_of (slots m) (subject s) h).1))
    where
      go : (b : Bool) → T (is_some (cond b none (some (entry running (label (get_or m.subjects (s % 32) no_subject).level (get_or m.subjects (s % 32) no_subject).shops))))) → T (not b)
      go true z = absurd z
      go false z = tt

  -- a new subject by itself
  alone_kin : (c v : ℕ) (x : Subject) → c < 32 → (slots m).at (subject c) ≡ none → Fresh m.subjects m.groups v
      → kin_of (set m.subjects (c % 32) x) (set m.groups (c % 32) v) ≡ (slots m).kin
  alone_kin c v x l q f = kin_new m.subjects m.groups (c % 32) x g.subjects g.groups (omega arith) v (not_standing c l q) f ∙ sym own_kin

  pub put_object : (o : ℕ) (v : Object) (ns : List ℕ) → o < 64 → seen m (monitor m m.subjects (set m.objects (o % 64) v) m.handles ns) ≡ with_at (slots m)
      (put (slots m).at (object o) (object_entry v))
  put_object o v ns l = store_object (beside m) m.subjects m.objects m.handles o v g.objects l

  -- one figure
  kept_subject : (s v : ℕ) (a : Label) (t : Tables) → s < 32 → coded v ≡ a → Ready t (but (figure_of m.needs) (subject s) a)
      → Ready t (figure_of (set m.needs (s % 32) v))
  kept_subject s v a t l q k = let e : s ≡ s % 32 = omega arith in
      subst (λ (i : ℕ). Ready t (figure_of (set m.needs i v))) e (set_ready m.needs (subject s) v g.needs (lt→ltb s 32 l) t a q k)

  kept_object : (o v : ℕ) (a : Label) (t : Tables) → o < 64 → coded v ≡ a → Ready t (but (figure_of m.needs) (object o) a)
      → Ready t (figure_of (set m.needs (32 + o % 64) v))
  kept_object o v a t l q k = let e : o ≡ o % 64 = omega arith in
      subst (λ (i : ℕ). Ready t (figure_of (set m.needs (32 + i) v))) e (set_ready m.needs (object o) v g.needs (lt→ltb o 64 l) t a q k)

  -- that of a subject in range
  own_figure : (s : ℕ) → s < 32 → coded (get_or m.needs (s % 32) 0) ≡ figure_of m.needs (subject s)
  own_figure s l = let e : s % 32 ≡ s = omega arith in ap (λ (i : ℕ). coded (get_or m.needs i 0)) e

  -- figures that were worked out for the tables that the steps make
  worked : (c : Call) (os : List Object) (hs : List Handle) (ns : List ℕ) → tables_of (beside m) m.subjects os hs ≡ applies (steps (slots m) c) (slots m)
      → Wf (tables_of (beside m) m.subjects os hs) → Works m.subjects m.groups os hs ns → Ready (effect (slots m) c) (figure_of ns)
  worked c os hs ns q w f = anew_ready (slots m) c (figure_of ns)
      (λ x h. (f (beside m) refl w).need_is x h ∙ ap (λ (t : Tables). needs t x) q)

  -- ── admit, register, create ──
  pub admits : (s l n : ℕ) (ss : List Subject) (gs : List ℕ) (v : ℕ) (ns : List ℕ) → Wf (slots m) → refusal (slots m) (admit s (label l n)) ≡ none
      → ss ≡ set m.subjects (s % 32) (record { live = 1; level = l % 256; shops = n % 256 }) → Fresh m.subjects m.groups v → gs ≡ set m.groups (s % 32) v
      → ns ≡ set m.needs (s % 32) 0 → Acts m (admit s (label l n)) (allowed (l % 256)) (grouped m ss gs m.objects m.handles ns)
  admits s l n ss gs v ns w e p f d q = rw (p, d, q, level_low (slots m) (admit s (label l n)) l n e (inr (inl refl)), shops_low (slots m) (admit s (label l n)) l n e (inr (inl refl)))
      (acts m (admit s (label l n)) (allowed l) _ _ refl refl (admit_does (slots m) s l n e)
      (seen_is _ (set m.groups (s % 32) v) m.objects m.handles (set m.needs (s % 32) 0) ∙ ap₂ with_kin (put_subject s (record { live = 1; level = l; shops = n }) low)
      (alone_kin s v (record { live = 1; level = l; shops = n }) low (is_new (slots m) (subject s) (passed (slots m) (admit s (label l n)) e (new (subject s)) (inl refl))).1 f))
      (λ k. kept_subject s 0 bot _ low coded_zero (admit_ready (slots m) (figure_of m.needs) w k s (label l n) e)))
    where
      low : s < 32
      low = new_row (slots m) (admit s (label l n)) e s (inl refl)

  pub registers : (o l n v : ℕ) (os : List Object) (ns : List ℕ) → Wf (slots m) → refusal (slots m) (register o (label l n)) ≡ none → Room (slots m) (register o (label l n))
      → os ≡ set m.objects (o % 64) (record { kind = 1; level = l % 256; shops = n % 256 }) → coded v ≡ label (l % 256) (n % 256) → ns ≡ set m.needs (32 + o % 64) v
      → Acts m (register o (label l n)) (allowed (l % 256)) (monitor m m.subjects os m.handles ns)
  registers o l n v os ns w e room p z q = rw (p, q, is_l, is_n)
      (acts m (register o (label l n)) (allowed l) _ _ refl refl (register_does (slots m) o l n e) (put_object o (record { kind = 1; level = l; shops = n }) (set m.needs (32 + o % 64) v) low)
      (λ k. kept_object o v (label l n) _ low (subst₂ (λ (a b : ℕ). coded v ≡ label a b) is_l is_n z) (register_ready (slots m) (figure_of m.needs) w k o (label l n) e)))
    where
      low : o < 64
      low = new_column (slots m) (register o (label l n)) e o (inl refl) (inr (inr (inl refl))) room

      is_l : l % 256 ≡ l
      is_l = level_low (slots m) (register o (label l n)) l n e (inr (inl refl))

      is_n : n % 256 ≡ n
      is_n = shops_low (slots m) (register o (label l n)) l n e (inr (inl refl))

  pub creates : (s o : ℕ) (x : Subject) (v : ℕ) (os : List Object) (ns : List ℕ) → Wf (slots m) → refusal (slots m) (create s o) ≡ none → Room (slots m) (create s o)
      → (slots m).at (subject s) ≡ subject_entry x → os ≡ set m.objects (o % 64) (record { kind = 1; level = x.level; shops = x.shops })
      → coded v ≡ label x.level x.shops → ns ≡ set m.needs (32 + o % 64) v → Acts m (create s o) (allowed x.level) (monitor m m.subjects os m.handles ns)
  creates s o x v os ns w e room q p f r = rw (p, r) (acts m (create s o) (allowed x.level) _ _ refl refl (create_does (slots m) s o x e q)
      (put_object o (record { kind = 1; level = x.level; shops = x.shops }) (set m.needs (32 + o % 64) v) low)
      (λ k. kept_object o v _ _ low (f ∙ sym (own (slots m) (create s o) e s (inl refl) x q)) (create_ready (slots m) (figure_of m.needs) w k s o e)))
    where
      low : o < 64
      low = new_column (slots m) (create s o) e o (inr (inl refl)) (inr (inr (inl refl))) room

  -- ── read, write ──
  -- what one of a group takes in, stored for all of them, and whether a label is smaller by that
  abbrev Takes : ℕ → ℕ → ℕ → List Subject → Bool → Type 0
  Takes s l n after b = ((rest : Tables) (os : List Object) (hs : List Handle) (d : Entry) → s < 32 → rest.kin ≡ kin_of m.subjects m.groups → d.label ≡ label l n
      → tables_of rest after os hs ≡ with_at (tables_of rest m.subjects os hs) (sink (tables_of rest m.subjects os hs) (subject s) (some d)))
      × (((rest : Tables) (os : List Object) (hs : List Handle) → lowers (tables_of rest m.subjects os hs) (tables_of rest after os hs) ≡ b)
      × ((a : ℕ) → stands after a ≡ stands m.subjects a))

  pub reads : (s p : ℕ) (x v : Subject) (h : Handle) (y : Object) (ss : List Subject) (b : Bool) (a : Told) → Wf (slots m) → refusal (slots m) (access reading s p) ≡ none
      → (slots m).at (subject s) ≡ subject_entry x → (slots m).hand s p ≡ held h → (slots m).at (object h.object) ≡ object_entry y → v ≡ fallen_by x y.level y.shops
      → Takes s y.level y.shops ss b → a ≡ outcome b v.level (lost x.shops v.shops) → Acts m (access reading s p) a (monitor m ss m.objects m.handles m.needs)
  reads s p x v h y ss b a w e q r o f n k = acts m (access reading s p) a _ _ refl refl
      (subst (λ (c : Told). Does (slots m) (access reading s p) c u) (sym (k ∙ ap (λ (z : Subject). outcome b z.level (lost x.shops z.shops)) f))
      (read_does (slots m) w s p x h y u b e q r o
      (n.0 (beside m) m.objects m.handles (entry _ (label y.level y.shops)) (row_low (slots m) (access reading s p) e s (inl refl)) refl refl
      ∙ ap (λ (d : Option Entry). with_at (slots m) (sink (slots m) (subject s) d)) (sym there)) (n.1.0 (beside m) m.objects m.handles)))
      (seen_is ss m.groups m.objects m.handles m.needs ∙ ap (with_kin u) (same_kin ss n.1.1) ∙ (kept_kin ss m.objects m.handles u.at).0)
      (λ k. access_ready (slots m) (figure_of m.needs) w k reading s p)
    where
      u : Tables
      u = tables_of (beside m) ss m.objects m.handles

      there : (slots m).at (object h.object) ≡ some (entry (cond (eqb y.kind 1) file pipe) (label y.level y.shops))
      there = full_object (slots m) h.object y o (found_live (slots m) w (access reading s p) s p h e (inr (inl refl)) r)

  -- the subjects once those who have the object mapped have read it, and whether one of them has a smaller label then
  pub writes : (s p : ℕ) (x : Subject) (h : Handle) (y v : Object) (after : List Subject) (os : List Object) (b : Bool) (a : Told) → Wf (slots m)
      → refusal (slots m) (access writing s p) ≡ none → (slots m).at (subject s) ≡ subject_entry x → (slots m).hand s p ≡ held h
      → y ≡ object_at h.object (get_or m.objects (h.object % 64) no_object) → v ≡ sunken_by y x.level x.shops
      → ((rest : Tables) (os : List Object) → rest.kin ≡ kin_of m.subjects m.groups → get_or os h.object no_object ≡ y
      → tables_of rest after os m.handles ≡ applies (rereads (tables_of rest m.subjects os m.handles) (object h.object))
      (tables_of rest m.subjects os m.handles))
      → ((i : ℕ) → stands after i ≡ stands m.subjects i) → ((rest : Tables) (os : List Object) (hs : List Handle) → lowers (tables_of rest m.subjects os hs) (tables_of rest after os hs) ≡ b)
      → os ≡ set m.objects (h.object % 64) v → a ≡ outcome (not (leq (label y.level y.shops) (label v.level v.shops)) || b) v.level (lost y.shops v.shops)
      → Acts m (access writing s p) a (monitor m after os m.handles m.needs)
  writes s p x h y v after os b a w e q r o f n lives l c k = rw c (acts m (access writing s p) a _ _ refl refl (subst₂ (λ (c : Told) (z : Object). Does (slots m) (access writing s p) c
      (with_at u (put u.at (object h.object) (object_entry z)))) (sym (k ∙ ap (λ (z : Object). outcome (not (leq (label y.level y.shops) (label z.level z.shops)) || b) z.level (lost y.shops z.shops)) f))
      (sym f)
      (write_does (slots m) w s p x h y u b e q r (object_got h.object y o)
      (n (beside m) m.objects refl (ap (λ (i : ℕ). get_or m.objects i no_object) same ∙ sym (o ∙ object_low h.object low)))
      (l (beside m) m.objects m.handles))) (seen_is after m.groups (set m.objects (h.object % 64) v) m.handles m.needs
      ∙ ap₂ with_kin (store_object (beside m) after m.objects m.handles h.object v g.objects low) (same_kin after lives)
      ∙ (kept_kin after m.objects m.handles (put u.at (object h.object) (object_entry v))).1)
      (λ k. access_ready (slots m) (figure_of m.needs) w k writing s p))
    where
      u : Tables
      u = tables_of (beside m) after m.objects m.handles

      low : h.object < 64
      low = slot_low (beside m) m.subjects m.objects m.handles g.objects (slots m) h.object refl (found_live (slots m) w (access writing s p) s p h e (inr (inl refl)) r)

      same : h.object ≡ h.object % 64
      same = omega (arith, low)

  -- ── pipe ──
  pub pipes : (s o r w : ℕ) (x : Subject) (os : List Object) (next : List Handle) (v : ℕ) (ns : List ℕ) → Wf (slots m)
      → refusal (slots m) (make_pipe s o r w) ≡ none → Room (slots m) (make_pipe s o r w) → (slots m).at (subject s) ≡ subject_entry x
      → os ≡ set m.objects (o % 64) (record { kind = 2; level = x.level; shops = x.shops }) → Joins m.handles (s % 32) (r % 16) (w % 16) (o % 64) (o % 64) next
      → v ≡ get_or m.needs (s % 32) 0 → ns ≡ set m.needs (32 + o % 64) v
      → Acts m (make_pipe s o r w) (allowed x.level) (monitor m m.subjects os next ns)
  unfolding tables_of
  pipes s o r w x os next v ns wf e room q p f d n = rw (p, n) (acts m (make_pipe s o r w) (allowed x.level) _ _ refl refl (pipe_does (slots m) s o r w x e q)
      (f (beside m) m.subjects (set m.objects (o % 64) y)
      ∙ ap (λ (u : Tables). with_hand u (joined (hands m.handles) (s % 32) (r % 16) (w % 16) (o % 64) (o % 64))) (put_object o y m.needs low)
      ∙ ap (λ (h : ℕ → ℕ → Option Held). with_hand (with_at (slots m) (put (slots m).at (object o) (some (entry pipe (label x.level x.shops))))) h)
      (joined_same (hands m.handles) s r w o o low_s
      (place_low (slots m) (make_pipe s o r w) e s r (inr (inr (inl refl))))
      (place_low (slots m) (make_pipe s o r w) e s w (inr (inr (inr (inl refl))))) low low))
      (λ k. kept_object o v _ _ low (ap coded d ∙ own_figure s low_s) (pipe_ready (slots m) (figure_of m.needs) wf k s o r w e)))
    where
      low : o < 64
      low = new_column (slots m) (make_pipe s o r w) e o (inr (inl refl)) (inr (inr (inr (inr (inr (inl refl)))))) room

      low_s : s < 32
      low_s = row_low (slots m) (make_pipe s o r w) e s (inl refl)

      y : Object
      y = record { kind = 2; level = x.level; shops = x.shops }

  -- ── connect ──
  module _ (s u a b p q : ℕ) (x z : Subject) (os₁ os : List Object) (one next : List Handle) (ns : List ℕ) (w : Wf (slots m)) (k : Refuses (slots m) (connect s u a b p q) 0) (room : Room (slots m) (connect s u a b p q))
      (i : (slots m).at (subject s) ≡ subject_entry x) (j : (slots m).at (subject u) ≡ subject_entry z)
      (f : Joins m.handles (s % 32) (p % 16) (q % 16) (b % 64) (a % 64) one) (g' : Joins one (u % 32) (p % 16) (q % 16) (a % 64) (b % 64) next)
      (is_one : os₁ ≡ set m.objects (a % 64) (record { kind = 2; level = x.level; shops = x.shops }))
      (is_both : os ≡ set os₁ (b % 64) (record { kind = 2; level = z.level; shops = z.shops })) (h : Works m.subjects m.groups os next ns) where
    passes : InOrder (slots m) (connect s u a b p q) 15
    passes = early_passed (slots m) (connect s u a b p q) k

    low_row : (v : ℕ) → In (alive v) (tests (connect s u a b p q)) → v < 32
    low_row v d = ltb→lt v 32 (live_of (slots m) (subject v) (is_alive (slots m) v (passes (alive v) d tt))).0

    -- both are new, and there is room
    roomy_now : T (not (leb 64 a || leb 64 b))
    roomy_now = subst (λ (v : Bool). T (not v)) (room (is_new (slots m) (object a) (passes (new (object a)) (inr (inr (inr (inl refl)))) tt)).1
        (is_new (slots m) (object b) (passes (new (object b)) (inr (inr (inr (inr (inl refl))))) tt)).1
        (λ q. T_not (eqb a b) (passes (unlike a b) (inr (inr (inr (inr (inr (inl refl)))))) tt) (subst (λ (v : ℕ). T (eqb a v)) q (eqb_refl a))))
        (passes (roomy 2) (inr (inr (inr (inr (inr (inr (inr (inr (inr (inr (inr (inr (inl refl))))))))))))) tt)

    low_a : a < 64
    low_a = not_leb 64 a (neither (leb 64 a) (leb 64 b) roomy_now).0

    low_b : b < 64
    low_b = not_leb 64 b (neither (leb 64 a) (leb 64 b) roomy_now).1

    low_p' : p < 16
    low_p' = is_place (slots m) s p (passes (vacant s p) (inr (inr (inr (inr (inr (inr (inl refl))))))) tt)

    low_q' : q < 16
    low_q' = is_place (slots m) s q (passes (vacant s q) (inr (inr (inr (inr (inr (inr (inr (inl refl)))))))) tt)

    abbrev pipe_of : Subject → Object
    pipe_of v = record { kind = 2; level = v.level; shops = v.shops }

    abbrev both_pipes : List Object
    both_pipes = set (set m.objects (a % 64) (pipe_of x)) (b % 64) (pipe_of z)

    os_is : os ≡ both_pipes
    os_is = is_both ∙ ap (λ (l : List Object). set l (b % 64) (pipe_of z)) is_one

    -- both pipes and all four handles
    connected : tables_of (beside m) m.subjects both_pipes next ≡ with_hand
        (with_at (slots m) (put (put (slots m).at (object a) (some (entry pipe (label x.level x.shops)))) (object b) (some (entry pipe (label z.level z.shops)))))
        (joined (joined (slots m).hand s p q b a) u p q a b)
    unfolding tables_of
    connected = g' (beside m) m.subjects both_pipes
        ∙ ap (λ (v : Tables). with_hand v (joined v.hand (u % 32) (p % 16) (q % 16) (a % 64) (b % 64))) (f (beside m) m.subjects both_pipes)
        ∙ ap (λ (v : Tables). with_hand v (joined (joined (hands m.handles) (s % 32) (p % 16) (q % 16) (b % 64) (a % 64)) (u % 32) (p % 16) (q % 16)
        (a % 64) (b % 64)))
        (store_object (beside m) m.subjects (set m.objects (a % 64) (pipe_of x)) m.handles b (pipe_of z)
        (simp length-set g.objects) low_b
        ∙ ap (λ (v : Tables). with_at v (put v.at (object b) (some (entry pipe (label z.level z.shops))))) (put_object a (pipe_of x) m.needs low_a))
        ∙ ap (λ (h : ℕ → ℕ → Option Held). with_hand
        (with_at (slots m) (put (put (slots m).at (object a) (some (entry pipe (label x.level x.shops)))) (object b) (some (entry pipe (label z.level z.shops))))) h)
        (ap (λ (h : ℕ → ℕ → Option Held). joined h (u % 32) (p % 16) (q % 16) (a % 64) (b % 64))
        (joined_same (hands m.handles) s p q b a (low_row s (inl refl)) low_p' low_q' low_b low_a)
        ∙ joined_same (joined (hands m.handles) s p q b a) u p q a b (low_row u (inr (inl refl))) low_p' low_q' low_a low_b)

    -- which is what the rules' steps make
    stepped : tables_of (beside m) m.subjects both_pipes next ≡ applies (channel (slots m) s u a b p q) (slots m)
    stepped = connected ∙ ap₂ (λ (k l : Label). with_hand
        (with_at (slots m) (put (put (slots m).at (object a) (some (entry pipe k))) (object b) (some (entry pipe l))))
        (joined (joined (slots m).hand s p q b a) u p q a b))
        (sym (own_label s x (inl refl) i)) (sym (own_label u z (inr (inl refl)) j))
      where
        own_label : (v : ℕ) (y : Subject) → In (alive v) (tests (connect s u a b p q)) → (slots m).at (subject v) ≡ subject_entry y
            → label_of ((slots m).at (cell (slots m) v)) ≡ label y.level y.shops
        own_label v y d e = ap label_of (ap (slots m).at (cell_self (slots m) v) ∙ full_subject (slots m) v y e (is_alive (slots m) v (passes (alive v) d tt)))

    flows_now : tables_of (beside m) m.subjects os next ≡ applies (channel (slots m) s u a b p q) (slots m)
    flows_now = ap (λ (l : List Object). tables_of (beside m) m.subjects l next) os_is ∙ stepped

    wf_now : Wf (tables_of (beside m) m.subjects os next)
    wf_now = subst Wf (sym flows_now) (connect_wf (slots m) w s u a b p q passes)

    pub connect_late : (r : Bool) → Shorts m.subjects os ns r → Late (slots m) (connect s u a b p q) r false false
    connect_late r f = record { nine = alone tested; ten = refl; fifteen = refl }
      where
        tested : broken (slots m) (enough (connect s u a b p q)) ≡ r
        tested = sym (f (beside m) next wf_now (anew (beside m) m.subjects os next ns (h (beside m) refl wf_now)) ∙ ap (λ (v : Tables). not (safe v)) flows_now)

    pub connects : refusal (slots m) (connect s u a b p q) ≡ none → Acts m (connect s u a b p q) (allowed x.level) (monitor m m.subjects os next ns)
    connects e = acts m (connect s u a b p q) (allowed x.level) _ _ refl refl (connect_does (slots m) s u a b p q x z e i j)
        (ap (λ (l : List Object). tables_of (beside m) m.subjects l next) os_is ∙ connected)
        (λ k. worked (connect s u a b p q) os next ns flows_now wf_now h)

  -- ── close, exit, fork ──
  pub closes : (s p : ℕ) (x : Subject) (h : Handle) (y r : Object) (os : List Object) (hs : List Handle) (ns : List ℕ) → Wf (slots m)
      → refusal (slots m) (close s p) ≡ none → (slots m).at (subject s) ≡ subject_entry x → (slots m).hand s p ≡ held h
      → y ≡ object_at h.object (get_or m.objects (h.object % 64) no_object)
      → hs ≡ set m.handles (s % 32 * 16 + p % 16) no_handle → Outlives hs y h.object r → os ≡ set m.objects (h.object % 64) r
      → ((rest : Tables) (t : Tables) (p : ℕ) → rest.kin ≡ kin_of m.subjects m.groups → Wf t → t.hand s p ≡ some (joins h)
      → tables_of rest m.subjects m.objects hs ≡ apply (hold s p none) t
      → Ready t (figure_of m.needs) → Ready (tables_of rest m.subjects m.objects hs) (figure_of ns))
      → Acts m (close s p) (allowed x.level) (monitor m m.subjects os hs ns)
  closes s p x h y r os hs ns w e q z o n d v f = acts m (close s p) (allowed x.level) _ _ refl refl (close_does (slots m) s p x e q)
      (ap₂ (λ (a : List Object) (b : List Handle). tables_of (beside m) m.subjects a b) v n
      ∙ store_close (beside m) m.subjects m.objects m.handles s p h.object k.0 no_handle r g.objects g.handles low_s low_p low
      k.1 to (subst₂ (λ (l : List Handle) (a : Object). Outlives l a h.object r) n (o ∙ object_low h.object low) d))
      (λ c. effect_ready (slots m) (close s p) (figure_of ns) (subst (λ (t : Tables). Ready t (figure_of ns)) shut (f (beside m) (slots m) p refl w taken_at shut c)))
    where
      k : (k : Held) × ((slots m).hand s p ≡ some k)
      k = found (slots m) w (close s p) s p h e (inr (inl refl)) z

      to : h.object ≡ k.0.to
      to = found_to (slots m) w (close s p) s p h e (inr (inl refl)) z

      low : h.object < 64
      low = slot_low (beside m) m.subjects m.objects m.handles g.objects (slots m) h.object refl (found_live (slots m) w (close s p) s p h e (inr (inl refl)) z)

      low_s : s < 32
      low_s = row_low (slots m) (close s p) e s (inl refl)

      low_p : p < 16
      low_p = found_place (slots m) w (close s p) s p h e (inr (inl refl)) z

      shut : tables_of (beside m) m.subjects m.objects hs ≡ apply (hold s p none) (slots m)
      shut = ap (tables_of (beside m) m.subjects m.objects) n
          ∙ store_handle (beside m) m.subjects m.objects m.handles s p no_handle g.handles low_s low_p

      taken_at : (slots m).hand s p ≡ some (joins h)
      taken_at = z ∙ full_held h k.0 (sym z ∙ k.1)

  pub exits : (s : ℕ) (x : Subject) (ss : List Subject) (after : List Handle) (left : List Object) (ns : List ℕ) → Wf (slots m) → refusal (slots m) (exit s) ≡ none
      → (slots m).at (subject s) ≡ subject_entry x → ss ≡ set m.subjects (s % 32) no_subject
      → Rowed m.handles (s % 32) (λ p. none) after → Reaps m.objects m.handles after left
      → ((rest : Tables) (t : Tables) → rest.kin ≡ kin_of ss m.groups → Wf t → T (live t (subject s)) → tables_of rest ss m.objects after ≡ apply (quits (same (subject s))) t
      → Ready t (figure_of m.needs) → Ready (tables_of rest ss m.objects after) (figure_of ns))
      → Acts m (exit s) (allowed x.level) (monitor m ss left after ns)
  unfolding tables_of
  exits s x ss after left ns w e q n a b f = acts m (exit s) (allowed x.level) _ _ refl refl (exit_does (slots m) s x e q)
      (seen_is ss m.groups left after ns ∙ ap (λ (u : Tables). with_kin u (kin_of ss m.groups)) (b (beside m) ss (slots m) (all_handles m)) ∙ reap_kin (handles (slots m)) (tables_of (beside m) ss m.objects after) (kin_of ss m.groups)
      ∙ ap (reap (handles (slots m))) gone_now)
      (λ k. exit_ready (slots m) s (figure_of ns) (subst (λ (t : Tables). Ready t (figure_of ns)) left_now
      (f (with_kin (beside m) (kin_of ss m.groups)) (slots m) refl w (low_row_live (slots m) (exit s) e s (inl refl)) left_now k)))
    where
      low : s < 32
      low = row_low (slots m) (exit s) e s (inl refl)

      same_s : s % 32 ≡ s
      same_s = omega (arith, low)

      kin_now : kin_of ss m.groups ≡ parted (same (subject s)) (slots m).kin
      kin_now = kin_parted m.subjects ss m.groups (same (subject s)) (λ i. ap (λ (l : List Subject). stands l i) n ∙ gone i (ℕ_discrete i (s % 32)))
          ∙ ap (parted (same (subject s))) (sym own_kin)
        where
          gone : (i : ℕ) → Dec (i ≡ s % 32) → stands (set m.subjects (s % 32) no_subject) i ≡ (not (eqb s i) && stands m.subjects i)
          gone i (yes z) = ap (λ (y : Subject). not (eqb y.live 0)) (ap (λ (j : ℕ). get_or (set m.subjects (s % 32) no_subject) j no_subject) z
              ∙ get_or-set_same m.subjects (s % 32) no_subject no_subject (omega (arith, g.subjects)))
              ∙ sym (ap (λ (b : Bool). not b && stands m.subjects i) (eq-eqb s i (sym same_s ∙ sym z)))
          gone i (no z) = ap (λ (y : Subject). not (eqb y.live 0)) (get_or-set_other m.subjects (s % 32) i no_subject no_subject z)
              ∙ sym (ap (λ (b : Bool). not b && stands m.subjects i) (ne_eqb s i (λ k. z (sym k ∙ sym same_s))))

      rows_now : tables_of (beside m) ss m.objects after ≡ with_at (with_hand (slots m) (row (slots m).hand s (λ p. none))) (put (slots m).at (subject s) none)
      rows_now = a (beside m) ss m.objects ∙ ap₂ (λ (u : Tables) (f : ℕ → ℕ → Option Held). with_hand u f)
          (ap (λ (l : List Subject). tables_of (beside m) l m.objects m.handles) n ∙ put_subject s no_subject low) (ap (λ (i : ℕ). row (hands m.handles) i (λ p. none)) same_s)

      gone_now : with_kin (tables_of (beside m) ss m.objects after) (kin_of ss m.groups)
          ≡ with_kin (with_at (with_hand (slots m) (row (slots m).hand s (λ p. none))) (put (slots m).at (subject s) none)) (parted (same (subject s)) (slots m).kin)
      gone_now = ap₂ with_kin rows_now kin_now

      left_now : tables_of (with_kin (beside m) (kin_of ss m.groups)) ss m.objects after ≡ apply (quits (same (subject s))) (slots m)
      left_now = gone_now

  pub forks : (s c : ℕ) (x : Subject) (ss : List Subject) (gs : List ℕ) (i : ℕ) (after : List Handle) (v : ℕ) (ns : List ℕ) → Wf (slots m) → refusal (slots m) (fork s c) ≡ none
      → (slots m).at (subject s) ≡ subject_entry x → ss ≡ set m.subjects (c % 32) (record { live = 1; level = x.level; shops = x.shops })
      → Fresh m.subjects m.groups i → gs ≡ set m.groups (c % 32) i → Rowed m.handles (c % 32) (hands m.handles (s % 32)) after
      → ((rest : Tables) (ss : List Subject) (os : List Object) → length os ≡ 64 → s < 32 → Wf (tables_of rest ss os m.handles) → Ready (tables_of rest ss os m.handles) (figure_of m.needs)
      → coded v ≡ own_need (tables_of rest ss os m.handles) s) → ns ≡ set m.needs (c % 32) v
      → Acts m (fork s c) (allowed x.level) (grouped m ss gs m.objects after ns)
  unfolding tables_of
  forks s c x ss gs i after v ns w e q n f d a o r = rw (n, d, r) (acts m (fork s c) (allowed x.level) _ _ refl refl (fork_does (slots m) s c x w e q)
      (seen_is _ (set m.groups (c % 32) i) m.objects after (set m.needs (c % 32) v) ∙ ap₂ with_kin rows
      (alone_kin c i (record { live = 1; level = x.level; shops = x.shops }) low (is_new (slots m) (subject c) (passed (slots m) (fork s c) e (new (subject c)) (inr (inl refl)))).1 f))
      (λ k. kept_subject c v (coded v) _ low refl (fork_ready (slots m) (figure_of m.needs) w k s c (coded v) (o (beside m) m.subjects m.objects g.objects low_s w k) e)))
    where
      low : c < 32
      low = new_row (slots m) (fork s c) e c (inr (inl refl))

      low_s : s < 32
      low_s = row_low (slots m) (fork s c) e s (inl refl)

      same_c : c % 32 ≡ c
      same_c = omega (arith, low)

      same_s : s % 32 ≡ s
      same_s = omega (arith, low_s)

      rows : tables_of (beside m) (set m.subjects (c % 32) (record { live = 1; level = x.level; shops = x.shops })) m.objects after
          ≡ with_hand (with_at (slots m) (put (slots m).at (subject c) (some (entry running (label x.level x.shops))))) (row (slots m).hand c ((slots m).hand s))
      rows = a (beside m) _ _ ∙ ap₂ (λ (u : Tables) (f : ℕ → ℕ → Option Held). with_hand u f) (put_subject c (record { live = 1; level = x.level; shops = x.shops }) low)
          (ap₂ (λ (i : ℕ) (f : ℕ → Option Held). row (hands m.handles) i f) same_c (ap (hands m.handles) same_s))

  -- a new member has the byte and the need of the one that it joins
  pub threads : (s c : ℕ) (x : Subject) (ss : List Subject) (gs : List ℕ) (b v : ℕ) (ns : List ℕ) → Wf (slots m) → refusal (slots m) (thread s c) ≡ none
      → (slots m).at (subject s) ≡ subject_entry x → ss ≡ set m.subjects (c % 32) (record { live = 1; level = x.level; shops = x.shops })
      → b ≡ get_or m.groups (s % 32) 0 → gs ≡ set m.groups (c % 32) b → v ≡ get_or m.needs (s % 32) 0 → ns ≡ set m.needs (c % 32) v
      → Acts m (thread s c) (allowed x.level) (grouped m ss gs m.objects m.handles ns)
  threads s c x ss gs b v ns w e q n i d j r = rw (n, d, r) (acts m (thread s c) (allowed x.level) _ _ refl refl (thread_does (slots m) s c x e q)
      (seen_is _ (set m.groups (c % 32) b) m.objects m.handles (set m.needs (c % 32) v) ∙ ap₂ with_kin (put_subject c (record { live = 1; level = x.level; shops = x.shops }) low) joined_kin)
      (λ k. kept_subject c v _ _ low (ap coded j ∙ own_figure s low_s) (thread_ready (slots m) (figure_of m.needs) w k s c e)))
    where
      free : (slots m).at (subject c) ≡ none
      free = (is_new (slots m) (subject c) (passed (slots m) (thread s c) e (new (subject c)) (inr (inl refl)))).1

      low : c < 32
      low = new_row (slots m) (thread s c) e c (inr (inl refl))

      low_s : s < 32
      low_s = row_low (slots m) (thread s c) e s (inl refl)

      same_c : c % 32 ≡ c
      same_c = omega (arith, low)

      same_s : s % 32 ≡ s
      same_s = omega (arith, low_s)

      apart_now : s % 32 ≡ c % 32 → ⊥
      apart_now z = subst (λ (o : Option Entry). T (is_some o)) (ap (λ (i : ℕ). (slots m).at (subject i)) (sym same_s ∙ z ∙ same_c) ∙ free)
          (subst T (used_is (slots m) (subject s)) (live_of (slots m) (subject s) (low_row_live (slots m) (thread s c) e s (inl refl))).1)

      joined_kin : kin_of (set m.subjects (c % 32) (record { live = 1; level = x.level; shops = x.shops })) (set m.groups (c % 32) b) ≡ bound c s (slots m).kin
      joined_kin = ap (λ (i : ℕ). kin_of (set m.subjects (c % 32) (record { live = 1; level = x.level; shops = x.shops })) (set m.groups (c % 32) i)) i
          ∙ kin_joined m.subjects m.groups (c % 32) (record { live = 1; level = x.level; shops = x.shops }) g.subjects g.groups (omega arith) (s % 32) apart_now
          (not_standing c low free) (standing s low_s (low_row_live (slots m) (thread s c) e s (inl refl))) tt
          ∙ ap₂ (λ (a b : ℕ). bound a b (kin_of m.subjects m.groups)) same_c same_s ∙ ap (bound c s) (sym own_kin)

  -- ── open ──
  module _ (b : Bool) (s o p : ℕ) (x : Object) (h : Handle) (next : List Handle) (ns : List ℕ) (r : Bool) (w : Wf (slots m))
      (z : Refuses (slots m) (opens (direction b) s o p) 0) (k : (slots m).at (object o) ≡ object_entry x) (i : h ≡ joining (way_by b) o)
      (y : next ≡ set m.handles (s % 32 * 16 + p % 16) h) (f : Opening m (eqb m.sure 1) next s h ns r) where
    lives : T (live (slots m) (subject s))
    lives = is_alive (slots m) s (early_passed (slots m) (opens (direction b) s o p) z (alive s) (inl refl) tt)

    there : T (live (slots m) (object o))
    there = is_present (slots m) o (early_passed (slots m) (opens (direction b) s o p) z (present o) (inr (inl refl)) tt)

    low_s : s < 32
    low_s = ltb→lt s 32 (live_of (slots m) (subject s) lives).0

    low_o : o < 64
    low_o = slot_low (beside m) m.subjects m.objects m.handles g.objects (slots m) o refl there

    low_p : p < 16
    low_p = is_place (slots m) s p (early_passed (slots m) (opens (direction b) s o p) z (vacant s p) (inr (inr (inl refl))) tt)

    way_held : (b : Bool) (n : ℕ) → held (record { way = way_by b; object = n; mark = 0 }) ≡ some (handle (direction b) n)
    way_held true n = refl
    way_held false n = refl

    placed : tables_of (beside m) m.subjects m.objects next ≡ with_hand (slots m) (place (slots m).hand s p (some (handle (direction b) o)))
    placed = ap (tables_of (beside m) m.subjects m.objects) (y ∙ ap (set m.handles (s % 32 * 16 + p % 16)) i)
        ∙ store_handle (beside m) m.subjects m.objects m.handles s p (joining (way_by b) o) g.handles low_s low_p
        ∙ ap (λ (k : Option Held). with_hand (slots m) (place (slots m).hand s p k)) (way_held b (o % 64) ∙ ap (λ (n : ℕ). some (handle (direction b) n)) same)
      where
        same : o % 64 ≡ o
        same = omega (arith, low_o)

    its_ends : Ends (slots m) s p (handle (direction b) o)
    its_ends = record { from = lives; to = there; place = low_p }

    joins_is : joins h ≡ handle (direction b) o
    joins_is = ap joins i ∙ way_joins b (o % 64) ∙ ap (handle (direction b)) same
      where
        way_joins : (b : Bool) (n : ℕ) → joins (record { way = way_by b; object = n; mark = 0 }) ≡ handle (direction b) n
        way_joins true n = refl
        way_joins false n = refl

        same : o % 64 ≡ o
        same = omega (arith, low_o)

    -- what the code works out
    out : (m.sure ≡ 1 → Ready (slots m) (figure_of m.needs)) → Ready (tables_of (beside m) m.subjects m.objects next) (figure_of ns)
        × ((eqb m.sure 1 ≡ true → Safe (slots m)) → r ≡ not (safe (tables_of (beside m) m.subjects m.objects next)))
    out k = f (beside m) (slots m) p refl w (subst (Ends (slots m) s p) (sym joins_is) its_ends)
        (is_vacant (slots m) s p (early_passed (slots m) (opens (direction b) s o p) z (vacant s p) (inr (inr (inl refl))) tt))
        (placed ∙ ap (λ (j : Held). with_hand (slots m) (place (slots m).hand s p (some j))) (sym joins_is)) (λ q. k (eqb→eq m.sure 1 (subst T (sym q) tt)))

    -- its flow test is the rules'
    tested : Says m → broken (slots m) (enough (opens (direction b) s o p)) ≡ r
    tested v = sym ((out (λ q. (v q).1)).1 (λ q. (v (eqb→eq m.sure 1 (subst T (sym q) tt))).0) ∙ ap (λ (u : Tables). not (safe u)) placed)

    pub open_late : Says m → (q : Bool) → broken (slots m) (thawed (direction b) o) ≡ q → Late (slots m) (opens (direction b) s o p) r false q
    open_late v q e = record { nine = alone (tested v); ten = refl; fifteen = alone e }

    pub opens_acts : refusal (slots m) (opens (direction b) s o p) ≡ none
        → Acts m (opens (direction b) s o p) (allowed x.level) (monitor m m.subjects m.objects next ns)
    opens_acts e = acts m (opens (direction b) s o p) (allowed x.level) _ _ refl refl (open_does (slots m) (direction b) s o p x e k) placed
        (λ k. effect_ready (slots m) (opens (direction b) s o p) (figure_of ns) (subst (λ (t : Tables). Ready t (figure_of ns)) placed (out (λ q. k)).0))

    pub opens_keeps : Keeps m (opens (direction b) s o p) (monitor m m.subjects m.objects next ns)
    opens_keeps = record { whole = subst Wf (sym placed) (wf_hold (slots m) s p (handle (direction b) o) w its_ends); kept = λ k. (out (λ q. k)).0; says = refl; numbered = refl; came = λ i u. inl u }

  -- ── map ──
  module _ (s o p : ℕ) (x : Object) (h : Handle) (next : List Handle) (ns : List ℕ) (r : Bool) (w : Wf (slots m)) (z : Refuses (slots m) (maps s o p) 0)
      (k : (slots m).at (object o) ≡ object_entry x) (i : h ≡ joining 1 o) (y : next ≡ set m.handles (s % 32 * 16 + p % 16) h)
      (f : Opening m (eqb m.sure 1) next s h ns r) where
    map_lives : T (live (slots m) (subject s))
    map_lives = is_alive (slots m) s (early_passed (slots m) (maps s o p) z (alive s) (inl refl) tt)

    map_there : T (live (slots m) (object o))
    map_there = is_present (slots m) o (early_passed (slots m) (maps s o p) z (present o) (inr (inl refl)) tt)

    map_low_s : s < 32
    map_low_s = ltb→lt s 32 (live_of (slots m) (subject s) map_lives).0

    same_o : o % 64 ≡ o
    same_o = omega (arith, slot_low (beside m) m.subjects m.objects m.handles g.objects (slots m) o refl map_there)

    map_low_p : p < 16
    map_low_p = is_place (slots m) s p (early_passed (slots m) (maps s o p) z (vacant s p) (inr (inr (inr (inl refl)))) tt)

    -- the flow test is that of the open for reading
    map_placed : tables_of (beside m) m.subjects m.objects next ≡ with_hand (slots m) (place (slots m).hand s p (some (handle reading o)))
    map_placed = ap (tables_of (beside m) m.subjects m.objects) (y ∙ ap (set m.handles (s % 32 * 16 + p % 16)) i)
        ∙ store_handle (beside m) m.subjects m.objects m.handles s p (joining 1 o) g.handles map_low_s map_low_p
        ∙ ap (λ (n : ℕ). with_hand (slots m) (place (slots m).hand s p (some (handle reading n)))) same_o

    map_joins : joins h ≡ handle reading o
    map_joins = ap joins i ∙ ap (handle reading) same_o

    map_ends : Ends (slots m) s p (handle reading o)
    map_ends = record { from = map_lives; to = map_there; place = map_low_p }

    map_vacant : (slots m).hand s p ≡ none
    map_vacant = is_vacant (slots m) s p (early_passed (slots m) (maps s o p) z (vacant s p) (inr (inr (inr (inl refl)))) tt)

    -- what the code works out
    map_out : (m.sure ≡ 1 → Ready (slots m) (figure_of m.needs)) → Ready (tables_of (beside m) m.subjects m.objects next) (figure_of ns)
        × ((eqb m.sure 1 ≡ true → Safe (slots m)) → r ≡ not (safe (tables_of (beside m) m.subjects m.objects next)))
    map_out k = f (beside m) (slots m) p refl w (subst (Ends (slots m) s p) (sym map_joins) map_ends) map_vacant
        (map_placed ∙ ap (λ (j : Held). with_hand (slots m) (place (slots m).hand s p (some j))) (sym map_joins)) (λ q. k (eqb→eq m.sure 1 (subst T (sym q) tt)))

    pub map_late : Says m → Late (slots m) (maps s o p) r false false
    map_late v = record {
      nine = alone (sym ((map_out (λ q. (v q).1)).1 (λ q. (v (eqb→eq m.sure 1 (subst T (sym q) tt))).0) ∙ ap (λ (u : Tables). not (safe u)) map_placed));
      ten = refl;
      fifteen = refl;
    }

    -- the tables with the mapping and the group that fell
    fallen_now : (ss : List Subject) (b : Bool) → Takes s x.level x.shops ss b
        → tables_of (beside m) ss m.objects m.handles ≡ with_at (slots m) (sink (slots m) (subject s) ((slots m).at (object o)))
    fallen_now ss b n = n.0 (beside m) m.objects m.handles (entry _ (label x.level x.shops)) map_low_s refl refl
        ∙ ap (λ (d : Option Entry). with_at (slots m) (sink (slots m) (subject s) d)) (sym (full_object (slots m) o x k map_there))

    map_stored : (ss : List Subject) (b : Bool) → Takes s x.level x.shops ss b → tables_of (beside m) ss m.objects (set m.handles (s % 32 * 16 + p % 16) (joining 3 o))
        ≡ with_hand (with_at (slots m) (sink (slots m) (subject s) ((slots m).at (object o)))) (place (slots m).hand s p (some (mapping o)))
    map_stored ss b n = store_handle (beside m) ss m.objects m.handles s p (joining 3 o) g.handles map_low_s map_low_p
        ∙ ap (λ (u : Tables). with_hand u (place u.hand s p (held (joining 3 o)))) (fallen_now ss b n)
        ∙ ap (λ (n : ℕ). with_hand (with_at (slots m) (sink (slots m) (subject s) ((slots m).at (object o)))) (place (slots m).hand s p (some (mapping n)))) same_o

    -- the groups stay
    map_seen : (ss : List Subject) (b : Bool) (n : Takes s x.level x.shops ss b) → with_kin (tables_of (beside m) ss m.objects (set m.handles (s % 32 * 16 + p % 16) (joining 3 o)))
        (kin_of ss m.groups) ≡ with_hand (with_at (slots m) (sink (slots m) (subject s) ((slots m).at (object o)))) (place (slots m).hand s p (some (mapping o)))
    map_seen ss b n = ap₂ with_kin (map_stored ss b n) (same_kin ss n.1.1)

    -- which labels are smaller is seen without the handle
    map_lower : (ss : List Subject) (b : Bool) (n : Takes s x.level x.shops ss b)
        → lowers (slots m) (with_hand (with_at (slots m) (sink (slots m) (subject s) ((slots m).at (object o)))) (place (slots m).hand s p (some (mapping o)))) ≡ b
    unfolding lowers
    map_lower ss b n = ap (lowers (slots m)) (sym (fallen_now ss b n)) ∙ n.1.0 (beside m) m.objects m.handles

    map_ready_now : Ready (slots m) (figure_of m.needs) → Ready (apply (hold s p (some (handle reading o))) (slots m)) (figure_of ns)
    map_ready_now k = subst (λ (t : Tables). Ready t (figure_of ns)) map_placed (map_out (λ q. k)).0

    pub maps_acts : (y v : Subject) (ss : List Subject) (hs : List Handle) (c : Bool) (b : Told) → (slots m).at (subject s) ≡ subject_entry y
        → refusal (slots m) (maps s o p) ≡ none → v ≡ fallen_by y x.level x.shops → Takes s x.level x.shops ss c
        → hs ≡ set m.handles (s % 32 * 16 + p % 16) (joining 3 o) → b ≡ outcome c v.level (lost y.shops v.shops) → Acts m (maps s o p) b (monitor m ss m.objects hs ns)
    maps_acts y v ss hs c b q e d n j h = rw j (acts m (maps s o p) b _ _ refl refl
        (subst (λ (a : Told). Does (slots m) (maps s o p) a u) (sym (h ∙ ap (λ (z : Subject). outcome c z.level (lost y.shops z.shops)) d))
        (map_does (slots m) w s o p y x u c e q k refl (map_lower ss c n)))
        (seen_is ss m.groups m.objects (set m.handles (s % 32 * 16 + p % 16) (joining 3 o)) ns ∙ map_seen ss c n)
        (λ k. map_ready (slots m) s o p (figure_of ns) w e (map_ready_now k)))
      where
        u : Tables
        u = with_hand (with_at (slots m) (sink (slots m) (subject s) ((slots m).at (object o)))) (place (slots m).hand s p (some (mapping o)))

    pub maps_keeps : (ss : List Subject) (hs : List Handle) (c : Bool) → Takes s x.level x.shops ss c → hs ≡ set m.handles (s % 32 * 16 + p % 16) (joining 3 o)
        → Keeps m (maps s o p) (monitor m ss m.objects hs ns)
    unfolding tables_of
    maps_keeps ss hs c n j = rw j (record {
      whole = subst Wf (sym now) (wf_mix u reads-file (subject s) (object o) (subject s) (object o) (wf_hold (slots m) s p (mapping o) w
          (record { from = map_lives; to = map_there; place = map_low_p })));
      kept = λ k. subst (λ (t : Tables). Ready t (figure_of ns)) (sym now) (mapping_ready (slots m) s o p (subject s) (figure_of ns) w map_lives map_low_p map_vacant (map_ready_now k));
      says = refl;
      numbered = refl;
      came = λ i u. inl u;
    })
      where
        u : Tables
        u = apply (hold s p (some (mapping o))) (slots m)

        now : slots (monitor m ss m.objects (set m.handles (s % 32 * 16 + p % 16) (joining 3 o)) ns)
            ≡ apply (mix reads-file (subject s) (object o) (subject s) (object o)) u
        now = map_seen ss c n ∙ ap (λ (a : Thing → Option Entry). with_hand (with_at (slots m) a) (place (slots m).hand s p (some (mapping o))))
            (fun_ext (λ v. ap (λ (b : Bool). cond b (fall v ((slots m).at v) ((slots m).at (object o))) ((slots m).at v)) (whole_by (slots m) u refl (subject s) v)))

  -- ── exec ──
  module _ (s o : ℕ) (y : Object) (own_ss : List Subject) (after : List Handle) (ns : List ℕ) (w : Wf (slots m)) (z : Refuses (slots m) (exec s o) 0)
      (q : (slots m).at (object o) ≡ object_entry y)
      (a : (rest : Tables) (os : List Object) → s < 32 → rest.kin ≡ kin_of m.subjects m.groups
      → tables_of (with_kin rest (kin_of own_ss m.groups)) own_ss os after ≡ applies (sheds (tables_of rest m.subjects os m.handles) s) (tables_of rest m.subjects os m.handles))
      (f : Works own_ss m.groups m.objects after ns) where
    exec_lives : T (live (slots m) (subject s))
    exec_lives = is_alive (slots m) s (early_passed (slots m) (exec s o) z (alive s) (inl refl) tt)

    exec_there : T (live (slots m) (object o))
    exec_there = is_present (slots m) o (early_passed (slots m) (exec s o) z (present o) (inr (inl refl)) tt)

    low_run : s < 32
    low_run = ltb→lt s 32 (live_of (slots m) (subject s) exec_lives).0

    same_row : s % 32 ≡ s
    same_row = omega (arith, low_run)

    abbrev beside_own : Tables
    beside_own = with_kin (beside m) (kin_of own_ss m.groups)

    -- the tables are those that are left once s has dropped what it drops
    sheds_now : tables_of beside_own own_ss m.objects after ≡ applies (sheds (slots m) s) (slots m)
    sheds_now = a (beside m) m.objects low_run refl

    shed_wf : Wf (tables_of beside_own own_ss m.objects after)
    shed_wf = subst Wf (sym sheds_now) (less_wf (sheds_less (slots m) s) w)

    needed_now : Needed (tables_of beside_own own_ss m.objects after) ns
    needed_now = f beside_own refl shed_wf

    pub exec_late : (v a : ℕ) (r : Bool) → v ≡ get_or ns (s % 32) 0 → coded a ≡ label y.level y.shops → r ≡ not (leq (coded v) (coded a)) → Late (slots m) (exec s o) r false false
    exec_late v a r e k d = record { nine = alone unfit; ten = refl; fifteen = refl }
      where
        u : Tables
        u = applies (sheds (slots m) s) (slots m)

        its_need : coded v ≡ needs u (cell (slots m) s)
        its_need = ap coded e ∙ ap (λ (i : ℕ). coded (get_or ns i 0)) same_row ∙ needed_now.need_is (subject s) (lt→ltb s 32 low_run)
            ∙ ap₂ needs sheds_now (sym (cell_self (slots m) s))

        own_label : label_of ((slots m).at (object o)) ≡ label y.level y.shops
        own_label = ap label_of (full_object (slots m) o y q exec_there)

        unfit : broken (slots m) (suits s o) ≡ r
        unfit = sym (d ∙ ap₂ (λ (a b : Label). not (leq a b)) its_need (k ∙ sym own_label))

    pub execs : (x v : Subject) (ss : List Subject) (left : List Object) (b : Told) → length own_ss ≡ 32 → get_or own_ss (s % 32) no_subject ≡ get_or m.subjects (s % 32) no_subject
        → (slots m).at (subject s) ≡ subject_entry x → refusal (slots m) (exec s o) ≡ none → v ≡ fallen_by x y.level y.shops → ss ≡ set own_ss (s % 32) v
        → b ≡ outcome (not (leq (label x.level x.shops) (label v.level v.shops))) v.level (lost x.shops v.shops) → Reaps m.objects m.handles after left
        → Acts m (exec s o) b (monitor m ss left after ns)
    unfolding tables_of
    execs x v ss left b lo i r e d n h c = acts m (exec s o) b _ _ refl refl (subst₂ (λ (c : Told) (z : Subject). Does (slots m) (exec s o) c (reap (handles (slots m))
        (with_at u (put u.at (subject s) (subject_entry z)))))
        (sym (h ∙ ap (λ (z : Subject). outcome (not (leq (label x.level x.shops) (label z.level z.shops))) z.level (lost x.shops z.shops)) d)) (sym d) (exec_does (slots m) w s o x y e r q))
        (seen_is ss m.groups left after ns ∙ ap (λ (t : Tables). with_kin t (kin_of ss m.groups)) (c (beside m) ss (slots m) (all_handles m))
        ∙ reap_kin (handles (slots m)) (tables_of (beside m) ss m.objects after) (kin_of ss m.groups) ∙ ap (reap (handles (slots m))) ran_now)
        (λ k. exec_ready (slots m) s o (figure_of ns) (λ x h. needed_now.need_is x h ∙ ap (λ (t : Tables). needs t x) sheds_now))
      where
        u : Tables
        u = applies (sheds (slots m) s) (slots m)

        lives_still : (j : ℕ) → stands ss j ≡ stands own_ss j
        lives_still j = ap (λ (l : List Subject). stands l j) n ∙ elim (ℕ_discrete j (s % 32)) [
          | yes k ↦ ap (λ (y : Subject). not (eqb y.live 0)) (ap (λ (t : ℕ). get_or (set own_ss (s % 32) v) t no_subject) k
              ∙ get_or-set_same own_ss (s % 32) v no_subject (omega arith)) ∙ ap (λ (y : Subject). not (eqb y.live 0)) d
              ∙ own_live ∙ ap (stands own_ss) (sym k)
          | no k ↦ ap (λ (y : Subject). not (eqb y.live 0)) (get_or-set_other own_ss (s % 32) j v no_subject k)
        ]
          where
            own_live : not (eqb x.live 0) ≡ stands own_ss (s % 32)
            own_live = sym (some_stands x) ∙ ap is_some (sym r ∙ subject_there (beside m) m.subjects m.objects m.handles s g.subjects
                ∙ ap subject_entry (ap (λ (b : Bool). cond b (get_or m.subjects (s % 32) no_subject) no_subject) (lt-ltb s 32 low_run) ∙ sym i))
                ∙ some_stands (get_or own_ss (s % 32) no_subject)
              where
                some_stands : (x : Subject) → is_some (subject_entry x) ≡ not (eqb x.live 0)
                some_stands x = go (eqb x.live 0)
                  where
                    go : (b : Bool) → is_some (cond b none (some (entry running (label x.level x.shops)))) ≡ not b
                    go true = refl
                    go false = refl

        ran_now : with_kin (tables_of (beside m) ss m.objects after) (kin_of ss m.groups) ≡ with_at u (put u.at (subject s) (subject_entry v))
        ran_now = ap₂ with_kin (ap (λ (l : List Subject). tables_of (beside m) l m.objects after) n
            ∙ store_subject (beside m) own_ss m.objects after s v lo low_run) (kin_live own_ss ss m.groups lives_still)
            ∙ ap (λ (t : Tables). with_at t (put t.at (subject s) (subject_entry v))) sheds_now

  -- ── mark ──
  pub marks : (s p : ℕ) (x : Subject) (h : Handle) (hs : List Handle) → Wf (slots m) → refusal (slots m) (mark s p) ≡ none
      → (slots m).at (subject s) ≡ subject_entry x → (slots m).hand s p ≡ held h
      → hs ≡ set m.handles (s % 32 * 16 + p % 16) (record { way = h.way; object = h.object; mark = 1 })
      → Acts m (mark s p) (allowed x.level) (monitor m m.subjects m.objects hs m.needs)
  marks s p x h hs w e q r n = rw n (acts m (mark s p) (allowed x.level) _ _ refl refl (mark_does (slots m) s p x e q)
      (store_handle (beside m) m.subjects m.objects m.handles s p (record { way = h.way; object = h.object; mark = 1 }) g.handles
      (row_low (slots m) (mark s p) e s (inl refl)) (found_place (slots m) w (mark s p) s p h e (inr (inl refl)) r)
      ∙ ap (λ (v : Option Held). with_hand (slots m) (place (slots m).hand s p v)) (go (eqb h.way 0) ∙ ap marking (sym r)))
      (λ k. mark_ready (slots m) (figure_of m.needs) w k s p))
    where
      go : (b : Bool) → cond b none (some (joins (record { way = h.way; object = h.object; mark = 1 }))) ≡ marking (cond b none (some (joins h)))
      go true = refl
      go false = refl

  -- ── retire ──
  module _ (o : ℕ) (z : Refuses (slots m) (retire o) 0) where
    low_here : o < 64
    low_here = slot_low (beside m) m.subjects m.objects m.handles g.objects (slots m) o refl (is_present (slots m) o (early_passed (slots m) (retire o) z (present o) (inl refl) tt))

    pub retire_late : (r : Bool) → r ≡ open_on (handles (with_hand empty (hands m.handles))) (o % 64) → Late (slots m) (retire o) false r false
    retire_late r f = record { nine = refl; ten = alone busy; fifteen = refl }
      where
        same : o % 64 ≡ o
        same = omega (arith, low_here)

        busy : broken (slots m) (idle o) ≡ r
        busy = ap (λ (l : List Held). open_on l o) (all_handles m) ∙ ap (open_on (handles (with_hand empty (hands m.handles)))) (sym same) ∙ sym f

    pub retires : (y : Object) (os : List Object) → Wf (slots m) → (slots m).at (object o) ≡ object_entry y → refusal (slots m) (retire o) ≡ none
        → os ≡ set m.objects (o % 64) no_object → Acts m (retire o) (allowed y.level) (monitor m m.subjects os m.handles m.needs)
    retires y os w q e n = rw n (acts m (retire o) (allowed y.level) _ _ refl refl (retire_does (slots m) o y e q) (put_object o no_object m.needs low_here)
        (λ k. retire_ready (slots m) (figure_of m.needs) w k o e))

  -- ── freeze ──
  pub freezes : (n : ℕ) → Wf (slots m) → refusal (slots m) (freeze n) ≡ none → Acts m (freeze n) (allowed (n % 256))
      (record { numbers = m.numbers; needs = m.needs; subjects = m.subjects; objects = m.objects; handles = m.handles; freeze = n % 256; groups = m.groups; sure = m.sure })
  unfolding tables_of
  freezes n w e = rw low (acts m (freeze n) (allowed n) _ _ refl refl (freeze_does (slots m) n e) refl (λ k. freeze_ready (slots m) (figure_of m.needs) w k n))
    where
      low : n % 256 ≡ n
      low = let h : n ≤ 16 = ltb-false 16 n (is_false (ltb 16 n) (passed (slots m) (freeze n) e (freezable n) (inl refl))) in omega arith
