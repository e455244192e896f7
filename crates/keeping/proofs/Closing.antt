-- Figures that are kept when handles go: where the quick tests say that no need changes, none does. Assumes nothing.
use mathlib.Core.Path.{◌≡◌, refl, sym, ◌∙◌, ap, subst, subst₂}
use mathlib.Core.Bool.{Bool, true, false, not, ◌&&◌, ◌||◌, cond}
use mathlib.Core.Logic.{◌⊎◌, inl, inr}
use mathlib.Core.Option.{none, some}
use mathlib.Core.List.{List}
use Prim.Native.Nat.{ℕ, ◌+◌, ◌*◌, ◌/◌, ◌%◌, ◌≤◌, ◌<◌}
use native.Mathlib.Omega.{arith}
use lib.ListN.{length, get_or}
use borrow.Author.Tests.{lt-ltb}
use lib.Dec.{T, eqb, leb, leb→le, ltb, ltb→lt}
use Rattle.model.specs.Bools.{both_of, or_cases}
use Rattle.model.specs.Sets.{within}
use Rattle.model.specs.Label.{Label, level, shops, ◌⊑◌, bot}
use Rattle.model.proofs.Label.Laws.{level_label, shops_label, ⊑_refl, ⊑_trans, bot_least}
use Rattle.labels.specs.Codes.{coded}
use Rattle.labels.specs.Codes.Laws.{coded_zero}
use Rattle.model.specs.Flow.{Thing, subject, object, same, Reaches, here, step}
use Rattle.model.proofs.Flow.Laws.{need_self, need_upper}
use Rattle.model.proofs.Flow.Changes.{Adds, remove_quiet, remove_parts}
use Rattle.model.specs.Tables.{Dir, reading, writing, Tables, live, arc, flow, edges, demand, needs}
use Rattle.model.proofs.Tables.Laws.{live_of}
use Rattle.model.specs.Steps.{hold, quits, apply}
use Rattle.model.specs.Invariant.{Ends, Wf}
use Rattle.model.proofs.Invariant.Laws.{less_wf, less_close, less_quits}
use Rattle.model.specs.Calls.{exit}
use Rattle.model.proofs.Calls.Needs.{close_adds, effect_needs, exit_needs, vacate_quiet, edge_in, wf_ranged}
use Rattle.model.specs.Figures.{Ready}
use Rattle.model.proofs.Figures.Laws.{step_lived, ready_same, ready_anew}
use Rattle.tables.specs.declared.Subject.{Subject}
use Rattle.tables.specs.declared.Object.{Object}
use Rattle.tables.specs.declared.Handle.{Handle}
use Rattle.tables.specs.Records.{object_entry, joins, held, reads_by, no_object, no_handle, tables_of}
use Rattle.tables.specs.Records.Laws.{object_there, slot_low}
use Rattle.tables.specs.Needs.{figure_of, Needed}
use Rattle.tables.specs.Working.{object_at, writes_by}
use Rattle.groups.specs.Groups.{Leads}
use Rattle.passes.specs.Least.{figure, Before, Settled, Between}
use Rattle.passes.specs.Working.{lead_of, source, target, demanded_by, Started, Spread, spare_by, backed_by, upheld_by, beside_of, source_of, end_of}
use Rattle.flows.proofs.Nodes.{demands_as, at_least, at_least_led, needed}
use Rattle.keeping.proofs.Joined.{below_least}

-- what writes holds, and does not read
writing_parts : (z r : Bool) → T (cond z false (not r)) → (z ≡ false) × (r ≡ false)
writing_parts true r h = absurd h
writing_parts false true h = absurd h
writing_parts false false h = (refl, refl)

-- what the quick test says
spare_parts : (v w b : Label) → spare_by v w b ≡ true → T (within (shops v) (shops b)) × ((level v < level w) ⊎ (level v ≤ level b))
spare_parts v w b z = let r = both_of (within (shops v) (shops b)) (ltb (level v) (level w) || leb (level v) (level b)) (subst T (sym z) tt) in (
  r.0,
  elim (or_cases (ltb (level v) (level w)) (leb (level v) (level b)) r.1) [
    | inl a ↦ inl (ltb→lt (level v) (level w) a)
    | inr a ↦ inr (leb→le (level v) (level b) a)
  ],
)

-- and as the code tests it
pub spare_coded : (e s o : ℕ) → spare_by (coded e) (coded s) (coded o) ≡ (within (e % 256) (o % 256) && (ltb (e / 256) (s / 256) || leb (e / 256) (o / 256)))
spare_coded e s o = rw (shops_label (e / 256) (e % 256), shops_label (o / 256) (o % 256), level_label (e / 256) (e % 256), level_label (s / 256) (s % 256), level_label (o / 256) (o % 256))

-- worked out anew
pub anew : (rest : Tables) (ss : List Subject) (os : List Object) (hs : List Handle) (r : List ℕ) → Needed (tables_of rest ss os hs) r
    → Ready (tables_of rest ss os hs) (figure_of r)
anew rest ss os hs r n = ready_anew (tables_of rest ss os hs) (tables_of rest ss os hs) (figure_of r) n.need_is (λ x. refl)

-- the source of a flow is one of the 96
pub source_low : (h : Handle) (s r : ℕ) → r ≡ source_of h s → r < 96
source_low h s r e = subst (λ (z : ℕ). z < 96) (sym e) (go (reads_by h.way))
  where
    go : (b : Bool) → cond b (32 + h.object % 64) (s % 32) < 96
    go true = omega arith
    go false = omega arith

-- the figures at the two ends of a flow, by what the code has in hand
module _ (n : List ℕ) (h : Handle) (s : ℕ) {reads : Bool} {mine its : ℕ} (a : reads ≡ reads_by h.way) (b : mine ≡ get_or n (s % 32) 0)
    (c : its ≡ get_or n (32 + h.object % 64) 0) where
  pub end_figure : {r : ℕ} → r ≡ cond reads mine its → r ≡ get_or n (end_of h s) 0
  end_figure e = e ∙ rw (a, b, c) (go (reads_by h.way))
    where
      go : (v : Bool) → cond v (get_or n (s % 32) 0) (get_or n (32 + h.object % 64) 0) ≡ get_or n (cond v (s % 32) (32 + h.object % 64)) 0
      go true = refl
      go false = refl

  pub source_figure : {r : ℕ} → r ≡ cond reads its mine → r ≡ get_or n (source_of h s) 0
  source_figure e = e ∙ rw (a, b, c) (go (reads_by h.way))
    where
      go : (v : Bool) → cond v (get_or n (32 + h.object % 64) 0) (get_or n (s % 32) 0) ≡ get_or n (cond v (32 + h.object % 64) (s % 32)) 0
      go true = refl
      go false = refl

  -- the quick test on them
  pub spare_is : (end source own : ℕ) (l : Label) (x : Bool) → end ≡ cond reads mine its → source ≡ cond reads its mine → coded own ≡ l
      → x ≡ spare_by (coded end) (coded source) (coded own) → x ≡ true → spare_by (figure n (end_of h s)) (figure n (source_of h s)) l ≡ true
  spare_is end source own l x e f o t v = rw (sym (end_figure e), sym (source_figure f), sym o) (sym t ∙ v)

-- ── the figures of a handle's two things ──
module _ (n : List ℕ) (t : Tables) (s p : ℕ) (h : Handle) (ends : Ends t s p (joins h)) (k : Ready t (figure_of n)) (low : h.object < 64) where
  pub mine_is : coded (get_or n (s % 32) 0) ≡ needs t (subject s)
  mine_is = let e : s % 32 ≡ s = omega (arith, ltb→lt s 32 (live_of t (subject s) ends.from).0) in
      ap (λ (i : ℕ). coded (get_or n i 0)) e ∙ k.need_is (subject s) ends.from

  pub its_is : coded (get_or n (32 + h.object % 64) 0) ≡ needs t (object h.object)
  its_is = let e : h.object % 64 ≡ h.object = omega (arith, low) in
      ap (λ (i : ℕ). coded (get_or n (32 + i) 0)) e ∙ k.need_is (object h.object) ends.to

-- ── one handle goes ──
module _ (n : List ℕ) (t : Tables) (s p : ℕ) (h : Handle) (w : Wf t) (q : t.hand s p ≡ some (joins h)) (k : Ready t (figure_of n)) (low : h.object < 64) where
  u : Tables
  u = apply (hold s p none) t

  ends : Ends t s p (joins h)
  ends = w.ends s p (joins h) q

  adds : Adds (flow (subject s) (joins h)) (edges u) (edges t)
  unfolding u
  adds = close_adds t s p (joins h) w q

  own_is : coded (get_or n (s % 32) 0) ≡ needs t (subject s)
  own_is = mine_is n t s p h ends k low

  its : coded (get_or n (32 + h.object % 64) 0) ≡ needs t (object h.object)
  its = its_is n t s p h ends k low

  -- no need changes, and the same things are live
  same_figures : ((x : Thing) → needs u x ≡ needs t x) → Ready u (figure_of n)
  unfolding u
  same_figures f = ready_same (λ x l. elim (step_lived (hold s p none) t x l) [ inl m ↦ (m, f x) | inr m ↦ absurd m ]) k

  -- both ends of the flow have their needs
  source_is : figure n (source_of h s) ≡ needs t (flow (subject s) (joins h)).src
  source_is = go (reads_by h.way)
    where
      go : (r : Bool) → figure n (cond r (32 + h.object % 64) (s % 32)) ≡ needs t (arc (cond r reading writing) (subject s) (object h.object)).src
      go true = its
      go false = own_is

  end_is : figure n (end_of h s) ≡ needs t (flow (subject s) (joins h)).dst
  end_is = go (reads_by h.way)
    where
      go : (r : Bool) → figure n (cond r (s % 32) (32 + h.object % 64)) ≡ needs t (arc (cond r reading writing) (subject s) (object h.object)).dst
      go true = own_is
      go false = its

  -- the flow is spare, by what its source needs without it
  pub spare_ready : (b : Label) → b ⊑ needs (apply (hold s p none) t) (flow (subject s) (joins h)).src
      → spare_by (figure n (end_of h s)) (figure n (source_of h s)) b ≡ true → Ready (apply (hold s p none) t) (figure_of n)
  unfolding u
  spare_ready b l e = let r = spare_parts _ _ b (subst₂ (λ (v w : Label). spare_by v w b ≡ true) end_is source_is e) in
      same_figures (remove_parts (λ y. demand y (t.at y)) adds b l r.0 r.1)

  -- what the source demands by itself, it needs without the flow
  pub backed_under : (y : Object) → t.at (object h.object) ≡ object_entry y → backed_by h y ⊑ needs (apply (hold s p none) t) (flow (subject s) (joins h)).src
  unfolding u
  backed_under y there = go (reads_by h.way)
    where
      go : (r : Bool) → cond r (demanded_by y) bot ⊑ needs u (arc (cond r reading writing) (subject s) (object h.object)).src
      go true = subst (λ (a : Label). a ⊑ needs u (object h.object)) (ap (demand (object h.object)) there ∙ demands_as h.object y)
          (need_self (edges u) (λ y. demand y (t.at y)) (object h.object))
      go false = bot_least

  -- the source of the flow needs without it what its end needs
  pub source_ready : (x : Thing) → (flow (subject s) (joins h)).src ≡ x → figure n (end_of h s) ⊑ needs (apply (hold s p none) t) x
      → Ready (apply (hold s p none) t) (figure_of n)
  unfolding u
  source_ready x z l = same_figures (remove_quiet (λ y. demand y (t.at y)) adds (figure n (end_of h s))
      (subst (λ (a : Label). a ⊑ figure n (end_of h s)) end_is ⊑_refl) (subst (λ (y : Thing). figure n (end_of h s) ⊑ needs u y) (sym z) l))

  pub close_wf : Wf (apply (hold s p none) t)
  close_wf = less_wf (less_close t s p) w

-- ── a subject goes ──
module _ (n : List ℕ) (t : Tables) (s : ℕ) (w : Wf t) (l : T (live t (subject s))) (k : Ready t (figure_of n)) where
  pub vacate_ready : get_or n (s % 32) 0 ≡ 0 → Ready (apply (quits (same (subject s))) t) (figure_of n)
  vacate_ready z = ready_same (λ x m. elim (step_lived (quits (same (subject s))) t x m) [ inl y ↦ (y, unmoved x) | inr y ↦ absurd y ]) k
    where
      nothing : needs t (subject s) ≡ bot
      nothing = let e : s ≡ s % 32 = omega (arith, ltb→lt s 32 (live_of t (subject s) l).0) in
          sym (k.need_is (subject s) l) ∙ ap (λ (i : ℕ). coded (get_or n i 0)) e ∙ ap coded z ∙ coded_zero

      -- as after an exit
      unmoved : (x : Thing) → needs (apply (quits (same (subject s))) t) x ≡ needs t x
      unmoved x = sym (effect_needs t (exit s) x) ∙ exit_needs t s w x ∙ vacate_quiet t s w nothing x

pub vacate_wf : (t : Tables) (s : ℕ) → Wf t → Wf (apply (quits (same (subject s))) t)
vacate_wf t s w = less_wf (less_quits t (same (subject s)) (λ o. tt)) w

-- the object's record, by the tables after
pub object_then : (rest : Tables) (ss : List Subject) (os : List Object) (hs : List Handle) (t : Tables) (s p o : ℕ) (y : Object) → length os ≡ 64
    → tables_of rest ss os hs ≡ apply (hold s p none) t → y ≡ object_at o (get_or os (o % 64) no_object) → t.at (object o) ≡ object_entry y
object_then rest ss os hs t s p o y l q e = ap (λ (u : Tables). u.at (object o)) (sym q) ∙ object_there rest ss os hs o l ∙ ap object_entry (sym e)

-- ── what files demand of a subject that writes them ──
module _ (rest : Tables) (ss : List Subject) (os : List Object) (hs : List Handle) (lo : length os ≡ 64) (w : Wf (tables_of rest ss os hs)) (s : ℕ) where
  abbrev t : Tables
  t = tables_of rest ss os hs

  -- at one of its places
  module _ (j : ℕ) (lj : j < 16) where
    beside : Handle
    beside = get_or hs (s * 16 + j) no_handle

    on : Object
    on = get_or os (beside.object % 64) no_object

    there : t.hand s j ≡ held beside
    unfolding tables_of beside
    there = ap (λ (b : Bool). cond b (held (get_or hs (s * 16 + j) no_handle)) none) (lt-ltb j 16 lj)

    writes_under : T (writes_by beside.way) → demanded_by on ⊑ needs t (subject s)
    unfolding on
    writes_under f = subst (λ (a : Label). a ⊑ needs t (subject s)) demanded (need_upper (edges t) (λ y. demand y (t.at y)) reached)
      where
        parts : (eqb beside.way 0 ≡ false) × (reads_by beside.way ≡ false)
        parts = writing_parts (eqb beside.way 0) (reads_by beside.way) f

        standing : t.hand s j ≡ some (joins beside)
        standing = there ∙ ap (λ (b : Bool). cond b none (some (joins beside))) parts.0

        low : beside.object < 64
        low = slot_low rest ss os hs lo t beside.object refl (w.ends s j (joins beside) standing).to

        demanded : demand (object beside.object) (t.at (object beside.object)) ≡ demanded_by on
        demanded = ap (demand (object beside.object)) (object_there rest ss os hs beside.object lo
            ∙ ap (λ (b : Bool). object_entry (cond b on no_object)) (lt-ltb beside.object 64 low)) ∙ demands_as beside.object on

        for_writing : (joins beside).dir ≡ writing
        for_writing = ap (λ (b : Bool). cond b reading writing) parts.1

        reached : Reaches (edges t) (subject s) (object beside.object)
        reached = subst (λ (d : Dir). Reaches (edges t) (subject s) (arc d (subject s) (object beside.object)).dst) for_writing
            (step (flow (subject s) (joins beside)) (edge_in t (wf_ranged w) standing standing)
            (ap (λ (d : Dir). (arc d (subject s) (object beside.object)).src) for_writing) (here refl))

    upheld_under : upheld_by beside on ⊑ needs t (subject s)
    upheld_under = go (writes_by beside.way) (λ f. writes_under f)
      where
        go : (b : Bool) → (T b → demanded_by on ⊑ needs t (subject s)) → cond b (demanded_by on) bot ⊑ needs t (subject s)
        go true f = f tt
        go false f = bot_least

  pub beside_under : beside_of os hs s 16 ⊑ needs (tables_of rest ss os hs) (subject s)
  unfolding beside on
  beside_under = below_least 16 _ (needs t (subject s)) (λ j lj. upheld_under j lj)

-- ── one handle goes, by the arrays ──
module _ (rest : Tables) (ss : List Subject) (os : List Object) (hs : List Handle) (lo : length os ≡ 64) (n : List ℕ) (t : Tables) (s p : ℕ) (h : Handle) (w : Wf t)
    (q : t.hand s p ≡ some (joins h)) (k : Ready t (figure_of n)) (z : tables_of rest ss os hs ≡ apply (hold s p none) t) where
  its_ends : Ends t s p (joins h)
  its_ends = w.ends s p (joins h) q

  low_s : s < 32
  low_s = ltb→lt s 32 (live_of t (subject s) its_ends.from).0

  low_o : h.object < 64
  low_o = slot_low rest ss os hs lo t h.object (ap (λ (u : Tables). u.at (object h.object)) z) its_ends.to

  after_wf : Wf (tables_of rest ss os hs)
  after_wf = subst Wf (sym z) (close_wf n t s p h w q k low_o)

  back : Ready (apply (hold s p none) t) (figure_of n) → Ready (tables_of rest ss os hs) (figure_of n)
  back = subst (λ (u : Tables). Ready u (figure_of n)) (sym z)

  -- the flow is spare by what the object demands by itself
  pub backed_kept : (y : Object) → y ≡ object_at h.object (get_or os (h.object % 64) no_object)
      → spare_by (figure n (end_of h s)) (figure n (source_of h s)) (backed_by h y) ≡ true → Ready (tables_of rest ss os hs) (figure_of n)
  backed_kept y v b = back (spare_ready n t s p h w q k low_o (backed_by h y)
      (backed_under n t s p h w q k low_o y (object_then rest ss os hs t s p h.object y lo z v)) b)

  -- or by what the other files demand that s writes
  pub beside_kept : reads_by h.way ≡ false → spare_by (figure n (end_of h s)) (figure n (source_of h s)) (beside_of os hs (s % 32) 16) ≡ true
      → Ready (tables_of rest ss os hs) (figure_of n)
  beside_kept away b = back (spare_ready n t s p h w q k low_o (beside_of os hs (s % 32) 16)
      (subst₂ (λ (u : Tables) (x : Thing). beside_of os hs (s % 32) 16 ⊑ needs u x) z (sym (ap (λ (r : Bool). (arc (cond r reading writing) (subject s) (object h.object)).src) away))
      (let m : s ≡ s % 32 = omega (arith, low_s) in
      subst (λ (i : ℕ). beside_of os hs i 16 ⊑ needs (tables_of rest ss os hs) (subject s)) m (beside_under rest ss os hs lo after_wf s))) b)

  -- the figures of leads, worked out of the handles that are left
  module _ (ld : List ℕ) (led : Leads rest.kin ld) (base r : List ℕ) (m : Started os base 64)
      (b : Between 512 (source ld hs) (target ld hs) base r) where
    -- the source of the flow is found to need as much
    pub stopped_kept : (lead at : ℕ) → lead ≡ get_or ld (s % 32) 0 → at ≡ source_of h lead → figure n (end_of h s) ⊑ figure r at
        → Ready (tables_of rest ss os hs) (figure_of n)
    stopped_kept lead at a i l = go (reads_by h.way) refl
      where
        found : (x : Thing) (j : ℕ) → at ≡ j → figure r j ⊑ needs (tables_of rest ss os hs) x → figure n (end_of h s) ⊑ needs (apply (hold s p none) t) x
        found x j c g = ⊑_trans (subst (λ (v : ℕ). figure n (end_of h s) ⊑ figure r v) c l) (subst (λ (u : Tables). figure r j ⊑ needs u x) z g)

        starts : (c : Bool) → reads_by h.way ≡ c → at ≡ cond c (32 + h.object % 64) (lead % 32)
        starts c e = i ∙ ap (λ (v : Bool). cond v (32 + h.object % 64) (lead % 32)) e

        go : (c : Bool) → reads_by h.way ≡ c → Ready (tables_of rest ss os hs) (figure_of n)
        go true c = back (source_ready n t s p h w q k low_o (object h.object)
            (ap (λ (v : Bool). (arc (cond v reading writing) (subject s) (object h.object)).src) c)
            (found (object h.object) (32 + h.object) (starts true c ∙ same_o) (at_least rest ss os hs after_wf lo ld led base r m b (object h.object) tt)))
          where
            same_o : 32 + h.object % 64 ≡ 32 + h.object
            same_o = omega (arith, low_o)
        go false c = back (source_ready n t s p h w q k low_o (subject s)
            (ap (λ (v : Bool). (arc (cond v reading writing) (subject s) (object h.object)).src) c)
            (found (subject s) (lead_of ld s) (starts false c ∙ same_s) (at_least_led rest ss os hs after_wf lo ld led base r m b s low_s)))
          where
            same_s : lead % 32 ≡ lead_of ld s
            same_s = let v : s % 32 ≡ s = omega (arith, low_s) in ap (λ (x : ℕ). x % 32) (a ∙ ap (λ (x : ℕ). get_or ld x 0) v)

    -- they fall along every flow
    pub worked_out : Settled (source ld hs) (target ld hs) (figure r) (Before 512) → (v : List ℕ) → Spread ld r v → Ready (tables_of rest ss os hs) (figure_of v)
    worked_out st v sp = anew rest ss os hs v (needed rest ss os hs after_wf lo ld led base r m b st v sp)
