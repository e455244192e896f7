-- Needs: the least figures over the handle records, a group being one thing, are the needs of the tables. A thing is its number among 96, a subject
-- that of its lead, an edge the flow of a handle record. One way, the figures are a potential of the tables; the other way, the needs are a potential
-- of the figures. Assumes nothing.
use mathlib.Core.Path.{◌≡◌, refl, sym, ◌∙◌, ap, subst, subst₂}
use mathlib.Core.Bool.{Bool, true, false, not, cond}
use mathlib.Core.Logic.{inl, inr}
use mathlib.Core.Option.{Option, none, some, none-ne-some, some-injective}
use mathlib.Core.List.{List}
use Prim.Native.Nat.{ℕ, ◌+◌, ◌*◌, ◌-◌, ◌/◌, ◌%◌, ◌≤◌, ◌<◌}
use native.Mathlib.Omega.{arith}
use native.Mathlib.Decide.{ℕ_discrete, dec_lt}
use borrow.Author.Tests.{lt-ltb, le-ltb, ne_eqb}
use lib.ListN.{length, get_or, get_or-eq_default}
use lib.Dec.{T, ltb, ltb→lt, lt→ltb, eqb}
use Rattle.model.specs.Lists.{In}
use Rattle.model.specs.Label.{Label, ◌⊑◌}
use Rattle.model.proofs.Label.Laws.{⊑-antisym, ⊑_refl, bot_least}
use Rattle.labels.specs.Codes.{coded}
use Rattle.labels.specs.Codes.Laws.{coded_zero}
use Rattle.model.specs.Flow.{Thing, subject, object, Edge}
use Rattle.model.proofs.Flow.Laws.{need_self, need_flow, need_below}
use Rattle.model.specs.Tables.{Dir, reading, writing, Entry, Tables, in_range, arc, flow, edges, demand, needs}
use Rattle.model.specs.Tables.{Handle as Held}
use Rattle.model.proofs.Tables.Laws.{live_of}
use Rattle.model.specs.Invariant.{Wf}
use Rattle.model.proofs.Invariant.Laws.{mates_kin}
use Rattle.model.proofs.Calls.Needs.{kin_needs, wf_ranged, edge_in, in_edge}
use Rattle.tables.specs.declared.Subject.{Subject}
use Rattle.tables.specs.declared.Object.{Object}
use Rattle.tables.specs.declared.Handle.{Handle}
use Rattle.tables.specs.Records.Laws.{slot_low}
use Rattle.tables.specs.Records.{object_entry, reads_by, held, no_object, no_handle, tables_of}
use Rattle.tables.specs.Needs.{node, Needed}
use Rattle.groups.specs.Groups.{Leads}
use Rattle.passes.specs.Least.{figure, Before, Settled, Between}
use Rattle.passes.specs.Working.{alike, end_by, lead_of, source, target, demanded_by, Started, Spread}

-- the thing of a number
abbrev thing : ℕ → Thing
thing n = cond (ltb n 32) (subject n) (object (n - 32))

thing_object : (o : ℕ) → thing (32 + o) ≡ object o
thing_object o = let e : 32 + o - 32 ≡ o = omega arith in rw (le-ltb (32 + o) 32 (omega arith), e)

thing_node : (x : Thing) → T (in_range x) → thing (node x) ≡ x
thing_node (subject n) g = rw (lt-ltb n 32 (ltb→lt n 32 g))
thing_node (object n) g = thing_object n

-- the figure 0 is the least label
zero_least : {a : Label} → coded 0 ⊑ a
zero_least {a} = subst (λ (l : Label). l ⊑ a) (sym coded_zero) bot_least

-- what an object demands
pub demands_as : (n : ℕ) (x : Object) → demand (object n) (object_entry x) ≡ demanded_by x
demands_as n x = go (ℕ_discrete x.kind 0) (ℕ_discrete x.kind 1)
  where
    go : Dec (x.kind ≡ 0) → Dec (x.kind ≡ 1) → demand (object n) (object_entry x) ≡ demanded_by x
    go (yes e) d = rw e
    go (no z) (yes e) = rw e
    go (no z) (no o) = rw (ne_eqb x.kind 0 z, ne_eqb x.kind 1 o)

-- ── one record ──
-- the start of an edge, or its end
abbrev tip : Bool → Edge → Thing
tip start e = cond start e.src e.dst

tip_in_range : (start : Bool) (s : ℕ) (j : Held) → s < 32 → j.to < 64 → T (in_range (tip start (flow (subject s) j)))
tip_in_range start s j a b = go start j.dir
  where
    go : (start : Bool) (d : Dir) → T (in_range (tip start (arc d (subject s) (object j.to))))
    go true reading = tt
    go true writing = lt→ltb s 32 a
    go false reading = lt→ltb s 32 a
    go false writing = tt

-- an end of a record of subject s is that end of its flow
edge_node : (start : Bool) (h : Handle) (k : Held) (s : ℕ) → held h ≡ some k → k.to < 64 → s < 32
    → end_by h s start ≡ node (tip start (flow (subject s) k))
edge_node start h k s q l ls = go (eqb h.way 0) (reads_by h.way) q
  where
    of : Bool → Held
    of w = record { dir = cond w reading writing; to = h.object; marked = not (eqb h.mark 0); mapped = eqb h.way 3 }

    at : (w start : Bool) → h.object < 64
        → cond (alike w start) (32 + h.object % 64) s ≡ node (tip start (flow (subject s) (of w)))
    at true true lo = omega arith
    at true false lo = refl
    at false true lo = refl
    at false false lo = omega arith

    go : (b w : Bool) → cond b none (some (of w)) ≡ some k
        → cond b 0 (cond (alike w start) (32 + h.object % 64) s) ≡ node (tip start (flow (subject s) k))
    go true w q = absurd (none-ne-some k q)
    go false w q = let e = some-injective _ k q in let lo : h.object < 64 = subst (λ (z : Held). z.to < 64) (sym e) l in
        at w start lo ∙ ap (λ (z : Held). node (tip start (flow (subject s) z))) e

-- a record that holds nothing has both ends at 0
no_edge : (start : Bool) (h : Handle) (s : ℕ) → held h ≡ none → end_by h s start ≡ 0
no_edge start h s q = go (eqb h.way 0) _ _ q
  where
    go : (b : Bool) (k : Held) (n : ℕ) → cond b none (some k) ≡ none → cond b 0 n ≡ 0
    go true k n q = refl
    go false k n q = absurd (none-ne-some k (sym q))

-- ── leads ──
module _ {t : Tables} (w : Wf t) {ld : List ℕ} (led : Leads t.kin ld) where
  lead_is : (s : ℕ) → s < 32 → lead_of ld s ≡ get_or ld s 0
  lead_is s l = omega (arith, led.low s l)

  no_higher : (a b : ℕ) → a < 32 → b < 32 → T (t.kin a b) → lead_of ld a ≤ lead_of ld b
  no_higher a b la lb h = omega (arith, led.lowest a (get_or ld b 0) la (led.low b lb) (w.teams.shared a b (get_or ld b 0) h (led.member b lb)), lead_is a la, lead_is b lb)

  -- a group has one lead
  one_lead : (a b : ℕ) → a < 32 → b < 32 → T (t.kin a b) → lead_of ld a ≡ lead_of ld b
  one_lead a b la lb h = omega (arith, no_higher a b la lb h, no_higher b a lb la (w.teams.both_ways a b h))

  -- a subject needs what its lead needs
  lead_needs : (s : ℕ) → s < 32 → needs t (subject (lead_of ld s)) ≡ needs t (subject s)
  lead_needs s l = let m = led.member s l in ap (λ (z : ℕ). needs t (subject z)) (lead_is s l)
      ∙ ⊑-antisym (kin_needs w s (get_or ld s 0) m) (kin_needs w (get_or ld s 0) s (w.teams.both_ways s (get_or ld s 0) m))

-- ── the tables ──
module _ (rest : Tables) (ss : List Subject) (os : List Object) (hs : List Handle) (w : Wf (tables_of rest ss os hs)) (lo : length os ≡ 64) (ld : List ℕ)
    (led : Leads rest.kin ld) (base r : List ℕ) (k : Started os base 64) (p : Between 512 (source ld hs) (target ld hs) base r) where
  abbrev t : Tables
  t = tables_of rest ss os hs

  f : Thing → Label
  f y = demand y (t.at y)

  abbrev lead : ℕ → ℕ
  lead = lead_of ld

  leads : Leads t.kin ld
  unfolding tables_of
  leads = led

  abbrev record_at : ℕ → ℕ → Handle
  record_at s q = get_or hs (s * 16 + q) no_handle

  hand_is : (s q : ℕ) → q < 16 → held (record_at s q) ≡ t.hand s q
  unfolding tables_of
  hand_is s q h = rw (lt-ltb q 16 h)

  far : (s q : ℕ) (j : Held) → t.hand s q ≡ some j → (s < 32) × (q < 16) × (j.to < 64)
  far s q j e = let g = w.ends s q j e in
      (ltb→lt s 32 (live_of t (subject s) g.from).0, g.place, slot_low rest ss os hs lo t j.to refl g.to)

  -- an end of the record at a place
  module _ (start : Bool) (s q : ℕ) where
    abbrev tip_at : ℕ
    tip_at = end_by (get_or hs (s * 16 + q) no_handle) (lead ((s * 16 + q) / 16)) start

    end_at : s < 32 → q < 16 → tip_at ≡ end_by (record_at s q) (lead s) start
    end_at a b = let d : (s * 16 + q) / 16 ≡ s = omega arith in ap (λ (z : ℕ). end_by (record_at s q) (lead z) start) d

    taken_at : (j : Held) → t.hand s q ≡ some j → tip_at ≡ node (tip start (flow (subject (lead s)) j))
    taken_at j e = let b = far s q j e in
        end_at b.0 b.1 ∙ edge_node start (record_at s q) j (lead s) (hand_is s q b.1 ∙ e) b.2 (omega arith)

    empty_at : s < 32 → q < 16 → t.hand s q ≡ none → tip_at ≡ 0
    empty_at a b e = end_at a b ∙ no_edge start (record_at s q) (lead s) (hand_is s q b ∙ e)

  -- ── the needs are a potential of the figures ──
  ψ : ℕ → Label
  ψ n = needs t (thing n)

  above : (n : ℕ) → figure base n ⊑ ψ n
  unfolding ψ f tables_of
  above n = go (dec_lt n 32) (dec_lt n 96)
    where
      go : Dec (n < 32) → Dec (n < 96) → figure base n ⊑ needs t (thing n)
      go (yes a) b = subst (λ (z : ℕ). coded z ⊑ needs t (thing n)) (sym (k.subjects n a)) zero_least
      go (no a) (yes b) = let o : ℕ = n - 32 in let e : 32 + o ≡ n = omega arith in
          subst (λ (z : ℕ). figure base z ⊑ needs t (thing z)) e
          (rw (thing_object o) (subst (λ (l : Label). l ⊑ needs t (object o)) (demands_as o (get_or os o no_object) ∙ sym (k.objects o (omega arith)))
          (need_self (edges t) f (object o))))
      go (no a) (no b) = subst (λ (z : ℕ). coded z ⊑ needs t (thing n)) (sym (get_or-eq_default base 0 {n = n} (omega (arith, k.long)))) zero_least

  -- a flow of a subject, taken for one of its lead, falls
  lead_falls : (s : ℕ) (j : Held) → s < 32 → needs t (flow (subject s) j).dst ⊑ needs t (flow (subject s) j).src
      → needs t (flow (subject (lead s)) j).dst ⊑ needs t (flow (subject (lead s)) j).src
  lead_falls s j l = go j.dir
    where
      e : needs t (subject (lead s)) ≡ needs t (subject s)
      e = lead_needs w leads s l

      go : (d : Dir) → needs t (arc d (subject s) (object j.to)).dst ⊑ needs t (arc d (subject s) (object j.to)).src
          → needs t (arc d (subject (lead s)) (object j.to)).dst ⊑ needs t (arc d (subject (lead s)) (object j.to)).src
      go reading h = subst (λ (a : Label). a ⊑ needs t (object j.to)) (sym e) h
      go writing h = subst (λ (a : Label). needs t (object j.to) ⊑ a) (sym e) h

  settled : (i : ℕ) → i < 512 → ψ (target ld hs i) ⊑ ψ (source ld hs i)
  unfolding ψ f
  settled i l = let e : i / 16 * 16 + i % 16 ≡ i = omega arith in subst (λ (z : ℕ). ψ (target ld hs z) ⊑ ψ (source ld hs z)) e
      (go (i / 16) (i % 16) (omega arith) (omega arith) (t.hand (i / 16) (i % 16)) refl)
    where
      go : (s q : ℕ) → s < 32 → q < 16 → (v : Option Held) → t.hand s q ≡ v → ψ (target ld hs (s * 16 + q)) ⊑ ψ (source ld hs (s * 16 + q))
      go s q a b none z = rw (empty_at true s q a b z, empty_at false s q a b z) ⊑_refl
      go s q a b (some j) z =
          subst₂ (λ x y. needs t x ⊑ needs t y) (sym (end_thing false)) (sym (end_thing true))
          (lead_falls s j a (need_flow (edges t) f (flow (subject s) j) (edge_in t (wf_ranged w) z z)))
        where
          end_thing : (start : Bool) → thing (tip_at start s q) ≡ tip start (flow (subject (lead s)) j)
          end_thing start = ap thing (taken_at start s q j z)
              ∙ thing_node (tip start (flow (subject (lead s)) j)) (tip_in_range start (lead s) j (omega arith) (far s q j z).2)

  -- at any time while they are worked out
  pub at_least : (x : Thing) → T (in_range x) → figure r (node x) ⊑ needs (tables_of rest ss os hs) x
  unfolding ψ
  at_least x g = subst (λ (y : Thing). figure r (node x) ⊑ needs t y) (thing_node x g) (p.under ψ (record { above = above; settled = settled }) (node x))

  -- of a subject by the figure of its lead
  pub at_least_led : (s : ℕ) → s < 32 → figure r (lead_of ld s) ⊑ needs (tables_of rest ss os hs) (subject s)
  at_least_led s l = subst (λ (a : Label). figure r (lead s) ⊑ a) (lead_needs w leads s l)
      (at_least (subject (lead s)) (lt→ltb (lead s) 32 (omega arith)))

  -- once they fall along every flow, and each subject has the figure of its lead
  module _ (st : Settled (source ld hs) (target ld hs) (figure r) (Before 512)) (v : List ℕ) (sp : Spread ld r v) where
    abbrev fig : Thing → Label
    fig y = figure v (node y)

    -- ── the figures are a potential of the tables ──
    low : (y : Thing) → f y ⊑ fig y
    unfolding f tables_of
    low (subject n) = none_demanded (t.at (subject n))
      where
        none_demanded : (o : Option Entry) → demand (subject n) o ⊑ fig (subject n)
        none_demanded none = bot_least
        none_demanded (some e) = bot_least
    low (object n) = go (dec_lt n 64)
      where
        go : Dec (n < 64) → demand (object n) (object_entry (get_or os n no_object)) ⊑ fig (object n)
        go (yes l) = subst₂ ◌⊑◌ (k.objects n l ∙ sym (demands_as n (get_or os n no_object))) (ap coded (sym (sp.objects n))) (p.above (32 + n))
        go (no nl) = subst (λ (x : Object). demand (object n) (object_entry x) ⊑ fig (object n)) (sym (get_or-eq_default os no_object {n = n} (omega arith))) bot_least

    -- an end of a flow has the figure that it has as one of the lead's
    spread_tip : (start : Bool) (s : ℕ) (j : Held) → s < 32 → figure v (node (tip start (flow (subject s) j))) ≡ figure r (node (tip start (flow (subject (lead s)) j)))
    spread_tip start s j a = go start j.dir
      where
        go : (start : Bool) (d : Dir) → figure v (node (tip start (arc d (subject s) (object j.to)))) ≡ figure r (node (tip start (arc d (subject (lead s)) (object j.to))))
        go true reading = ap coded (sp.objects j.to)
        go true writing = ap coded (sp.subjects s a)
        go false reading = ap coded (sp.subjects s a)
        go false writing = ap coded (sp.objects j.to)

    at_place : (s q : ℕ) (j : Held) → t.hand s q ≡ some j → fig (flow (subject s) j).dst ⊑ fig (flow (subject s) j).src
    at_place s q j e = let b = far s q j e in subst₂ ◌⊑◌
        (ap (figure r) (taken_at false s q j e) ∙ sym (spread_tip false s j b.0))
        (ap (figure r) (taken_at true s q j e) ∙ sym (spread_tip true s j b.0)) (st (s * 16 + q) (omega (arith, b.0, b.1)))

    -- members have the figure of one lead
    between : (a b : ℕ) → a < 32 → b < 32 → T (t.kin a b) → fig (subject b) ⊑ fig (subject a)
    between a b la lb h = subst (λ (x : Label). figure v b ⊑ x)
        (ap coded (sp.subjects b lb) ∙ ap (figure r) (sym (one_lead w leads a b la lb h)) ∙ ap coded (sym (sp.subjects a la))) ⊑_refl

    falls : (e : Edge) → In e (edges t) → fig e.dst ⊑ fig e.src
    falls e i = elim (in_edge t e i) [
      | inl h ↦ subst (λ (z : Edge). fig z.dst ⊑ fig z.src) h.is (at_place h.s h.p h.k h.holds)
      | inr h ↦ subst (λ (z : Edge). fig z.dst ⊑ fig z.src) h.is
          (between h.a h.b h.low_a h.low_b (mates_kin t h.a h.b h.linked).1)
    ]

    at_most : (x : Thing) → needs t x ⊑ fig x
    unfolding f
    at_most x = need_below (edges t) f (λ y. fig y) low falls x

    no_less : (x : Thing) → T (in_range x) → fig x ⊑ needs t x
    no_less (subject n) g = let l : n < 32 = ltb→lt n 32 g in subst (λ (v : ℕ). coded v ⊑ needs t (subject n)) (sym (sp.subjects n l)) (at_least_led n l)
    no_less (object n) g = subst (λ (v : ℕ). coded v ⊑ needs t (object n)) (sym (sp.objects n)) (at_least (object n) tt)

    pub needed : Needed (tables_of rest ss os hs) v
    needed = record { need_is = λ x g. ⊑-antisym (no_less x g) (at_most x) }
