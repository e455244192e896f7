-- That a walk down the distances is a shortest chain (`walked_found`), that there is none where a thing is too far (`far_found`), and that the shortest of all is
-- found thing by thing (`best_found`). Assumes nothing.
use mathlib.Core.Path.{◌≡◌, refl, sym, ◌∙◌, ap, subst, subst₂}
use mathlib.Core.Bool.{Bool, true, false, not, ◌&&◌, ◌||◌, cond}
use mathlib.Core.Logic.{◌⊎◌, inl, inr}
use mathlib.Core.List.{List}
use Prim.Native.Nat.{ℕ, suc, ◌+◌, ◌≤◌, ◌<◌}
use native.Mathlib.Omega.{arith}
use native.Mathlib.Decide.{ℕ_discrete}
use borrow.Author.Tests.{eq-eqb, ne_eqb, ltb-true, ltb-false}
use lib.ListN.{length, get_or, take}
use lib.Dec.{T, not_T, eqb, ltb, eqb→eq}
use Rattle.model.specs.Label.{Label}
use Rattle.tables.specs.declared.Subject.{Subject}
use Rattle.tables.specs.declared.Object.{Object}
use Rattle.tables.specs.declared.Handle.{Handle}
use Rattle.tables.specs.Records.{no_handle}
use Rattle.ways.specs.declared.Way.{Way}
use Rattle.ways.specs.Paths.{Path, end, via, Stands, Is, Goal, Trail, Found}
use Rattle.ways.specs.Near.{figure, Ways, Sloped, First, Walk, there, along, Walked}
use Rattle.ways.specs.Working.{Drawn, Aimed, live_at, label_at, Alone, Below, shorter_by}
use Rattle.passes.specs.declared.edge.Edge.{Edge}
use Rattle.passes.specs.Listing.{start_at, end_at}
use Rattle.passes.proofs.Listing.{empty_end}
use Rattle.ways.proofs.Aiming.{goal_zero, goal_or_far, stands_live, live_stands}
use Rattle.ways.proofs.Nearing.{true_false}

-- ── walks and chains ──
module _ {ld : List ℕ} {hs : List Handle} {es : List Edge} (p : Drawn ld hs es 512) where
  -- a step leads to another thing, so that its place is not empty
  open_step : (d : ℕ → ℕ) {x : ℕ} (i : ℕ) → First (start_at es) (end_at es) d x i → T (not (eqb (get_or hs i no_handle).way 0))
  open_step d {x} i f = not_T (eqb (get_or hs i no_handle).way 0) (λ z. loops (eqb→eq (get_or hs i no_handle).way 0 z))
    where
      loops : (get_or hs i no_handle).way ≡ 0 → ⊥
      loops z = omega (arith, subst (λ (y : ℕ). d y < d x) (p.ends i f.low ∙ empty_end (get_or hs i no_handle) _ false z) f.nearer, ap d at_0)
        where
          at_0 : x ≡ 0
          at_0 = sym f.leaves ∙ p.starts i f.low ∙ empty_end (get_or hs i no_handle) _ true z

  -- so that a walk is a chain
  walk_path : (d : ℕ → ℕ) {x y : ℕ} {l : List ℕ} → Walk (start_at es) (end_at es) d x l y → Path ld hs x l y
  walk_path d (there e) = end e
  walk_path d {y = y} (along {l = l} i f w) = via i f.low (open_step d i f) (sym (p.starts i f.low) ∙ f.leaves)
      (subst (λ (z : ℕ). Path ld hs z l y) (p.ends i f.low) (walk_path d w))

  -- at rest, what a chain of n handles leads to a goal is at most n from it
  path_near : (g r : List ℕ) → Ways (start_at es) (end_at es) g r → {x y : ℕ} {l : List ℕ} → Path ld hs x l y → figure r y ≡ 0 → figure r x ≤ length l
  path_near g r w (end e) z = subst (λ (v : ℕ). figure r v ≤ 0) (sym e) (omega (arith, z))
  path_near g r w (via {l = l} i h o s c) z = subst (λ (v : ℕ). figure r v ≤ suc (length l)) (p.starts i h ∙ s)
      (omega (arith, w.settled i h, ap (figure r) (p.ends i h), path_near g r w c z))

-- ── one start ──
module _ {ld : List ℕ} {hs : List Handle} {os : List Object} {a : Label} {es : List Edge} {g r : List ℕ} (p : Drawn ld hs es 512) (q : Aimed os a g 64)
    (w : Ways (start_at es) (end_at es) g r) where
  -- what is at no distance is a goal
  zero_goal : (y : ℕ) → y < 96 → figure r y ≡ 0 → Goal os a y
  zero_goal y l z = elim (goal_or_far q y l) [
    | inl h ↦ h
    | inr h ↦ elim (w.falls.stepped y) [ inl e ↦ absurd (omega (arith, z, e, h)) | inr s ↦ absurd (omega (arith, z, s.nearer)) ]
  ]

  -- what is at some distance has a step
  pub sloped : Sloped (start_at es) (end_at es) (figure r)
  sloped = record {
    settled = w.settled;
    steps = λ x l ne b. elim (w.falls.stepped x) [
      | inr s ↦ s
      | inl e ↦ elim (goal_or_far q x l) [ inl h ↦ absurd (ne (e ∙ goal_zero q h)) | inr h ↦ absurd (omega (arith, e, h, b)) ]
    ];
  }

  -- every chain is at least as long as its start is far
  trail_near : {x y : ℕ} {l : List ℕ} (s : ℕ) → Trail (Is s a) os ld hs x l y → figure r s ≤ length l
  trail_near {y = y} {l = l} s t = subst (λ (z : ℕ). figure r z ≤ length l) t.starts.0 (path_near p g r w t.path zero)
    where
      zero : figure r y ≡ 0
      zero = omega (arith, w.falls.lower y, goal_zero q (subst (λ (b : Label). Goal os b y) t.starts.1 t.goal))

  pub far_found : (x start count stop : ℕ) (steps : List ℕ) → count ≡ 0 → 95 < figure r x → Found (Is x a) os ld hs start steps count stop
  far_found x start count stop steps z h = record {
    few = omega (arith, z);
    none = λ _ y v l t. omega (arith, h, trail_near x t);
    trail = λ c. absurd (omega (arith, z, c));
    fewest = λ c. absurd (omega (arith, z, c));
    lowest = λ c. absurd (omega (arith, z, c));
  }

  pub walked_found : (x start count stop : ℕ) (steps : List ℕ) → x < 96 → (Goal os a x → ⊥) → figure r x ≤ 95
      → Walked (start_at es) (end_at es) (figure r) x start steps count stop → Found (Is x a) os ld hs start steps count stop
  walked_found x start count stop steps l off h k = record {
    few = omega (arith, h, k.long);
    none = λ z. absurd (off (zero_goal x l (sym k.long ∙ z)));
    trail = λ _. record {
      label = a;
      starts = (k.begins, refl);
      goal = zero_goal stop k.low k.arrived;
      path = subst (λ (s : ℕ). Path ld hs s (take count steps) stop) (sym k.begins) (walk_path p (figure r) k.walk);
    };
    fewest = λ _ y v m t. omega (arith, k.long, trail_near x t);
    lowest = λ _ y v m b t. absurd (omega (arith, b, k.begins, t.starts.0));
  }

-- ── who may start ──
module _ {os : List Object} {ld : List ℕ} {hs : List Handle} where
  trail_by : {may may' : ℕ → Label → Type 0} → ((x : ℕ) (a : Label) → may x a → may' x a) → {x y : ℕ} {l : List ℕ} → Trail may os ld hs x l y → Trail may' os ld hs x l y
  trail_by f {x = x} t = record { label = t.label; starts = f x t.label t.starts; goal = t.goal; path = t.path }

  -- by the same who may start, in other words
  pub found_by : {may may' : ℕ → Label → Type 0} {start count stop : ℕ} {steps : List ℕ} → ((x : ℕ) (a : Label) → may x a → may' x a)
      → ((x : ℕ) (a : Label) → may' x a → may x a) → Found may os ld hs start steps count stop → Found may' os ld hs start steps count stop
  found_by f b p = record {
    few = p.few;
    none = λ z x y l t. p.none z x y l (trail_by b t);
    trail = λ c. trail_by f (p.trail c);
    fewest = λ c x y l t. p.fewest c x y l (trail_by b t);
    lowest = λ c x y l h t. p.lowest c x y l h (trail_by b t);
  }

  -- nobody
  pub none_found : {may : ℕ → Label → Type 0} (start count stop : ℕ) (steps : List ℕ) → count ≡ 0 → ((x : ℕ) (a : Label) → may x a → ⊥) → Found may os ld hs start steps count stop
  none_found start count stop steps z n = record {
    few = omega (arith, z);
    none = λ _ x y l t. absurd (n x t.label t.starts);
    trail = λ c. absurd (omega (arith, z, c));
    fewest = λ c. absurd (omega (arith, z, c));
    lowest = λ c. absurd (omega (arith, z, c));
  }

-- ── a thing for its own label ──
module _ (ss : List Subject) {os : List Object} {ld : List ℕ} {hs : List Handle} {start count stop : ℕ} {steps : List ℕ} (x : ℕ) where
  pub live_found : {a : Label} → x < 96 → live_at ss os x ≡ true → a ≡ label_at ss os x → Found (Is x a) os ld hs start steps count stop
      → Found (Alone x (Stands ss os)) os ld hs start steps count stop
  live_found {a} h v e p = found_by {may = Is x a} {may' = Alone x (Stands ss os)} forth back p
    where
      forth : (y : ℕ) (b : Label) → Is x a y b → Alone x (Stands ss os) y b
      forth y b m = (m.0, subst₂ (λ (z : ℕ) (c : Label). Stands ss os z c) (sym m.0) (sym (m.1 ∙ e)) (live_stands ss os x h v))

      back : (y : ℕ) (b : Label) → Alone x (Stands ss os) y b → Is x a y b
      back y b m = (m.0, (stands_live ss os y b m.1).1 ∙ ap (label_at ss os) m.0 ∙ sym e)

  pub idle_found : live_at ss os x ≡ false → count ≡ 0 → Found (Alone x (Stands ss os)) os ld hs start steps count stop
  idle_found v z = none_found {may = Alone x (Stands ss os)} start count stop steps z (λ y a m.
      true_false (sym (stands_live ss os y a m.1).0 ∙ ap (live_at ss os) m.0 ∙ v))

-- ── the better of two ──
shorter_yes : (n m : ℕ) → shorter_by n m ≡ true → (0 < n) × ((m ≡ 0) ⊎ (n < m))
shorter_yes n m q = go (ℕ_discrete n 0) (ℕ_discrete m 0)
  where
    go : Dec (n ≡ 0) → Dec (m ≡ 0) → (0 < n) × ((m ≡ 0) ⊎ (n < m))
    go (yes e) d = true_false (sym q ∙ ap (λ (b : Bool). not b && (eqb m 0 || ltb n m)) (eq-eqb n 0 e))
    go (no e) (yes z) = (omega arith, inl z)
    go (no e) (no z) = (omega arith, inr (ltb-true n m (sym (at_both e z) ∙ q)))
      where
        at_both : (n ≡ 0 → ⊥) → (m ≡ 0 → ⊥) → shorter_by n m ≡ ltb n m
        at_both e z = rw (ne_eqb n 0 e, ne_eqb m 0 z) refl

shorter_no : (n m : ℕ) → shorter_by n m ≡ false → (n ≡ 0) ⊎ ((0 < m) × (m ≤ n))
shorter_no n m q = go (ℕ_discrete n 0) (ℕ_discrete m 0)
  where
    go : Dec (n ≡ 0) → Dec (m ≡ 0) → (n ≡ 0) ⊎ ((0 < m) × (m ≤ n))
    go (yes e) d = inl e
    go (no e) (yes z) = true_false (sym at_first ∙ q)
      where
        at_first : shorter_by n m ≡ true
        at_first = rw (ne_eqb n 0 e, eq-eqb m 0 z) refl
    go (no e) (no z) = inr (omega arith, ltb-false n m (sym at_both ∙ q))
      where
        at_both : shorter_by n m ≡ ltb n m
        at_both = rw (ne_eqb n 0 e, ne_eqb m 0 z) refl

-- what a way says of who may start
abbrev pub Says : List Object → List ℕ → List Handle → (ℕ → Label → Type 0) → Way → Type 0
Says os ld hs may w = Found may os ld hs w.start w.steps w.count w.end

module _ {may : ℕ → Label → Type 0} {os : List Object} {ld : List ℕ} {hs : List Handle} (k : ℕ) where
  -- a start below k + 1 is below k, or is k
  split_trail : {x y : ℕ} {l : List ℕ} → Trail (Below (k + 1) may) os ld hs x l y → Trail (Below k may) os ld hs x l y ⊎ Trail (Alone k may) os ld hs x l y
  split_trail {x} {y} {l} t = go (ℕ_discrete x k)
    where
      go : Dec (x ≡ k) → Trail (Below k may) os ld hs x l y ⊎ Trail (Alone k may) os ld hs x l y
      go (yes e) = inr (record { label = t.label; starts = (e, t.starts.1); goal = t.goal; path = t.path })
      go (no n) = inl (record { label = t.label; starts = (omega (arith, t.starts.0), t.starts.1); goal = t.goal; path = t.path })

  module _ (a b : Way) (p : Says os ld hs (Below k may) a) (q : Says os ld hs (Alone k may) b) where
    -- the new one is shorter
    takes : shorter_by b.count a.count ≡ true → Says os ld hs (Below (k + 1) may) b
    takes s = record {
      few = q.few;
      none = λ z. absurd (omega (arith, z, (shorter_yes b.count a.count s).0));
      trail = λ c. trail_by (λ x l m. (omega (arith, m.0), m.1)) (q.trail c);
      fewest = λ c x y l t. elim (split_trail t) [ inl u ↦ omega (arith, longer x y l u) | inr u ↦ q.fewest c x y l u ];
      lowest = λ c x y l h t. elim (split_trail t) [ inl u ↦ longer x y l u | inr u ↦ q.lowest c x y l h u ];
    }
      where
        longer : (x y : ℕ) (l : List ℕ) → Trail (Below k may) os ld hs x l y → b.count < length l
        longer x y l t = elim (shorter_yes b.count a.count s).1 [
          | inl z ↦ omega (arith, p.none z x y l t, q.few)
          | inr h ↦ omega (arith, h, p.fewest (omega (arith, h)) x y l t)
        ]

    -- the old one stays
    keeps : shorter_by b.count a.count ≡ false → Says os ld hs (Below (k + 1) may) a
    keeps s = record {
      few = p.few;
      none = λ z x y l t. elim (split_trail t) [
        | inl u ↦ p.none z x y l u
        | inr u ↦ elim (shorter_no b.count a.count s) [ inl e ↦ q.none e x y l u | inr h ↦ absurd (omega (arith, z, h.0)) ]
      ];
      trail = λ c. trail_by (λ x l m. (omega (arith, m.0), m.1)) (p.trail c);
      fewest = λ c x y l t. elim (split_trail t) [
        | inl u ↦ p.fewest c x y l u
        | inr u ↦ elim (shorter_no b.count a.count s) [
          | inl e ↦ omega (arith, p.few, q.none e x y l u)
          | inr h ↦ omega (arith, h.1, q.fewest (omega (arith, h.0, h.1)) x y l u)
        ]
      ];
      lowest = λ c x y l h t. elim (split_trail t) [ inl u ↦ p.lowest c x y l h u | inr u ↦ absurd (omega (arith, h, u.starts.0, (p.trail c).starts.0)) ];
    }

    pub best_found : Says os ld hs (Below (k + 1) may) (cond (shorter_by b.count a.count) b a)
    best_found = go (shorter_by b.count a.count) refl
      where
        go : (s : Bool) → shorter_by b.count a.count ≡ s → Says os ld hs (Below (k + 1) may) (cond s b a)
        go true e = takes e
        go false e = keeps e
