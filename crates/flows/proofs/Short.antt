-- The flow test: some live thing's label is below its figure exactly where the tables are not safe. Assumes nothing.
use mathlib.Core.Path.{◌≡◌, refl, sym, ◌∙◌, ap, ap₂, subst}
use mathlib.Core.Bool.{Bool, true, false, not, ◌||◌, cond}
use mathlib.Core.Logic.{◌⊎◌, inl, inr}
use mathlib.Core.Option.{Option, none, some, none-ne-some, some-injective}
use mathlib.Core.List.{List}
use Prim.Native.Nat.{ℕ, zero, suc, ◌+◌, ◌≤◌, ◌<◌}
use native.Mathlib.Omega.{arith}
use native.Mathlib.Numerals.{add-one}
use lib.ListN.{length, get_or, take}
use Rattle.std.specs.Prelude.{fold, zip}
use Rattle.flows.specs.Short.{SomeOf}
use Rattle.std.proofs.lemmas.List.{take_all}
use Rattle.std.proofs.lemmas.List.Sums.{fold_more}
use Rattle.std.proofs.lemmas.Slice.Zip.{length-zip, get_or-zip}
use lib.Dec.{T, T_not, ltb→lt, lt→ltb, eqb}
use Rattle.model.specs.Bools.{test, both, or_cases, or_left, or_right, is_true}
use Rattle.model.specs.Lists.{In}
use Rattle.model.specs.Label.{Label, leq, label}
use Rattle.labels.specs.Codes.{coded}
use Rattle.model.specs.Flow.{Thing, subject, object}
use Rattle.model.specs.Tables.{Kind, running, file, pipe, Entry, entry, Tables, in_range, used, live, label_of, handles, open_on, things, needs, safe}
use Rattle.model.proofs.Tables.Laws.{used_is, some_is, Stands, thing_listed, listed_thing, not_safe}
use Rattle.model.specs.Invariant.{Wf}
use Rattle.model.proofs.Calls.Sound.{idle_need}
use Rattle.tables.specs.declared.Subject.{Subject}
use Rattle.tables.specs.declared.Object.{Object}
use Rattle.tables.specs.declared.Handle.{Handle}
use Rattle.tables.specs.Records.{subject_entry, object_entry, no_subject, no_object, tables_of}
use Rattle.model.specs.Figures.{Ready}
use Rattle.tables.specs.Records.Laws.{slot_low}
use Rattle.tables.specs.Needs.{figure_of}
use Rattle.tables.specs.Working.{some_below}
use Rattle.passes.specs.Working.{low_by, short_subject, short_object}
use Rattle.tables.proofs.Below.{some_of_below, below_some, below_same, same_test}

-- ── one thing ──
-- the thing has an entry, and its label is not at least v
abbrev Low : Label → Option Entry → Type 0
Low v o = (e : Entry) × (o ≡ some e) × T (not (leq v e.label))

-- what code finds is what the tables say
abbrev As : Bool → Type 0 → Type 0
As b P = (T b → P) × (P → T b)

low_as : (free : Bool) (k : Kind) (l v : Label) → As (low_by (not free) l v) (Low v (cond free none (some (entry k l))))
low_as true k l v = (λ h. absurd h, λ r. absurd (none-ne-some r.0 r.1))
low_as false k l v = (
  λ h. (_, refl, h),
  λ r. subst (λ (z : Entry). T (not (leq v z.label))) (sym (some-injective _ r.0 r.1)) r.2,
)

subject_as : (x : Subject) (v : Label) → As (short_subject x v) (Low v (subject_entry x))
subject_as x v = low_as (eqb x.live 0) running (label x.level x.shops) v

object_as : (x : Object) (v : Label) → As (short_object x v) (Low v (object_entry x))
object_as x v = low_as (eqb x.kind 0) (cond (eqb x.kind 1) file pipe) (label x.level x.shops) v

-- ── a test of each of some things with its figure ──
pub folded_below : {X : Type 0} (f : X → ℕ → Bool) (xs : List X) (n : List ℕ) (d : X) (e : ℕ) → length xs ≤ length n
    → fold (λ (low : Bool) (p : X × ℕ). low || f p.0 p.1) false (zip xs n) ≡ some_below (length xs) (λ i. f (get_or xs i d) (get_or n i e))
folded_below {X} f xs n d e l = ap (λ (l : List (X × ℕ)). fold step false l) (sym (take_all (length xs) ps (omega (arith, long)))) ∙ go (length xs) (omega arith)
  where
    ps : List (X × ℕ)
    ps = zip xs n

    step : Bool → X × ℕ → Bool
    step low p = low || f p.0 p.1

    long : length ps ≡ length xs
    long = length-zip xs n ∙ omega arith

    go : (k : ℕ) → k ≤ length xs → fold step false (take k ps) ≡ some_below k (λ i. f (get_or xs i d) (get_or n i e))
    go zero h = refl
    go (suc k) h = ap (λ (z : ℕ). fold step false (take z ps)) (sym (add-one k)) ∙ fold_more step false ps k (d, e) (omega (arith, long))
        ∙ ap₂ ◌||◌ (go k (omega arith)) (ap (λ (p : X × ℕ). f p.0 p.1) (get_or-zip xs n k (d, e) (omega arith) (omega arith)))

-- one of some subjects is one of all
pub first_found : (ss : List Subject) (n : List ℕ) {xs : List Subject} {m : List ℕ} {b : Bool} → SomeOf short_subject xs m b → length xs ≤ 32 → length xs ≤ length m
    → ((i : ℕ) → i < length xs → (get_or xs i no_subject ≡ get_or ss i no_subject) × (get_or m i 0 ≡ get_or n i 0))
    → b ≡ true → some_below 32 (λ i. short_subject (get_or ss i no_subject) (coded (get_or n i 0))) ≡ true
first_found ss n {xs} {m} s l e h p =
    let r = some_of_below (length xs) (λ i. short_subject (get_or xs i no_subject) (coded (get_or m i 0))) (subst T (sym p ∙ s.by_index no_subject e) tt) in
    is_true _ (below_some 32 (λ i. short_subject (get_or ss i no_subject) (coded (get_or n i 0))) r.0 (omega (arith, l, r.1)) (subst T (ap₂ (λ (x : Subject) (v : ℕ). short_subject x (coded v)) (h r.0 r.1).0 (h r.0 r.1).1) r.2))

-- of all subjects, and of all objects: the code hands over parts, with parts of the figures
pub subjects_as : (ss : List Subject) (n : List ℕ) {xs : List Subject} {m : List ℕ} {b : Bool} → SomeOf short_subject xs m b → length xs ≡ 32 → 32 ≤ length m
    → ((i : ℕ) → i < 32 → (get_or xs i no_subject ≡ get_or ss i no_subject) × (get_or m i 0 ≡ get_or n i 0))
    → b ≡ some_below 32 (λ i. short_subject (get_or ss i no_subject) (coded (get_or n i 0)))
subjects_as ss n {xs} {m} s l e h = s.by_index no_subject (omega (arith, l, e)) ∙ ap (λ (k : ℕ). some_below k (λ i. short_subject (get_or xs i no_subject) (coded (get_or m i 0)))) l
    ∙ below_same 32 _ _ (λ i g. ap₂ (λ (x : Subject) (v : ℕ). short_subject x (coded v)) (h i g).0 (h i g).1)

pub objects_as : (os : List Object) (n : List ℕ) {xs : List Object} {m : List ℕ} {b : Bool} → SomeOf short_object xs m b → length xs ≡ 64 → 64 ≤ length m
    → ((i : ℕ) → i < 64 → (get_or xs i no_object ≡ get_or os i no_object) × (get_or m i 0 ≡ get_or n (32 + i) 0))
    → b ≡ some_below 64 (λ i. short_object (get_or os i no_object) (coded (get_or n (32 + i) 0)))
objects_as os n {xs} {m} s l e h = s.by_index no_object (omega (arith, l, e)) ∙ ap (λ (k : ℕ). some_below k (λ i. short_object (get_or xs i no_object) (coded (get_or m i 0)))) l
    ∙ below_same 64 _ _ (λ i g. ap₂ (λ (x : Object) (v : ℕ). short_object x (coded v)) (h i g).0 (h i g).1)

-- ── all things ──
module _ (rest : Tables) (ss : List Subject) (os : List Object) (hs : List Handle) (n : List ℕ) (w : Wf (tables_of rest ss os hs))
    (d : Ready (tables_of rest ss os hs) (figure_of n)) (lo : length os ≡ 64) where
  abbrev t : Tables
  t = tables_of rest ss os hs

  fs : ℕ → Bool
  fs i = short_subject (get_or ss i no_subject) (coded (get_or n i 0))

  fo : ℕ → Bool
  fo i = short_object (get_or os i no_object) (coded (get_or n (32 + i) 0))

  abbrev either : Bool
  either = some_below 32 fs || some_below 64 fo

  abbrev Lacks : Thing → Option Entry → Type 0
  Lacks x o = T (not (leq (needs t x) (label_of o)))

  lives : (x : Thing) (e : Entry) → T (in_range x) → t.at x ≡ some e → T (live t x)
  lives x e g q = both (in_range x) (used t x) g (subst T (sym (used_is t x)) (some_is q))

  -- what has too low a label is listed: an object on which no handle is needs no more than its own
  stands : (x : Thing) → T (in_range x) → Low (figure_of n x) (t.at x) → Stands t x
  stands (subject i) g r = g
  stands (object i) g r = elim (test (open_on (handles t) i)) [
    | inl o ↦ o
    | inr o ↦ absurd (T_not (leq (figure_of n (object i)) r.0.label) r.2 (subst (λ (a : Label). T (leq a r.0.label)) (sym (d.need_is (object i) (lives (object i) r.0 g r.1)))
        (idle_need t i r.0 r.1 o).tested))
  ]

  offends : (x : Thing) → T (in_range x) → Low (figure_of n x) (t.at x) → T (not (safe t))
  offends x g r = (not_safe t).1 (
    x,
    thing_listed t x r.0 (stands x g r) r.1,
    subst (Lacks x) (sym r.1)
        (subst (λ (a : Label). T (not (leq a r.0.label))) (d.need_is x (lives x r.0 g r.1)) r.2),
  )

  found : (x : Thing) → In x (things t) → Lacks x (t.at x) → T (in_range x) × Low (figure_of n x) (t.at x)
  found x i h = let r = listed_thing t x i in let g = w.ranged x r.0 r.1 in
      (g, (r.0, r.1, subst (λ (a : Label). T (not (leq a r.0.label))) (sym (d.need_is x (lives x r.0 g r.1))) (subst (Lacks x) r.1 h)))

  to_either : (x : Thing) → T (in_range x) → Low (figure_of n x) (t.at x) → T either
  unfolding tables_of fs fo
  to_either (subject i) g r = or_left (some_below 32 fs) (some_below 64 fo)
      (below_some 32 fs i (ltb→lt i 32 g) ((subject_as (get_or ss i no_subject) (coded (get_or n i 0))).1 r))
  to_either (object i) g r = or_right (some_below 32 fs) (some_below 64 fo)
      (below_some 64 fo i (slot_low rest ss os hs lo t i refl (lives (object i) r.0 tt r.1)) ((object_as (get_or os i no_object) (coded (get_or n (32 + i) 0))).1 r))

  of_either : T either → T (not (safe t))
  unfolding tables_of fs fo
  of_either h = go (or_cases (some_below 32 fs) (some_below 64 fo) h)
    where
      go : T (some_below 32 fs) ⊎ T (some_below 64 fo) → T (not (safe t))
      go (inl a) = let r = some_of_below 32 fs a in
          offends (subject r.0) (lt→ltb r.0 32 r.1) ((subject_as (get_or ss r.0 no_subject) (coded (get_or n r.0 0))).0 r.2)
      go (inr a) = let r = some_of_below 64 fo a in
          offends (object r.0) tt ((object_as (get_or os r.0 no_object) (coded (get_or n (32 + r.0) 0))).0 r.2)

  short_is : either ≡ not (safe t)
  short_is = same_test either (not (safe t)) of_either
      (λ h. let r = (not_safe t).0 h in let g = found r.0 r.1 r.2 in to_either r.0 g.0 g.1)

  -- the two tests, one after the other
  pub short_first : some_below 32 (λ i. short_subject (get_or ss i no_subject) (coded (get_or n i 0))) ≡ true → true ≡ not (safe (tables_of rest ss os hs))
  unfolding fs
  short_first q = ap (λ (b : Bool). b || some_below 64 fo) (sym q) ∙ short_is

  pub short_second : {b r : Bool} → b ≡ some_below 32 (λ i. short_subject (get_or ss i no_subject) (coded (get_or n i 0)))
      → r ≡ some_below 64 (λ i. short_object (get_or os i no_object) (coded (get_or n (32 + i) 0))) → b ≡ false → r ≡ not (safe (tables_of rest ss os hs))
  unfolding fs fo
  short_second q s p = s ∙ ap (λ (b : Bool). b || some_below 64 fo) (sym p ∙ q) ∙ short_is
