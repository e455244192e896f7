-- Goals, object by object, and that they are the files that a label must not reach; what is live, and its label. Assumes nothing.
use mathlib.Core.Path.{◌≡◌, refl, sym, ◌∙◌, ap, subst}
use mathlib.Core.Bool.{Bool, true, false, not, cond}
use mathlib.Core.Logic.{◌⊎◌, inl, inr}
use mathlib.Core.Option.{none, some, none-ne-some, some-injective}
use mathlib.Core.List.{List}
use Prim.Native.Nat.{ℕ, ◌+◌, ◌-◌, ◌<◌}
use native.Mathlib.Omega.{arith}
use native.Mathlib.Decide.{ℕ_discrete, dec_lt}
use borrow.Author.Tests.{eqb-true, le-ltb}
use lib.ListN.{length, get_or, set, replicate, length-set, get_or-replicate}
use lib.Seq.{get_or-set_same, get_or-set_other}
use lib.Dec.{T, T_not, eqb, ltb}
use Rattle.model.specs.Bools.{is_false}
use Rattle.model.specs.Label.{Label, label, leq}
use Rattle.model.proofs.Label.Laws.{⊑_refl}
use Rattle.model.specs.Flow.{subject, object}
use Rattle.model.specs.Tables.{file, pipe, running, Entry, entry, is_file}
use Rattle.tables.specs.declared.Subject.{Subject}
use Rattle.tables.specs.declared.Object.{Object}
use Rattle.tables.specs.Records.{object_entry, no_subject, no_object, entries}
use Rattle.ways.specs.Paths.{Stands, Goal}
use Rattle.ways.specs.Near.{figure}
use Rattle.ways.specs.Working.{goal_by, Aimed, live_at, label_at}
use Rattle.ways.proofs.Nearing.{true_false}

-- ── the figures to start from ──
pub none_aimed : (os : List Object) (a : Label) → length {A = ℕ} (replicate 96 255) ≡ 96 → Aimed os a (replicate 96 255) 0
none_aimed os a l = record { long = l; subjects = λ i h. get_or-replicate 96 i 255 0 (omega arith); objects = λ i h. absurd (omega arith) }

pub one_aimed : (os : List Object) (a : Label) (r : List ℕ) (k v : ℕ) → Aimed os a r k → k < 64 → v ≡ goal_by (get_or os k no_object) a → Aimed os a (set r (32 + k) v) (k + 1)
one_aimed os a r k v p l e = record {
  long = simp length-set p.long;
  subjects = λ i h. get_or-set_other r (32 + k) i v 0 (λ q. omega arith) ∙ p.subjects i h;
  objects = λ i h. at i h (ℕ_discrete i k);
}
  where
    at : (i : ℕ) → i < k + 1 → Dec (i ≡ k) → figure (set r (32 + k) v) (32 + i) ≡ goal_by (get_or os i no_object) a
    at i h (yes q) = rw (q, get_or-set_same r (32 + k) v 0 (omega (arith, p.long))) e
    at i h (no n) = get_or-set_other r (32 + k) (32 + i) v 0 (λ q. n (omega arith)) ∙ p.objects i (omega arith)

-- ── a goal ──
-- the figure of a file, by the test of its label
pub file_figure : (o : Object) (a : Label) {l : Label} {b r : Bool} → o.kind ≡ 1 → l ≡ label o.level o.shops → b ≡ leq l a → b ≡ r → goal_by o a ≡ cond r 255 0
file_figure o a k e q t = rw (k, sym e, sym q, t) refl

goal_figure : (o : Object) (a : Label) (n : ℕ) (e : Entry) → object_entry o ≡ some e → T (is_file (object n) e.kind) → T (not (leq e.label a)) → goal_by o a ≡ 0
goal_figure o a n e q f h = go (eqb o.kind 0) (eqb o.kind 1) q
  where
    l : Label
    l = label o.level o.shops

    go : (z w : Bool) → cond z none (some (entry (cond w file pipe) l)) ≡ some e → ◌≡◌ {A = ℕ} (cond w (cond (leq l a) 255 0) 255) 0
    go true w c = absurd (none-ne-some e c)
    go false false c = absurd (subst (λ (d : Entry). T (is_file (object n) d.kind)) (sym (some-injective _ e c)) f)
    go false true c = ap {B = ℕ} (λ (b : Bool). cond b 255 0) (is_false (leq l a) (subst (λ (d : Entry). T (not (leq d.label a))) (sym (some-injective _ e c)) h))

-- the figure of an object says which it is
record Aim (o : Object) (a : Label) : Type 0 where
  pub kind_is : o.kind ≡ 1
  pub higher : T (not (leq (label o.level o.shops) a))

figure_goal : (o : Object) (a : Label) → Aim o a ⊎ (goal_by o a ≡ 255)
figure_goal o a = go (eqb o.kind 1) refl (leq (label o.level o.shops) a) refl
  where
    go : (w : Bool) → eqb o.kind 1 ≡ w → (b : Bool) → leq (label o.level o.shops) a ≡ b → Aim o a ⊎ ◌≡◌ {A = ℕ} (cond w (cond b 255 0) 255) 255
    go false p b q = inr refl
    go true p true q = inr refl
    go true p false q = inl (record { kind_is = eqb-true o.kind 1 p; higher = subst (λ (c : Bool). T (not c)) (sym q) tt })

aim_goal : (os : List Object) (a : Label) (i : ℕ) → i < 64 → Aim (get_or os i no_object) a → Goal os a (32 + i)
aim_goal os a i l p = record {
  slot = i;
  low = l;
  is = refl;
  entry = entry file (label (get_or os i no_object).level (get_or os i no_object).shops);
  there = rw p.kind_is refl;
  is_a_file = tt;
  higher = p.higher;
}

module _ {os : List Object} {a : Label} {g : List ℕ} (p : Aimed os a g 64) where
  -- a goal has the figure 0
  pub goal_zero : {y : ℕ} → Goal os a y → figure g y ≡ 0
  goal_zero q = ap (figure g) q.is ∙ p.objects q.slot q.low ∙ goal_figure (get_or os q.slot no_object) a q.slot q.entry q.there q.is_a_file q.higher

  -- all else has 255
  pub goal_or_far : (y : ℕ) → y < 96 → Goal os a y ⊎ (figure g y ≡ 255)
  goal_or_far y l = go (dec_lt y 32)
    where
      go : Dec (y < 32) → Goal os a y ⊎ (figure g y ≡ 255)
      go (yes h) = inr (p.subjects y h)
      go (no h) = let e : 32 + (y - 32) ≡ y = omega arith in subst (λ (z : ℕ). Goal os a z ⊎ (figure g z ≡ 255)) e
          (elim (figure_goal (get_or os (y - 32) no_object) a) [
            | inl c ↦ inl (aim_goal os a (y - 32) (omega arith) c)
            | inr c ↦ inr (p.objects (y - 32) (omega arith) ∙ c)
          ])

-- no subject is a goal
pub subject_no_goal : (os : List Object) (a : Label) (s : ℕ) → s < 32 → Goal os a s → ⊥
subject_no_goal os a s l q = omega (arith, q.is)

-- ── what is live ──
-- an entry by whether it is in use
entry_of : (z : Bool) (e d : Entry) → cond z none (some e) ≡ some d → (not z ≡ true) × (e.label ≡ d.label)
entry_of true e d q = absurd (none-ne-some d q)
entry_of false e d q = (refl, ap (λ (c : Entry). c.label) (some-injective e d q))

of_entry : (z : Bool) (e : Entry) → not z ≡ true → cond z none (some e) ≡ some e
of_entry true e q = true_false (sym q)
of_entry false e q = refl

module _ (ss : List Subject) (os : List Object) where
  -- what is live and has a label is so by its record
  pub stands_live : (x : ℕ) (a : Label) → Stands ss os x a → (live_at ss os x ≡ true) × (a ≡ label_at ss os x)
  stands_live x a p = go (ltb x 32) p.there
    where
      s : Subject
      s = get_or ss x no_subject

      o : Object
      o = get_or os (x - 32) no_object

      go : (b : Bool) → entries ss os (cond b (subject x) (object (x - 32))) ≡ some p.entry
          → (cond b (not (eqb s.live 0)) (not (eqb o.kind 0)) ≡ true) × (a ≡ cond b (label s.level s.shops) (label o.level o.shops))
      go true q = let r = entry_of (eqb s.live 0) (entry running (label s.level s.shops)) p.entry q in (r.0, sym (r.1 ∙ p.label_is))
      go false q =
          let r = entry_of (eqb o.kind 0) (entry (cond (eqb o.kind 1) file pipe) (label o.level o.shops)) p.entry q in (r.0, sym (r.1 ∙ p.label_is))

  -- and the other way round
  pub live_stands : (x : ℕ) → x < 96 → live_at ss os x ≡ true → Stands ss os x (label_at ss os x)
  live_stands x l q = go (ltb x 32) refl q
    where
      s : Subject
      s = get_or ss x no_subject

      o : Object
      o = get_or os (x - 32) no_object

      go : (b : Bool) → ltb x 32 ≡ b → cond b (not (eqb s.live 0)) (not (eqb o.kind 0)) ≡ true → Stands ss os x (cond b (label s.level s.shops) (label o.level o.shops))
      go true e h = record {
        low = l;
        entry = entry running (label s.level s.shops);
        there = ap (λ (b : Bool). entries ss os (cond b (subject x) (object (x - 32)))) e ∙ of_entry (eqb s.live 0) _ h;
        label_is = refl;
      }
      go false e h = record {
        low = l;
        entry = entry (cond (eqb o.kind 1) file pipe) (label o.level o.shops);
        there = ap (λ (b : Bool). entries ss os (cond b (subject x) (object (x - 32)))) e ∙ of_entry (eqb o.kind 0) _ h;
        label_is = refl;
      }

  -- what a thing's own label must not reach is another thing
  pub own_no_goal : (x : ℕ) → x < 96 → Goal os (label_at ss os x) x → ⊥
  own_no_goal x l q = T_not (leq a a) (subst (λ (b : Label). T (not (leq b a))) own q.higher) (⊑_refl {a = a}).tested
    where
      a : Label
      a = label_at ss os x

      o : Object
      o = get_or os q.slot no_object

      own : q.entry.label ≡ a
      own = sym (entry_of (eqb o.kind 0) (entry (cond (eqb o.kind 1) file pipe) (label o.level o.shops)) q.entry q.there).1
          ∙ subst (λ (i : ℕ). label o.level o.shops ≡ label_at ss os i) (sym q.is) here
        where
          here : label o.level o.shops ≡ label_at ss os (32 + q.slot)
          here = let e : 32 + q.slot - 32 ≡ q.slot = omega arith in rw (le-ltb (32 + q.slot) 32 (omega arith), e) refl
