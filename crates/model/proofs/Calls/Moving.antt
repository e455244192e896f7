-- The laws of `rereads`, the reads that follow a write to a mapped file: each is a read along a mapping, and what such reads keep, all of them
-- keep. And the laws of `lowers`: whether some level got smaller. Assumes nothing.
use Rattle.std.specs.Prelude.{◌≡◌, refl, Bool, true, false, not, ◌||◌, ◌&&◌, cond, ◌⊎◌, List, [], ℕ, zero, suc, ◌<◌, T}
use Rattle.std.proofs.Common.{sym, ◌∙◌, ap, ap₂, subst, inl, inr, T_not}
use Rattle.std.proofs.Math.Path.{fun_ext}
use Rattle.std.proofs.Math.Option.{Option, none, some, some-injective}
use Rattle.std.proofs.Math.Dec.{not_T}
use Rattle.model.specs.Bools.{test, both_of, not_not, is_true, is_false}
use Rattle.model.specs.Lists.{In, each, keep}
use Rattle.model.specs.Lists.Laws.{each_in, keep_cases, any_of, any_at}
use Rattle.model.specs.Label.{leq, ◌⊑◌}
use Rattle.model.specs.Flow.{Thing, subject, object, same}
use Rattle.model.proofs.Flow.Laws.{same→eq}
use Rattle.model.specs.Tables.{Entry, Handle, Tables, with_at, subjects, places, a_file, cell, whole, things, one, handles_of}
use Rattle.model.proofs.Tables.Laws.{whole_at, of_one, thing_listed, Stands}
use Rattle.model.specs.Steps.{reads, Step, mix, fall, apply, applies}
use Rattle.model.proofs.Steps.Laws.{applies_append, applies_keep, file_keeps, fall_twice}
use Rattle.model.specs.Calls.{has_mapped, rereads, smaller, lowers}

-- ── has-mapped ──
-- s has x mapped through the handle at some place
pub record Through (t : Tables) (x : Thing) (s : ℕ) : Type 0 where
  pub place : ℕ
  pub handle : Handle
  pub low : place < places
  pub held : t.hand s place ≡ some handle
  pub maps : T handle.mapped
  pub on : object handle.to ≡ x

pub has_mapped_at : (t : Tables) (x : Thing) (s : ℕ) → T (has_mapped t x s) → Through t x s
has_mapped_at t x s h =
    let r = any_at (λ k. k.mapped && same (object k.to) x) (handles_of t s) h in
    let b = each_in places (λ p. one (t.hand s p)) r.0 r.1 in
    let m = both_of r.0.mapped (same (object r.0.to) x) r.2 in
    record {
      place = b.0;
      handle = r.0;
      low = b.1;
      held = of_one (t.hand s b.0) r.0 b.2;
      maps = m.0;
      on = same→eq (object r.0.to) x m.1;
    }

-- ── rereads ──
-- a read of x by a subject that has it mapped
pub record Rereads (t : Tables) (x : Thing) (k : Step) : Type 0 where
  pub by : ℕ
  pub through : Through t x by
  pub is : mix reads (subject by) x (cell t by) x ≡ k

pub reread_of : (t : Tables) (x : Thing) (k : Step) → In k (rereads t x) → Rereads t x k
unfolding rereads
reread_of t x k i = go (a_file x (t.at x)) i
  where
    at : ℕ → List Step
    at s = keep (has_mapped t x s) (mix reads (subject s) x (cell t s) x) []

    found : (s : ℕ) → (T (has_mapped t x s) × (mix reads (subject s) x (cell t s) x ≡ k)) ⊎ In k [] → Rereads t x k
    found s (inl c) = record { by = s; through = has_mapped_at t x s c.0; is = c.1 }
    found s (inr b) = absurd b

    go : (b : Bool) → In k (elim b as (λ _. List Step) [ true ↦ each subjects at | false ↦ [] ]) → Rereads t x k
    go true j = let r = each_in subjects at k j in found r.0 (keep_cases (has_mapped t x r.0) _ [] k r.2)
    go false j = absurd j

-- what each such read keeps, all of them keep
pub rereads_keep : (P : Tables → Type 0) (t : Tables) (x : Thing)
    → ((s : ℕ) → Through t x s → (u : Tables) → P u → P (apply (mix reads (subject s) x (cell t s) x) u)) → (u : Tables) → P u → P (applies (rereads t x) u)
rereads_keep P t x f u p = applies_keep P (rereads t x)
    (λ k i u p. let r = reread_of t x k i in subst (λ (j : Step). P (apply j u)) r.is (f r.by r.through u p)) u p

-- ── all of them at once ──
-- y took object o in where some subject below n has it mapped, and y takes in what that one does
abbrev pub took : Tables → ℕ → ℕ → Thing → Bool
took t o zero y = false
took t o (suc n) y = took t o n y || (has_mapped t (object o) n && whole t (cell t n) y)

-- the entries once the subjects below n that have object o mapped have read it
abbrev pub reread_by : Tables → ℕ → ℕ → Thing → Option Entry
reread_by t o n y = cond (took t o n y) (fall y (t.at y) (t.at (object o))) (t.at y)

pub rereads_none : (t : Tables) (x : Thing) → T (not (a_file x (t.at x))) → rereads t x ≡ []
unfolding rereads
rereads_none t x n = ap (λ (b : Bool). elim b as (λ _. List Step) [ true ↦ each subjects (λ s. keep (has_mapped t x s) (mix reads (subject s) x (cell t s) x) []) | false ↦ [] ])
    (is_false (a_file x (t.at x)) n)

pub rereads_file : (t : Tables) (o : ℕ) → T (a_file (object o) (t.at (object o))) → applies (rereads t (object o)) t ≡ with_at t (reread_by t o subjects)
unfolding rereads
rereads_file t o f = ap (λ (b : Bool). applies (elim b as (λ _. List Step) [ true ↦ each subjects at | false ↦ [] ]) t)
    (is_true (a_file (object o) (t.at (object o))) f) ∙ all subjects
  where
    at : ℕ → List Step
    at s = keep (has_mapped t (object o) s) (mix reads (subject s) (object o) (cell t s) (object o)) []

    d : Option Entry
    d = t.at (object o)

    or_none : (a : Bool) → (a || false) ≡ a
    or_none true = refl
    or_none false = refl

    -- the file stays as it is
    file_there : (n : ℕ) → reread_by t o n (object o) ≡ d
    file_there n = go (took t o n (object o))
      where
        go : (b : Bool) → cond b (fall (object o) (t.at (object o)) d) (t.at (object o)) ≡ d
        go true = file_keeps (object o) d d f
        go false = refl

    reads_too : (n : ℕ) (y : Thing) → cond (whole (with_at t (reread_by t o n)) (cell t n) y) (fall y (reread_by t o n y) (reread_by t o n (object o))) (reread_by t o n y)
        ≡ cond (took t o n y || whole t (cell t n) y) (fall y (t.at y) d) (t.at y)
    reads_too n y = ap₂ (λ (b : Bool) (e : Option Entry). cond b (fall y (reread_by t o n y) e) (reread_by t o n y))
        (whole_at t (reread_by t o n) (cell t n) y) (file_there n) ∙ go (took t o n y) (whole t (cell t n) y)
      where
        go : (a b : Bool) → cond b (fall y (cond a (fall y (t.at y) d) (t.at y)) d) (cond a (fall y (t.at y) d) (t.at y)) ≡ cond (a || b) (fall y (t.at y) d) (t.at y)
        go true true = fall_twice y (t.at y) d
        go true false = refl
        go false true = refl
        go false false = refl

    next : (n : ℕ) (b : Bool) → has_mapped t (object o) n ≡ b
        → applies (keep b (mix reads (subject n) (object o) (cell t n) (object o)) []) (with_at t (reread_by t o n)) ≡ with_at t (reread_by t o (suc n))
    next n false h = ap (with_at t) (fun_ext (λ y. ap (λ (b : Bool). cond b (fall y (t.at y) d) (t.at y))
        (sym (or_none (took t o n y)) ∙ ap (λ (b : Bool). took t o n y || (b && whole t (cell t n) y)) (sym h))))
    next n true h = ap (with_at t) (fun_ext (λ y. reads_too n y ∙ ap (λ (b : Bool). cond (took t o n y || (b && whole t (cell t n) y)) (fall y (t.at y) d) (t.at y)) (sym h)))

    all : (n : ℕ) → applies (each n at) t ≡ with_at t (reread_by t o n)
    all zero = refl
    all (suc n) = applies_append (each n at) (at n) t ∙ ap (applies (at n)) (all n) ∙ next n (has_mapped t (object o) n) refl

-- ── lowers ──
-- a thing that is live in t and has a smaller level in u
pub record Lower (t u : Tables) : Type 0 where
  pub thing : Thing
  pub was : Entry
  pub now : Entry
  pub stands : Stands t thing
  pub there : t.at thing ≡ some was
  pub then : u.at thing ≡ some now
  pub less : T (not (leq was.label now.label))

-- no thing has a smaller level in u
abbrev pub NoneLower : Tables → Tables → Type 0
NoneLower t u = (x : Thing) (e d : Entry) → t.at x ≡ some e → u.at x ≡ some d → e.label ⊑ d.label

pub lowers_none : (t u : Tables) → NoneLower t u → lowers t u ≡ false
unfolding lowers
lowers_none t u h = is_false (lowers t u) (not_T (lowers t u) (λ a. let r = any_at (λ x. smaller (t.at x) (u.at x)) (things t) a in
    go r.0 (t.at r.0) (u.at r.0) refl refl r.2))
  where
    go : (x : Thing) (b a : Option Entry) → t.at x ≡ b → u.at x ≡ a → T (smaller b a) → ⊥
    go x none a p q m = m
    go x (some e) none p q m = m
    go x (some e) (some d) p q m = T_not (leq e.label d.label) m (h x e d p q).tested

pub lowers_some : (t u : Tables) → Lower t u → lowers t u ≡ true
unfolding lowers
lowers_some t u l = is_true (lowers t u) (any_of (λ x. smaller (t.at x) (u.at x)) (things t) l.thing
    (thing_listed t l.thing l.was l.stands l.there)
    (subst (λ (a : Option Entry). T (smaller (t.at l.thing) a)) (sym l.then)
    (subst (λ (b : Option Entry). T (smaller b (some l.now))) (sym l.there) l.less)))

-- what tells whether some level got smaller
pub lowers_is : (t u : Tables) (b : Bool) → (T b → Lower t u) → (T (not b) → NoneLower t u) → lowers t u ≡ b
lowers_is t u true f g = lowers_some t u (f tt)
lowers_is t u false f g = lowers_none t u (g tt)

-- where x alone may have another level, x tells
pub lowers_one : (t u : Tables) (x : Thing) (e d : Entry) → Stands t x → t.at x ≡ some e → u.at x ≡ some d
    → ((y : Thing) (a b : Entry) → T (not (same x y)) → t.at y ≡ some a → u.at y ≡ some b → a.label ⊑ b.label) → lowers t u ≡ not (leq e.label d.label)
lowers_one t u x e d r p q h = lowers_is t u (not (leq e.label d.label))
    (λ n. record { thing = x; was = e; now = d; stands = r; there = p; then = q; less = n })
    (λ n y a b s z. elim (test (same x y)) [ inl i ↦ own y a b n (same→eq x y i) s z | inr i ↦ h y a b i s z ])
  where
    own : (y : Thing) (a b : Entry) → T (not (not (leq e.label d.label))) → x ≡ y → t.at y ≡ some a → u.at y ≡ some b → a.label ⊑ b.label
    own y a b n i s z = subst (λ (f : Entry). f.label ⊑ b.label) (some-injective e a (sym p ∙ ap t.at i ∙ s))
        (subst (λ (f : Entry). e.label ⊑ f.label) (some-injective d b (sym q ∙ ap u.at i ∙ z)) (record { tested = not_not (leq e.label d.label) n }))
