-- What the passed tests of an allowed call give, and what is live once a thing has entered or an exec has dropped what it drops. Assumes nothing.
use Rattle.std.specs.Prelude.{◌≡◌, refl, Bool, true, false, not, ◌&&◌, cond, ℕ, ◌<◌, T, eqb, ltb}
use Rattle.std.proofs.Common.{sym, ◌∙◌, subst, inl, inr, ltb→lt}
use Rattle.std.proofs.Math.Option.{Option, none, some, none-ne-some}
use Rattle.std.proofs.Math.Dec.{eqb_refl}
use Rattle.model.specs.Bools.{neither, both, not_not, cond_no}
use Rattle.model.specs.Lists.{In}
use Rattle.model.specs.Flow.{Thing, subject, object, same}
use Rattle.model.specs.Tables.{Dir, reading, writing, Entry, Handle, Tables, places, in_range, is_some, used, live, mates}
use Rattle.model.proofs.Tables.Laws.{some_of, used_is}
use Rattle.model.specs.Steps.{Origin, enter, quits, put, row, apply, applies}
use Rattle.model.proofs.Steps.Laws.{put_same, row_cases, live_at}
use Rattle.model.proofs.Invariant.Laws.{Less, less_hand, less_quits, less_trans}
use Rattle.model.specs.Calls.{Call, ends_at_exec, lasting, sheds, Test, alive, present, new, vacant, taken, facing, faces, turned, broken, tests}

-- ── what a passed test gives ──
pub is_alive : (t : Tables) (s : ℕ) → T (not (broken t (alive s))) → T (live t (subject s))
is_alive t s h = not_not (live t (subject s)) h

pub is_present : (t : Tables) (o : ℕ) → T (not (broken t (present o))) → T (live t (object o))
is_present t o h = not_not (live t (object o)) h

pub is_new : (t : Tables) (x : Thing) → T (not (broken t (new x))) → T (in_range x) × (t.at x ≡ none)
is_new t x h = let r = neither (not (in_range x)) (used t x) h in
    (not_not (in_range x) r.0, go (t.at x) (subst (λ (b : Bool). T (not b)) (used_is t x) r.1))
  where
    go : (o : Option Entry) → T (not (is_some o)) → o ≡ none
    go none u = refl
    go (some e) u = absurd u

pub is_place : (t : Tables) (s p : ℕ) → T (not (broken t (vacant s p))) → p < places
is_place t s p h = ltb→lt p places (not_not (ltb p places) (neither (not (ltb p places)) (is_some (t.hand s p)) h).0)

pub is_vacant : (t : Tables) (s p : ℕ) → T (not (broken t (vacant s p))) → t.hand s p ≡ none
is_vacant t s p h = go (t.hand s p) (neither (not (ltb p places)) (is_some (t.hand s p)) h).1
  where
    go : (o : Option Handle) → T (not (is_some o)) → o ≡ none
    go none u = refl
    go (some k) u = absurd u

faces→eq : (a b : Dir) → T (faces a b) → a ≡ b
faces→eq reading reading t = refl
faces→eq reading writing t = absurd t
faces→eq writing reading t = absurd t
faces→eq writing writing t = refl

-- a taken place has a handle
pub is_taken : (t : Tables) (s p : ℕ) → T (not (broken t (taken s p))) → (k : Handle) × (t.hand s p ≡ some k)
is_taken t s p h = some_of (t.hand s p) (not_not (is_some (t.hand s p)) (neither (not (ltb p places)) (not (is_some (t.hand s p))) h).1)

-- a taken place that faces d holds a handle for d
pub is_facing : (t : Tables) (d : Dir) (s p : ℕ) → T (not (broken t (taken s p))) → T (not (broken t (facing d s p))) → (k : Handle) ×
    (t.hand s p ≡ some k) × (k.dir ≡ d)
is_facing t d s p h f = let r = is_taken t s p h in
    (r.0, r.1, sym (faces→eq d r.0.dir (not_not (faces d r.0.dir) (subst (λ (o : Option Handle). T (not (turned d o))) r.1 f))))

-- the tests of an allowed call
abbrev pub Passed : Tables → Call → Type 0
Passed t c = (e : Test) → In e (tests c) → T (not (broken t e))

-- a thing that was entered is live, and so is what was
pub entered_live : (t : Tables) (x : Thing) (e : Entry) (g : Origin) → T (in_range x) → T (live (apply (enter x e g) t) x)
entered_live t x e g r = both (in_range x) (used (apply (enter x e g) t) x) r
    (subst T (sym (used_is (apply (enter x e g) t) x)) (subst (λ (o : Option Entry). T (is_some o)) (sym (put_same t.at x (some e))) tt))

pub old_live : (t : Tables) (x : Thing) (e : Entry) (g : Origin) (y : Thing) → T (live t y) → T (live (apply (enter x e g) t) y)
old_live t x e g y l = live_at t (put t.at x (some e)) y (go (same x y)) l
  where
    go : (b : Bool) → T (is_some (t.at y)) → T (is_some (cond b (some e) (t.at y)))
    go true h = tt
    go false h = h

-- what an exec drops before it runs: handles alone
pub lasting_was : (o : Option Handle) (k : Handle) → lasting o ≡ some k → o ≡ some k
lasting_was none k q = absurd (none-ne-some k q)
lasting_was (some j) k q = go (ends_at_exec j) q
  where
    go : (b : Bool) → cond b none (some j) ≡ some k → some j ≡ some k
    go true z = absurd (none-ne-some k z)
    go false z = z

-- nobody is another member beside itself
pub not_own_mate : (t : Tables) (s : ℕ) → T (not (mates t s (subject s)))
not_own_mate t s = go (eqb s s) (eqb_refl s)
  where
    go : (b : Bool) → T b → T (not (not b && t.kin s s))
    go true h = tt
    go false h = absurd h

pub sheds_less : (t : Tables) (s : ℕ) → Less t (applies (sheds t s) t)
unfolding sheds
sheds_less t s = less_trans (less_quits t (mates t s) (λ o. tt)) (less_hand u (row u.hand s (λ p. lasting (t.hand s p))) (λ s' p k q. elim
    (row_cases u.hand s (λ p. lasting (t.hand s p)) s' p (some k) q) [
      | inl c ↦ subst (λ (z : ℕ). u.hand z p ≡ some k) c.0 (cond_no (mates t s (subject s)) none (t.hand s p) (not_own_mate t s) ∙ lasting_was (t.hand s p) k c.1)
      | inr c ↦ c.1
    ]))
  where
    u : Tables
    u = apply (quits (mates t s)) t
