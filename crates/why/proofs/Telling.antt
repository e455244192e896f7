-- A chain by slot, told by number: it is one behind the call on the monitor's tables, with the fewest handles, and its reads and writes are an attack. Assumes nothing.
use mathlib.Core.Path.{◌≡◌, refl, sym, ◌∙◌, ap, subst, subst₂}
use mathlib.Core.Bool.{Bool, true, false, cond}
use mathlib.Core.Option.{Option, none, some, none-ne-some, some-injective}
use mathlib.Core.List.{List}
use Prim.Native.Nat.{ℕ, ◌+◌, ◌-◌, ◌/◌, ◌%◌, ◌≤◌, ◌<◌}
use native.Mathlib.Omega.{arith}
use native.Mathlib.Decide.{dec_lt}
use borrow.Author.Tests.{lt-ltb, le-ltb, eq-eqb, ne_eqb}
use lib.ListN.{length, get_or, take}
use lib.Dec.{T, eqb, eqb→eq}
use Rattle.model.specs.Flow.{Thing, subject, object}
use Rattle.model.specs.Tables.{Entry, Handle, Tables, in_range, is_some, live}
use Rattle.model.proofs.Tables.Laws.{some_is}
use Rattle.model.specs.Invariant.{Wf, Safe, Even}
use Rattle.model.specs.Calls.{Call, admit, register, create, make_pipe, opens, access, fork, thread, exec, close, exit, retire, maps, mark, freeze, connect, unknown, refusal, answer, refused, allowed, lowered}
use Rattle.model.specs.Calls.{Answer as Told}
use Rattle.model.proofs.Calls.Refusals.{answered_refused}
use Rattle.model.proofs.Calls.Renaming.{Renumbers, thing, joined, held, ren, live_ren, call}
use Rattle.model.proofs.Calls.Listed.{Listed}
use Rattle.attack.specs.Attack.{most, Fewest}
use Rattle.attack.specs.Attack.{Chain as Behind}
use Rattle.attack.proofs.Attack.Laws.{chain_attack, Short, chain_exists}
use Rattle.attack.proofs.Attack.Numbers.{was, chain_there, chain_back, fewest_there}
use Rattle.ways.specs.declared.Way.{Way}
use Rattle.why.specs.declared.Chain.{Chain}
use Rattle.why.specs.Why.{low_of, high_of, places_of, no_chain, Shown}
use Rattle.why.specs.Working.{front_of, end_of, steps_of, Tells, number_at, telling, told_by, nine_in}

-- ── renumbered tables ──
module _ (ρ σ : ℕ → ℕ) (v : Renumbers ρ σ) (l : List ℕ) (t : Tables) where
  abbrev now : Tables
  now = ren ρ σ v l t

  -- nothing dangles in them
  pub wf_there : Wf t → Wf now
  wf_there w = record {
    ends = λ s p k q. (let r = was_held (t.hand s p) k q in let g = w.ends s p r.0 r.1 in record {
      from = subst T (sym (live_ren ρ σ v l t (subject s))) g.from;
      to = subst (λ (n : ℕ). T (live now (object n))) (ap (λ (j : Handle). j.to) r.2) (subst T (sym (live_ren ρ σ v l t (object r.0.to))) g.to);
      place = g.place;
    });
    ranged = ranged;
    teams = record {
      itself = w.teams.itself;
      both_ways = w.teams.both_ways;
      shared = w.teams.shared;
      only = λ a b h n. subst T (sym (live_ren ρ σ v l t (subject a))) (w.teams.only a b h n);
    };
  }
    where
      was_held : (o : Option Handle) (k : Handle) → held ρ σ v l o ≡ some k → (j : Handle) × (o ≡ some j) × (joined ρ σ v l j ≡ k)
      was_held none k q = absurd (none-ne-some k q)
      was_held (some j) k q = (j, refl, some-injective (joined ρ σ v l j) k q)

      ranged : (x : Thing) (e : Entry) → now.at x ≡ some e → T (in_range x)
      ranged (subject n) e q = w.ranged (subject n) e q
      ranged (object n) e q = tt

  pub even_back : Even now → Even t
  even_back e = record { one_level = λ a b h. e.one_level a b h }

-- ── the most handles ──
most_few : (c : Call) → most c ≤ 95
most_few (admit s n) = omega arith
most_few (register o n) = omega arith
most_few (create s o) = omega arith
most_few (make_pipe s o r w) = omega arith
most_few (opens d s o p) = omega arith
most_few (access d s p) = omega arith
most_few (fork s c) = omega arith
most_few (thread s c) = omega arith
most_few (exec s o) = omega arith
most_few (close s p) = omega arith
most_few (exit s) = omega arith
most_few (retire o) = omega arith
most_few (maps s o p) = omega arith
most_few (mark s p) = omega arith
most_few (freeze n) = omega arith
most_few (connect s u a b p q) = omega arith
most_few unknown = omega arith

-- ── the struct ──
-- it is put together so
pub from_none : (ns : List ℕ) (w : Way) (r : Chain) → w.count ≡ 0 → r ≡ no_chain → r ≡ told_by ns w
from_none ns w r e q = q ∙ (rw (eq-eqb w.count 0 e))

pub from_subject : (ns : List ℕ) (w : Way) (high : ℕ) → (w.count ≡ 0 → ⊥) → w.start < 32 → high ≡ number_at ns w.end
    → ◌≡◌ {A = Chain} (record { low = get_or w.steps 0 0 / 16; high = high; steps = w.steps; count = w.count % 96; kind = 1 }) (told_by ns w)
from_subject ns w high n l q = rw (ne_eqb w.count 0 n, lt-ltb w.start 32 l, q)

pub from_object : (ns : List ℕ) (w : Way) (high low : ℕ) → (w.count ≡ 0 → ⊥) → 32 ≤ w.start → high ≡ number_at ns w.end → low ≡ number_at ns w.start
    → ◌≡◌ {A = Chain} (record { low = low; high = high; steps = w.steps; count = w.count % 96; kind = 2 }) (told_by ns w)
from_object ns w high low n l q r = rw (ne_eqb w.count 0 n, le-ltb w.start 32 l, q, r)

pub told_few : (ns : List ℕ) (w : Way) → (told_by ns w).count ≤ 95
told_few ns w = go (eqb w.count 0)
  where
    go : (b : Bool) → (cond b no_chain (telling ns w)).count ≤ 95
    go true = omega arith
    go false = omega arith

-- the slots in use are below 64, and ns has their numbers
module _ (ρ σ : ℕ → ℕ) (v : Renumbers ρ σ) (l : List ℕ) (t : Tables) (ns : List ℕ)
    (names : (o : ℕ) → T (is_some (t.at (object o))) → (o < 64) × (ρ o ≡ get_or ns o 0)) where
  numbers_it : (x : ℕ) → 32 ≤ x → T (is_some (t.at (object (x - 32)))) → number_at ns x ≡ ρ (x - 32)
  numbers_it x g h = let r = names (x - 32) h in let q = r.0 in let e : (x % 64 + 32) % 64 ≡ x - 32 = omega arith in ap (λ (n : ℕ). get_or ns n 0) e ∙ sym r.1

  low_is : (w : Way) → T (is_some (t.at (front_of w))) → low_of (telling ns w) ≡ thing ρ σ v l (front_of w)
  low_is w h = go (dec_lt w.start 32)
    where
      go : Dec (w.start < 32) → low_of (telling ns w) ≡ thing ρ σ v l (front_of w)
      go (yes a) = rw (lt-ltb w.start 32 a)
      go (no a) = let e = le-ltb w.start 32 (omega arith) in
          ap (λ (b : Bool). cond (eqb (cond b 1 2) 1) (subject (cond b (get_or w.steps 0 0 / 16) (number_at ns w.start))) (object (cond b (get_or w.steps 0 0 / 16) (number_at ns w.start)))) e
          ∙ ap object (numbers_it w.start (omega arith) (subst (λ (b : Bool). T (is_some (t.at (cond b (subject (get_or w.steps 0 0 / 16)) (object (w.start - 32)))))) e h))
          ∙ sym (ap (λ (b : Bool). thing ρ σ v l (cond b (subject (get_or w.steps 0 0 / 16)) (object (w.start - 32)))) e)

  high_is : (w : Way) → 32 ≤ w.end → T (is_some (t.at (end_of w))) → high_of (telling ns w) ≡ thing ρ σ v l (end_of w)
  high_is w g h = ap object (numbers_it w.end g h)

  -- ── what is told ──
  -- x are the tables by number, and c the call by number
  module _ (k c : Call) (x : Tables) (is : x ≡ ren ρ σ v l t) (called : call ρ σ v l k ≡ c) (w : Way) (z : Tells t k w) where
    pub some_told : Wf t → Safe x → Even x → Listed x → length x.numbers ≤ 64 → refusal x c ≡ some 9 → Shown x c (told_by ns w)
    some_told wf safe even listed few q = subst (Shown x c) (sym (told_is taken)) (record {
      some = subst (λ (n : ℕ). 0 < n) (sym count_is) taken;
      chain = chain;
      fewest = fewest;
      attack = chain_attack x wf_x safe c q (low_of r) (high_of r) (places_of r) chain (omega (arith, fewest short.low short.high short.l short.chain, short.few));
    })
      where
        r : Chain
        r = telling ns w

        told_is : 0 < w.count → told_by ns w ≡ telling ns w
        told_is g = rw (ne_eqb w.count 0 (λ e. omega (arith, g, e)))

        wf_x : Wf x
        wf_x = subst Wf (sym is) (wf_there ρ σ v l t wf)

        short : Short x c
        short = chain_exists x wf_x safe even listed few c q

        -- the short one, by slot
        back : Behind t k (was ρ σ v l short.low) (was ρ σ v l short.high) short.l
        back = chain_back ρ σ v l t k short.low short.high short.l
            (subst₂ (λ (y : Tables) (b : Call). Behind y b short.low short.high short.l) is (sym called) short.chain)

        taken : 0 < w.count
        taken = go (dec_lt 0 w.count)
          where
            go : Dec (0 < w.count) → 0 < w.count
            go (yes g) = g
            go (no g) = absurd (let e : w.count ≡ 0 = omega arith in let m = z.none e _ _ short.l back in omega (arith, m, short.few, most_few c))

        count_is : r.count ≡ w.count
        count_is = let m = z.few in omega arith

        places_are : places_of r ≡ steps_of w
        places_are = ap (λ (n : ℕ). take n w.steps) count_is

        b : Behind t k (front_of w) (end_of w) (steps_of w)
        b = z.chain taken

        there : Behind x c (thing ρ σ v l (front_of w)) (thing ρ σ v l (end_of w)) (steps_of w)
        there = subst₂ (λ (y : Tables) (d : Call). Behind y d (thing ρ σ v l (front_of w)) (thing ρ σ v l (end_of w)) (steps_of w)) (sym is) called
            (chain_there ρ σ v l t k (front_of w) (end_of w) (steps_of w) b)

        chain : Behind x c (low_of r) (high_of r) (places_of r)
        chain = subst (λ (m : List ℕ). Behind x c (low_of r) (high_of r) m) (sym places_are)
            (subst₂ (λ (a h : Thing). Behind x c a h (steps_of w)) (sym (low_is w (some_is b.barred.low_live))) (sym (high_is w (z.ends taken) (some_is b.barred.high_live))) there)

        fewest : Fewest x c (places_of r)
        fewest = subst (Fewest x c) (sym places_are)
            (subst₂ (λ (y : Tables) (d : Call). Fewest y d (steps_of w)) (sym is) called (fewest_there ρ σ v l t k (steps_of w) (z.fewest taken)))

-- ── the answer ──
nine_is : (a : Told) → T (nine_in a) → a ≡ refused 9
nine_is (allowed n) h = absurd h
nine_is (lowered n k) h = absurd h
nine_is (refused n) h = ap refused (eqb→eq n 9 h)

pub refused_nine : (t : Tables) (c : Call) (a : Told) → a ≡ answer t c → nine_in a ≡ true → refusal t c ≡ some 9
refused_nine t c a q h = (answered_refused t c 9).0 (sym q ∙ nine_is a (subst T (sym h) tt))

pub not_nine : (t : Tables) (c : Call) (a : Told) → a ≡ answer t c → nine_in a ≡ false → refusal t c ≡ some 9 → ⊥
not_nine t c a q h z = subst T (sym (sym h ∙ ap nine_in (q ∙ (answered_refused t c 9).1 z))) tt
