-- Chains of handle records between things by number, a group being its lead, are chains of handles of the tables, with the same places. Assumes nothing.
use mathlib.Core.Path.{◌≡◌, refl, sym, ◌∙◌, ap, subst}
use mathlib.Core.Bool.{Bool, true, false, not, cond}
use mathlib.Core.Logic.{inl, inr}
use mathlib.Core.Option.{Option, none, some, none-ne-some, some-injective}
use mathlib.Core.List.{List, ◌∷◌}
use Prim.Native.Nat.{ℕ, ◌+◌, ◌*◌, ◌-◌, ◌/◌, ◌%◌, ◌<◌}
use native.Mathlib.Omega.{arith}
use borrow.Author.Tests.{lt-ltb, le-ltb}
use lib.ListN.{length, get_or}
use lib.Dec.{T, ltb, ltb→lt, lt→ltb, eqb, eqb→eq}
use Rattle.model.specs.Bools.{test, cond_no}
use Rattle.model.specs.Flow.{Thing, subject, object, Edge}
use Rattle.model.specs.Tables.{Dir, reading, writing, Tables, in_range, whole, arc, flow}
use Rattle.model.specs.Tables.{Handle as Held}
use Rattle.model.proofs.Tables.Laws.{live_of, whole_self, whole_cases, whole_kin}
use Rattle.model.specs.Invariant.{Wf}
use Rattle.attack.specs.Attack.{Way, end as stop, via as by}
use Rattle.tables.specs.declared.Handle.{Handle}
use Rattle.tables.specs.Records.{reads_by, joins, held, no_handle, hands}
use Rattle.groups.specs.Groups.{Leads}
use Rattle.groups.specs.Groups.Laws.{one_lead, lead_kin}
use Rattle.passes.specs.Working.{alike, end_by, lead_of}
use Rattle.ways.specs.Paths.{thing, Path, end, via}

-- ── one record ──
-- a record that holds something is not empty
some_way : (h : Handle) (k : Held) → held h ≡ some k → T (not (eqb h.way 0))
some_way h k q = go (eqb h.way 0) q
  where
    go : (b : Bool) → cond b none (some (joins h)) ≡ some k → T (not b)
    go true q = absurd (none-ne-some k q)
    go false q = tt

-- the start of a flow, or its end
abbrev tip : Bool → Edge → Thing
tip start e = cond start e.src e.dst

-- u are tables whose handles are the records hs, each on one of 64 objects
module _ {u : Tables} (w : Wf u) (hs : List Handle) (ld : List ℕ) (at : u.hand ≡ hands hs) (led : Leads u.kin ld)
    (lo : (s p : ℕ) (k : Held) → u.hand s p ≡ some k → k.to < 64) where
  -- the number of a thing, of a subject that of its lead
  abbrev pub number : Thing → ℕ
  number (subject s) = lead_of ld s
  number (object o) = 32 + o

  hand_at : (i : ℕ) → u.hand (i / 16) (i % 16) ≡ held (get_or hs i no_handle)
  hand_at i = ap (λ (f : ℕ → ℕ → Option Held). f (i / 16) (i % 16)) at
      ∙ (let e : i / 16 * 16 + i % 16 ≡ i = omega arith in rw (lt-ltb (i % 16) 16 (omega arith), e))

  low_of : (i : ℕ) (k : Held) → u.hand (i / 16) (i % 16) ≡ some k → i / 16 < 32
  low_of i k h = ltb→lt (i / 16) 32 (live_of u (subject (i / 16)) (w.ends (i / 16) (i % 16) k h).from).0

  -- ── leads ──
  lead_is : (s : ℕ) → s < 32 → lead_of ld s ≡ get_or ld s 0
  lead_is s l = omega (arith, led.low s l)

  kin_low : (a b : ℕ) → a < 32 → T (u.kin a b) → b < 32
  kin_low a b l h = elim (test (eqb b a)) [
    | inl q ↦ subst (λ (z : ℕ). z < 32) (sym (eqb→eq b a q)) l
    | inr q ↦ ltb→lt b 32 (live_of u (subject b) (w.teams.only b a (w.teams.both_ways a b h) q)).0
  ]

  -- a thing stands with its number's thing
  pub with_lead : (a : Thing) → T (in_range a) → T (whole u a (thing (number a)))
  with_lead (subject s) g = let l = ltb→lt s 32 g in
      subst (λ (x : Thing). T (whole u (subject s) x)) (rw (lt-ltb (lead_of ld s) 32 (omega arith)))
      (subst T (sym (whole_kin u s (lead_of ld s))) (subst (λ (z : ℕ). T (u.kin s z)) (sym (lead_is s l)) (led.member s l)))
  with_lead (object o) g = let e : 32 + o - 32 ≡ o = omega arith in
      subst (λ (x : Thing). T (whole u (object o) x)) (rw (le-ltb (32 + o) 32 (omega arith), e)) (whole_self u (object o) w.teams.itself)

  -- who takes in what a thing takes in has its number
  whole_number : (x z : Thing) → T (in_range x) → T (whole u x z) → number x ≡ number z
  whole_number x z g h = elim (whole_cases u x z h) [
    | inl q ↦ ap number q
    | inr r ↦ go r.0 r.1 r.2 r.3 r.4
  ]
    where
      go : (a b : ℕ) → subject a ≡ x → subject b ≡ z → T (u.kin a b) → number x ≡ number z
      go a b p q k = let l : a < 32 = ltb→lt a 32 (subst (λ (y : Thing). T (in_range y)) (sym p) g) in
          ap number (sym p) ∙ ap (λ (n : ℕ). n % 32) (one_lead u.kin w.teams.both_ways w.teams.shared ld led a b l (kin_low a b l k) k) ∙ ap number q

  number_whole : (x z : Thing) → T (in_range x) → T (in_range z) → number x ≡ number z → T (whole u x z)
  number_whole (subject a) (subject b) g f e = let la = ltb→lt a 32 g in let lb = ltb→lt b 32 f in
      subst T (sym (whole_kin u a b)) (lead_kin u.kin w.teams.both_ways w.teams.shared ld led a b la lb (sym (lead_is a la) ∙ e ∙ lead_is b lb))
  number_whole (subject a) (object b) g f e = absurd (omega arith)
  number_whole (object a) (subject b) g f e = absurd (omega arith)
  number_whole (object a) (object b) g f e = let q : a ≡ b = omega arith in subst (λ (z : ℕ). T (whole u (object a) (object z))) q (whole_self u (object a) w.teams.itself)

  -- ── one step ──
  end_is : (start : Bool) (s : ℕ) (h : Handle) (k : Held) → held h ≡ some k → k.to < 64 → end_by h (lead_of ld s) start ≡ number (tip start (flow (subject s) k))
  end_is start s h k q l = go (eqb h.way 0) (reads_by h.way) q
    where
      of : Bool → Held
      of r = record { dir = cond r reading writing; to = h.object; marked = not (eqb h.mark 0); mapped = eqb h.way 3 }

      ends : (r start : Bool) → h.object < 64 → cond (alike r start) (32 + h.object % 64) (lead_of ld s) ≡ number (tip start (flow (subject s) (of r)))
      ends true true lo = omega arith
      ends true false lo = refl
      ends false true lo = refl
      ends false false lo = omega arith

      go : (b r : Bool) → cond b none (some (of r)) ≡ some k → cond b 0 (cond (alike r start) (32 + h.object % 64) (lead_of ld s)) ≡ number (tip start (flow (subject s) k))
      go true r q = absurd (none-ne-some k q)
      go false r q = let e = some-injective _ k q in let m : h.object < 64 = subst (λ (z : Held). z.to < 64) (sym e) l in
          ends r start m ∙ ap (λ (z : Held). number (tip start (flow (subject s) z))) e

  tip_in_range : (start : Bool) (s : ℕ) (k : Held) → s < 32 → T (in_range (tip start (flow (subject s) k)))
  tip_in_range start s k l = go start k.dir
    where
      go : (start : Bool) (d : Dir) → T (in_range (tip start (arc d (subject s) (object k.to))))
      go true reading = tt
      go true writing = lt→ltb s 32 l
      go false reading = lt→ltb s 32 l
      go false writing = tt

  tip_at : (start : Bool) (i : ℕ) (k : Held) → u.hand (i / 16) (i % 16) ≡ some k
      → end_by (get_or hs i no_handle) (lead_of ld (i / 16)) start ≡ number (tip start (flow (subject (i / 16)) k))
  tip_at start i k h = end_is start (i / 16) (get_or hs i no_handle) k (sym (hand_at i) ∙ h) (lo (i / 16) (i % 16) k h)

  -- ── handles to records ──
  pub path : {x y : Thing} {l : List ℕ} → Way u x l y → Path ld hs (number x) l (number y)
  path (stop q) = end (ap number q)
  path {x} {y} (by i k z h q g r) = more (path r)
    where
      l : i / 16 < 32
      l = low_of i k h

      more : {m : List ℕ} → Path ld hs (number z) m (number y) → Path ld hs (number x) (i ∷ m) (number y)
      more {m} r = via i (omega (arith, l)) (some_way (get_or hs i no_handle) k (sym (hand_at i) ∙ h)) (tip_at true i k h ∙ ap number q)
          (subst (λ (n : ℕ). Path ld hs n m (number y)) (sym (tip_at false i k h ∙ whole_number (flow (subject (i / 16)) k).dst z (tip_in_range false (i / 16) k l) g)) r)

  -- ── records to handles ──
  -- the record at i that is not empty
  taken : (i : ℕ) → T (not (eqb (get_or hs i no_handle).way 0)) → u.hand (i / 16) (i % 16) ≡ some (joins (get_or hs i no_handle))
  taken i g = hand_at i ∙ cond_no (eqb (get_or hs i no_handle).way 0) none (some (joins (get_or hs i no_handle))) g

  -- from a member of the group of a
  pub record Reached (a : Thing) (l : List ℕ) (o : ℕ) : Type 0 where
    pub z : Thing
    pub member : T (whole u a z)
    pub way : Way u z l (object o)

  pub way_from : {x y : ℕ} {l : List ℕ} → Path ld hs x l y → (o : ℕ) → y ≡ 32 + o → (a : Thing) → T (in_range a) → number a ≡ x → Reached a l o
  way_from (end q) o e a g n = record { z = object o; member = number_whole a (object o) g tt (n ∙ q ∙ e); way = stop refl }
  way_from (via i l t s r) o e a g n = more (way_from r o e (flow (subject (i / 16)) k).dst (tip_in_range false (i / 16) k (low_of i k h)) (sym (tip_at false i k h)))
    where
      k : Held
      k = joins (get_or hs i no_handle)

      h : u.hand (i / 16) (i % 16) ≡ some k
      h = taken i t

      more : {m : List ℕ} → Reached (flow (subject (i / 16)) k).dst m o → Reached a (i ∷ m) o
      more r = record {
        z = (flow (subject (i / 16)) k).src;
        member = number_whole a (flow (subject (i / 16)) k).src g (tip_in_range true (i / 16) k (low_of i k h)) (n ∙ sym s ∙ tip_at true i k h);
        way = by i k r.z h refl r.member r.way;
      }

  -- a chain from x starts at the subject whose handle its first step is, or at the object x
  abbrev pub front : ℕ → ℕ → Thing
  front x i = cond (ltb x 32) (subject (i / 16)) (object (x - 32))

  front_is : (x i : ℕ) (k : Held) → number (flow (subject (i / 16)) k).src ≡ x → (flow (subject (i / 16)) k).src ≡ front x i
  front_is x i k q = go k.dir q
    where
      go : (d : Dir) → number (arc d (subject (i / 16)) (object k.to)).src ≡ x → (arc d (subject (i / 16)) (object k.to)).src ≡ front x i
      go reading q = let e : x - 32 ≡ k.to = omega arith in rw (le-ltb x 32 (omega arith), e)
      go writing q = rw (lt-ltb x 32 (omega arith))

  pub record Fronted (x : ℕ) (l : List ℕ) (o : ℕ) : Type 0 where
    pub ranged : T (in_range (front x (get_or l 0 0)))
    pub numbered : number (front x (get_or l 0 0)) ≡ x
    pub way : Way u (front x (get_or l 0 0)) l (object o)

  pub way_front : {x y : ℕ} {l : List ℕ} → Path ld hs x l y → (o : ℕ) → y ≡ 32 + o → 0 < length l → Fronted x l o
  way_front (end q) o e g = absurd (omega arith)
  way_front {x} (via i l t s r) o e g = more (way_from r o e (flow (subject (i / 16)) k).dst (tip_in_range false (i / 16) k (low_of i k h)) (sym (tip_at false i k h)))
    where
      k : Held
      k = joins (get_or hs i no_handle)

      h : u.hand (i / 16) (i % 16) ≡ some k
      h = taken i t

      src_is : number (flow (subject (i / 16)) k).src ≡ x
      src_is = sym (tip_at true i k h) ∙ s

      is : (flow (subject (i / 16)) k).src ≡ front x i
      is = front_is x i k src_is

      more : {m : List ℕ} → Reached (flow (subject (i / 16)) k).dst m o → Fronted x (i ∷ m) o
      more r = record {
        ranged = subst (λ (y : Thing). T (in_range y)) is (tip_in_range true (i / 16) k (low_of i k h));
        numbered = ap number (sym is) ∙ src_is;
        way = by i k r.z h is r.member r.way;
      }
