-- Renumberings for the slots of a call: where each object that the call names has its slot, the call by number is the call by slot, renumbered. Assumes nothing.
use Rattle.std.proofs.Common.{◌≢◌}
use mathlib.Core.Path.{◌≡◌, refl, sym, ◌∙◌, ap, ap₂, subst}
use mathlib.Core.Bool.{Bool, true, false, not, ◌||◌, cond}
use mathlib.Core.Logic.{◌⊎◌, inl, inr}
use mathlib.Core.Option.{none, some, none-ne-some}
use mathlib.Core.List.{List}
use Prim.Native.Nat.{ℕ, ◌+◌, ◌%◌, ◌≤◌, ◌<◌}
use native.Mathlib.Omega.{arith}
use native.Mathlib.Decide.{ℕ_discrete, dec_lt}
use borrow.Author.Tests.{lt-ltb, le-ltb, le-leb, lt-leb, eq-eqb, ne_eqb}
use lib.ListN.{length, get_or, set, length-set}
use lib.Seq.{get_or-set_same, get_or-set_other}
use lib.Dec.{T, T_not, eqb, leb, ltb}
use Rattle.model.specs.Lists.{In, insert}
use Rattle.model.specs.Lists.Rising.{Rising, insert_in, insert_new, insert_old, insert_rising, insert_length, one_missing, at_least, each_rising, each_of, each_has}
use Rattle.model.specs.Label.{label}
use Rattle.model.specs.Flow.{object}
use Rattle.model.specs.Tables.{file, pipe, reading, writing, entry, Tables}
use Rattle.model.specs.Calls.{Call, admit, register, create, make_pipe, opens, maps, access, connect, fork, thread, exec, close, mark, exit, retire, freeze, unknown, decode, sheds, roomy, broken, made, steps}
use Rattle.model.proofs.Calls.Codes.{decode_by}
use Rattle.model.proofs.Calls.Listed.{writes_none}
use Rattle.model.proofs.Calls.Renaming.{Renumbers, call}
use Rattle.model.specs.Tables.Numbers.{Distinct}
use Rattle.model.proofs.Calls.Slots.{to, from, renumbers, placed, reseat, unseat, reseats, reseat_here, reseat_there}
use Rattle.calls.specs.declared.Call.{Call as Direct}
use Rattle.tables.specs.declared.Object.{Object}
use Rattle.tables.specs.Records.{object_entry, no_object}
use Rattle.refusals.specs.Refusing.{Room}
use Rattle.tables.specs.Slots.{slot_used, Absent, Here, Found, Free, Seated}
use Rattle.gatekeeper.specs.View.{used_slots, direct, direct_of}
use Rattle.gatekeeper.specs.Numbering.{noted, Both, Lift}

-- a call by slot whose code and last two numbers are those of the call by number, as the two structs have them
pub lifted : (os : List Object) (ns ns' : List ℕ) (c k : Direct)
    → (k.code ≡ c.code) × (k.numbers.e ≡ c.numbers.e) × (k.numbers.f ≡ c.numbers.f)
    → let n = c.numbers in let i = k.numbers in Lift os ns (decode (direct_of c)) (decode (direct c.code i.a i.b i.c i.d n.e n.f)) ns'
    → Lift os ns (decode (direct_of c)) (decode (direct_of k)) ns'
lifted os ns ns' c k r l = rw (r.0, r.1, r.2) l

-- the numbers that a call leaves are those that were noted
pub lift_noted : {os : List Object} {ns ms ns' : List ℕ} {c k : Call} → ns' ≡ ms → Lift os ns c k ms → Lift os ns c k ns'
lift_noted e l = rw e l

-- a renumbering that gives each slot in use its number
pub record Names (os : List Object) (ns : List ℕ) : Type 0 where
  pub ρ : ℕ → ℕ
  pub σ : ℕ → ℕ
  pub one_to_one : Renumbers ρ σ
  pub names : (i : ℕ) → i < 64 → T (slot_used os i) → ρ i ≡ get_or ns i 0

-- slot i can have the number x
abbrev pub Place : List Object → List ℕ → ℕ → ℕ → Type 0
Place os ns x i = Here os ns x i ⊎ (Absent os ns x × (i < 64 → T (not (slot_used os i))))

pub found_place : (os : List Object) (ns : List ℕ) (x i : ℕ) → Found os ns x i → Place os ns x i
found_place os ns x i f = elim f.is [ inl h ↦ inl h | inr h ↦ inr (h.0, λ l. absurd (let q = h.1 in omega (arith, q))) ]

free_place : (os : List Object) (but i : ℕ) → Free os but i → i < 64 → T (not (slot_used os i))
free_place os but i f l = elim f.is [ inl h ↦ h.1 | inr h ↦ absurd (let q = h.0 in omega (arith, q)) ]

pub seated_place : (os : List Object) (ns : List ℕ) (x but i : ℕ) → Seated os ns x but i → Place os ns x i
seated_place os ns x but i f = elim f.is [ inl h ↦ inl h | inr h ↦ inr (h.0, free_place os but i h.1) ]

-- ── numbers that are noted ──
pub noted_at : (ns : List ℕ) (i x j : ℕ) → length ns ≡ 64 → j < 64 → get_or (noted ns i x) j 0 ≡ cond (eqb i j) x (get_or ns j 0)
noted_at ns i x j l lj = go (dec_lt i 64) (ℕ_discrete i j)
  where
    go : Dec (i < 64) → Dec (i ≡ j) → get_or (noted ns i x) j 0 ≡ cond (eqb i j) x (get_or ns j 0)
    go (yes a) (yes e) = let m : i % 64 ≡ i = omega arith in rw (lt-ltb i 64 a, m, eq-eqb i j e, ← e) (get_or-set_same ns i x 0 (omega arith))
    go (yes a) (no n) = let m : i % 64 ≡ i = omega arith in rw (lt-ltb i 64 a, m, ne_eqb i j n) (get_or-set_other ns i j x 0 (λ q. n (sym q)))
    go (no a) (yes e) = absurd (a (subst (λ (z : ℕ). z < 64) (sym e) lj))
    go (no a) (no n) = rw (le-ltb i 64 (omega arith), ne_eqb i j n)

noted_long : (ns : List ℕ) (i x : ℕ) → length ns ≡ 64 → length (noted ns i x) ≡ 64
noted_long ns i x l = go (ltb i 64)
  where
    go : (b : Bool) → length (cond b (set ns (i % 64) x) ns) ≡ 64
    go true = simp length-set l
    go false = l

-- ── room ──
used_some : (os : List Object) (i : ℕ) → T (slot_used os i) → object_entry (get_or os i no_object) ≡ none → ⊥
used_some os i u q = go (eqb (get_or os i no_object).kind 0) u q
  where
    go : (b : Bool) → T (not b) → cond b none (some (entry (cond (eqb (get_or os i no_object).kind 1) file pipe) (label (get_or os i no_object).level (get_or os i no_object).shops))) ≡ none → ⊥
    go true u q = u
    go false u q = none-ne-some _ (sym q)

or_true : (a : Bool) → true ≡ (a || true)
or_true true = refl
or_true false = refl

module _ (os : List Object) (lo : length os ≡ 64) where
  n : ℕ
  n = length (used_slots os)

  has : (i : ℕ) → i < 64 → T (slot_used os i) → In i (used_slots os)
  has i l u = each_has (length os) (slot_used os) i (omega arith) u

  lacks : (i : ℕ) → T (not (slot_used os i)) → In i (used_slots os) → ⊥
  lacks i u h = T_not (slot_used os i) u (each_of (length os) (slot_used os) i h).1

  low : (i : ℕ) → In i (used_slots os) → i < 64
  low i h = omega (arith, (each_of (length os) (slot_used os) i h).0)

  rises : Rising (used_slots os)
  rises = each_rising (length os) (slot_used os)

  -- one slot is free
  one_free : (i : ℕ) → i < 64 → T (not (slot_used os i)) → n + 1 ≤ 64
  unfolding n
  one_free i l u = omega (arith, one_missing (used_slots os) 64 i rises low l (lacks i u))

  two_free : (i j : ℕ) → i < 64 → j < 64 → T (not (slot_used os i)) → T (not (slot_used os j)) → (j ≡ i → ⊥) → n + 2 ≤ 64
  unfolding n
  two_free i j l k u v ne = omega (
    arith,
    insert_length i (used_slots os) (lacks i u),
    one_missing (insert i (used_slots os)) 64 j (insert_rising i (used_slots os) rises)
        (λ a h. under a (insert_in i a (used_slots os) h)) k (λ h. out (insert_in i j (used_slots os) h)),
  )
    where
      under : (a : ℕ) → (i ≡ a) ⊎ In a (used_slots os) → a < 64
      under a (inl e) = subst (λ (z : ℕ). z < 64) e l
      under a (inr h) = low a h

      out : (i ≡ j) ⊎ In j (used_slots os) → ⊥
      out (inl e) = ne (sym e)
      out (inr h) = lacks j v h

  none_free : ((i : ℕ) → i < 64 → T (slot_used os i)) → 64 ≤ n
  unfolding n
  none_free f = at_least (used_slots os) 64 rises (λ i l. has i l (f i l))

  -- none but i is free
  but_one_free : (i : ℕ) → i < 64 → T (not (slot_used os i)) → ((j : ℕ) → j < 64 → (j ≡ i → ⊥) → T (slot_used os j)) → 64 ≤ n + 1
  unfolding n
  but_one_free i l u f = omega (
    arith,
    insert_length i (used_slots os) (lacks i u),
    at_least (insert i (used_slots os)) 64 (insert_rising i (used_slots os) rises)
        (λ j k. go j k (ℕ_discrete j i)),
  )
    where
      go : (j : ℕ) → j < 64 → Dec (j ≡ i) → In j (insert i (used_slots os))
      go j k (yes e) = subst (λ (z : ℕ). In z (insert i (used_slots os))) (sym e) (insert_new i (used_slots os))
      go j k (no e) = insert_old i j (used_slots os) (has j k (f j k e))

  module _ (t : Tables) (at : (i : ℕ) → t.at (object i) ≡ object_entry (get_or os i no_object)) (nu : t.numbers ≡ used_slots os) where
    gone : (i : ℕ) → t.at (object i) ≡ none → T (slot_used os i) → ⊥
    gone i q u = used_some os i u (sym (at i) ∙ q)

    one_is : (i : ℕ) → ((n + 1 ≤ 64) × (i < 64)) ⊎ ((64 ≤ n) × (64 ≤ i)) → broken t (roomy 1) ≡ leb 64 i
    unfolding n
    one_is i (inl h) = ap (λ (l : List ℕ). ltb 64 (length l + 1)) nu ∙ le-ltb 64 (n + 1) h.0 ∙ sym (lt-leb 64 i h.1)
    one_is i (inr h) = ap (λ (l : List ℕ). ltb 64 (length l + 1)) nu ∙ lt-ltb 64 (n + 1) (omega (arith, h.0)) ∙ sym (le-leb 64 i h.1)

    pub room_one : (ns : List ℕ) (x i : ℕ) → Seated os ns x 64 i → t.at (object i) ≡ none → broken t (roomy 1) ≡ leb 64 i
    room_one ns x i s q = elim s.is [
      | inl h ↦ absurd (gone i q h.1)
      | inr h ↦ (elim h.1.is [
        | inl f ↦ one_is i (inl (one_free i f.0 f.1, f.0))
        | inr f ↦ one_is i (inr (none_free (λ j l. f.1 j l (λ e. absurd (omega (arith, l, e)))), (let z = f.0 in omega (arith, z))))
      ])
    ]

    two_is : (i j : ℕ) → ((n + 2 ≤ 64) × (i < 64) × (j < 64)) ⊎ ((64 < n + 2) × ((64 ≤ i) ⊎ (64 ≤ j))) → broken t (roomy 2) ≡ (leb 64 i || leb 64 j)
    unfolding n
    two_is i j (inl h) = ap (λ (l : List ℕ). ltb 64 (length l + 2)) nu ∙ le-ltb 64 (n + 2) h.0
        ∙ sym (ap₂ (λ (a b : Bool). a || b) (lt-leb 64 i h.1) (lt-leb 64 j h.2))
    two_is i j (inr (k, inl h)) = ap (λ (l : List ℕ). ltb 64 (length l + 2)) nu ∙ lt-ltb 64 (n + 2) k ∙ sym (ap (λ (a : Bool). a || leb 64 j) (le-leb 64 i h))
    two_is i j (inr (k, inr h)) = ap (λ (l : List ℕ). ltb 64 (length l + 2)) nu ∙ lt-ltb 64 (n + 2) k ∙ or_true (leb 64 i) ∙ sym (ap (λ (a : Bool). leb 64 i || a) (le-leb 64 j h))

    -- z is d's seat, and y what it is called
    second_is : (x y z : ℕ) → y ≡ cond (ltb z 64) z 65 → ((x < 64) × T (not (slot_used os x))) ⊎ ((x ≡ 64) × ((i : ℕ) → i < 64 → (i ≡ 64 → ⊥) → T (slot_used os i))) → Free os x z
        → broken t (roomy 2) ≡ (leb 64 x || leb 64 y)
    unfolding n
    second_is x y z e a f = go a f.is
      where
        go : ((x < 64) × T (not (slot_used os x))) ⊎ ((x ≡ 64) × ((i : ℕ) → i < 64 → (i ≡ 64 → ⊥) → T (slot_used os i)))
            → ((z < 64) × T (not (slot_used os z)) × (z ≡ x → ⊥)) ⊎ ((z ≡ 64) × ((i : ℕ) → i < 64 → (i ≡ x → ⊥) → T (slot_used os i))) → broken t (roomy 2) ≡ (leb 64 x || leb 64 y)
        go (inl p) (inl q) = two_is x y (inl (two_free x z p.0 q.0 p.1 q.1 q.2, p.0, subst (λ (v : ℕ). v < 64) (sym (e ∙ ap (λ (b : Bool). cond b z 65) (lt-ltb z 64 q.0))) q.0))
        go (inl p) (inr q) = two_is x y (inr (let k = but_one_free x p.0 p.1 q.1 in omega (arith, k), inr (subst (λ (v : ℕ). 64 ≤ v) (sym (e ∙ ap (λ (b : Bool). cond b z 65) (le-ltb z 64 (let w = q.0 in omega (arith, w))))) (omega arith))))
        go (inr p) q = two_is x y (inr (let k = none_free (λ j l. p.1 j l (λ w. absurd (omega (arith, l, w)))) in omega (arith, k), inl (let w = p.0 in omega (arith, w))))

    pub room_two : (ns : List ℕ) (c d x y : ℕ) → Both os ns c d x y → t.at (object x) ≡ none → t.at (object y) ≡ none → (x ≡ y → ⊥) → broken t (roomy 2) ≡ (leb 64 x || leb 64 y)
    room_two ns c d x y b qx qy ne = let (z, s, e) = b.second (λ w. ne (b.one w)) in elim b.first.is [
      | inl h ↦ absurd (gone x qx h.1)
      | inr h ↦ (elim s.is [
        | inl k ↦ absurd (gone y qy (subst (λ (v : ℕ). T (slot_used os v)) (sym (e ∙ ap (λ (w : Bool). cond w z 65) (lt-ltb z 64 k.0))) k.1))
        | inr k ↦ second_is x y z e (elim h.1.is [ inl p ↦ inl (p.0, p.1) | inr p ↦ inr p ]) k.1
      ])
    ]

-- ── calls ──
pub only_one : (i j : ℕ) → (i ≡ j) ⊎ ⊥ → i ≡ j
only_one i j (inl q) = q
only_one i j (inr q) = absurd q

-- a call that names no object
abbrev nameless : Call → Bool
nameless (admit s n) = true
nameless (access d s p) = true
nameless (fork s c) = true
nameless (thread s c) = true
nameless (close s p) = true
nameless (mark s p) = true
nameless (exit s) = true
nameless (freeze n) = true
nameless unknown = true
nameless (register o n) = false
nameless (create s o) = false
nameless (make_pipe s o r w) = false
nameless (connect s u a b p q) = false
nameless (opens d s o p) = false
nameless (maps s o p) = false
nameless (exec s o) = false
nameless (retire o) = false

module _ (os : List Object) (ns : List ℕ) (lo : length os ≡ 64) (ln : length ns ≡ 64) (d : Distinct (slot_used os) (λ i. get_or ns i 0) 64) where
  base : Names os ns
  base = record {
    ρ = to (slot_used os) (λ i. get_or ns i 0) 64;
    σ = from (slot_used os) (λ i. get_or ns i 0) 64;
    one_to_one = renumbers (slot_used os) (λ i. get_or ns i 0) 64;
    names = placed (slot_used os) (λ i. get_or ns i 0) 64 d;
  }

  -- the others keep their numbers
  abbrev Keeps : Names os ns → Names os ns → ℕ → ℕ → Type 0
  Keeps N M i x = (j y : ℕ) → N.ρ j ≡ y → (j ≡ i → ⊥) → (y ≡ x → ⊥) → M.ρ j ≡ y

  seat : (N : Names os ns) (x i : ℕ) → Place os ns x i → (M : Names os ns) × (M.ρ i ≡ x) × Keeps N M i x
  seat N x i (inl h) = (N, N.names i h.0 h.1 ∙ h.2, λ j y e n m. e)
  seat N x i (inr h) = (
    record {
      ρ = reseat N.ρ N.σ N.one_to_one i x;
      σ = unseat N.ρ N.σ N.one_to_one i x;
      one_to_one = reseats N.ρ N.σ N.one_to_one i x;
      names = λ j l u. reseat_there N.ρ N.σ N.one_to_one i x j (get_or ns j 0) (N.names j l u)
          (λ q. T_not (slot_used os j) (subst (λ (z : ℕ). T (not (slot_used os z))) (sym q) (h.1 (subst (λ (z : ℕ). z < 64) q l))) u) (h.0 j l u);
    },
    reseat_here N.ρ N.σ N.one_to_one i x,
    reseat_there N.ρ N.σ N.one_to_one i x,
  )

  abbrev Commutes : (ℕ → Call) → Type 0
  Commutes k = (ρ σ : ℕ → ℕ) (v : Renumbers ρ σ) (l : List ℕ) (j : ℕ) → call ρ σ v l (k j) ≡ k (ρ j)

  -- a call that names no object
  pub lift_none : (c : Call) → ((ρ σ : ℕ → ℕ) (v : Renumbers ρ σ) (l : List ℕ) → call ρ σ v l c ≡ c) → ((t : Tables) (i : ℕ) → In i (made (steps t c)) → ⊥)
      → ((t : Tables) → Room t c) → Lift os ns c c ns
  lift_none c f g h = record {
    ρ = base.ρ;
    σ = base.σ;
    one_to_one = base.one_to_one;
    names = base.names;
    call_is = f base.ρ base.σ base.one_to_one;
    after = λ t i l s. elim s [ inl u ↦ base.names i l u | inr m ↦ absurd (g t i m) ];
    room = λ t a b. h t;
  }

  -- that names a live one
  pub lift_named : (k : ℕ → Call) (x i : ℕ) → Found os ns x i → Commutes k → ((t : Tables) (j : ℕ) → In j (made (steps t (k i))) → ⊥)
      → ((t : Tables) → Room t (k i)) → Lift os ns (k x) (k i) ns
  lift_named k x i p f g h = let (M, e, z) = seat base x i (found_place os ns x i p) in record {
    ρ = M.ρ;
    σ = M.σ;
    one_to_one = M.one_to_one;
    names = M.names;
    call_is = λ l. f M.ρ M.σ M.one_to_one l i ∙ ap k e;
    after = λ t j l s. elim s [ inl u ↦ M.names j l u | inr m ↦ absurd (g t j m) ];
    room = λ t a b. h t;
  }

  -- that makes one
  pub lift_made : (k : ℕ → Call) (x i : ℕ) → Seated os ns x 64 i → Commutes k → ((t : Tables) (j : ℕ) → In j (made (steps t (k i))) → i ≡ j)
      → ((t : Tables) → (t.at (object i) ≡ none → broken t (roomy 1) ≡ leb 64 i) → Room t (k i)) → Lift os ns (k x) (k i) (noted ns i x)
  lift_made k x i p f g h = let (M, e, z) = seat base x i (seated_place os ns x 64 i p) in record {
    ρ = M.ρ;
    σ = M.σ;
    one_to_one = M.one_to_one;
    names = M.names;
    call_is = λ l. f M.ρ M.σ M.one_to_one l i ∙ ap k e;
    after = λ t j l s. go M e t j l s (ℕ_discrete i j) ∙ sym (noted_at ns i x j ln l);
    room = λ t a b. h t (room_one os lo t a b ns x i p);
  }
    where
      go : (M : Names os ns) → M.ρ i ≡ x → (t : Tables) (j : ℕ) → j < 64 → T (slot_used os j) ⊎ In j (made (steps t (k i))) → Dec (i ≡ j) → M.ρ j ≡ cond (eqb i j) x (get_or ns j 0)
      go M e t j l s (yes q) = rw (eq-eqb i j q) (ap M.ρ (sym q) ∙ e)
      go M e t j l (inl u) (no n) = rw (ne_eqb i j n) (M.names j l u)
      go M e t j l (inr m) (no n) = absurd (n (g t j m))

  -- that makes two
  module _ (s u c e x y p q : ℕ) (b : Both os ns c e x y) where
    fits : (M : Names os ns) → M.ρ x ≡ c → M.ρ y ≡ e → Lift os ns (connect s u c e p q) (connect s u x y p q) (noted (noted ns x c) y e)
    fits M f g = record {
      ρ = M.ρ;
      σ = M.σ;
      one_to_one = M.one_to_one;
      names = M.names;
      call_is = λ l. ap₂ (λ (i j : ℕ). connect s u i j p q) f g;
      after = λ t j l m. go t j l m (ℕ_discrete y j) (ℕ_discrete x j)
          ∙ sym (noted_at (noted ns x c) y e j (noted_long ns x c ln) l ∙ ap (cond (eqb y j) e) (noted_at ns x c j ln l));
      room = λ t a n. room_two os lo t a n ns c e x y b;
    }
      where
        go : (t : Tables) (j : ℕ) → j < 64 → T (slot_used os j) ⊎ ((x ≡ j) ⊎ ((y ≡ j) ⊎ ⊥)) → Dec (y ≡ j) → Dec (x ≡ j) → M.ρ j ≡ cond (eqb y j) e (cond (eqb x j) c (get_or ns j 0))
        go t j l m (yes w) d = rw (eq-eqb y j w) (ap M.ρ (sym w) ∙ g)
        go t j l m (no w) (yes v) = rw (ne_eqb y j w, eq-eqb x j v) (ap M.ρ (sym v) ∙ f)
        go t j l (inl r) (no w) (no v) = rw (ne_eqb y j w, ne_eqb x j v) (M.names j l r)
        go t j l (inr (inl r)) (no w) (no v) = absurd (v r)
        go t j l (inr (inr (inl r))) (no w) (no v) = absurd (w r)
        go t j l (inr (inr (inr r))) (no w) (no v) = absurd r

    pub lift_both : Lift os ns (connect s u c e p q) (connect s u x y p q) (noted (noted ns x c) y e)
    lift_both = go (ℕ_discrete c e)
      where
        one : (M : Names os ns) × (M.ρ x ≡ c) × Keeps base M x c
        one = seat base c x (seated_place os ns c 64 x b.first)

        -- one number has one slot
        go : Dec (c ≡ e) → Lift os ns (connect s u c e p q) (connect s u x y p q) (noted (noted ns x c) y e)
        go (yes w) = fits one.0 one.1 (ap one.0.ρ (sym (b.one w)) ∙ one.1 ∙ w)
        go (no w) = let (z, t, f) = b.second w in two z t f
          where
            in_range_x : (x < 64) ⊎ (x ≡ 64)
            in_range_x = elim b.first.is [ inl h ↦ inl h.0 | inr h ↦ (elim h.1.is [ inl k ↦ inl k.0 | inr k ↦ inr k.0 ]) ]

            two : (z : ℕ) → Seated os ns e x z → y ≡ cond (ltb z 64) z 65 → Lift os ns (connect s u c e p q) (connect s u x y p q) (noted (noted ns x c) y e)
            two z t f = let (M, g, k) = seat one.0 e y place in fits M (k x c one.1 apart (λ v. w v)) g
              where
                low_case : z < 64 → y ≡ z
                low_case l = f ∙ ap (λ (v : Bool). cond v z 65) (lt-ltb z 64 l)

                high_case : 64 ≤ z → y ≡ 65
                high_case l = f ∙ ap (λ (v : Bool). cond v z 65) (le-ltb z 64 l)

                place : Place os ns e y
                place = elim t.is [
                  | inl h ↦ inl (subst (Here os ns e) (sym (low_case h.0)) h)
                  | inr h ↦ inr (h.0, λ l. subst (λ (v : ℕ). T (not (slot_used os v))) (sym (same l)) (free_place os x z h.1 (subst (λ (v : ℕ). v < 64) (same l) l)))
                ]
                  where
                    same : y < 64 → y ≡ z
                    same l = by_size (dec_lt z 64)
                      where
                        by_size : Dec (z < 64) → y ≡ z
                        by_size (yes m) = low_case m
                        by_size (no m) = absurd (let v = high_case (omega (arith, m)) in omega (arith, v))

                apart : x ≡ y → ⊥
                apart v = in_case t.is
                  where
                    clash : (z < 64) → T (slot_used os z) → get_or ns z 0 ≡ e → ⊥
                    clash l r i = let o : x ≡ z = v ∙ low_case l in elim b.first.is [
                      | inl h ↦ w (sym h.2 ∙ ap (λ (j : ℕ). get_or ns j 0) o ∙ i)
                      | inr h ↦ T_not (slot_used os z) (subst (λ (j : ℕ). T (not (slot_used os j))) o (free_place os 64 x h.1 (subst (λ (j : ℕ). j < 64) (sym o) l))) r
                    ]

                    free : ((z < 64) × T (not (slot_used os z)) × (z ≡ x → ⊥)) ⊎ ((z ≡ 64) × ((i : ℕ) → i < 64 → (i ≡ x → ⊥) → T (slot_used os i))) → ⊥
                    free (inl h) = h.2 (sym (v ∙ low_case h.0))
                    free (inr h) = let i = high_case (let j = h.0 in omega (arith, j)) in far in_range_x (v ∙ i)
                      where
                        far : (x < 64) ⊎ (x ≡ 64) → x ≡ 65 → ⊥
                        far (inl l) k = omega (arith, l, k)
                        far (inr l) k = omega (arith, l, k)

                    in_case : Here os ns e z ⊎ (Absent os ns e × Free os x z) → ⊥
                    in_case (inl h) = clash h.0 h.1 h.2
                    in_case (inr h) = free h.1.is

  -- ── by code ──
  -- a call that names no object is the same by slot
  lift_same : (k : Call) → T (nameless k) → Lift os ns k k ns
  lift_same (admit s n) h = lift_none (admit s n) (λ ρ σ v l. refl) (λ t i z. z) (λ t. tt)
  lift_same (access reading s p) h = lift_none (access reading s p) (λ ρ σ v l. refl) (λ t i z. z) (λ t. tt)
  lift_same (access writing s p) h = lift_none (access writing s p) (λ ρ σ v l. refl) (λ t i z. writes_none t s p i z) (λ t. tt)
  lift_same (fork s c) h = lift_none (fork s c) (λ ρ σ v l. refl) (λ t i z. z) (λ t. tt)
  lift_same (thread s c) h = lift_none (thread s c) (λ ρ σ v l. refl) (λ t i z. z) (λ t. tt)
  lift_same (close s p) h = lift_none (close s p) (λ ρ σ v l. refl) (λ t i z. z) (λ t. tt)
  lift_same (mark s p) h = lift_none (mark s p) (λ ρ σ v l. refl) (λ t i z. z) (λ t. tt)
  lift_same (exit s) h = lift_none (exit s) (λ ρ σ v l. refl) (λ t i z. z) (λ t. tt)
  lift_same (freeze n) h = lift_none (freeze n) (λ ρ σ v l. refl) (λ t i z. z) (λ t. tt)
  lift_same unknown h = lift_none unknown (λ ρ σ v l. refl) (λ t i z. z) (λ t. tt)
  lift_same (register o n) h = absurd h
  lift_same (create s o) h = absurd h
  lift_same (make_pipe s o r w) h = absurd h
  lift_same (connect s u c d' p q) h = absurd h
  lift_same (opens d' s o p) h = absurd h
  lift_same (maps s o p) h = absurd h
  lift_same (exec s o) h = absurd h
  lift_same (retire o) h = absurd h

  -- so are those of all codes but nine
  pub lift_rest : (n a b c d' e f : ℕ) → n ≢ 2 → n ≢ 3 → n ≢ 4 → n ≢ 5 → n ≢ 6 → n ≢ 10 → n ≢ 13 → n ≢ 14 → n ≢ 17
      → Lift os ns (decode (direct n a b c d' e f)) (decode (direct n a b c d' e f)) ns
  lift_rest n a b c d' e f n2 n3 n4 n5 n6 n10 n13 n14 n17 = lift_same (decode (direct n a b c d' e f)) (decode_by (λ k. T (nameless k)) (direct n a b c d' e f)
      (ok, (n2, (n3, (n4, (n5, (n6, (ok, (ok, (ok, (n10, (ok, (ok, (n13, (n14, (ok, (ok, (n17, (ok, tt)))))))))))))))))) (λ m. tt))
    where
      ok : {k : ℕ} → n ≡ k → Unit {0}
      ok q = tt

  -- calls 3 and 4 make an object by their second number, in slot i
  pub lift_second_made : (n a b c d' e f i : ℕ) → (n ≢ 3 → n ≡ 4) → Seated os ns b 64 i
      → Lift os ns (decode (direct n a b c d' e f)) (decode (direct n a i c d' e f)) (noted ns i b)
  unfolding decode
  lift_second_made n a b c d' e f i h s = go (ℕ_discrete n 3)
    where
      go : Dec (n ≡ 3) → Lift os ns (decode (direct n a b c d' e f)) (decode (direct n a i c d' e f)) (noted ns i b)
      go (yes q) = rw q (lift_made (λ (o : ℕ). create a o) b i s (λ ρ σ v l j. refl) (λ t j z. only_one _ _ z) (λ t r. r))
      go (no q) = rw (h q) (lift_made (λ (o : ℕ). make_pipe a o c d') b i s (λ ρ σ v l j. refl) (λ t j z. only_one _ _ z) (λ t r. r))

  -- calls 5, 6, 10 and 14 name a live one by theirs
  pub lift_second_named : (n a b c d' e f i : ℕ) → (n ≢ 5 → n ≢ 6 → n ≢ 10 → n ≡ 14) → Found os ns b i
      → Lift os ns (decode (direct n a b c d' e f)) (decode (direct n a i c d' e f)) ns
  unfolding decode sheds
  lift_second_named n a b c d' e f i h s = go (ℕ_discrete n 5) (ℕ_discrete n 6) (ℕ_discrete n 10)
    where
      go : Dec (n ≡ 5) → Dec (n ≡ 6) → Dec (n ≡ 10) → Lift os ns (decode (direct n a b c d' e f)) (decode (direct n a i c d' e f)) ns
      go (yes q) k l = rw q (lift_named (λ (o : ℕ). opens reading a o c) b i s (λ ρ σ v l j. refl) (λ t j z. z) (λ t. tt))
      go (no q) (yes k) l = rw k (lift_named (λ (o : ℕ). opens writing a o c) b i s (λ ρ σ v l j. refl) (λ t j z. z) (λ t. tt))
      go (no q) (no k) (yes l) = rw l (lift_named (λ (o : ℕ). exec a o) b i s (λ ρ σ v l j. refl) (λ t j z. z) (λ t. tt))
      go (no q) (no k) (no l) = rw (h q k l) (lift_named (λ (o : ℕ). maps a o c) b i s (λ ρ σ v l j. refl) (λ t j z. z) (λ t. tt))
