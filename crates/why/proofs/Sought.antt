-- The tables as a call that is refused with 9 would leave them: their handles and groups are those of the arrays that the search is given, so that what it finds is a
-- chain behind the call. Assumes nothing.
use mathlib.Core.Path.{◌≡◌, refl, sym, ◌∙◌, ap, ap₂, subst, subst₂}
use mathlib.Core.Bool.{Bool, true, false, not, cond}
use mathlib.Core.Logic.{inl, inr}
use mathlib.Core.Option.{Option, none, some}
use mathlib.Core.List.{List, [], ◌∷◌}
use Prim.Native.Nat.{ℕ, ◌+◌, ◌*◌, ◌%◌, ◌<◌}
use native.Mathlib.Omega.{arith}
use native.Mathlib.Decide.{ℕ_discrete}
use borrow.Author.Tests.{eq-eqb, ne_eqb}
use lib.ListN.{length, get_or, set}
use lib.Dec.{T, T_not, eqb, eqb→eq, eqb_refl, leb, ltb→lt}
use Rattle.model.specs.Bools.{test, both, neither}
use Rattle.model.specs.Lists.{In}
use Rattle.model.specs.Label.{Label, label}
use Rattle.labels.specs.Codes.{coded}
use Rattle.model.specs.Flow.{Thing, subject, object}
use Rattle.model.specs.Tables.{file, pipe, Dir, reading, writing, Entry, entry, handle, mapping, Tables, with_hand, with_kin, is_some, live, cell, whole, mates}
use Rattle.model.specs.Tables.{Handle as Held}
use Rattle.model.proofs.Tables.Laws.{live_of, used_is, some_is, whole_kin, whole_no_object}
use Rattle.model.specs.Steps.{runs, mix, place, applies}
use Rattle.model.proofs.Steps.Laws.{applies_append}
use Rattle.model.specs.Invariant.{Wf}
use Rattle.model.proofs.Invariant.Laws.{parted_cases}
use Rattle.model.specs.Calls.{Call, admit, register, create, make_pipe, opens, access, fork, thread, exec, close, exit, retire, maps, mark, freeze, connect, unknown, decode, made, steps, stepped, sheds, effect, Test, alive, present, new, vacant, unlike, roomy, number, broken, tests, earlier, order, refusal}
use Rattle.model.proofs.Calls.Refusals.{refused_by}
use Rattle.model.proofs.Calls.Passed.{is_alive, is_present, is_new, is_place}
use Rattle.model.proofs.Calls.Listed.{made_or, stepped_left, effect_at}
use Rattle.attack.specs.Attack.{Begins}
use Rattle.model.proofs.Calls.Codes.{decode_by}
use Rattle.attack.proofs.Attack.Sought.{Seeks, an_open, a_map, an_exec, a_connect, seeks}
use Rattle.attack.proofs.Attack.Laws.{sought_wf}
use Rattle.tables.specs.declared.Subject.{Subject}
use Rattle.tables.specs.declared.Object.{Object}
use Rattle.tables.specs.declared.Handle.{Handle}
use Rattle.tables.specs.Records.{object_entry, reads_by, held, no_object, hands, tables_of, entries}
use Rattle.tables.specs.Records.Laws.{object_there, slot_low, store_handle}
use Rattle.tables.specs.Working.{object_at, joining}
use Rattle.groups.specs.Groups.{kin_of, Leads}
use Rattle.gatekeeper.specs.View.{direct}
use Rattle.gatekeeper.proofs.Doing.{full_object, not_leb}
use Rattle.ways.specs.declared.Way.{Way}
use Rattle.ways.specs.Paths.{Stands, Is, Found}
use Rattle.why.specs.Working.{Tells, Due, seeking}
use Rattle.why.proofs.Finding.{any_tells, run_tells}

-- ── the calls that are refused with 9 ──
abbrev seeker : Call → Bool
seeker (admit s n) = false
seeker (register o n) = false
seeker (create s o) = false
seeker (make_pipe s o r w) = false
seeker (opens d s o p) = true
seeker (access d s p) = false
seeker (fork s c) = false
seeker (thread s c) = false
seeker (exec s o) = true
seeker (close s p) = false
seeker (exit s) = false
seeker (retire o) = false
seeker (maps s o p) = true
seeker (mark s p) = false
seeker (freeze n) = false
seeker (connect s r a b p q) = true
seeker unknown = false

seeks_so : {c : Call} → Seeks c → T (seeker c)
seeks_so (an_open d s o p) = tt
seeks_so (a_map s o p) = tt
seeks_so (an_exec s o) = tt
seeks_so (a_connect s r a b p q) = tt

-- no other code asks for one
pub none_other : (code a b c d e f : ℕ) → (code ≡ 5 → ⊥) → (code ≡ 6 → ⊥) → (code ≡ 10 → ⊥) → (code ≡ 14 → ⊥) → (code ≡ 17 → ⊥) → (t : Tables)
    → refusal t (decode (direct code a b c d e f)) ≡ some 9 → ⊥
none_other code a b c d e f n5 n6 n10 n14 n17 t q = T_not (seeker (decode (direct code a b c d e f))) other (seeks_so (seeks t (decode (direct code a b c d e f)) q))
  where
    other : T (not (seeker (decode (direct code a b c d e f))))
    other = decode_by (λ k. T (not (seeker k))) (direct code a b c d e f)
        (λ z. tt, (λ z. tt, (λ z. tt, (λ z. tt, (λ z. absurd (n5 z), (λ z. absurd (n6 z), (λ z. tt, (λ z. tt, (λ z. tt, (λ z. absurd (n10 z), (λ z. tt, (λ z. tt, (λ z. tt, (λ z. absurd (n14 z), (λ z. tt, (λ z. tt, (λ z. absurd (n17 z), (λ z. tt, tt))))))))))))))))))
        (λ m. tt)

module _ (rest : Tables) (ss : List Subject) (gs : List ℕ) (os : List Object) (hs : List Handle) (ls : length ss ≡ 32) (lo : length os ≡ 64) (lh : length hs ≡ 512) where
  abbrev t : Tables
  t = tables_of rest ss os hs

  at_is : (x : Thing) → t.at x ≡ entries ss os x
  unfolding tables_of
  at_is x = refl

  slot_below : (o : ℕ) (e : Entry) → t.at (object o) ≡ some e → o < 64
  slot_below o e q = slot_low rest ss os hs lo t o refl (subst T (sym (used_is t (object o))) (some_is q))

  module _ (c : Call) (d : Due rest ss gs os hs c) where
    -- the tests that come before 9
    earlier_passed : (e : Test) → In e (tests c) → T (earlier (number e) 9 order) → T (not (broken t e))
    earlier_passed = (refused_by t c 9 d.nine).1

    after_wf : Wf (effect t c)
    after_wf = sought_wf t d.wf c d.nine

    kin_now : t.kin ≡ kin_of ss gs
    unfolding tables_of
    kin_now = d.kin

    row_live : (s : ℕ) → In (alive s) (tests c) → s < 32
    row_live s i = ltb→lt s 32 (live_of t (subject s) (is_alive t s (earlier_passed (alive s) i tt))).0

    place_low : (s p : ℕ) → In (vacant s p) (tests c) → p < 16
    place_low s p i = is_place t s p (earlier_passed (vacant s p) i tt)

    object_live : (o : ℕ) → In (present o) (tests c) → T (live t (object o))
    object_live o i = is_present t o (earlier_passed (present o) i tt)

    object_low : (o : ℕ) → In (present o) (tests c) → o < 64
    object_low o i = slot_low rest ss os hs lo t o refl (object_live o i)

    -- a handle is on a slot, where new objects have slots
    handle_low : ((n : ℕ) → In n (made (steps t c)) → n < 64) → (s p : ℕ) (k : Held) → (effect t c).hand s p ≡ some k → k.to < 64
    handle_low f s p k q = elim (made_or (steps t c) t k.to (stepped_left t c k.to there)) [
      | inl i ↦ f k.to i
      | inr h ↦ slot_low rest ss os hs lo t k.to refl (subst T (sym (used_is t (object k.to))) h)
    ]
      where
        there : T (is_some ((stepped t c).at (object k.to)))
        there = subst (λ (o : Option Entry). T (is_some o)) (effect_at t c (object k.to))
            (subst T (used_is (effect t c) (object k.to)) (live_of (effect t c) (object k.to) (after_wf.ends s p k q).to).1)

    -- a call that any thing may be behind
    module _ (new_low : (n : ℕ) → In n (made (steps t c)) → n < 64) (kin : (effect t c).kin ≡ t.kin) (starts : (x : Thing) → Begins c x x)
        (started : (a x : Thing) → Begins c a x → a ≡ x) where
      plain_tells : (next : List Handle) → (effect t c).hand ≡ hands next → (ld : List ℕ) → Leads (kin_of ss gs) ld → (w : Way)
          → Found (Stands ss os) os ld next w.start w.steps w.count w.end → Tells t c w
      plain_tells next h ld led w f = any_tells t c d.wf ss os at_is slot_below after_wf next ld h
          (subst (λ (k : ℕ → ℕ → Bool). Leads k ld) (sym (kin ∙ kin_now)) led) (handle_low new_low) d.even kin starts started w f

  -- ── an open, or a map ──
  -- a new handle at a place, as a record
  joined_held : (k : Held) (way o : ℕ) → o < 64 → (way ≡ 0 → ⊥) → k ≡ record { dir = cond (reads_by way) reading writing; to = o; marked = false; mapped = eqb way 3 } → held (joining way o) ≡ some k
  joined_held k way o l n q = let e : o % 64 ≡ o = omega arith in rw (ne_eqb way 0 n, e) (ap some (sym q))

  module _ (way s o p : ℕ) (nw : way ≡ 0 → ⊥) (next : List Handle) (qn : next ≡ set hs (s % 32 * 16 + p % 16) (joining way o)) (ld : List ℕ) (led : Leads (kin_of ss gs) ld)
      (w : Way) (f : Found (Stands ss os) os ld next w.start w.steps w.count w.end) where
    placed : (c : Call) (k : Held) → s < 32 → p < 16 → held (joining way o) ≡ some k → (effect t c).hand ≡ place t.hand s p (some k) → (effect t c).hand ≡ hands next
    unfolding tables_of
    placed c k a b q e = e ∙ ap (λ (v : Option Held). place (hands hs) s p v) (sym q)
        ∙ sym (ap (λ (v : Tables). v.hand) (store_handle rest ss os hs s p (joining way o) lh a b)) ∙ ap hands (sym qn)

    opens_tells : (dir : Dir) → cond (reads_by way) reading writing ≡ dir → eqb way 3 ≡ false → Due rest ss gs os hs (opens dir s o p) → Tells t (opens dir s o p) w
    unfolding effect
    opens_tells dir q m d = plain_tells c d (λ n i. absurd i) refl (λ x. refl) (λ a x h. h) next
        (placed c (handle dir o) (row_live c d s (inl refl)) (place_low c d s p (inr (inr (inl refl))))
        (joined_held (handle dir o) way o (object_low c d o (inr (inl refl))) nw (ap₂ (λ (i : Dir) (b : Bool). record { dir = i; to = o; marked = false; mapped = b }) (sym q) (sym m))) refl) ld led w f
      where
        c : Call
        c = opens dir s o p

    maps_tells : way ≡ 3 → Due rest ss gs os hs (maps s o p) → Tells t (maps s o p) w
    unfolding effect
    maps_tells q d = plain_tells c d (λ n i. absurd i) refl (λ x. refl) (λ a x h. h) next
        (placed c (mapping o) (row_live c d s (inl refl)) (place_low c d s p (inr (inr (inr (inl refl)))))
        (joined_held (mapping o) way o (object_low c d o (inr (inl refl))) nw (ap (λ (v : ℕ). record { dir = cond (reads_by v) reading writing; to = o; marked = false; mapped = eqb v 3 }) (sym q))) refl) ld led w f
      where
        c : Call
        c = maps s o p

    pub open_tells : Due rest ss gs os hs (seeking way s o p) → Tells t (seeking way s o p) w
    open_tells = go (ℕ_discrete way 3) (ℕ_discrete way 1)
      where
        go : Dec (way ≡ 3) → Dec (way ≡ 1) → Due rest ss gs os hs (seeking way s o p) → Tells t (seeking way s o p) w
        go (yes q) b = rw (eq-eqb way 3 q) (maps_tells q)
        go (no q) (yes z) = rw (ne_eqb way 3 q, eq-eqb way 1 z) (opens_tells reading (rw z refl) (ne_eqb way 3 q))
        go (no q) (no z) = rw (ne_eqb way 3 q, ne_eqb way 1 z) (opens_tells writing (rw (ne_eqb way 3 q, ne_eqb way 1 z) refl) (ne_eqb way 3 q))

  -- ── a connect ──
  module _ (s r a b p q : ℕ) (d : Due rest ss gs os hs (connect s r a b p q)) where
    abbrev c : Call
    c = connect s r a b p q

    free_a : t.at (object a) ≡ none
    free_a = (is_new t (object a) (earlier_passed c d (new (object a)) (inr (inr (inr (inl refl)))) tt)).1

    free_b : t.at (object b) ≡ none
    free_b = (is_new t (object b) (earlier_passed c d (new (object b)) (inr (inr (inr (inr (inl refl))))) tt)).1

    unequal : a ≡ b → ⊥
    unequal e = T_not (eqb a b) (earlier_passed c d (unlike a b) (inr (inr (inr (inr (inr (inl refl)))))) tt) (subst (λ (z : ℕ). T (eqb a z)) e (eqb_refl a))

    both_low : T (not (leb 64 a)) × T (not (leb 64 b))
    both_low = neither (leb 64 a) (leb 64 b) (subst (λ (v : Bool). T (not v)) (d.room free_a free_b unequal)
        (earlier_passed c d (roomy 2) (inr (inr (inr (inr (inr (inr (inr (inr (inr (inr (inr (inr (inl refl))))))))))))) tt))

    low_a : a < 64
    low_a = not_leb 64 a both_low.0

    low_b : b < 64
    low_b = not_leb 64 b both_low.1

    s_low : s < 32
    s_low = row_live c d s (inl refl)

    r_low : r < 32
    r_low = row_live c d r (inr (inl refl))

    p_low : p < 16
    p_low = place_low c d s p (inr (inr (inr (inr (inr (inr (inl refl)))))))

    q_low : q < 16
    q_low = place_low c d s q (inr (inr (inr (inr (inr (inr (inr (inl refl))))))))

    -- the ends of one subject
    ends : (before after : List Handle) (x from to : ℕ) → x < 32 → from < 64 → to < 64
        → tables_of rest ss os after ≡ with_hand (tables_of rest ss os before)
        (place (place (hands before) (x % 32) (p % 16) (some (handle reading (from % 64)))) (x % 32) (q % 16) (some (handle writing (to % 64))))
        → hands after ≡ place (place (hands before) x p (some (handle reading from))) x q (some (handle writing to))
    unfolding tables_of
    ends before after x from to lx lf lt e = let ex : x % 32 ≡ x = omega arith in let ep : p % 16 ≡ p = omega (arith, p_low) in let eq : q % 16 ≡ q = omega (arith, q_low) in
        let ef : from % 64 ≡ from = omega arith in let et : to % 64 ≡ to = omega arith in
        ap (λ (v : Tables). v.hand) e ∙ rw (ex, ep, eq, ef, et)

    pub connect_tells : (one two : List Handle)
        → ((rest : Tables) (ss : List Subject) (os : List Object) → tables_of rest ss os one ≡ with_hand (tables_of rest ss os hs)
        (place (place (hands hs) (s % 32) (p % 16) (some (handle reading (b % 64)))) (s % 32) (q % 16) (some (handle writing (a % 64)))))
        → ((rest : Tables) (ss : List Subject) (os : List Object) → tables_of rest ss os two ≡ with_hand (tables_of rest ss os one)
        (place (place (hands one) (r % 32) (p % 16) (some (handle reading (a % 64)))) (r % 32) (q % 16) (some (handle writing (b % 64)))))
        → (ld : List ℕ) → Leads (kin_of ss gs) ld → (w : Way) → Found (Stands ss os) os ld two w.start w.steps w.count w.end → Tells t (connect s r a b p q) w
    unfolding effect tables_of
    connect_tells one two f g ld led w h = plain_tells c d new_low refl (λ x. refl) (λ a x h. h) two (sym is) ld led w h
      where
        new_low : (n : ℕ) → In n (made (steps t c)) → n < 64
        new_low n (inl e) = subst (λ (z : ℕ). z < 64) e low_a
        new_low n (inr (inl e)) = subst (λ (z : ℕ). z < 64) e low_b
        new_low n (inr (inr i)) = absurd i

        is : hands two ≡ place (place (place (place (hands hs) s p (some (handle reading b))) s q (some (handle writing a))) r p (some (handle reading a))) r q (some (handle writing b))
        is = ends one two r a b r_low low_a low_b (g rest ss os)
            ∙ ap (λ (v : ℕ → ℕ → Option Held). place (place v r p (some (handle reading a))) r q (some (handle writing b))) (ends hs one s b a s_low low_b low_a (f rest ss os))

  -- ── an exec ──
  module _ (s o : ℕ) (d : Due rest ss gs os hs (exec s o)) where
    abbrev e : Call
    e = exec s o

    low_s : s < 32
    low_s = row_live e d s (inl refl)

    shed : Tables
    shed = applies (sheds t s) t

    after_hand : (effect t (exec s o)).hand ≡ shed.hand
    unfolding effect shed
    after_hand = ap (λ (v : Tables). v.hand) (applies_append (sheds t s) (mix runs (subject s) (object o) (cell t s) (object o) ∷ []) t)

    after_kin : (effect t (exec s o)).kin ≡ shed.kin
    unfolding effect shed
    after_kin = ap (λ (v : Tables). v.kin) (applies_append (sheds t s) (mix runs (subject s) (object o) (cell t s) (object o) ∷ []) t)

    none_made : (n : ℕ) → In n (made (steps t e)) → n < 64
    unfolding sheds
    none_made n i = absurd i

    -- nobody else is in its group
    only_kin : (a : ℕ) → T (shed.kin s a) → s ≡ a
    unfolding shed sheds
    only_kin a h = elim (parted_cases (mates t s) t.kin s a h) [
      | inl r ↦ r
      | inr r ↦ elim (test (eqb s a)) [
        | inl f ↦ eqb→eq s a f
        | inr f ↦ absurd (T_not (mates t s (subject a)) r.1 (both (not (eqb s a)) (t.kin s a) f r.2))
      ]
    ]

    only : (z : Thing) → T (whole (effect t (exec s o)) (subject s) z) → subject s ≡ z
    only (subject a) h = ap subject (only_kin a (subst (λ (k : ℕ → ℕ → Bool). T (k s a)) after_kin (subst T (whole_kin (effect t e) s a) h)))
    only (object a) h = absurd (subst T (whole_no_object (effect t e) s a) h)

    pub exec_tells : (left : List Subject) (next : List Handle)
        → ((rest : Tables) (os : List Object) → s < 32 → rest.kin ≡ kin_of ss gs → tables_of (with_kin rest (kin_of left gs)) left os next ≡ applies (sheds (tables_of rest ss os hs) s) (tables_of rest ss os hs))
        → (ld : List ℕ) → Leads (kin_of left gs) ld → (y : Object) → y ≡ object_at o (get_or os (o % 64) no_object) → (l : ℕ) → coded l ≡ label y.level y.shops
        → (w : Way) (a : ℕ) → Found (Is (s % 32) (coded l)) os ld next a w.steps w.count w.end → w.start ≡ 32 + o % 64 → Tells t (exec s o) w
    unfolding tables_of shed
    exec_tells left next f ld led y q l z w a g i = run_tells t e d.wf ss os at_is slot_below (after_wf e d) next ld (after_hand ∙ sym (ap (λ (v : Tables). v.hand) is))
        (subst (λ (k : ℕ → ℕ → Bool). Leads k ld) (sym (after_kin ∙ sym (ap (λ (v : Tables). v.kin) is))) led) (handle_low e d none_made)
        s o low_s _ there (refl, refl) (λ a x h. h) only w a (subst₂ (λ (n : ℕ) (b : Label). Found (Is n b) os ld next a w.steps w.count w.end) (omega (arith, low_s)) z g)
        (let n : o % 64 ≡ o = omega (arith, object_low e d o (inr (inl refl))) in i ∙ ap (λ (v : ℕ). 32 + v) n)
      where
        is : tables_of (with_kin rest (kin_of left gs)) left os next ≡ applies (sheds t s) t
        is = f rest os low_s d.kin

        there : t.at (object o) ≡ some (entry (cond (eqb y.kind 1) file pipe) (label y.level y.shops))
        there = full_object t o y (object_there rest ss os hs o lo ∙ ap object_entry (sym q)) (object_live e d o (inr (inl refl)))
