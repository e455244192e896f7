-- An open on a monitor's parts: refused by a row over records or by the freeze, left where its flow does not fall by the kept needs, done where it does.
-- Assumes nothing.
use mathlib.Core.Path.{◌≡◌, refl, sym, ◌∙◌, ap, ap₂, subst, subst₂}
use mathlib.Core.Bool.{Bool, true, false, not, ◌||◌}
use Rattle.std.proofs.Math.Bool.{or-true}
use mathlib.Core.Logic.{inl, inr}
use mathlib.Core.Option.{Option, none, some, none-ne-some, some-injective}
use mathlib.Core.List.{List, [], ◌∷◌}
use Prim.Native.Nat.{ℕ, ◌+◌, ◌*◌, ◌%◌, ◌<◌}
use native.Mathlib.Omega.{arith}
use native.Mathlib.Decide.{ℕ_discrete}
use borrow.Author.Tests.{eq-eqb, ne_eqb}
use lib.ListN.{length, get_or, set}
use lib.Dec.{T, eqb, ltb→lt}
use Rattle.model.specs.Bools.{is_true}
use Rattle.model.specs.Label.{Label, leq, ◌⊑◌}
use Rattle.labels.specs.Codes.{coded}
use Rattle.model.specs.Lists.{In}
use Rattle.model.specs.Flow.{Thing, subject, object}
use Rattle.model.proofs.Flow.Laws.{need_flow}
use Rattle.model.specs.Tables.{Dir, handle, Tables, live, flow, edges, demand, needs, safe}
use Rattle.model.proofs.Tables.Laws.{live_of}
use Rattle.model.specs.Steps.{hold, apply}
use Rattle.model.specs.Invariant.{Ends, Wf}
use Rattle.model.specs.Figures.{Ready}
use Rattle.model.specs.Calls.{Call, opens, decode, effect, alive, present, vacant, thawed, broken, tests, breaks, first, refusal}
use Rattle.model.proofs.Calls.Passed.{is_alive, is_present, is_place, is_vacant}
use Rattle.model.proofs.Calls.Needs.{effect_needs, hold_adds}
use Rattle.model.specs.Tally.{wrapped}
use Rattle.tables.specs.declared.Subject.{Subject}
use Rattle.tables.specs.declared.Object.{Object}
use Rattle.tables.specs.declared.Handle.{Handle}
use Rattle.tables.specs.Records.{subject_entry, object_entry, joins, held, reads_by, no_subject, no_object, no_handle, tables_of}
use Rattle.tables.specs.Records.Laws.{slot_low}
use Rattle.tables.specs.Needs.{figure_of}
use Rattle.tables.specs.Slots.{Found}
use Rattle.refusals.specs.Refusing.{Refuses, Refused, direction}
use Rattle.refusals.specs.Refusing.{late as late-rows}
use Rattle.refusals.proofs.Finding.{alone}
use Rattle.tables.specs.Working.{subject_at, object_at, handle_at, joining}
use Rattle.passes.specs.Working.{falls_by}
use Rattle.passes.proofs.Raising.{true_false}
use Rattle.keeping.proofs.Closing.{mine_is, its_is}
use Rattle.keeping.proofs.Opens.{quiet_ready, quiet_safe}
use Rattle.gatekeeper.specs.declared.Monitor.{Monitor}
use Rattle.gatekeeper.specs.View.{beside, slots, view, Apart, Honest, direct}
use Rattle.gatekeeper.specs.Numbering.{Lift}
use Rattle.gatekeeper.specs.Acting.{Firm, back, way_by}
use Rattle.gatekeeper.proofs.Owned.{Long}
use Rattle.gatekeeper.proofs.Lifting.{lift_named}
use Rattle.gatekeeper.proofs.Doing.{passed}
use Rattle.gatekeeper.proofs.Acting.{stops, ends}
use Rattle.gatekeeper.proofs.Storing.{subject_got, object_got, handle_got, Opening, open_late, opens_acts, opens_keeps}
use Rattle.inplace.specs.Bytes.{subjects_in, objects_in, handles_in}
use Rattle.inplace.specs.Bytes.Laws.{length_objects}
use Rattle.quick.specs.Parts.{Whole, monitor_in, tally_in, tried_number, Done, NeedsStay, Settles}
use Rattle.std.specs.Prelude.{Some, Ok, Err}
use Rattle.answers.specs.declared.Granted.TheVariants.{Allowed}
use Rattle.answers.specs.declared.Refusal.{Refusal}
use Rattle.answers.specs.declared.Refusal.TheVariants.{Frozen}
use Rattle.answers.specs.Telling.{number_of}
use Rattle.quick.proofs.Doing.{waits, goes, frozen_late, none_late, whole_long, refusing, allowing, settles_by, counted_made, counted_gone}
use Rattle.quick.proofs.Renumbering.{open_ren}

-- the code says which open it is
pub opens_is : (code s o p : ℕ) → (eqb code 5 || eqb code 6) ≡ true → decode (direct code s o p 0 0 0) ≡ opens (direction (eqb code 5)) s o p
unfolding decode
opens_is code s o p e = go (ℕ_discrete code 5) (ℕ_discrete code 6)
  where
    go : Dec (code ≡ 5) → Dec (code ≡ 6) → decode (direct code s o p 0 0 0) ≡ opens (direction (eqb code 5)) s o p
    go (yes q) d = rw q
    go (no n) (yes q) = rw q
    go (no n) (no k) = absurd (subst T (sym e ∙ ap₂ (λ (a b : Bool). a || b) (ne_eqb code 5 n) (ne_eqb code 6 k)) tt)

-- where no row over records refuses an open, and it is not frozen, 9 alone is left to refuse it
nine_left : (t : Tables) (d : Dir) (s o p k : ℕ) → broken t (thawed d o) ≡ false → first t (tests (opens d s o p)) late-rows ≡ some k → k ≡ 9
nine_left t d s o p k warm = go (breaks t 15 (tests (opens d s o p))) (breaks t 9 (tests (opens d s o p))) (alone warm)
  where
    then : Bool → ℕ → Option ℕ → Option ℕ
    then b n o = elim b as (λ _. Option ℕ) [ true ↦ some n | false ↦ o ]

    go : (b15 b9 : Bool) → b15 ≡ false → then b15 15 (then b9 9 none) ≡ some k → k ≡ 9
    go true b9 q e = true_false q
    go false true q e = sym (some-injective 9 k e)
    go false false q e = absurd (none-ne-some k e)

-- where an open changes no need, its flow falls by the kept ones
module _ (nb : List ℕ) (t : Tables) (r : Bool) (s o p : ℕ) (low : o < 64) (w : Wf t) (k : Ready t (figure_of nb)) (free : refusal t (opens (direction r) s o p) ≡ none)
    (stay : NeedsStay t (effect t (opens (direction r) s o p))) where
  abbrev call : Call
  call = opens (direction r) s o p

  live_s : T (live t (subject s))
  live_s = is_alive t s (passed t call free (alive s) (inl refl))

  live_o : T (live t (object o))
  live_o = is_present t o (passed t call free (present o) (inr (inl refl)))

  low_p : p < 16
  low_p = is_place t s p (passed t call free (vacant s p) (inr (inr (inl refl))))

  u : Tables
  u = apply (hold s p (some (handle (direction r) o))) t

  still : (x : Thing) → T (live t x) → needs u x ≡ needs t x
  unfolding u
  still x l = sym (effect_needs t call x) ∙ stay x l

  along : In (flow (subject s) (handle (direction r) o)) (edges u)
  unfolding u
  along = (hold_adds t s p (handle (direction r) o) w (ltb→lt s 32 (live_of t (subject s) live_s).0) low_p
      (is_vacant t s p (passed t call free (vacant s p) (inr (inr (inl refl)))))).new

  falls : needs u (flow (subject s) (handle (direction r) o)).dst ⊑ needs u (flow (subject s) (handle (direction r) o)).src
  unfolding u
  falls = need_flow (edges u) (λ y. demand y (t.at y)) (flow (subject s) (handle (direction r) o)) along

  abbrev any_way : Handle
  any_way = record { way = 0; object = o; mark = 0 }

  ends_any : Ends t s p (joins any_way)
  ends_any = record { from = live_s; to = live_o; place = low_p }

  mine_now : needs u (subject s) ≡ coded (get_or nb (s % 32) 0)
  mine_now = still (subject s) live_s ∙ sym (mine_is nb t s p any_way ends_any k low)

  its_now : needs u (object o) ≡ coded (get_or nb (32 + o % 64) 0)
  its_now = still (object o) live_o ∙ sym (its_is nb t s p any_way ends_any k low)

  at_most : (a b : Label) → a ⊑ b → leq a b ≡ true
  at_most a b h = is_true (leq a b) h.tested

  pub stay_falls : falls_by r (coded (get_or nb (s % 32) 0)) (coded (get_or nb (32 + o % 64) 0)) ≡ true
  stay_falls = go r falls
    where
      go : (r : Bool) → needs u (flow (subject s) (handle (direction r) o)).dst ⊑ needs u (flow (subject s) (handle (direction r) o)).src
          → falls_by r (coded (get_or nb (s % 32) 0)) (coded (get_or nb (32 + o % 64) 0)) ≡ true
      go true f = at_most _ _ (subst₂ (λ (a b : Label). a ⊑ b) mine_now its_now f)
      go false f = at_most _ _ (subst₂ (λ (a b : Label). a ⊑ b) its_now mine_now f)

-- the codes of opens
pub code_opens : (code : ℕ) → In code (5 ∷ 6 ∷ []) → (eqb code 5 || eqb code 6) ≡ true
code_opens code (inl q) = subst (λ (k : ℕ). (eqb k 5 || eqb k 6) ≡ true) q refl
code_opens code (inr (inl q)) = subst (λ (k : ℕ). (eqb k 5 || eqb k 6) ≡ true) q refl
code_opens code (inr (inr q)) = absurd q

pub either_left : (code : ℕ) → eqb code 5 ≡ true → (eqb code 5 || eqb code 6) ≡ true
either_left code e = ap (λ (b : Bool). b || eqb code 6) e

pub either_right : (code : ℕ) → eqb code 6 ≡ true → (eqb code 5 || eqb code 6) ≡ true
either_right code e = ap (λ (b : Bool). eqb code 5 || b) e ∙ or-true (eqb code 5)

pub neither : (code : ℕ) → eqb code 5 ≡ false → eqb code 6 ≡ false → (eqb code 5 || eqb code 6) ≡ false
neither code e f = ap₂ (λ (a b : Bool). a || b) e f

module _ (gs : List ℕ) (lg : length gs ≡ 32) (ns sb ob hb nb cs : List ℕ) (fz su code s n₀ o p : ℕ) (w : Whole ns sb ob hb nb cs) (one : su ≡ 1) (at : Found (objects_in ob) ns n₀ o) (e : (eqb code 5 || eqb code 6) ≡ true)
    (x : Subject) (y : Object) (h : Handle) (n : ℕ) (ex : x ≡ subject_at s (get_or (subjects_in sb) (s % 32) no_subject))
    (ey : y ≡ object_at o (get_or (objects_in ob) (o % 64) no_object)) (eh : h ≡ handle_at s p (get_or (handles_in hb) (s % 32 * 16 + p % 16) no_handle))
    (f : (t : Tables) (d : Dir) (s o : ℕ) → Wf t → t.at (subject s) ≡ subject_entry x → t.at (object o) ≡ object_entry y → t.hand s p ≡ held h → Refuses t (opens d s o p) n) where
  abbrev m : Monitor
  m = monitor_in gs ns sb ob hb nb fz su

  abbrev b : Bool
  b = eqb code 5

  abbrev c : Call
  c = opens (direction b) s o p

  -- the call by number is the call by slot
  lift : Apart m → Lift (objects_in ob) ns (opens (direction b) s n₀ p) c ns
  lift d = lift_named (objects_in ob) ns (length_objects ob) w.numbers d (λ (j : ℕ). opens (direction b) s j p) n₀ o at (λ ρ σ v l j. refl) (λ t j h. h) (λ t. tt)

  g : Long m
  g = whole_long gs lg ns sb ob hb nb cs fz su w

  there : (slots m).at (object o) ≡ object_entry y
  there = object_got m g o y ey

  -- the slot of an open that is in order
  low_slot : refusal (slots m) c ≡ none → o < 64
  low_slot q = slot_low (beside m) m.subjects m.objects m.handles g.objects (slots m) o refl (is_present (slots m) o (passed (slots m) c q (present o) (inr (inl refl))))

  asked : Wf (slots m) → Refuses (slots m) c n
  asked v = f (slots m) (direction b) s o v (subject_got m g s x ex) there (handle_got m g s p h eh)

  -- a row over records refuses it
  pub open_refused : (v : Refusal) → n ≡ number_of v
      → Done (monitor_in gs ns sb ob hb nb fz su) (tally_in cs) (direct code s n₀ p 0 0 0) (tried_number (Some (Err v))) (monitor_in gs ns sb ob hb nb fz su) (tally_in cs)
  open_refused v z = refusing gs lg ns sb ob hb nb cs fz su w one (direct code s n₀ p 0 0 0) (opens (direction b) s n₀ p) c (opens_is code s n₀ p e) lift v
      (λ firm. stops {e = v} {r = back m v} (subst (Refuses (slots m) c) z (asked firm.wf)) refl)

  -- no row over records refuses it
  module _ (z : n ≡ 0) (frozen : Bool) (ef : (t : Tables) (o : ℕ) → t.freeze ≡ fz → t.at (object o) ≡ object_entry y → broken t (thawed (direction (eqb code 5)) o) ≡ frozen) where
    is_frozen : broken (slots m) (thawed (direction b) o) ≡ frozen
    unfolding tables_of
    is_frozen = ef (slots m) o refl there

    -- it is frozen, whatever the flow
    pub open_frozen : frozen ≡ true
        → Done (monitor_in gs ns sb ob hb nb fz su) (tally_in cs) (direct code s n₀ p 0 0 0) (tried_number (Some (Err Frozen))) (monitor_in gs ns sb ob hb nb fz su) (tally_in cs)
    open_frozen q = refusing gs lg ns sb ob hb nb cs fz su w one (direct code s n₀ p 0 0 0) (opens (direction b) s n₀ p) c (opens_is code s n₀ p e) lift Frozen
        (λ firm. ends {e = Frozen} {r = back m Frozen} (frozen_late (waits (asked firm.wf) z) (alone (is_frozen ∙ q))) refl)

    module _ (warm : frozen ≡ false) where
      -- it is left: the flow does not fall
      pub open_left : falls_by (eqb code 5) (coded (get_or nb (s % 32) 0)) (coded (get_or nb (32 + o % 64) 0)) ≡ false → Honest (monitor_in gs ns sb ob hb nb fz su)
          → Settles (view (monitor_in gs ns sb ob hb nb fz su)) (decode (direct code s n₀ p 0 0 0)) 0
      open_left up i = settles_by gs lg ns sb ob hb nb cs fz su w one (direct code s n₀ p 0 0 0) (opens (direction b) s n₀ p) c (opens_is code s n₀ p e) lift i 0
          (λ ρ σ v l long. open_ren ρ σ v l (slots m) long (direction b) s o p 0 (record {
            refusing = λ k q l. absurd (l (nine_left (slots m) (direction b) s o p k (is_frozen ∙ warm) (sym (goes (asked (i one).1.wf) z) ∙ q)));
            opening = λ d' s' o' p' is q stay. true_false (sym (stay_falls nb (slots m) b s o p (low_slot q) (i one).1.wf (i one).2 q stay) ∙ up);
            closing = λ s' p' k is. let y : ◌≡◌ {A = ℕ} 0 1 = cc in absurd (omega arith);
          }))

      -- the flow falls
      module _ (new : Handle) (en : new ≡ joining (way_by (eqb code 5)) o) (down : falls_by (eqb code 5) (coded (get_or nb (s % 32) 0)) (coded (get_or nb (32 + o % 64) 0)) ≡ true) where
        way_reads : (b : Bool) → reads_by (way_by b) ≡ b
        way_reads true = refl
        way_reads false = refl

        down_new : falls_by (reads_by new.way) (coded (get_or nb (s % 32) 0)) (coded (get_or nb (32 + new.object % 64) 0)) ≡ true
        down_new = let q : o % 64 % 64 ≡ o % 64 = omega arith in
            rw en (rw (way_reads b, q) down)

        low_new : new.object < 64
        low_new = rw en (omega arith)

        quiet : (next : List Handle) → Opening m (eqb m.sure 1) next s new nb false
        quiet next rest t p kin w e v q k = let f = k (eq-eqb m.sure 1 one) in (
          subst (λ (u : Tables). Ready u (figure_of nb)) (sym q) (quiet_ready nb t s p new w e v f low_new down_new),
          λ j. quiet_safe nb t s p new w e v f low_new down_new (j (eq-eqb m.sure 1 one)) ∙ ap (λ (u : Tables). not (safe u)) (sym q),
        )

        next : List Handle
        next = set m.handles (s % 32 * 16 + p % 16) new

        said : Firm m → Refused (slots m) c 0
        unfolding next
        said firm = none_late (waits (asked firm.wf) z)
            (open_late m g b s o p y new next nb false firm.wf (waits (asked firm.wf) z) there en refl (quiet next) firm.safe false (is_frozen ∙ warm))

        pub open_done : (hb' cs' : List ℕ) → handles_in hb' ≡ set (handles_in hb) (s % 32 * 16 + p % 16) new
            → cs' ≡ set (set cs 0 (wrapped (get_or cs 0 0 + 1))) 1 (wrapped (get_or cs 1 0 + 0)) → y.level < 256
            → Done (monitor_in gs ns sb ob hb nb fz su) (tally_in cs) (direct code s n₀ p 0 0 0) (tried_number (Some (Ok (Allowed y.level)))) (monitor_in gs ns sb ob hb' nb fz su) (tally_in cs')
        unfolding next
        open_done hb' cs' put count = allowing gs lg ns sb ob hb nb cs fz su w one (direct code s n₀ p 0 0 0) (opens (direction b) s n₀ p) c (opens_is code s n₀ p e) lift y.level hb' cs'
            (λ firm. opens_acts m g b s o p y new (handles_in hb') nb false firm.wf (waits (asked firm.wf) z) there en put (quiet (handles_in hb')) ((said firm).is))
            (λ v. opens_keeps m g b s o p y new (handles_in hb') nb false v (waits (asked v) z) there en put (quiet (handles_in hb')))
            (λ t. ap (λ (l : List ℕ). get_or l 0 0) count ∙ counted_made cs w.counts _ _)
            (λ t. ap (λ (l : List ℕ). get_or l 1 0) count ∙ counted_gone cs w.counts _ _)
