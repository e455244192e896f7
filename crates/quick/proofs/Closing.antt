-- A close on a monitor's parts: refused, left where its ends do not tell that no need changes or where it ends a pipe, and done else. Assumes nothing.
use mathlib.Core.Path.{◌≡◌, refl, sym, ◌∙◌, ap, subst, subst₂}
use mathlib.Core.Bool.{Bool, true, false, cond}
use mathlib.Core.Logic.{◌⊎◌, inl, inr}
use mathlib.Core.Option.{none, some, none-ne-some, some-injective}
use mathlib.Core.List.{List}
use Prim.Native.Nat.{ℕ, ◌+◌, ◌*◌, ◌%◌, ◌≤◌, ◌<◌}
use native.Mathlib.Omega.{arith}
use native.Mathlib.Decide.{ℕ_discrete, dec_lt}
use borrow.Author.Tests.{lt-ltb, le-ltb}
use lib.ListN.{length, get_or, set, length-set}
use lib.Seq.{get_or-set_same, get_or-set_other, ext_get_or}
use lib.Dec.{T, ltb, ltb→lt}
use Rattle.model.specs.Bools.{is_true}
use Rattle.model.specs.Label.{Label, bot}
use Rattle.labels.specs.Codes.{coded}
use Rattle.model.specs.Flow.{subject, object}
use Rattle.model.specs.Tables.{reading, writing, Tables, empty, with_hand, handles, open_on, arc, demand, needs}
use Rattle.model.specs.Tables.{Handle as Held}
use Rattle.model.proofs.Tables.Laws.{live_of}
use Rattle.model.proofs.Tables.Laws.{object_entry as live_entry}
use Rattle.model.specs.Steps.{hold, apply}
use Rattle.model.specs.Invariant.{Ends, Wf}
use Rattle.model.specs.Figures.{Ready}
use Rattle.model.specs.Calls.{Call, close, mark, decode, refusal, effect, allowed}
use Rattle.model.specs.Tally.{wrapped}
use Rattle.tables.specs.declared.Subject.{Subject}
use Rattle.tables.specs.declared.Object.{Object}
use Rattle.tables.specs.declared.Handle.{Handle}
use Rattle.tables.specs.Records.{subject_entry, object_entry, joins, held, reads_by, no_subject, no_object, no_handle, hands, tables_of}
use Rattle.tables.specs.Records.Laws.{object_there, store_close, slot_low}
use Rattle.tables.specs.Needs.{figure_of}
use Rattle.refusals.specs.Refusing.{Refuses}
use Rattle.tables.specs.Working.{subject_at, object_at, handle_at, Outlives}
use Rattle.handles.specs.Working.{on}
use Rattle.handles.proofs.Opening.{found, none_found}
use Rattle.passes.specs.Working.{demanded_by, spare_by, backed_by}
use Rattle.flows.proofs.Nodes.{demands_as}
use Rattle.passes.proofs.Raising.{true_false}
use Rattle.keeping.proofs.Closing.{mine_is, its_is, end_figure, source_figure, backed_kept}
use Rattle.gatekeeper.specs.declared.Monitor.{Monitor}
use Rattle.gatekeeper.specs.View.{beside, slots, view, Apart, Honest, direct}
use Rattle.gatekeeper.specs.Numbering.{Lift}
use Rattle.gatekeeper.specs.Acting.{Acts, back}
use Rattle.gatekeeper.proofs.Owned.{Long}
use Rattle.gatekeeper.proofs.Lifting.{lift_none}
use Rattle.gatekeeper.proofs.Doing.{found_live, full_held}
use Rattle.gatekeeper.proofs.Acting.{stops, acts_keeps}
use Rattle.gatekeeper.proofs.Storing.{subject_got, object_got, handle_got, closes}
use Rattle.inplace.specs.Bytes.{subjects_in, objects_in, handles_in, Beside}
use Rattle.inplace.specs.Bytes.Laws.{length_objects, length_handles}
use Rattle.quick.specs.Parts.{Whole, monitor_in, tally_in, tried_number, Done, Loose, Settles}
use Rattle.std.specs.Prelude.{Some, Ok, Err}
use Rattle.answers.specs.declared.Granted.TheVariants.{Allowed}
use Rattle.answers.specs.declared.Refusal.{Refusal}
use Rattle.answers.specs.Telling.{number_of}
use Rattle.quick.proofs.Doing.{goes, whole_long, refusing, allowing, settles_by, counted_made, counted_gone}
use Rattle.quick.proofs.Renumbering.{close_ren}

close_is : (s p : ℕ) → decode (direct 11 s p 0 0 0 0) ≡ close s p
unfolding decode
close_is s p = refl

-- a store of what stands there
same_set : {A : Type 0} (l : List A) (i : ℕ) (d x : A) → i < length l → x ≡ get_or l i d → l ≡ set l i x
same_set l i d x h e = ext_get_or d l (set l i x) (sym (length-set l i x)) (λ j k. go j (ℕ_discrete j i))
  where
    go : (j : ℕ) → Dec (j ≡ i) → get_or l j d ≡ get_or (set l i x) j d
    go j (yes q) = ap (λ (n : ℕ). get_or l n d) q ∙ sym e ∙ sym (ap (λ (n : ℕ). get_or (set l i x) n d) q ∙ get_or-set_same l i x d h)
    go j (no n) = sym (get_or-set_other l i j x d n)

module _ (gs : List ℕ) (lg : length gs ≡ 32) (ns sb ob hb nb cs : List ℕ) (fz su s p : ℕ) (w : Whole ns sb ob hb nb cs) (one : su ≡ 1) (x : Subject) (h : Handle) (n : ℕ)
    (ex : x ≡ subject_at s (get_or (subjects_in sb) (s % 32) no_subject)) (eh : h ≡ handle_at s p (get_or (handles_in hb) (s % 32 * 16 + p % 16) no_handle))
    (f : (t : Tables) (s p : ℕ) → Wf t → t.at (subject s) ≡ subject_entry x → t.hand s p ≡ held h → Refuses t (close s p) n × Refuses t (mark s p) n) where
  abbrev m : Monitor
  m = monitor_in gs ns sb ob hb nb fz su

  abbrev c : Call
  c = close s p

  -- it names no object
  lift : Apart m → Lift (objects_in ob) ns c c ns
  lift d = lift_none (objects_in ob) ns (length_objects ob) w.numbers d c (λ ρ σ v l. refl) (λ t i h. h) (λ t. tt)

  g : Long m
  g = whole_long gs lg ns sb ob hb nb cs fz su w

  asked : Wf (slots m) → Refuses (slots m) c n
  asked v = (f (slots m) s p v (subject_got m g s x ex) (handle_got m g s p h eh)).0

  pub close_refused : (v : Refusal) → n ≡ number_of v
      → Done (monitor_in gs ns sb ob hb nb fz su) (tally_in cs) (direct 11 s p 0 0 0 0) (tried_number (Some (Err v))) (monitor_in gs ns sb ob hb nb fz su) (tally_in cs)
  close_refused v z = refusing gs lg ns sb ob hb nb cs fz su w one (direct 11 s p 0 0 0 0) c c (close_is s p) lift v
      (λ firm. stops {e = v} {r = back m v} (subst (Refuses (slots m) c) z (asked firm.wf)) refl)

  -- ── it is left ──
  module _ (z : n ≡ 0) (y : Object) (ey : y ≡ object_at h.object (get_or (objects_in ob) (h.object % 64) no_object)) (i : Honest (monitor_in gs ns sb ob hb nb fz su)) where
    at_place : (slots m).hand s p ≡ held h
    at_place = handle_got m g s p h eh

    none_refuses : refusal (slots m) c ≡ none
    none_refuses = goes (asked (i one).1.wf) z

    left : ((k : Held) → (slots m).hand s p ≡ some k → Loose (slots m) s k → (effect (slots m) c).at (object k.to) ≡ (slots m).at (object k.to) → ⊥)
        → Settles (view m) (decode (direct 11 s p 0 0 0 0)) 0
    left f = settles_by gs lg ns sb ob hb nb cs fz su w one (direct 11 s p 0 0 0 0) c c (close_is s p) lift i 0 (λ ρ σ v l long. close_ren ρ σ v l (slots m) long s p 0 (record {
      refusing = λ k q l. absurd (none-ne-some k (sym none_refuses ∙ q));
      opening = λ d s' o p' e. let q : ◌≡◌ {A = ℕ} 0 1 = cc in absurd (omega arith);
      closing = λ s' p' k e q there loose stays. (let a : s' ≡ s = cc in let b : p' ≡ p = cc in
          absurd (f k (subst₂ (λ (x v : ℕ). (slots m).hand x v ≡ some k) a b there) (subst (λ (x : ℕ). Loose (slots m) x k) a loose) stays));
    }))

    -- the handle at the place
    module _ (k : Held) (there : (slots m).hand s p ≡ some k) where
      standing : (slots m).hand s p ≡ some (joins h)
      standing = at_place ∙ full_held h k (sym at_place ∙ there)

      same_handle : k ≡ joins h
      same_handle = some-injective k (joins h) (sym there ∙ standing)

      its_ends : Ends (slots m) s p (joins h)
      its_ends = (i one).1.wf.ends s p (joins h) standing

      low_o : h.object < 64
      low_o = slot_low (beside m) m.subjects m.objects m.handles g.objects (slots m) h.object refl its_ends.to

    abbrev mine : ℕ
    mine = get_or nb (s % 32) 0

    abbrev its : ℕ
    its = get_or nb (32 + h.object % 64) 0

    abbrev quiet_test : Bool
    quiet_test = spare_by (coded (cond (reads_by h.way) mine its)) (coded (cond (reads_by h.way) its mine)) (backed_by h y)

    -- what the ends tell is what the quick test asks
    module _ (e : Ends (slots m) s p (joins h)) where
      lower : h.object < 64
      lower = slot_low (beside m) m.subjects m.objects m.handles g.objects (slots m) h.object refl e.to

      own_is : coded mine ≡ needs (slots m) (subject s)
      own_is = mine_is nb (slots m) s p h e (i one).2 lower

      other_is : coded its ≡ needs (slots m) (object h.object)
      other_is = its_is nb (slots m) s p h e (i one).2 lower

      asks : demand (object h.object) ((slots m).at (object h.object)) ≡ demanded_by y
      asks = ap (demand (object h.object)) (object_got m g h.object y ey) ∙ demands_as h.object y

      by_loose : Loose (slots m) s (joins h) → quiet_test ≡ true
      by_loose = go (reads_by h.way)
        where
          go : (r : Bool) → T (spare_by (needs (slots m) (arc (cond r reading writing) (subject s) (object h.object)).dst) (needs (slots m) (arc (cond r reading writing) (subject s) (object h.object)).src)
              (elim (cond r reading writing) as (λ _. Label) [ reading ↦ demand (object h.object) ((slots m).at (object h.object)) | writing ↦ bot ]))
              → spare_by (coded (cond r mine its)) (coded (cond r its mine)) (cond r (demanded_by y) bot) ≡ true
          go true z = is_true (spare_by (coded mine) (coded its) (demanded_by y)) (rw (own_is, other_is, sym asks) z)
          go false z = is_true (spare_by (coded its) (coded mine) bot) (rw (own_is, other_is) z)

    pub close_loud : spare_by (coded (cond (reads_by h.way) (get_or nb (s % 32) 0) (get_or nb (32 + h.object % 64) 0)))
        (coded (cond (reads_by h.way) (get_or nb (32 + h.object % 64) 0) (get_or nb (s % 32) 0))) (backed_by h y) ≡ false
        → Settles (view (monitor_in gs ns sb ob hb nb fz su)) (decode (direct 11 s p 0 0 0 0)) 0
    close_loud q = left (λ k there loose stays. true_false (sym (by_loose (its_ends k there) (subst (Loose (slots m) s) (same_handle k there) loose)) ∙ q))

    -- no other handle is on a pipe: it ends
    module _ (at : ℕ) (ea : at ≡ s % 32 * 16 + p % 16) (alone : (y.kind < 2) ⊎ Beside (handles_in hb) h.object at → ⊥) (k : Held) (there : (slots m).hand s p ≡ some k) where
      hs_after : List Handle
      hs_after = set (handles_in hb) (s % 32 * 16 + p % 16) no_handle

      none_on : (j : ℕ) → j < 512 → on (get_or hs_after j no_handle) h.object ≡ false
      unfolding hs_after
      none_on j l = go (ℕ_discrete j (s % 32 * 16 + p % 16))
        where
          off : (b : Bool) → on (get_or (handles_in hb) j no_handle) h.object ≡ b → (j ≡ at → ⊥) → on (get_or (handles_in hb) j no_handle) h.object ≡ false
          off true q ne = absurd (alone (inr (record { index = j; below = l; apart = ne; is_on = q })))
          off false q ne = q

          go : Dec (j ≡ s % 32 * 16 + p % 16) → on (get_or (set (handles_in hb) (s % 32 * 16 + p % 16) no_handle) j no_handle) h.object ≡ false
          go (yes q) = ap (λ (f : Handle). on f h.object) (ap (λ (i : ℕ). get_or (set (handles_in hb) (s % 32 * 16 + p % 16) no_handle) i no_handle) q
              ∙ get_or-set_same (handles_in hb) (s % 32 * 16 + p % 16) no_handle no_handle (omega (arith, length_handles hb)))
          go (no q) = ap (λ (f : Handle). on f h.object) (get_or-set_other (handles_in hb) (s % 32 * 16 + p % 16) j no_handle no_handle q)
              ∙ off (on (get_or (handles_in hb) j no_handle) h.object) refl (λ r. q (r ∙ ea))

      record_is : y ≡ get_or (objects_in ob) (h.object % 64) no_object
      record_is = ey ∙ ap (λ (b : Bool). cond b (get_or (objects_in ob) (h.object % 64) no_object) no_object) (lt-ltb h.object 64 (low_o k there))

      gone : Outlives hs_after y h.object no_object
      gone = record { is = rw (le-ltb y.kind 2 (pipe_kind (dec_lt y.kind 2)), sym (none_found hs_after h.object none_on)) }
        where
          pipe_kind : Dec (y.kind < 2) → 2 ≤ y.kind
          pipe_kind (yes l) = absurd (alone (inl l))
          pipe_kind (no l) = omega arith

      ends_it : (effect (slots m) c).at (object h.object) ≡ none
      unfolding effect hs_after
      ends_it = ap (λ (u : Tables). u.at (object h.object))
          (sym (store_close (beside m) m.subjects m.objects m.handles s p h.object (joins h) no_handle no_object g.objects g.handles
          (ltb→lt s 32 (live_of (slots m) (subject s) (its_ends k there).from).0) (its_ends k there).place (low_o k there) (standing k there) refl
          (subst (λ (o : Object). Outlives hs_after o h.object no_object) record_is gone)))
          ∙ object_there (beside m) m.subjects (set m.objects (h.object % 64) no_object) hs_after h.object (length-set m.objects (h.object % 64) no_object ∙ g.objects)
          ∙ ap (λ (o : Object). object_entry (object_at h.object o)) (get_or-set_same m.objects (h.object % 64) no_object no_object (omega (arith, g.objects)))
          ∙ none_there (ltb h.object 64)
        where
          none_there : (b : Bool) → object_entry (cond b no_object no_object) ≡ none
          none_there true = refl
          none_there false = refl

      ended_not : (effect (slots m) c).at (object k.to) ≡ (slots m).at (object k.to) → ⊥
      ended_not stays = let q = subst (λ (j : Held). (effect (slots m) c).at (object j.to) ≡ (slots m).at (object j.to)) (same_handle k there) stays in
          let v = live_entry (slots m) h.object (its_ends k there).to in none-ne-some v.0 (sym ends_it ∙ q ∙ v.1)

    pub close_ended : (at : ℕ) → at ≡ s % 32 * 16 + p % 16 → ((y.kind < 2) ⊎ Beside (handles_in hb) h.object at → ⊥)
        → Settles (view (monitor_in gs ns sb ob hb nb fz su)) (decode (direct 11 s p 0 0 0 0)) 0
    close_ended at ea alone = left (λ k there loose. ended_not at ea alone k there)

  -- the object outlives the handle, and no need changes
  module _ (z : n ≡ 0) (y : Object) (ey : y ≡ object_at h.object (get_or (objects_in ob) (h.object % 64) no_object))
      (quiet : spare_by (coded (cond (reads_by h.way) (get_or nb (s % 32) 0) (get_or nb (32 + h.object % 64) 0)))
      (coded (cond (reads_by h.way) (get_or nb (32 + h.object % 64) 0) (get_or nb (s % 32) 0))) (backed_by h y) ≡ true)
      (at : ℕ) (ea : at ≡ s % 32 * 16 + p % 16) (out : (y.kind < 2) ⊎ Beside (handles_in hb) h.object at) where
    hs : List Handle
    hs = set (handles_in hb) (s % 32 * 16 + p % 16) no_handle

    outlives : Outlives hs y h.object y
    unfolding hs
    outlives = record { is = go (dec_lt y.kind 2) out }
      where
        go : Dec (y.kind < 2) → (y.kind < 2) ⊎ Beside (handles_in hb) h.object at → y ≡ cond (ltb y.kind 2) y (cond (open_on (handles (with_hand empty (hands hs))) h.object) y no_object)
        go (yes l) v = rw (lt-ltb y.kind 2 l)
        go (no k) (inl l) = absurd (k l)
        go (no k) (inr b) = rw (le-ltb y.kind 2 (omega arith), sym (found hs h.object b.index b.below still))
          where
            still : on (get_or hs b.index no_handle) h.object ≡ true
            still = ap (λ (j : Handle). on j h.object) (get_or-set_other (handles_in hb) (s % 32 * 16 + p % 16) b.index no_handle no_handle (λ q. b.apart (q ∙ sym ea))) ∙ b.is_on

    -- the quick test, on the figures of the two ends
    kept : (rest : Tables) (ss : List Subject) (t : Tables) (p : ℕ) → Wf t → t.hand s p ≡ some (joins h) → tables_of rest ss (objects_in ob) hs ≡ apply (hold s p none) t
        → Ready t (figure_of nb) → Ready (tables_of rest ss (objects_in ob) hs) (figure_of nb)
    kept rest ss t p v j q k = backed_kept rest ss (objects_in ob) hs (length_objects ob) nb t s p h v j k q y ey
        (subst₂ (λ (a b : ℕ). spare_by (coded a) (coded b) (backed_by h y) ≡ true) (end_figure nb h s refl refl refl refl) (source_figure nb h s refl refl refl refl) quiet)

    acted : (hb' : List ℕ) → handles_in hb' ≡ set (handles_in hb) (s % 32 * 16 + p % 16) no_handle → Wf (slots m) → Acts m c (allowed x.level) (monitor_in gs ns sb ob hb' nb fz su)
    unfolding hs
    acted hb' put v = subst (λ (l : List Handle). Acts m c (allowed x.level) (record { numbers = ns; subjects = subjects_in sb; objects = objects_in ob; handles = l; freeze = fz; needs = nb; groups = gs; sure = su }))
        (sym put)
        (closes m g s p x h y y (objects_in ob) hs nb v free (subject_got m g s x ex) there ey refl outlives
        (same_set (objects_in ob) (h.object % 64) no_object y (omega (arith, length_objects ob)) (ey ∙ ap (λ (b : Bool). cond b (get_or (objects_in ob) (h.object % 64) no_object) no_object) (lt-ltb h.object 64 low)))
        (λ rest t p k. kept rest m.subjects t p))
      where
        there : (slots m).hand s p ≡ held h
        there = handle_got m g s p h eh

        free : refusal (slots m) c ≡ none
        free = goes (asked v) z

        low : h.object < 64
        low = slot_low (beside m) m.subjects m.objects m.handles g.objects (slots m) h.object refl (found_live (slots m) v c s p h free (inr (inl refl)) there)

    pub close_done : (hb' cs' : List ℕ) → handles_in hb' ≡ set (handles_in hb) (s % 32 * 16 + p % 16) no_handle
        → cs' ≡ set (set cs 0 (wrapped (get_or cs 0 0 + 0))) 1 (wrapped (get_or cs 1 0 + 1)) → x.level < 256
        → Done (monitor_in gs ns sb ob hb nb fz su) (tally_in cs) (direct 11 s p 0 0 0 0) (tried_number (Some (Ok (Allowed x.level)))) (monitor_in gs ns sb ob hb' nb fz su) (tally_in cs')
    close_done hb' cs' put count = allowing gs lg ns sb ob hb nb cs fz su w one (direct 11 s p 0 0 0 0) c c (close_is s p) lift x.level hb' cs' (λ firm. acted hb' put firm.wf) (λ v. acts_keeps v (acted hb' put v))
        (λ t. ap (λ (l : List ℕ). get_or l 0 0) count ∙ counted_made cs w.counts _ _) (λ t. ap (λ (l : List ℕ). get_or l 1 0) count ∙ counted_gone cs w.counts _ _)
