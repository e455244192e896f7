-- Laws of the state's bytes. In order: records of bytes; numbers; the bytes of a monitor and a tally are read back; the empty state. Assumes
-- nothing.
use Rattle.std.specs.Prelude.{◌≡◌, Bool, true, false, not, ◌&&◌, ◌||◌, cond, T, ltb, eqb, take, set}
use Rattle.std.proofs.Math.Path.{refl, sym, ap, ap₂, fun_ext}
use Rattle.std.proofs.Common.{◌∙◌, subst, arith, lt-ltb, ne_eqb, ltb-false, take_at, drop_at, drop-drop, get_or-drop}
use Rattle.std.proofs.Math.Bool.{or-false}
use Rattle.std.proofs.Math.Option.{Option, none}
use mathlib.Core.List.{List, [], ◌∷◌, ◌++◌, map, append_assoc, append-nil}
use Prim.Native.Nat.{ℕ, zero, suc, ◌+◌, ◌*◌, ◌/◌, ◌^◌, ◌<◌}
use Rattle.std.proofs.Math.Decide.{dec_lt}
use Rattle.std.proofs.Math.Nat.{mul-zero, mul-suc}
use Rattle.std.proofs.Math.ListN.{length, drop, get_or, replicate, length-append, get_or-map, get_or-eq_default}
use Rattle.std.proofs.lemmas.List.{length-replicate, get_or-replicate, length-map, set_at}
use Rattle.model.specs.Flow.{Thing, subject, object}
use Rattle.model.specs.Tables.{Tables, no_freeze, empty, clean, with_at, with_hand, with_freeze, with_numbers, with_kin, subjects, objects, places}
use Rattle.model.specs.Invariant.{Wf}
use Rattle.model.proofs.Invariant.Laws.{clean_same, empty_wf}
use Rattle.model.specs.Figures.{Ready}
use Rattle.model.proofs.Figures.Laws.{empty_ready}
use Rattle.tables.specs.Needs.{figure_of}
use Rattle.model.specs.Tally.{zeroed}
use Rattle.model.specs.Tables.{Handle as Held}
use Rattle.tables.specs.declared.Subject.{Subject}
use Rattle.tables.specs.declared.Object.{Object}
use Rattle.tables.specs.declared.Handle.{Handle}
use Rattle.gatekeeper.specs.declared.Monitor.{Monitor}
use Rattle.tally.specs.declared.Tally.{Tally}
use Rattle.tables.specs.Records.{subject_entry, object_entry, held, no_subject, no_object, no_handle, entries, tables_of}
use Rattle.tables.specs.Records.Laws.{empty_tables}
use Rattle.model.specs.Lists.{each, keep, inserts}
use Rattle.model.specs.Tables.Numbers.{by_number}
use Rattle.tables.specs.Working.{some_below}
use Rattle.tables.specs.Slots.{slot_used, repeated, singled, single}
use Rattle.gatekeeper.specs.View.{used_slots, slots, called, straight_view, once, view, Right, Whole}
use Rattle.groups.specs.Groups.{stands, kin_of}
use Rattle.groups.specs.Groups.Laws.{kin_live}
use Rattle.gatekeeper.proofs.Numbered.{empty_view}
use Rattle.tally.specs.Counting.{counts_of}
use Rattle.stored.specs.Widths.{length_digits}
use Rattle.stored.specs.State.{state_bytes, subject_width, object_width, handle_width, objects_at, handles_at, made_at, gone_at, freeze_at, needs_at, numbers_at, groups_at, byte_width, need_width, number_width}
use Rattle.stored.specs.State.{records, flat, live_of, sort_of, kinds, ways, live_byte, sort_byte, subject_of, subject_record, object_of, object_record}
use Rattle.stored.specs.State.{handle_of, handle_record, byte_of, byte_record, whole, digits}
use Rattle.stored.specs.State.{subjects_of, objects_of, handles_of, made_of, gone_of, freeze_of, needs_of, numbers_of, groups_of, monitor_of, tally_of}
use Rattle.stored.specs.State.{subject_bytes, object_bytes, handle_bytes, need_bytes, number_bytes, group_bytes, Narrow, bytes_of, blank_bytes, state_view, state_right, Blank}

-- ── records of bytes ──
module _ {A : Type 0} (f : List ℕ → A) (w : ℕ) where
  pub length_records : (n : ℕ) (s : List ℕ) → length (records f w n s) ≡ n
  unfolding records
  length_records zero s = refl
  length_records (suc n) s = ap suc (length_records n (drop w s))

  pub getD_records : (n : ℕ) (s : List ℕ) (j : ℕ) (d : A) → j < n → get_or (records f w n s) j d ≡ f (take w (drop (w * j) s))
  unfolding records
  getD_records zero s j d h = absurd (omega arith)
  getD_records (suc n) s zero d h = rw mul-zero
  getD_records (suc n) s (suc j) d h =
      let next : w + w * j ≡ w * suc j = omega (arith, mul-suc w j) in
      getD_records n (drop w s) j d (omega arith)
      ∙ ap (λ (t : List ℕ). f (take w t)) (drop-drop (w * j) w s ∙ ap (λ (k : ℕ). drop k s) next)

module _ {A : Type 0} (g : A → List ℕ) where
  pub flat_append : (l k : List A) → flat g (l ++ k) ≡ flat g l ++ flat g k
  unfolding flat
  flat_append [] k = refl
  flat_append (x ∷ l) k = ap (λ (t : List ℕ). g x ++ t) (flat_append l k) ∙ sym (append_assoc (g x) (flat g l) (flat g k))

  -- records that are stored as the same bytes
  pub flat_map : (k : A → A) → ((x : A) → g (k x) ≡ g x) → (l : List A) → flat g (map k l) ≡ flat g l
  unfolding flat
  flat_map k e [] = refl
  flat_map k e (x ∷ l) = λ i. e x i ++ flat_map k e l i

  module _ (w : ℕ) (wide : (x : A) → length (g x) ≡ w) where
    pub length_flat : (l : List A) → length (flat g l) ≡ w * length l
    unfolding flat
    length_flat [] = sym (mul-zero w)
    length_flat (x ∷ l) = omega (arith, length-append (g x) (flat g l), wide x, length_flat l, mul-suc w (length l))

    -- what was stored is loaded, as the record that its bytes stand for
    pub records_flat : (f : List ℕ → A) (l : List A) (t : List ℕ) → records f w (length l) (flat g l ++ t) ≡ map (λ x. f (g x)) l
    unfolding records flat
    records_flat f [] t = refl
    records_flat f (x ∷ l) t =
        let s = flat g l ++ t in
        ap (λ (q : List ℕ). f (take w q) ∷ records f w (length l) (drop w q)) (append_assoc (g x) (flat g l) t)
        ∙ ap₂ (λ (p q : List ℕ). f p ∷ records f w (length l) q) (take_at (g x) s w (wide x)) (drop_at (g x) s w (wide x))
        ∙ ap (λ (q : List A). f (g x) ∷ q) (records_flat f l t)

-- ── numbers ──
pub whole_digits : (k n : ℕ) → n < 256 ^ k → whole (digits k n) ≡ n
unfolding whole digits
whole_digits zero n h = omega arith
whole_digits (suc k) n h = let r : whole (digits k (n / 256)) ≡ n / 256 = whole_digits k (n / 256) (omega arith) in omega arith

-- ── read back ──
-- the arrays have the lengths of the struct's
pub record Long (m : Monitor) : Type 0 where
  pub subjects : length m.subjects ≡ 32
  pub objects : length m.objects ≡ 64
  pub handles : length m.handles ≡ 512
  pub needs : length m.needs ≡ 96
  pub numbers : length m.numbers ≡ 64
  pub groups : length m.groups ≡ 32

-- its labels and its numbers fit into the bytes of each
pub record Slim (m : Monitor) : Type 0 where
  pub needs : Narrow 16 m.needs
  pub numbers : Narrow 64 m.numbers

pub narrow_of : (w : ℕ) (l : List ℕ) → ((j : ℕ) → j < length l → get_or l j 0 < 2 ^ w) → Narrow w l
narrow_of w [] h = tt
narrow_of w (n ∷ l) h = (h 0 (omega arith), narrow_of w l (λ j k. h (suc j) (omega arith)))

-- both counts are 64 bits wide
pub record Fits (y : Tally) : Type 0 where
  pub made : y.made < 2 ^ 64
  pub gone : y.gone < 2 ^ 64

-- ── records as they are stored ──
abbrev plain_subject : Subject → Subject
plain_subject x = subject_of (subject_record x)

abbrev plain_object : Object → Object
plain_object x = object_of (object_record x)

abbrev plain_handle : Handle → Handle
plain_handle x = handle_of (handle_record x)

-- by the two ways in which such a byte is stored
live_cases : {A : Type 0} (f : ℕ → A) (g : Bool → A) → f 0 ≡ g true → f 1 ≡ g false → (n : ℕ) → f (live_byte n) ≡ g (eqb n 0)
live_cases f g a b n = go (eqb n 0)
  where
    go : (t : Bool) → f (cond t 0 1) ≡ g t
    go true = a
    go false = b

-- it is stored as the same byte again
live_same : (n : ℕ) → live_byte (live_of (live_byte n)) ≡ live_byte n
live_same = live_cases (λ k. live_byte (live_of k)) (λ t. cond t 0 1) refl refl

sort_same : (k n : ℕ) → 2 < k → sort_byte k (sort_of k (sort_byte k n)) ≡ sort_byte k n
sort_same k n l = go (ltb n k) refl
  where
    go : (b : Bool) → ltb n k ≡ b → sort_byte k (sort_of k (cond b n 2)) ≡ cond b n 2
    go true q = rw (q, q)
    go false q = rw (lt-ltb 2 k l, lt-ltb 2 k l)

-- and tests that tables are read by see no other value
live_tested : (n : ℕ) → eqb (live_of (live_byte n)) 0 ≡ eqb n 0
live_tested = live_cases (λ k. eqb (live_of k) 0) (λ t. t) refl refl

sort_tested : (k v n : ℕ) → 2 < k → v < k → (v ≡ 2 → ⊥) → eqb (sort_of k (sort_byte k n)) v ≡ eqb n v
sort_tested k v n l lv ne = go (ltb n k) refl
  where
    go : (b : Bool) → ltb n k ≡ b → eqb (sort_of k (cond b n 2)) v ≡ eqb n v
    go true q = rw q
    go false q = rw (lt-ltb 2 k l, ne_eqb 2 v (λ e. ne (sym e)), ne_eqb n v (λ e. omega (arith, ltb-false n k q)))

subject_same : (x : Subject) → subject_entry (plain_subject x) ≡ subject_entry x
subject_same x = rw (live_tested x.live)

object_same : (x : Object) → object_entry (plain_object x) ≡ object_entry x
object_same x = rw (sort_tested kinds 0 x.kind (omega arith) (omega arith) (λ e. omega arith), sort_tested kinds 1 x.kind (omega arith) (omega arith) (λ e. omega arith))

handle_same : (x : Handle) → held (plain_handle x) ≡ held x
handle_same x = rw (tested 0 (omega arith) (λ e. omega arith), tested 1 (omega arith) (λ e. omega arith), tested 3 (omega arith) (λ e. omega arith), live_tested x.mark)
  where
    tested : (v : ℕ) → v < ways → (v ≡ 2 → ⊥) → eqb (sort_of ways (sort_byte ways x.way)) v ≡ eqb x.way v
    tested v l ne = sort_tested ways v x.way (omega arith) l ne

abbrev plain : Monitor → Monitor
plain m = record {
  numbers = m.numbers;
  subjects = map plain_subject m.subjects;
  objects = map plain_object m.objects;
  handles = map plain_handle m.handles;
  freeze = m.freeze;
  needs = m.needs;
  groups = m.groups;
  sure = 0;
}

-- a slot is in use or not, as before
used_same : (os : List Object) (i : ℕ) → slot_used (map plain_object os) i ≡ slot_used os i
used_same os i = ap (λ (y : Object). not (eqb y.kind 0)) (get_or-map plain_object os i no_object)
    ∙ ap not (sort_tested kinds 0 (get_or os i no_object).kind (omega arith) (omega arith) (λ e. omega arith))

used_slots_same : (os : List Object) → used_slots (map plain_object os) ≡ used_slots os
used_slots_same os = ap₂ (λ (n : ℕ) (f : ℕ → Bool). each n (λ i. keep (f i) i [])) (length-map os plain_object) (fun_ext (used_same os))

-- and so it is the same slots that count
singled_map : (f : ℕ → Bool) (i : ℕ) (os : List Object) → singled f i (map plain_object os) ≡ map plain_object (singled f i os)
singled_map f i [] = refl
singled_map f i (x ∷ l) = ap₂ (λ (y : Object) (k : List Object). y ∷ k) (go (f i)) (singled_map f (suc i) l)
  where
    go : (b : Bool) → cond b no_object (plain_object x) ≡ plain_object (cond b no_object x)
    go true = refl
    go false = refl

single_map : (os : List Object) (ns : List ℕ) → single (map plain_object os) ns ≡ map plain_object (single os ns)
single_map os ns = ap (λ (f : ℕ → Bool). singled (λ i. f i && some_below i (λ j. f j && eqb (get_or ns j 0) (get_or ns i 0))) 0 (map plain_object os)) (fun_ext (used_same os))
    ∙ singled_map (repeated os ns) 0 os

once_plain : (m : Monitor) → once (plain m) ≡ plain (once m)
once_plain m = ap (λ (os : List Object). record {
  numbers = m.numbers;
  subjects = map plain_subject m.subjects;
  objects = os;
  handles = map plain_handle m.handles;
  freeze = m.freeze;
  needs = m.needs;
  groups = m.groups;
  sure = 0;
}) (single_map m.objects m.numbers)

-- the same subjects are live, and so the groups are the same
kin_plain : (ss : List Subject) (gs : List ℕ) → kin_of (map plain_subject ss) gs ≡ kin_of ss gs
kin_plain ss gs = kin_live ss (map plain_subject ss) gs same
  where
    same : (a : ℕ) → stands (map plain_subject ss) a ≡ stands ss a
    same a = ap (λ (x : Subject). not (eqb x.live 0)) (get_or-map plain_subject ss a no_subject) ∙ ap not (live_tested (get_or ss a no_subject).live)

-- the tables by slot
plain_slots : (m : Monitor) → slots (plain m) ≡ slots m
unfolding tables_of
plain_slots m = λ i. with_hand (with_at (with_kin (with_numbers (with_freeze empty m.freeze) (used_slots_same m.objects i)) (kin_plain m.subjects m.groups i)) (fun_ext at i))
    (fun_ext (λ s. fun_ext (λ p. place s p)) i)
  where
    place : (s p : ℕ) → cond (ltb p places) (held (get_or (map plain_handle m.handles) (s * 16 + p) no_handle)) none ≡ cond (ltb p places) (held (get_or m.handles (s * 16 + p) no_handle)) none
    place s p = ap (λ (v : Option Held). cond (ltb p places) v none)
        (ap held (get_or-map plain_handle m.handles (s * 16 + p) no_handle) ∙ handle_same (get_or m.handles (s * 16 + p) no_handle))

    at : (x : Thing) → entries (map plain_subject m.subjects) (map plain_object m.objects) x ≡ entries m.subjects m.objects x
    at (subject n) = ap subject_entry (get_or-map plain_subject m.subjects n no_subject) ∙ subject_same (get_or m.subjects n no_subject)
    at (object n) = ap object_entry (get_or-map plain_object m.objects n no_object) ∙ object_same (get_or m.objects n no_object)

-- and by number
plain_straight : (m : Monitor) → straight_view (plain m) ≡ straight_view m
unfolding straight_view
plain_straight m = λ i. by_number (fun_ext (used_same m.objects) i) (called m) (clean (plain_slots m i)) 64 (inserts (map (called m) (used_slots_same m.objects i)) [])

plain_view : (m : Monitor) → view (plain m) ≡ view m
plain_view m = ap straight_view (once_plain m) ∙ plain_straight (once m)

plain_right : (m : Monitor) → Right m → Right (plain m)
plain_right m r = subst (λ (t : Tables). Ready (clean t) (figure_of m.needs)) (sym (ap slots (once_plain m) ∙ plain_slots (once m))) r

plain_whole : (m : Monitor) → Whole m → Whole (plain m)
plain_whole m h = (λ i j l k u v e. h.0 i j l k (subst T (used_same m.objects i) u) (subst T (used_same m.objects j) v) e, subst Wf (sym (plain_slots m)) h.1)

plain_bytes : (m : Monitor) (y : Tally) → bytes_of (plain m) y ≡ bytes_of m y
unfolding bytes_of subject_bytes object_bytes handle_bytes
plain_bytes m y = λ i. flat_map subject_record plain_subject (λ x. ap (λ (n : ℕ). n ∷ drop 1 (subject_record x)) (live_same x.live)) m.subjects i
    ++ flat_map object_record plain_object (λ x. ap (λ (n : ℕ). n ∷ drop 1 (object_record x)) (sort_same kinds x.kind (omega arith))) m.objects i
    ++ flat_map handle_record plain_handle (λ x. ap₂ (λ (n k : ℕ). n ∷ x.object ∷ k ∷ []) (sort_same ways x.way (omega arith)) (live_same x.mark))
    m.handles i
    ++ digits 8 y.made ++ digits 8 y.gone ++ (m.freeze ∷ []) ++ need_bytes m.needs ++ number_bytes m.numbers ++ group_bytes m.groups

-- a byte is stored as it is
pub as_they_are : (l : List ℕ) → map (λ n. byte_of (byte_record n)) l ≡ l
as_they_are [] = refl
as_they_are (n ∷ l) = ap (λ (t : List ℕ). n ∷ t) (as_they_are l)

-- and a number of w bits as k bytes
numbers_as_they_are : (k w : ℕ) → 2 ^ w ≡ 256 ^ k → (l : List ℕ) → Narrow w l → map (λ n. whole (digits k n)) l ≡ l
numbers_as_they_are k w e [] h = refl
numbers_as_they_are k w e (n ∷ l) h = ap₂ (λ (j : ℕ) (t : List ℕ). j ∷ t) (whole_digits k n (subst (λ (j : ℕ). n < j) e h.0)) (numbers_as_they_are k w e l h.1)

-- p stands at index n, and t after it
module _ (n m : ℕ) (s p t : List ℕ) (e : drop n s ≡ p ++ t) (h : length p ≡ m) where
  front : take m (drop n s) ≡ p
  front = ap (take m) e ∙ take_at p t m h

  behind : drop (n + m) s ≡ t
  behind = sym (drop-drop m n s) ∙ ap (drop m) e ∙ drop_at p t m h

-- bytes that are stored as they are: so many of them, and read back
pub bytes_count : (l : List ℕ) (n : ℕ) → length l ≡ n → length (flat byte_record l) ≡ byte_width * n
bytes_count l n h = length_flat byte_record byte_width (λ x. refl) l ∙ ap (λ (k : ℕ). byte_width * k) h

pub bytes_back : (l : List ℕ) (n : ℕ) (t : List ℕ) → length l ≡ n → records byte_of byte_width n (flat byte_record l ++ t) ≡ l
bytes_back l n t h = ap (λ (k : ℕ). records byte_of byte_width k (flat byte_record l ++ t)) (sym h) ∙ records_flat byte_record byte_width (λ x. refl) byte_of l t ∙ as_they_are l

-- and numbers of w bits that are stored as k bytes each
pub numbers_stored : (k : ℕ) (l : List ℕ) (n : ℕ) → length l ≡ n → length (flat (digits k) l) ≡ k * n
numbers_stored k l n h = length_flat (digits k) k (length_digits k) l ∙ ap (λ (j : ℕ). k * j) h

pub numbers_loaded : (k w : ℕ) → 2 ^ w ≡ 256 ^ k → (l : List ℕ) (n : ℕ) (t : List ℕ) → length l ≡ n → Narrow w l → records whole k n (flat (digits k) l ++ t) ≡ l
numbers_loaded k w e l n t h f = ap (λ (j : ℕ). records whole k j (flat (digits k) l ++ t)) (sym h) ∙ records_flat (digits k) k (length_digits k) whole l t ∙ numbers_as_they_are k w e l f

module _ (m : Monitor) (y : Tally) (long : Long m) where
  abbrev s : List ℕ
  s = bytes_of m y

  abbrev after_needs : List ℕ
  after_needs = number_bytes m.numbers ++ group_bytes m.groups

  abbrev last : List ℕ
  last = m.freeze ∷ (need_bytes m.needs ++ after_needs)

  abbrev after_made : List ℕ
  after_made = digits 8 y.gone ++ last

  abbrev numbers : List ℕ
  numbers = digits 8 y.made ++ after_made

  abbrev after_objects : List ℕ
  after_objects = handle_bytes m.handles ++ numbers

  pub subjects_count : length (subject_bytes m.subjects) ≡ objects_at
  unfolding subject_bytes
  subjects_count = omega (arith, length_flat subject_record subject_width (λ x. refl) m.subjects, long.subjects)

  pub objects_count : length (object_bytes m.objects) ≡ object_width * objects
  unfolding object_bytes
  objects_count = omega (arith, length_flat object_record object_width (λ x. refl) m.objects, long.objects)

  pub handles_count : length (handle_bytes m.handles) ≡ handle_width * (subjects * places)
  unfolding handle_bytes
  handles_count = omega (arith, length_flat handle_record handle_width (λ x. refl) m.handles, long.handles)

  pub needs_count : length (need_bytes m.needs) ≡ need_width * (subjects + objects)
  unfolding need_bytes
  needs_count = numbers_stored need_width m.needs (subjects + objects) long.needs

  pub numbers_count : length (number_bytes m.numbers) ≡ number_width * objects
  unfolding number_bytes
  numbers_count = numbers_stored number_width m.numbers objects long.numbers

  pub groups_count : length (group_bytes m.groups) ≡ byte_width * subjects
  unfolding group_bytes
  groups_count = bytes_count m.groups subjects long.groups

  from_0 : drop 0 s ≡ subject_bytes m.subjects ++ (object_bytes m.objects ++ after_objects)
  unfolding bytes_of
  from_0 = simp append_assoc

  from_objects : drop objects_at s ≡ object_bytes m.objects ++ after_objects
  from_objects = behind 0 objects_at s (subject_bytes m.subjects) (object_bytes m.objects ++ after_objects) from_0 subjects_count

  from_handles : drop handles_at s ≡ after_objects
  from_handles = behind objects_at (object_width * objects) s (object_bytes m.objects) after_objects from_objects objects_count

  from_made : drop made_at s ≡ numbers
  from_made = behind handles_at (handle_width * (subjects * places)) s (handle_bytes m.handles) numbers from_handles handles_count

  from_gone : drop gone_at s ≡ after_made
  from_gone = behind made_at 8 s (digits 8 y.made) after_made from_made (length_digits 8 y.made)

  from_freeze : drop freeze_at s ≡ last
  from_freeze = behind gone_at 8 s (digits 8 y.gone) last from_gone (length_digits 8 y.gone)

  from_needs : drop needs_at s ≡ need_bytes m.needs ++ after_needs
  from_needs = behind freeze_at 1 s (m.freeze ∷ []) (need_bytes m.needs ++ after_needs) from_freeze refl

  from_numbers : drop numbers_at s ≡ after_needs
  from_numbers = behind needs_at (need_width * (subjects + objects)) s (need_bytes m.needs) after_needs from_needs needs_count

  from_groups : drop groups_at s ≡ group_bytes m.groups
  from_groups = behind numbers_at (number_width * objects) s (number_bytes m.numbers) (group_bytes m.groups) from_numbers numbers_count

  -- the bytes of a monitor and a tally have the length of a state
  pub bytes_length : length (bytes_of m y) ≡ state_bytes
  bytes_length = omega (
    arith,
    ap length from_0,
    length-append (subject_bytes m.subjects) (object_bytes m.objects ++ after_objects),
    length-append (object_bytes m.objects) after_objects,
    length-append (handle_bytes m.handles) numbers,
    length-append (digits 8 y.made) after_made,
    length-append (digits 8 y.gone) last,
    subjects_count,
    objects_count,
    handles_count,
    length-append (need_bytes m.needs) after_needs,
    length-append (number_bytes m.numbers) (group_bytes m.groups),
    needs_count,
    numbers_count,
    groups_count,
    length_digits 8 y.made,
    length_digits 8 y.gone,
  )

  subjects_back : subjects_of s ≡ map plain_subject m.subjects
  unfolding subjects_of subject_bytes
  subjects_back = ap₂ (records subject_of subject_width) (sym long.subjects) from_0
      ∙ records_flat subject_record subject_width (λ x. refl) subject_of m.subjects (object_bytes m.objects ++ after_objects)

  objects_back : objects_of s ≡ map plain_object m.objects
  unfolding objects_of object_bytes
  objects_back = ap₂ (records object_of object_width) (sym long.objects) from_objects
      ∙ records_flat object_record object_width (λ x. refl) object_of m.objects after_objects

  handles_back : handles_of s ≡ map plain_handle m.handles
  unfolding handles_of handle_bytes
  handles_back = ap₂ (records handle_of handle_width) (sym long.handles) from_handles
      ∙ records_flat handle_record handle_width (λ x. refl) handle_of m.handles numbers

  freeze_back : freeze_of s ≡ m.freeze
  unfolding freeze_of
  freeze_back = sym (get_or-drop freeze_at s 0 0) ∙ ap (λ (l : List ℕ). get_or l 0 0) from_freeze

  -- and the kept needs and the numbers, as they are
  needs_back : Narrow 16 m.needs → needs_of (bytes_of m y) ≡ m.needs
  unfolding needs_of need_bytes
  needs_back h = ap (records whole need_width (subjects + objects)) from_needs ∙ numbers_loaded need_width 16 refl m.needs (subjects + objects) after_needs long.needs h

  numbers_back : Narrow 64 m.numbers → numbers_of (bytes_of m y) ≡ m.numbers
  unfolding numbers_of number_bytes
  numbers_back h = ap (records whole number_width objects) from_numbers ∙ numbers_loaded number_width 64 refl m.numbers objects (group_bytes m.groups) long.numbers h

  -- and the groups
  groups_back : groups_of (bytes_of m y) ≡ m.groups
  unfolding groups_of group_bytes
  groups_back = ap (records byte_of byte_width subjects) (from_groups ∙ sym (append-nil (group_bytes m.groups))) ∙ bytes_back m.groups subjects [] long.groups

  monitor_back : Slim m → monitor_of (bytes_of m y) ≡ plain m
  monitor_back h = λ i. record {
    numbers = numbers_back h.numbers i;
    subjects = subjects_back i;
    objects = objects_back i;
    handles = handles_back i;
    freeze = freeze_back i;
    needs = needs_back h.needs i;
    groups = groups_back i;
    sure = 0;
  }

  -- a monitor's bytes stand for its tables, and keep needs that are right where it did
  pub view_back : Slim m → view (monitor_of (bytes_of m y)) ≡ view m
  view_back h = ap view (monitor_back h) ∙ plain_view m

  pub right_back : Slim m → Right m → Right (monitor_of (bytes_of m y))
  right_back h r = subst Right (sym (monitor_back h)) (plain_right m r)

  pub whole_back : Slim m → Whole m → Whole (monitor_of (bytes_of m y))
  whole_back h w = subst Whole (sym (monitor_back h)) (plain_whole m w)

  made_back : y.made < 2 ^ 64 → made_of s ≡ y.made
  unfolding made_of
  made_back h = ap whole (front made_at 8 s (digits 8 y.made) after_made from_made (length_digits 8 y.made))
      ∙ whole_digits 8 y.made h

  gone_back : y.gone < 2 ^ 64 → gone_of s ≡ y.gone
  unfolding gone_of
  gone_back h = ap whole (front gone_at 8 s (digits 8 y.gone) last from_gone (length_digits 8 y.gone))
      ∙ whole_digits 8 y.gone h

  -- and a tally's too
  pub tally_back : Fits y → tally_of (bytes_of m y) ≡ y
  tally_back h = ap₂ (λ (a b : ℕ). record { made = a; gone = b }) (made_back h.made) (gone_back h.gone)

  -- and are those of what is read back
  pub bytes_again : Slim m → Fits y → bytes_of m y ≡ bytes_of (monitor_of (bytes_of m y)) (tally_of (bytes_of m y))
  bytes_again k h = sym (ap₂ bytes_of (monitor_back k) (tally_back h) ∙ plain_bytes m y)

-- ── the empty state ──
-- zeros, and the freeze set last
pub zeros_set : (s : List ℕ) → s ≡ replicate state_bytes 0 → set s freeze_at no_freeze ≡ blank_bytes
unfolding blank_bytes
zeros_set s z = ap (λ (l : List ℕ). set l freeze_at no_freeze) z
    ∙ set_at (replicate freeze_at 0) 0 (replicate (need_width * (subjects + objects) + number_width * objects + subjects) 0) no_freeze freeze_at (length-replicate {A = ℕ} freeze_at 0)

-- where no subject is live, each is by itself
kin_none : (gs : List ℕ) → kin_of (replicate 32 no_subject) gs ≡ eqb
kin_none gs = fun_ext (λ a. fun_ext (λ b. ap (λ (p : Bool). eqb a b || (p && (stands (replicate 32 no_subject) b && eqb (get_or gs a 0) (get_or gs b 0)))) (gone a) ∙ or-false (eqb a b)))
  where
    gone : (a : ℕ) → stands (replicate 32 no_subject) a ≡ false
    gone a = ap (λ (x : Subject). not (eqb x.live 0)) (go (dec_lt a 32))
      where
        go : Dec (a < 32) → get_or (replicate 32 no_subject) a no_subject ≡ no_subject
        go (yes l) = get_or-replicate 32 a no_subject no_subject l
        go (no h) = get_or-eq_default (replicate 32 no_subject) no_subject {n = a} (omega (arith, length-replicate 32 no_subject))

module _ (s : List ℕ) (z : s ≡ blank_bytes) where
  no_subjects : subjects_of s ≡ replicate 32 no_subject
  unfolding subjects_of records blank_bytes
  no_subjects = ap subjects_of z

  no_objects : objects_of s ≡ replicate 64 no_object
  unfolding objects_of records blank_bytes
  no_objects = ap objects_of z

  no_handles : handles_of s ≡ replicate 512 no_handle
  unfolding handles_of records blank_bytes
  no_handles = ap handles_of z

  unfrozen : freeze_of s ≡ no_freeze
  unfolding freeze_of blank_bytes
  unfrozen = ap freeze_of z

  -- no slot is in use, nothing is frozen, and no two subjects are in one group
  blank_slots : slots (monitor_of s) ≡ empty
  blank_slots = (λ i. tables_of (with_kin (with_numbers (with_freeze empty (unfrozen i)) (used_slots (no_objects i))) (kin_of (no_subjects i) (groups_of s))) (no_subjects i) (no_objects i) (no_handles i))
      ∙ ap (λ (k : ℕ → ℕ → Bool). tables_of (with_kin empty k) (replicate 32 no_subject) (replicate 64 no_object) (replicate 512 no_handle)) (kin_none (groups_of s)) ∙ empty_tables

  blank_view : state_view s ≡ empty
  blank_view = (empty_view (monitor_of s) no_objects blank_slots).1

  -- nothing is live, so every kept need is right
  blank_right : state_right s
  blank_right = subst (λ (m : Monitor). Ready (clean (slots m)) (figure_of (needs_of s))) (sym (empty_view (monitor_of s) no_objects blank_slots).0)
      (subst (λ (t : Tables). Ready t (figure_of (needs_of s))) (sym (ap clean blank_slots ∙ clean_same empty empty_wf)) (empty_ready (figure_of (needs_of s))))

  -- no handle was made, none is gone
  blank_tally : counts_of (tally_of s) ≡ zeroed
  unfolding made_of gone_of whole blank_bytes
  blank_tally = ap (λ (l : List ℕ). counts_of (tally_of l)) z

  blank_length : length s ≡ state_bytes
  unfolding blank_bytes
  blank_length = ap length z ∙ length-append (replicate freeze_at 0) (no_freeze ∷ replicate (need_width * (subjects + objects) + number_width * objects + subjects) 0)
      ∙ ap (λ (k : ℕ). k + (1 + (need_width * (subjects + objects) + number_width * objects + subjects))) (length-replicate {A = ℕ} freeze_at 0)

  pub bytes_blank : Blank s
  bytes_blank = record { size = blank_length; tables = blank_view; right = blank_right; counts = blank_tally }
