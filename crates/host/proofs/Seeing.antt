-- What a host sees of the lent bytes: the record at a number, the entry or handle that it stands for as a number, and the bytes once their kept needs are
-- put right. Assumes nothing.
use mathlib.Core.Path.{◌≡◌, refl, sym, ap, ap₂, ◌∙◌, subst, subst₂}
use mathlib.Core.Bool.{Bool, true, false, not, ◌&&◌, ◌||◌, cond}
use mathlib.Core.Option.{Option, none, some}
use mathlib.Core.List.{List, [], ◌∷◌, ◌++◌}
use Prim.Native.Nat.{ℕ, zero, suc, ◌+◌, ◌-◌, ◌*◌, ◌/◌, ◌%◌, ◌≤◌, ◌<◌}
use native.Mathlib.Omega.{arith}
use native.Mathlib.Nat.{mul-suc, mul-le-mul_left}
use borrow.Author.Tests.{eq-eqb, ne_eqb}
use lib.Dec.{T, eqb, ltb, ltb→lt}
use lib.ListN.{length, take, drop, get_or, length-take}
use lib.Seq.{take_at, drop_at, drop-drop, take_all, get_or-take, ext_get_or}
use Rattle.std.proofs.Common.{length-drop, drop_of_length-le, append-nil}
use borrow.Rule.Slice.PartMut.{put_mid}
use Rattle.model.specs.Label.{label, level, shops}
use Rattle.model.proofs.Label.Laws.{level_label, shops_label}
use Rattle.model.specs.Lists.{each, keep, from_on}
use Rattle.model.specs.Lists.Rising.{each_of, each_has, each_rising, from_on_is}
use Rattle.model.specs.Flow.{Thing, subject, object}
use Rattle.model.specs.Tables.{running, file, pipe, reading, writing, Entry, entry, Tables, places, in_range, is_some, live, counted, clean, needs}
use Rattle.model.proofs.Tables.Laws.{used_is}
use Rattle.model.proofs.Tables.Laws.{live_of as in_use}
use Rattle.model.specs.Tables.{Handle as Held}
use Rattle.model.specs.Invariant.{Wf}
use Rattle.tables.specs.declared.Subject.{Subject}
use Rattle.tables.specs.declared.Object.{Object}
use Rattle.tables.specs.declared.Handle.{Handle}
use Rattle.model.specs.Tables.Numbers.{holding}
use Rattle.tables.specs.Records.{subject_entry, object_entry, joins, held, no_subject, no_object, no_handle, tables_of}
use Rattle.tables.specs.Records.Laws.{subject_there, object_there, handle_there, slot_low}
use Rattle.tables.specs.Slots.{slot_used, Found, single}
use Rattle.tables.specs.Working.{subject_at, object_at, handle_at}
use Rattle.groups.specs.Groups.{kin_of, Leads}
use Rattle.handles.specs.Working.{kept_of}
use Rattle.handles.proofs.Cleaning.{counted_held, kept_held}
use Rattle.gatekeeper.specs.declared.Monitor.{Monitor}
use Rattle.gatekeeper.specs.View.{beside, slots, called, straight_view, once, view, Right, Righted, KeptAt}
use Rattle.gatekeeper.proofs.Owned.{Long}
use Rattle.gatekeeper.proofs.Keeping.{read_wf, dead, alive}
use Rattle.gatekeeper.proofs.Numbered.{single_long, once_long}
use Rattle.gatekeeper.proofs.Telling.{view_read, told_subject, told_place, told_entry}
use Rattle.stored.specs.State.{state_bytes, Sized, subject_width, object_width, handle_width, byte_width, need_width, number_width, objects_at, handles_at, made_at, gone_at, freeze_at, needs_at, numbers_at, groups_at}
use Rattle.stored.specs.State.{records, live_byte, subject_of, object_of, handle_of, byte_of, whole}
use Rattle.stored.specs.State.{subjects_of, objects_of, handles_of, made_of, gone_of, freeze_of, needs_of, numbers_of, groups_of, monitor_of, tally_of, need_bytes, Narrow, state_view, state_right, PutRight}
use Rattle.stored.specs.State.Laws.{length_records, getD_records, numbers_stored, numbers_loaded}
use Rattle.host.specs.Numbers.{seen_entry, members, seen_group, seen_handle, seen_object, seen_label, SeenNeed}
use Rattle.host.specs.Working.{way_number}
use Rattle.stored.specs.Over.{over}
use Rattle.stored.specs.Over.Laws.{over_length}
use Rattle.stored.proofs.Loading.{bytes_at, bytes_taken, chunk_there}
use Rattle.std.specs.Array.{IsWholeChunk}
use Rattle.std.specs.Simd.{first_chunks}
use Rattle.std.proofs.lemmas.List.{get_or_default}
use Rattle.std.proofs.lemmas.Nat.{le-div}

-- ── the record at a number, from its bytes ──
fits : (w b n j : ℕ) (s : List ℕ) → j < n → b + w * n ≤ length s → b + w * j + w ≤ length s
fits w b n j s h l = omega (arith, mul-suc w j, mul-le-mul_left {m = suc j} {n = n} w (omega arith))

record_in : {A : Type 0} (f : List ℕ → A) (d : A) (w b n j : ℕ) (s : List ℕ) → j < n → b + w * n ≤ length s
    → get_or (records f w n (drop b s)) j d ≡ f (bytes_at w (b + w * j) s)
record_in f d w b n j s h l = getD_records f w n (drop b s) j d h ∙ ap (λ (t : List ℕ). f (take w t)) (drop-drop (w * j) b s)
    ∙ ap f (bytes_taken w (b + w * j) s (fits w b n j s h l))

-- one value, read from the chunk of bytes at its number
pub one_read : {A : Type 0} (f : List ℕ → A) (w n at i : ℕ) (s b : List ℕ) (cs : List (List ℕ)) (y : A) → 0 < w → i < n → at + w * n ≤ state_bytes → Sized s
    → cs ≡ first_chunks w (length (take (state_bytes - at) (drop at s)) / w) (take (state_bytes - at) (drop at s)) → b ≡ get_or cs i b → y ≡ f b
    → (d : A) → y ≡ get_or (records f w n (drop at s)) i d
one_read f w n at i s b cs y pos there room size e q r d =
    let all : take (state_bytes - at) (drop at s) ≡ drop at s = take_all (state_bytes - at) (drop at s) (omega (arith, length-drop at s)) in
    let k = length (drop at s) / w in
    let inside : i < k = omega (arith, le-div n (length (drop at s)) w pos (omega (arith, length-drop at s))) in
    let chunks : cs ≡ first_chunks w k (drop at s) = e ∙ ap (λ (t : List ℕ). first_chunks w (length t / w) t) all in
    let long : i < length cs = omega (arith, ap length chunks, length_chunks w k (drop at s)) in
    r ∙ ap f (q ∙ get_or_default cs i b [] long ∙ ap (λ (c : List (List ℕ)). get_or c i []) chunks ∙ chunk_there w k (drop at s) i inside)
    ∙ sym (getD_records f w n (drop at s) i d there)
  where
    length_chunks : (w k : ℕ) (s : List ℕ) → length (first_chunks w k s) ≡ k
    length_chunks w zero s = refl
    length_chunks w (suc k) s = ap suc (length_chunks w k (drop w s))

module _ (st : List ℕ) (size : Sized st) where
  -- ── the tables at a number ──
  long_subjects : length (subjects_of st) ≡ 32
  unfolding subjects_of
  long_subjects = length_records subject_of subject_width 32 st

  long_objects : length (objects_of st) ≡ 64
  unfolding objects_of
  long_objects = length_records object_of object_width 64 (drop objects_at st)

  long_handles : length (handles_of st) ≡ 512
  unfolding handles_of
  long_handles = length_records handle_of handle_width 512 (drop handles_at st)

  long_needs : length (needs_of st) ≡ 96
  unfolding needs_of
  long_needs = length_records whole need_width 96 (drop needs_at st)

  long_groups : length (groups_of st) ≡ 32
  unfolding groups_of
  long_groups = length_records byte_of byte_width 32 (drop groups_at st)

  abbrev its : Monitor
  its = monitor_of st

  -- the objects that count
  abbrev counting : List Object
  counting = single (objects_of st) (numbers_of st)

  long_once : Long (once its)
  long_once = once_long its (record { subjects = long_subjects; objects = long_objects; handles = long_handles; needs = long_needs; groups = long_groups })

  pub objects_long : length (objects_of st) ≡ 64
  objects_long = long_objects

  pub state_wf : Wf (clean (slots (once (monitor_of st))))
  state_wf = read_wf (once its) long_once

  slot_subject : (s : ℕ) (x : Subject) → x ≡ subject_at s (get_or (subjects_of st) (s % 32) no_subject) → (slots (once its)).at (subject s) ≡ subject_entry x
  slot_subject s x q = subject_there (beside (once its)) its.subjects counting its.handles s long_subjects ∙ ap subject_entry (sym q)

  slot_object : (i : ℕ) (y : Object) → y ≡ object_at i (get_or counting (i % 64) no_object) → (slots (once its)).at (object i) ≡ object_entry y
  slot_object i y q = object_there (beside (once its)) its.subjects counting its.handles i long_once.objects ∙ ap object_entry (sym q)

  pub subject_seen : (s : ℕ) (x : Subject) → x ≡ subject_at s (get_or (subjects_of st) (s % 32) no_subject) → (state_view st).at (subject s) ≡ subject_entry x
  subject_seen s x q = told_subject its s ∙ slot_subject s x q

  pub subject_slot : (s : ℕ) (x : Subject) → x ≡ subject_at s (get_or (subjects_of st) (s % 32) no_subject) → (slots (once (monitor_of st))).at (subject s) ≡ subject_entry x
  subject_slot s x q = slot_subject s x q

  pub object_seen : (o i : ℕ) (y : Object) → Found (single (objects_of st) (numbers_of st)) (numbers_of st) o i
      → y ≡ object_at i (get_or (single (objects_of st) (numbers_of st)) (i % 64) no_object) → (state_view st).at (object o) ≡ object_entry y
  object_seen o i y f q = told_entry its long_objects state_wf o i y f q

  handle_seen : (s p : ℕ) (h : Handle) → h ≡ handle_at s p (get_or (handles_of st) (s % 32 * 16 + p % 16) no_handle) → (slots (once its)).hand s p ≡ held h
  handle_seen s p h q = handle_there (beside (once its)) its.subjects counting its.handles s p long_handles ∙ ap held (sym q)

  -- whether it is live, by its record
  lives : (x : Thing) (free : Bool) (e : Entry) → (slots (once its)).at x ≡ cond free none (some e) → live (slots (once its)) x ≡ not free
  lives x true e q = dead (once its) state_wf x q
  lives x false e q = alive (once its) state_wf x e q

  -- the lowest number in the group of a live subject
  kin_told : (state_view st).kin ≡ kin_of (subjects_of st) (groups_of st)
  unfolding straight_view clean tables_of
  kin_told = refl

  module _ (s : ℕ) (x : Subject) (q : x ≡ subject_at s (get_or (subjects_of st) (s % 32) no_subject)) where
    live_told : live (state_view st) (subject s) ≡ not (eqb x.live 0)
    live_told = ap (λ (b : Bool). in_range (subject s) && b)
        (used_is (state_view st) (subject s) ∙ ap is_some (told_subject its s) ∙ sym (used_is (slots (once its)) (subject s)))
        ∙ lives (subject s) (eqb x.live 0) (entry running (label x.level x.shops)) (slot_subject s x q)

    pub group_none : x.live ≡ 0 → seen_group (state_view st) s ≡ 0
    group_none e = ap (λ (b : Bool). cond b (256 + from_on 0 (members (state_view st) s)) 0) (live_told ∙ ap not (eq-eqb x.live 0 e))

    pub group_lowest : (ld : List ℕ) → (x.live ≡ 0 → ⊥) → Leads (kin_of (subjects_of st) (groups_of st)) ld → seen_group (state_view st) s ≡ 256 + get_or ld (s % 32) 0
    unfolding members
    group_lowest ld n l = ap (λ (b : Bool). cond b (256 + from_on 0 (members (state_view st) s)) 0) here
        ∙ ap (λ (k : ℕ → ℕ → Bool). 256 + from_on 0 (each 32 (λ a. keep (k s a) a []))) kin_told
        ∙ ap (λ (k : ℕ). 256 + k) (least ∙ ap (λ (i : ℕ). get_or ld i 0) same)
      where
        here : live (state_view st) (subject s) ≡ true
        here = live_told ∙ ap not (ne_eqb x.live 0 n)

        low : s < 32
        low = ltb→lt s 32 (in_use (state_view st) (subject s) (subst T (sym here) tt)).0

        same : s ≡ s % 32
        same = omega (arith, low)

        of : ℕ → Bool
        of = kin_of (subjects_of st) (groups_of st) s

        least : from_on 0 (each 32 (λ a. keep (kin_of (subjects_of st) (groups_of st) s a) a [])) ≡ get_or ld s 0
        least = from_on_is 0 (get_or ld s 0) (each 32 (λ a. keep (of a) a [])) (each_rising 32 of) (each_has 32 of (get_or ld s 0) (l.low s low) (l.member s low)) (omega arith)
            (λ a h _. let w = each_of 32 of a h in l.lowest s a low w.0 w.1)

  -- the handle at a place, of a live subject and on a live object
  pub handle_counted : (s p : ℕ) (x : Subject) (h : Handle) (y : Object) → x ≡ subject_at s (get_or (subjects_of st) (s % 32) no_subject)
      → h ≡ handle_at s p (get_or (handles_of st) (s % 32 * 16 + p % 16) no_handle)
      → y ≡ object_at h.object (get_or (single (objects_of st) (numbers_of st)) (h.object % 64) no_object) → (clean (slots (once (monitor_of st)))).hand s p ≡ held (kept_of h x y)
  unfolding clean
  handle_counted s p x h y qx qh qy = ap (counted (ltb p places && live (slots (once its)) (subject s)) (λ o. live (slots (once its)) (object o))) (handle_seen s p h qh)
      ∙ counted_held h (ltb p places && live (slots (once its)) (subject s)) (not (eqb y.kind 0)) (λ o. live (slots (once its)) (object o))
      (lives (object h.object) (eqb y.kind 0) (entry (cond (eqb y.kind 1) file pipe) (label y.level y.shops)) (slot_object h.object y qy))
      ∙ ap (λ (b : Bool). cond (ltb p places && b && not (eqb y.kind 0)) (held h) none)
      (lives (subject s) (eqb x.live 0) (entry running (label x.level x.shops)) (slot_subject s x qx))
      ∙ by_place (ltb p 16) (ltb h.object 64) (eqb x.live 0) refl refl
      ∙ sym (kept_held h (eqb x.live 0) (ltb h.object 64) (eqb y.kind 0))
    where
      -- a place beyond the last holds nothing
      beyond : ltb p 16 ≡ false → held h ≡ none
      beyond e = ap held qh ∙ go (ltb s 32)
        where
          go : (a : Bool) → held (cond a (cond (ltb p 16) (get_or (handles_of st) (s % 32 * 16 + p % 16) no_handle) no_handle) no_handle) ≡ none
          go true = ap (λ (b : Bool). held (cond b (get_or (handles_of st) (s % 32 * 16 + p % 16) no_handle) no_handle)) e
          go false = refl

      -- an object beyond the last is free
      outside : ltb h.object 64 ≡ false → eqb y.kind 0 ≡ true
      outside e = ap (λ (z : Object). eqb z.kind 0) (qy ∙ ap (λ (b : Bool). cond b (get_or counting (h.object % 64) no_object) no_object) e)

      either : (b : Bool) → ◌≡◌ {A = Option Held} (cond b none none) none
      either true = refl
      either false = refl

      by_object : (b a l : Bool) → ltb h.object 64 ≡ a → cond (true && not l && not (eqb y.kind 0)) (held h) none
          ≡ cond (not l && (a && not (eqb y.kind 0))) (held h) none
      by_object b true true e = refl
      by_object b true false e = refl
      by_object b false true e = refl
      by_object b false false e = ap (λ (k : Bool). cond (not k) (held h) none) (outside e)

      by_place : (b a l : Bool) → ltb p 16 ≡ b → ltb h.object 64 ≡ a → cond (b && not l && not (eqb y.kind 0)) (held h) none
          ≡ cond (not l && (a && not (eqb y.kind 0))) (held h) none
      by_place true a l e f = by_object true a l f
      by_place false a l e f = sym (ap (λ (o : Option Held). cond (not l && (a && not (eqb y.kind 0))) o none) (beyond e)
          ∙ either (not l && (a && not (eqb y.kind 0))))

-- ── as numbers ──
-- a label of a kind's number k
seen_kind : (k l s : ℕ) → 65536 * shops (label l s) + k + level (label l s) ≡ 65536 * s + k + l
seen_kind k l s = ap₂ (λ (a b : ℕ). 65536 * a + k + b) (shops_label l s) (level_label l s)

pub seen_subject : (x : Subject) → seen_entry (subject_entry x) ≡ cond (eqb x.live 0) 0 (65536 * x.shops + 256 + x.level)
seen_subject x = go (eqb x.live 0)
  where
    go : (b : Bool) → seen_entry (cond b none (some (entry running (label x.level x.shops)))) ≡ cond b 0 (65536 * x.shops + 256 + x.level)
    go true = refl
    go false = seen_kind 256 x.level x.shops

pub object_number : (y : Object) → seen_entry (object_entry y)
    ≡ cond (eqb y.kind 0) 0 (cond (eqb y.kind 1) (65536 * y.shops + 256 + y.level) (65536 * y.shops + 512 + y.level))
object_number y = go (eqb y.kind 0) (eqb y.kind 1)
  where
    go : (b c : Bool) → seen_entry (cond b none (some (entry (cond c file pipe) (label y.level y.shops))))
        ≡ cond b 0 (cond c (65536 * y.shops + 256 + y.level) (65536 * y.shops + 512 + y.level))
    go true c = refl
    go false true = seen_kind 256 y.level y.shops
    go false false = seen_kind 512 y.level y.shops

-- a kept need, of 16 bits, and its level and its set as they are read off
pub need_seen : (n r : ℕ) → n < 65536 → r ≡ seen_label n → label (r % 256) (r / 65536) ≡ label (n / 256) (n % 256)
need_seen n r h e =
    let high : r % 256 ≡ n / 256 = omega (arith, h, e) in
    let low : r / 65536 ≡ n % 256 = omega (arith, h, e) in
    ap₂ label high low

pub seen_held : (k : Handle) → seen_handle (held k) ≡ cond (eqb k.way 0) 0 (65536 * live_byte k.mark + 256 * way_number k.way)
seen_held k = go (eqb k.way 0) (eqb k.mark 0) (eqb k.way 3) (eqb k.way 1)
  where
    go : (z u v w : Bool)
        → seen_handle (cond z none (some (record { dir = cond (w || v) reading writing; to = k.object; marked = not u; mapped = v })))
        ≡ cond z 0 (65536 * cond u 0 1 + 256 * cond v 3 (cond w 1 2))
    go true u v w = refl
    go false true true w = refl
    go false true false true = refl
    go false true false false = refl
    go false false true w = refl
    go false false false true = refl
    go false false false false = refl

-- what is told of a subject, and of an object, by its record
module _ (st : List ℕ) (size : Sized st) where
  module _ (s : ℕ) (x : Subject) (q : x ≡ subject_at s (get_or (subjects_of st) (s % 32) no_subject)) where
    told : (b : Bool) → eqb x.live 0 ≡ b → seen_entry ((state_view st).at (subject s)) ≡ cond b 0 (65536 * x.shops + 256 + x.level)
    told b e = ap seen_entry (subject_seen st size s x q) ∙ seen_subject x ∙ ap (λ (t : Bool). cond t 0 (65536 * x.shops + 256 + x.level)) e

    pub subject_none : x.live ≡ 0 → 0 ≡ seen_entry ((state_view st).at (subject s))
    subject_none e = sym (told true (eq-eqb x.live 0 e))

    pub subject_some : (x.live ≡ 0 → ⊥) → 65536 * x.shops + 256 + x.level ≡ seen_entry ((state_view st).at (subject s))
    subject_some n = sym (told false (ne_eqb x.live 0 n))

  module _ (o i : ℕ) {os : List Object} {ns : List ℕ} {y : Object} (eo : os ≡ single (objects_of st) (numbers_of st)) (en : ns ≡ numbers_of st) (f : Found os ns o i)
      (q : y ≡ object_at i (get_or os (i % 64) no_object)) where
    shown : (b c : Bool) → eqb y.kind 0 ≡ b → eqb y.kind 1 ≡ c
        → seen_entry ((state_view st).at (object o)) ≡ cond b 0 (cond c (65536 * y.shops + 256 + y.level) (65536 * y.shops + 512 + y.level))
    shown b c e g = ap seen_entry (object_seen st size o i y (subst₂ (λ (x : List Object) (n : List ℕ). Found x n o i) eo en f)
        (q ∙ ap (λ (x : List Object). object_at i (get_or x (i % 64) no_object)) eo))
        ∙ object_number y ∙ ap₂ (λ (u v : Bool). cond u 0 (cond v (65536 * y.shops + 256 + y.level) (65536 * y.shops + 512 + y.level))) e g

    pub object_free : y.kind ≡ 0 → 0 ≡ seen_entry ((state_view st).at (object o))
    object_free e = sym (shown true (eqb y.kind 1) (eq-eqb y.kind 0 e) refl)

    pub object_file : y.kind ≡ 1 → 65536 * y.shops + 256 + y.level ≡ seen_entry ((state_view st).at (object o))
    object_file e = sym (shown false true (ne_eqb y.kind 0 (λ z. omega (arith, e, z))) (eq-eqb y.kind 1 e))

    pub object_pipe : (y.kind ≡ 0 → ⊥) → (y.kind ≡ 1 → ⊥) → 65536 * y.shops + 512 + y.level ≡ seen_entry ((state_view st).at (object o))
    object_pipe n m = sym (shown false false (ne_eqb y.kind 0 n) (ne_eqb y.kind 1 m))

cleaned_at : (t : Tables) (x : Thing) → t.at x ≡ (clean t).at x
unfolding clean
cleaned_at t x = refl

-- a handle k that counts, by slot, and what is told of it by number
module _ (st : List ℕ) (size : Sized st) (s p : ℕ) (k : Handle) (q : held k ≡ (clean (slots (once (monitor_of st)))).hand s p) where
  by_slot : (clean (state_view st)).hand s p ≡ holding (slot_used (single (objects_of st) (numbers_of st))) (called (monitor_of st)) (held k)
  by_slot = ap (λ (t : Tables). t.hand s p) (view_read (monitor_of st) (objects_long st size) (state_wf st size)) ∙ told_place (monitor_of st) s p
      ∙ ap (holding (slot_used (single (objects_of st) (numbers_of st))) (called (monitor_of st))) (sym q)

  handle_told : seen_handle ((clean (state_view st)).hand s p) ≡ cond (eqb k.way 0) 0 (65536 * live_byte k.mark + 256 * way_number k.way)
  handle_told = ap seen_handle by_slot ∙ go (held k) ∙ seen_held k
    where
      go : (o : Option Held) → seen_handle (holding (slot_used (single (objects_of st) (numbers_of st))) (called (monitor_of st)) o) ≡ seen_handle o
      go none = refl
      go (some h) = refl

  pub handle_empty : k.way ≡ 0 → 0 ≡ seen_handle ((clean (state_view st)).hand s p)
  handle_empty e = sym (handle_told ∙ ap (λ (b : Bool). cond b 0 (65536 * live_byte k.mark + 256 * way_number k.way)) (eq-eqb k.way 0 e))

  pub handle_some : (m w : ℕ) → (k.way ≡ 0 → ⊥) → m ≡ live_byte k.mark → w ≡ way_number k.way → 65536 * m + 256 * w + 0 ≡ seen_handle ((clean (state_view st)).hand s p)
  handle_some m w n em ew = (let z : 65536 * m + 256 * w + 0 ≡ 65536 * m + 256 * w = omega arith in z) ∙ ap₂ (λ (u v : ℕ). 65536 * u + 256 * v) em ew
      ∙ sym (handle_told ∙ ap (λ (b : Bool). cond b 0 (65536 * live_byte k.mark + 256 * way_number k.way)) (ne_eqb k.way 0 n))

  pub handle_none : k.way ≡ 0 → seen_object ((clean (state_view st)).hand s p) ≡ 0
  handle_none e = ap seen_object by_slot ∙ ap (λ (b : Bool). seen_object (holding (slot_used (single (objects_of st) (numbers_of st))) (called (monitor_of st)) (cond b none (some (joins k))))) (eq-eqb k.way 0 e)

  pub handle_object : (k.way ≡ 0 → ⊥) → seen_object ((clean (state_view st)).hand s p) ≡ get_or (numbers_of st) (k.object % 64) 0
  handle_object e = ap seen_object by_slot ∙ ap (λ (b : Bool). seen_object (holding (slot_used (single (objects_of st) (numbers_of st))) (called (monitor_of st)) (cond b none (some (joins k))))) (ne_eqb k.way 0 e)
      ∙ ap (λ (j : ℕ). get_or (numbers_of st) j 0) same
    where
      there : (clean (slots (once (monitor_of st)))).hand s p ≡ some (joins k)
      there = sym q ∙ ap (λ (b : Bool). cond b none (some (joins k))) (ne_eqb k.way 0 e)

      low : k.object < 64
      low = slot_low (beside (once (monitor_of st))) (subjects_of st) (single (objects_of st) (numbers_of st)) (handles_of st)
          (single_long (objects_of st) (numbers_of st) ∙ objects_long st size) (clean (slots (once (monitor_of st)))) k.object (cleaned_at (slots (once (monitor_of st))) (object k.object))
          ((state_wf st size).ends s p (joins k) there).to

      same : k.object ≡ k.object % 64
      same = omega (arith, low)

-- what is told of a need, of an array of the bytes s
module _ {s t : List ℕ} (k : IsWholeChunk s t state_bytes) where
  pub subject_right : (n a : ℕ) → (state_right t → label (n % 256) (n / 65536) ≡ needs (clean (state_view t)) (subject a)) → state_right s
      → label (n % 256) (n / 65536) ≡ needs (clean (state_view s)) (subject a)
  subject_right n a f = subst (λ (u : List ℕ). state_right u → label (n % 256) (n / 65536) ≡ needs (clean (state_view u)) (subject a)) k.same f

  pub object_right : (n o : ℕ) → (state_right t → label (n % 256) (n / 65536) ≡ needs (clean (state_view t)) (object o)) → state_right s
      → label (n % 256) (n / 65536) ≡ needs (clean (state_view s)) (object o)
  object_right n o f = subst (λ (u : List ℕ). state_right u → label (n % 256) (n / 65536) ≡ needs (clean (state_view u)) (object o)) k.same f

  pub object_kept : {o n r : ℕ} → KeptAt (monitor_of t) o n → r ≡ seen_label n → SeenNeed s o r
  object_kept {o} {n} {r} a e = (λ _. (n, subst (λ (u : List ℕ). KeptAt (monitor_of u) o n) k.same a, e), λ h. absurd (h k.long))

-- ── kept needs put right ──
-- what stands before index k goes by the bytes before it
bytes_front : (w at k : ℕ) (s : List ℕ) → at + w ≤ k → bytes_at w at (take k s) ≡ bytes_at w at s
bytes_front zero at k s h = refl
bytes_front (suc w) at k s h = ap₂ (λ (a : ℕ) (l : List ℕ). a ∷ l) (get_or-take k s at 0 (omega arith)) (bytes_front w (at + 1) k s (omega arith))

module _ (k : ℕ) (s : List ℕ) (inside : k ≤ length s) where
  taken_long : length (take k s) ≡ k
  taken_long = omega (arith, length-take k s)

  records_front : {A : Type 0} (f : List ℕ → A) (d : A) (w b n : ℕ) → b + w * n ≤ k → records f w n (drop b (take k s)) ≡ records f w n (drop b s)
  records_front f d w b n h = ext_get_or d (records f w n (drop b (take k s))) (records f w n (drop b s))
      (length_records f w n (drop b (take k s)) ∙ sym (length_records f w n (drop b s)))
      (λ j l. at j (omega (arith, length_records f w n (drop b (take k s)))))
    where
      at : (j : ℕ) → j < n → get_or (records f w n (drop b (take k s))) j d ≡ get_or (records f w n (drop b s)) j d
      at j l = record_in f d w b n j (take k s) l (omega (arith, taken_long))
          ∙ ap f (bytes_front w (b + w * j) k s (omega (arith, fits w b n j (take k s) l (omega (arith, taken_long)), taken_long)))
          ∙ sym (record_in f d w b n j s l (omega arith))

  number_front : (at : ℕ) → at + 8 ≤ k → whole (take 8 (drop at (take k s))) ≡ whole (take 8 (drop at s))
  number_front at h = ap whole (bytes_taken 8 at (take k s) (omega (arith, taken_long)) ∙ bytes_front 8 at k s h
      ∙ sym (bytes_taken 8 at s (omega arith)))

-- a monitor with other kept needs
abbrev with_needs : Monitor → List ℕ → Monitor
with_needs x ns = record { numbers = x.numbers; subjects = x.subjects; objects = x.objects; handles = x.handles; freeze = x.freeze; needs = ns; groups = x.groups; sure = x.sure }

view_needs : (x : Monitor) (ns : List ℕ) → view (with_needs x ns) ≡ view x
unfolding straight_view
view_needs x ns = refl

module _ (s s' : List ℕ) (h : Sized s) (h' : Sized s') (e : take needs_at s' ≡ take needs_at s)
    (f : drop numbers_at s' ≡ drop numbers_at s) where
  same_records : {A : Type 0} (f : List ℕ → A) (d : A) (w b n : ℕ) → b + w * n ≤ needs_at → records f w n (drop b s') ≡ records f w n (drop b s)
  same_records f d w b n l = sym (records_front needs_at s' (omega arith) f d w b n l) ∙ ap (λ (t : List ℕ). records f w n (drop b t)) e
      ∙ records_front needs_at s (omega arith) f d w b n l

  same_subjects : subjects_of s' ≡ subjects_of s
  unfolding subjects_of
  same_subjects = same_records subject_of no_subject subject_width 0 32 (omega arith)

  same_objects : objects_of s' ≡ objects_of s
  unfolding objects_of
  same_objects = same_records object_of no_object object_width objects_at 64 (omega arith)

  same_handles : handles_of s' ≡ handles_of s
  unfolding handles_of
  same_handles = same_records handle_of no_handle handle_width handles_at 512 (omega arith)

  same_freeze : freeze_of s' ≡ freeze_of s
  unfolding freeze_of
  same_freeze = sym (get_or-take needs_at s' freeze_at 0 (omega arith)) ∙ ap (λ (t : List ℕ). get_or t freeze_at 0) e ∙ get_or-take needs_at s freeze_at 0 (omega arith)

  same_numbers : numbers_of s' ≡ numbers_of s
  unfolding numbers_of
  same_numbers = ap (records whole number_width 64) f

  -- what stands behind the numbers is behind the needs too
  same_groups : groups_of s' ≡ groups_of s
  unfolding groups_of
  same_groups = ap (records byte_of byte_width 32) (further s' ∙ ap (drop 512) f ∙ sym (further s))
    where
      further : (t : List ℕ) → drop groups_at t ≡ drop 512 (drop numbers_at t)
      further t = sym (drop-drop 512 numbers_at t)

  -- but for the needs
  same_monitor : (ns : List ℕ) → with_needs (monitor_of s') ns ≡ with_needs (monitor_of s) ns
  same_monitor ns = λ i. record { numbers = same_numbers i; subjects = same_subjects i; objects = same_objects i; handles = same_handles i; freeze = same_freeze i; needs = ns; groups = same_groups i; sure = 0 }

  same_view : state_view s' ≡ state_view s
  same_view = sym (view_needs (monitor_of s') []) ∙ ap view (same_monitor []) ∙ view_needs (monitor_of s) []

  same_tally : tally_of s' ≡ tally_of s
  unfolding made_of gone_of
  same_tally = ap₂ (λ (a b : ℕ). record { made = a; gone = b }) (number made_at (omega arith)) (number gone_at (omega arith))
    where
      number : (at : ℕ) → at + 8 ≤ needs_at → whole (take 8 (drop at s')) ≡ whole (take 8 (drop at s))
      number at l = sym (number_front needs_at s' (omega arith) at l) ∙ ap (λ (t : List ℕ). whole (take 8 (drop at t))) e ∙ number_front needs_at s (omega arith) at l

module _ (s ns : List ℕ) (h : Sized s) (long : length ns ≡ 96) where
  pub count : length (need_bytes ns) ≡ 192
  unfolding need_bytes
  count = numbers_stored need_width ns 96 long

  kept_size : Sized (over needs_at (need_bytes ns) s)
  kept_size = over_length needs_at (need_bytes ns) s (omega (arith, count)) ∙ h

  kept_front : take needs_at (over needs_at (need_bytes ns) s) ≡ take needs_at s
  unfolding over
  kept_front = take_at (take needs_at s) _ needs_at (omega (arith, length-take needs_at s))

  kept_behind : drop numbers_at (over needs_at (need_bytes ns) s) ≡ drop numbers_at s
  unfolding over
  kept_behind = (let e : 192 + needs_at ≡ numbers_at = omega arith in ap (λ (k : ℕ). drop k (over needs_at (need_bytes ns) s)) (sym e)) ∙ sym (drop-drop 192 needs_at (over needs_at (need_bytes ns) s))
      ∙ ap (drop 192) (drop_at (take needs_at s) (need_bytes ns ++ drop (needs_at + length (need_bytes ns)) s) needs_at (omega (arith, length-take needs_at s)))
      ∙ drop_at (need_bytes ns) (drop (needs_at + length (need_bytes ns)) s) 192 count
      ∙ (let e : needs_at + length (need_bytes ns) ≡ numbers_at = omega (arith, count) in ap (λ (k : ℕ). drop k s) e)

  kept_needs : Narrow 16 ns → needs_of (over needs_at (need_bytes ns) s) ≡ ns
  unfolding needs_of over need_bytes
  kept_needs f = ap (records whole need_width 96) (drop_at (take needs_at s) _ needs_at (omega (arith, length-take needs_at s))) ∙ numbers_loaded need_width 16 refl ns 96 _ long f

-- bytes stored over the front of what stands from an index on
pub placed : (at k : ℕ) (e s p : List ℕ) → length s ≡ at + k → length e ≤ k → p ≡ over 0 e (take k (drop at s)) → put_mid at k s p ≡ over at e s
unfolding over
placed at k e s p size fits is =
    let all : take k (drop at s) ≡ drop at s = take_all k (drop at s) (omega (arith, length-drop at s)) in
    let none : drop k (drop at s) ≡ [] = drop_of_length-le (drop at s) {i = k} (omega (arith, length-drop at s)) in
    let z : 0 + length e ≡ length e = omega arith in
    ap₂ (λ (x y : List ℕ). take at s ++ (x ++ y)) (is ∙ ap (over 0 e) all) none
    ∙ ap (λ (x : List ℕ). take at s ++ x) (append-nil (e ++ drop (0 + length e) (drop at s)) ∙ ap (λ (x : List ℕ). e ++ x) (ap (λ (j : ℕ). drop j (drop at s)) z ∙ drop-drop (length e) at s))

-- the monitor m was loaded from the bytes s, n is m put right, and its kept needs are stored
pub put_right : (s s' : List ℕ) (m n : Monitor) → Sized s → m ≡ monitor_of s → Righted m n → length n.needs ≡ 96 → Narrow 16 n.needs
    → s' ≡ over needs_at (need_bytes n.needs) s → PutRight s s'
put_right s s' m n h q r l f e = subst (PutRight s) (sym e) (record {
  size = size;
  others = front;
  behind = behind;
  tables = same_view s t h size front behind;
  tally = same_tally s t h size front behind;
  right = subst Right (r.same ∙ ap (λ (x : Monitor). with_needs x n.needs) q ∙ sym (same_monitor s t h size front behind n.needs)
      ∙ ap (with_needs (monitor_of t)) (sym (kept_needs s n.needs h l f))) r.right;
})
  where
    t : List ℕ
    t = over needs_at (need_bytes n.needs) s

    size : Sized t
    size = kept_size s n.needs h l

    front : take needs_at t ≡ take needs_at s
    front = kept_front s n.needs h l

    behind : drop numbers_at t ≡ drop numbers_at s
    behind = kept_behind s n.needs h l
