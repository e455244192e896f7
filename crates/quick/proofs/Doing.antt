-- A call on a sure monitor that is refused, and one that is allowed and counts one handle: by number, from what holds by slot; what was done is settled. Assumes nothing.
use mathlib.Core.Path.{◌≡◌, refl, sym, ◌∙◌, ap, subst, subst₂}
use mathlib.Core.Logic.{inl}
use mathlib.Core.List.{List}
use mathlib.Core.Bool.{Bool, true, false}
use mathlib.Core.Option.{Option, none, some}
use Rattle.model.specs.Lists.{In}
use Prim.Native.Nat.{ℕ, ◌+◌, ◌*◌, ◌<◌}
use native.Mathlib.Omega.{arith}
use lib.ListN.{length, get_or, set, length-set}
use lib.Seq.{get_or-set_same, get_or-set_other}
use Rattle.model.specs.Tables.{Tables, clean}
use Rattle.model.specs.Calls.{Call, Raw, decode, tests, first, breaks, refusal, refused, allowed, answer}
use Rattle.refusals.specs.Refusing.{Refuses, Refused, Late, late}
use Rattle.model.specs.Calls.{Answer as Told}
use Rattle.model.proofs.Calls.Refusals.{answered_refused}
use Rattle.model.proofs.Calls.Renaming.{Renumbers, call, ren}
use Rattle.model.specs.Invariant.{Wf}
use Rattle.model.proofs.Invariant.Laws.{clean_same}
use Rattle.model.specs.Promise.{Meets}
use Rattle.model.specs.Tally.{makes, removes, wrapped}
use Rattle.tables.specs.declared.Object.{Object}
use Rattle.gatekeeper.specs.declared.Monitor.{Monitor}
use Rattle.std.specs.Prelude.{Some, Ok, Err}
use Rattle.answers.specs.declared.Granted.TheVariants.{Allowed}
use Rattle.answers.specs.declared.Refusal.{Refusal}
use Rattle.answers.specs.declared.Refusal.TheVariants.{UnknownCode, NoSubject, NumberTaken, NoObject, IsPipe, LevelTooHigh, PlaceUnfit, WrongDirection, Flow, StillOpen, RecordBroken, Frozen, SameSubject, TooManyObjects}
use Rattle.answers.specs.Telling.{Answered, number_of, told, letter_of, value_of, lost_of}
use Rattle.gatekeeper.specs.View.{slots, numbers_of, once, view, Apart, Honest, Tidy, monitors}
use Rattle.gatekeeper.specs.Numbering.{Lift}
use Rattle.gatekeeper.specs.Acting.{Firm, Acts, Keeps, settled}
use Rattle.gatekeeper.proofs.Owned.{Long}
use Rattle.gatekeeper.proofs.Keeping.{read_wf}
use Rattle.gatekeeper.proofs.Numbered.{once_long, single_same, once_same, Made, meets, view_slots}
use Rattle.gatekeeper.proofs.Telling.{view_read}
use Rattle.tally.specs.declared.Tally.{Tally}
use Rattle.tally.specs.Counting.{counts_of}
use Rattle.tally.proofs.Counting.{tally_same, tally_moved}
use Rattle.inplace.specs.Bytes.{objects_in}
use Rattle.inplace.specs.Bytes.Laws.{length_subjects, length_objects, length_handles}
use Rattle.quick.specs.Parts.{Whole, monitor_in, tally_in, tried_number, Done, Settles, Tried}

never : {X : Type 0} {l k : ℕ} → ◌≡◌ {A = Told} (allowed l) (refused k) → X
never e = let z : ◌≡◌ {A = ℕ} 0 1 = cc in absurd (omega arith)

-- each refusal's number fits into a byte
number_small : (e : Refusal) → number_of e < 256
number_small UnknownCode = omega arith
number_small NoSubject = omega arith
number_small NumberTaken = omega arith
number_small NoObject = omega arith
number_small IsPipe = omega arith
number_small LevelTooHigh = omega arith
number_small PlaceUnfit = omega arith
number_small WrongDirection = omega arith
number_small Flow = omega arith
number_small StillOpen = omega arith
number_small RecordBroken = omega arith
number_small Frozen = omega arith
number_small SameSubject = omega arith
number_small TooManyObjects = omega arith

-- no row over records refuses: what is left are the late rows; and nothing does
pub waits : {t : Tables} {c : Call} {n : ℕ} → Refuses t c n → n ≡ 0 → Refuses t c 0
waits {t} {c} z h = subst (Refuses t c) h z

pub goes : {t : Tables} {c : Call} {n : ℕ} → Refuses t c n → n ≡ 0 → refusal t c ≡ first t (tests c) late
goes z h = (waits z h).said

-- by what the tests of the late rows come to
then : Bool → ℕ → Option ℕ → Option ℕ
then b n o = elim b as (λ _. Option ℕ) [ true ↦ some n | false ↦ o ]

pub frozen_late : {t : Tables} {c : Call} → Refuses t c 0 → breaks t 15 (tests c) ≡ true → Refused t c 15
unfolding then
frozen_late {t} {c} z e = record { is = z.said ∙ ap (λ (b : Bool). then b 15 (then (breaks t 9 (tests c)) 9 (then (breaks t 10 (tests c)) 10 none))) e }

pub none_late : {t : Tables} {c : Call} → Refuses t c 0 → Late t c false false false → Refused t c 0
unfolding then
none_late {t} {c} z l = record { is = z.said ∙ (λ i. then (l.fifteen i) 15 (then (l.nine i) 9 (then (l.ten i) 10 none))) }

-- the parts' arrays have their lengths
pub whole_long : (gs : List ℕ) → length gs ≡ 32 → (ns sb ob hb nb cs : List ℕ) (fz su : ℕ) → Whole ns sb ob hb nb cs → Long (monitor_in gs ns sb ob hb nb fz su)
whole_long gs lg ns sb ob hb nb cs fz su w = record { subjects = length_subjects sb; objects = length_objects ob; handles = length_handles hb; needs = w.needs; groups = lg }

-- call c by number is call k by slot
module _ (gs : List ℕ) (lg : length gs ≡ 32) (ns sb ob hb nb cs : List ℕ) (fz su : ℕ) (w : Whole ns sb ob hb nb cs) (one : su ≡ 1) (r : Raw) (c k : Call) (is : decode r ≡ c)
    (L : Apart (monitor_in gs ns sb ob hb nb fz su) → Lift (objects_in ob) ns c k ns) where
  abbrev m : Monitor
  m = monitor_in gs ns sb ob hb nb fz su

  long : length m.objects ≡ 64
  long = length_objects ob

  read : Wf (clean (slots (once m)))
  read = read_wf (once m) (once_long m (whole_long gs lg ns sb ob hb nb cs fz su w))

  -- what holds by slot holds by number: a sure monitor is readied as it stands
  module _ (a : Answered) (n : Monitor) (ln : length n.objects ≡ 64) (acts : Firm (monitor_in gs ns sb ob hb nb fz su) → Acts (monitor_in gs ns sb ob hb nb fz su) k (told a) n)
      (keeps : Wf (slots (monitor_in gs ns sb ob hb nb fz su)) → Keeps (monitor_in gs ns sb ob hb nb fz su) k n) where
    made : Tidy m → Made (once m) m c k (record { monitor = n; answer = a })
    made h = let x = h one in let o = single_same m long x.0 in record {
      tables = λ v. sym (ap (λ (y : Monitor). clean (slots y)) (once_same m long x.0) ∙ clean_same (slots m) x.1);
      needs = refl;
      sure = refl;
      objects = λ v. sym o;
      lift = λ d v. subst (λ (os : List Object). Lift os ns c k ns) (sym o) (L x.0);
      acts = λ firm room. acts firm;
      keeps = λ v room. keeps v;
    }

    by_slot : (settled m (record { monitor = n; answer = a })).monitor ≡ n → Meets monitors m (decode r) (told a) n
    by_slot e = subst₂ (λ (d : Call) (x : Monitor). Meets monitors m d (told a) x) (sym is) e
        (meets m m c k (record { monitor = n; answer = a }) long ln read made (settled m (record { monitor = n; answer = a })) refl)

  -- a refusal leaves all as it was
  module _ (e : Refusal) (z : Firm (monitor_in gs ns sb ob hb nb fz su) → Acts (monitor_in gs ns sb ob hb nb fz su) k (refused (number_of e)) (monitor_in gs ns sb ob hb nb fz su)) where
    refused_meets : Meets monitors m (decode r) (refused (number_of e)) m
    refused_meets = by_slot (Err e) m long z (λ v. record { whole = v; kept = λ h. h; says = refl; numbered = refl; came = λ i u. inl u }) refl

    pub refusing : Done (monitor_in gs ns sb ob hb nb fz su) (tally_in cs) r (tried_number (Some (Err e))) (monitor_in gs ns sb ob hb nb fz su) (tally_in cs)
    refusing = record {
      answer = refused (number_of e);
      number = refl;
      small = number_small e;
      meets = refused_meets;
      counts = record {
        same = λ i v. refl;
        counts = λ h. tally_same (refused (number_of e)) (clean (view m)) (decode r) (counts_of (tally_in cs)) (refused_meets.answered h) refl;
      };
    }

  -- a call that is allowed; hb' are the handles after it, and cs' the counts
  module _ (l : ℕ) (hb' cs' : List ℕ) (z : Firm (monitor_in gs ns sb ob hb nb fz su) → Acts (monitor_in gs ns sb ob hb nb fz su) k (allowed l) (monitor_in gs ns sb ob hb' nb fz su))
      (y : Wf (slots (monitor_in gs ns sb ob hb nb fz su)) → Keeps (monitor_in gs ns sb ob hb nb fz su) k (monitor_in gs ns sb ob hb' nb fz su))
      (made : (t : Tables) → get_or cs' 0 0 ≡ wrapped (get_or cs 0 0 + makes t c)) (gone : (t : Tables) → get_or cs' 1 0 ≡ wrapped (get_or cs 1 0 + removes t c)) where
    allowed_meets : Meets monitors m (decode r) (allowed l) (monitor_in gs ns sb ob hb' nb fz su)
    allowed_meets = by_slot (Ok (Allowed l)) (monitor_in gs ns sb ob hb' nb fz su) (length_objects ob) z y refl

    pub allowing : l < 256 → Done (monitor_in gs ns sb ob hb nb fz su) (tally_in cs) r (tried_number (Some (Ok (Allowed l)))) (monitor_in gs ns sb ob hb' nb fz su) (tally_in cs')
    allowing b = record {
      answer = allowed l;
      number = refl;
      small = b;
      meets = allowed_meets;
      counts = record {
        same = λ i v. never v;
        counts = λ h. tally_moved (allowed l) (clean (view m)) (decode r) (counts_of (tally_in cs)) (get_or cs' 0 0) (get_or cs' 1 0) (allowed_meets.answered h) refl
            (subst (λ (d : Call). get_or cs' 0 0 ≡ wrapped (get_or cs 0 0 + makes (clean (view m)) d)) (sym is) (made (clean (view m))))
            (subst (λ (d : Call). get_or cs' 1 0 ≡ wrapped (get_or cs 1 0 + removes (clean (view m)) d)) (sym is) (gone (clean (view m))));
      };
    }

  -- the tables of a sure and honest monitor are those by slot, renumbered
  module _ (h : Honest (monitor_in gs ns sb ob hb nb fz su)) where
    lift : Lift (objects_in ob) ns c k ns
    lift = L (h one).0

    seen : (view m ≡ ren lift.ρ lift.σ lift.one_to_one (numbers_of m) (slots m)) × (length (numbers_of m) ≡ length (slots m).numbers)
    seen = view_slots m long (h one).0 (h one).1.wf lift.ρ lift.σ lift.one_to_one lift.names

    -- what is settled by slot is settled by number
    pub settles_by : (n : ℕ) → ((ρ σ : ℕ → ℕ) (v : Renumbers ρ σ) (l : List ℕ) → length l ≡ length (slots (monitor_in gs ns sb ob hb nb fz su)).numbers
        → Settles (ren ρ σ v l (slots (monitor_in gs ns sb ob hb nb fz su))) (call ρ σ v l k) n)
        → Settles (view (monitor_in gs ns sb ob hb nb fz su)) (decode r) n
    settles_by n f = subst₂ (λ (t : Tables) (d : Call). Settles t d n) (sym seen.0) (lift.call_is (numbers_of m) ∙ sym is)
        (f lift.ρ lift.σ lift.one_to_one (numbers_of m) seen.1)

-- what was done is settled: its number is the answer's
pub done_settles : (m : Monitor) {y y' : Tally} {m' : Monitor} {r : Raw} {n : ℕ} → Long m → Honest m → 0 < n → Done m y r n m' y' → Settles (view m) (decode r) n
done_settles m {r = r} g h l d = record {
  refusing = λ k q z. d.number ∙ ap (λ (a : Told). 65536 * lost_of a + 256 * letter_of a + value_of a)
      (d.meets.answered h ∙ ap (λ (u : Tables). answer u (decode r)) (view_read m g.objects (read_wf (once m) (once_long m g))) ∙ (answered_refused (view m) (decode r) k).1 q);
  opening = λ d s o p e f g. l;
  closing = λ s p k e f g i j. l;
}

-- ── a call that was tried ──
-- done, and left
module _ (codes : List ℕ) {ns sb ob hb nb cs : List ℕ} {fz su : ℕ} {r : Raw} where
  pub tried_done : {n : ℕ} {hb' cs' : List ℕ} → Whole ns sb ob hb nb cs → 0 < n
      → ((gs : List ℕ) → length gs ≡ 32 → Done (monitor_in gs ns sb ob hb nb fz su) (tally_in cs) r n (monitor_in gs ns sb ob hb' nb fz su) (tally_in cs'))
      → Tried codes ns sb ob hb nb cs fz su r n hb' cs'
  tried_done w l d gs lg = (
    λ k. (w, d gs lg),
    λ e. absurd (omega (arith, l)),
    λ i v one h. done_settles (monitor_in gs ns sb ob hb nb fz su) (whole_long gs lg ns sb ob hb nb cs fz su w) h l (d gs lg),
  )

  pub tried_left : ((gs : List ℕ) → length gs ≡ 32 → In r.code codes → su ≡ 1 → Honest (monitor_in gs ns sb ob hb nb fz su) → Settles (view (monitor_in gs ns sb ob hb nb fz su)) (decode r) 0)
      → Tried codes ns sb ob hb nb cs fz su r 0 hb cs
  tried_left f gs lg = (λ l. absurd (omega arith), λ e. (refl, refl), λ i w one h. f gs lg i one h)

-- the parts as arrays are the parts as they came
pub record Same (ns sb ob hb nb cs ns' sb' ob' hb' nb' cs' : List ℕ) : Type 0 where
  pub numbers : ns' ≡ ns
  pub subjects : sb' ≡ sb
  pub objects : ob' ≡ ob
  pub handles : hb' ≡ hb
  pub needs : nb' ≡ nb
  pub counts : cs' ≡ cs

pub as_arrays : (codes : List ℕ) {ns sb ob hb nb cs ns' sb' ob' hb' nb' cs' hb'' cs'' : List ℕ} {fz su n : ℕ} {r : Raw} → Same ns sb ob hb nb cs ns' sb' ob' hb' nb' cs'
    → Whole ns sb ob hb nb cs → (Whole ns' sb' ob' hb' nb' cs' → Tried codes ns' sb' ob' hb' nb' cs' fz su r n hb'' cs'')
    → Tried codes ns sb ob hb nb cs fz su r n hb'' cs''
as_arrays codes {ns} {sb} {ob} {hb} {nb} {cs} {ns'} {sb'} {ob'} {hb'} {nb'} {cs'} {hb''} {cs''} {fz} {su} {n} {r} e w f =
    subst (λ (l : List ℕ). Tried codes l sb ob hb nb cs fz su r n hb'' cs'') e.numbers
    (subst (λ (l : List ℕ). Tried codes ns' l ob hb nb cs fz su r n hb'' cs'') e.subjects
    (subst (λ (l : List ℕ). Tried codes ns' sb' l hb nb cs fz su r n hb'' cs'') e.objects
    (subst (λ (l : List ℕ). Tried codes ns' sb' ob' l nb cs fz su r n hb'' cs'') e.handles
    (subst (λ (l : List ℕ). Tried codes ns' sb' ob' hb' l cs fz su r n hb'' cs'') e.needs
    (subst (λ (l : List ℕ). Tried codes ns' sb' ob' hb' nb' l fz su r n hb'' cs'') e.counts (f whole))))))
  where
    whole : Whole ns' sb' ob' hb' nb' cs'
    whole = record {
      numbers = ap length e.numbers ∙ w.numbers;
      subjects = ap length e.subjects ∙ w.subjects;
      objects = ap length e.objects ∙ w.objects;
      handles = ap length e.handles ∙ w.handles;
      needs = ap length e.needs ∙ w.needs;
      counts = ap length e.counts ∙ w.counts;
    }

-- ── the counts ──
module _ (cs : List ℕ) (long : length cs ≡ 2) (v u : ℕ) where
  pub counted_made : get_or (set (set cs 0 v) 1 u) 0 0 ≡ v
  counted_made = get_or-set_other (set cs 0 v) 1 0 u 0 (λ e. omega arith) ∙ get_or-set_same cs 0 v 0 (omega (arith, long))

  pub counted_gone : get_or (set (set cs 0 v) 1 u) 1 0 ≡ u
  counted_gone = get_or-set_same (set cs 0 v) 1 u 0 (omega (arith, long, length-set cs 0 v))
