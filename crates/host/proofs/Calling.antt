-- What a call leaves in the state's bytes, and what it is answered. Assumes nothing.
use mathlib.Core.Path.{◌≡◌, refl, sym, ap, ap₂, ◌∙◌, subst}
use mathlib.Core.Bool.{Bool, true, false, true≢false}
use mathlib.Core.Option.{some, none-ne-some}
use mathlib.Core.List.{List}
use Prim.Native.Nat.{ℕ}
use native.Mathlib.Omega.{arith}
use borrow.Author.Tests.{eq-eqb, ne_eqb}
use lib.ListN.{length}
use Rattle.model.specs.Tables.{Tables, clean}
use Rattle.model.specs.Calls.{Call, Raw, decode, refusal, Answer, allowed, lowered, refused, answer}
use Rattle.model.proofs.Calls.Refusals.{answered_refused}
use Rattle.model.specs.Promise.{Meets}
use Rattle.model.specs.Tally.{tallied}
use Rattle.gatekeeper.specs.declared.Monitor.{Monitor}
use Rattle.tally.specs.declared.Tally.{Tally}
use Rattle.std.specs.Prelude.{Ok, Err}
use Rattle.std.specs.Result.{is_ok}
use Rattle.answers.specs.declared.Granted.TheVariants.{Allowed, Lowered}
use Rattle.answers.specs.Telling.{Answered, told, letter_of, refuses}
use Rattle.gatekeeper.specs.View.{view, Honest, monitors}
use Rattle.gatekeeper.specs.View.Laws.{honest_tidy}
use Rattle.tally.specs.Counting.{counts_of, Tallies}
use Rattle.stored.specs.State.{state_bytes, Sized, monitor_of, tally_of, Stands, state_view, Stored}
use Rattle.host.specs.Numbers.{answer_number, answer_in, call_number}
use Rattle.host.specs.Demand3.{Called}
use Rattle.host.proofs.Sizing.{state_honest}

-- an answer is one of a call that is not refused, or of one that is
pub granted : (a : Answered) → is_ok a ≡ true → refuses (told a) ≡ false
granted (Ok (Allowed l)) h = refl
granted (Ok (Lowered l k)) h = refl
granted (Err r) h = absurd (cc)

pub denied : (a : Answered) → is_ok a ≡ false → refuses (told a) ≡ true
denied (Ok g) h = absurd (cc)
denied (Err r) h = refl

-- the same, by a test's value b
pub granted_so : (a : Answered) (b : Bool) → b ≡ is_ok a → b ≡ true → refuses (told a) ≡ false
granted_so a b e h = granted a (sym e ∙ h)

pub denied_so : (a : Answered) (b : Bool) → b ≡ is_ok a → b ≡ false → refuses (told a) ≡ true
denied_so a b e h = denied a (sym e ∙ h)

-- and by the answer's letter, of which R is a refusal's
pub granted_by_letter : (a : Answered) (n : ℕ) → n ≡ letter_of (told a) → (n ≡ 82 → ⊥) → refuses (told a) ≡ false
granted_by_letter (Ok (Allowed l)) n e h = refl
granted_by_letter (Ok (Lowered l k)) n e h = refl
granted_by_letter (Err r) n e h = absurd (h e)

pub denied_by_letter : (a : Answered) (n : ℕ) → n ≡ letter_of (told a) → n ≡ 82 → refuses (told a) ≡ true
denied_by_letter (Ok (Allowed l)) n e h = absurd (omega arith)
denied_by_letter (Ok (Lowered l k)) n e h = absurd (omega arith)
denied_by_letter (Err r) n e h = refl

is_refusal : (a : Answer) → refuses a ≡ true → (k : ℕ) × (a ≡ refused k)
is_refusal (allowed l) h = absurd (cc)
is_refusal (lowered l k) h = absurd (cc)
is_refusal (refused k) h = (k, refl)

-- call c was made on the monitor m and the tally y, loaded from the bytes s; it is answered a, and n and z are handed back
pub record Made (s : List ℕ) (c : Call) (m : Monitor) (y : Tally) (a : Answer) (n : Monitor) (z : Tally) : Type 0 where
  pub from_monitor : m ≡ monitor_of s
  pub from_tally : y ≡ tally_of s
  pub meets : Meets monitors m c a n
  pub counts : Tallies m y c a z

pub made : (s : List ℕ) {c : Call} {m : Monitor} {y : Tally} {a : Answer} {n : Monitor} {z : Tally} → m ≡ monitor_of s → y ≡ tally_of s
    → Meets monitors m c a n → Tallies m y c a z → Made s c m y a n z
made s em ey p q = record { from_monitor = em; from_tally = ey; meets = p; counts = q }

module _ {s : List ℕ} {c : Call} {m : Monitor} {y : Tally} {a : Answer} {n : Monitor} {z : Tally} (p : Made s c m y a n z) where
  abbrev t : Tables
  t = clean (state_view s)

  honest_here : Honest m
  honest_here = subst Honest (sym p.from_monitor) (state_honest s)

  answered : a ≡ answer t c
  answered = p.meets.answered honest_here ∙ ap (λ (x : Monitor). answer (clean (view x)) c) p.from_monitor

  call_answered : (n : ℕ) → Sized s → n ≡ answer_number a → n ≡ call_number s c
  unfolding call_number
  call_answered n h e = rw (eq-eqb (length s) state_bytes h) (e ∙ ap answer_number answered)

  meets_here : Meets monitors (monitor_of s) c a n
  meets_here = subst (λ (x : Monitor). Meets monitors x c a n) p.from_monitor p.meets

  -- a refused call leaves every byte
  call_refused : Sized s → refuses a ≡ true → Stored s c s
  unfolding tallied
  call_refused size h =
      let (k, r) = is_refusal a h in
      let q : refusal t c ≡ some k = (answered_refused t c k).0 (sym answered ∙ r) in
      record {
        size = size;
        meets = record { unchanged = λ j w. refl; answered = λ u. refl; moved = λ u w. absurd (none-ne-some k (sym w ∙ q)); emptied = λ u f. absurd (f k (sym answered ∙ r)); stays = λ u. u; neat = λ u. u; says = λ u. refl; kept = λ u r. r };
        counts = rw (q, tallied);
        exact = λ w. absurd (none-ne-some k (sym w ∙ q));
      }

  -- any other leaves the bytes of what was handed back
  call_moved : refuses a ≡ false → {s' : List ℕ} → Stands s' n z → Stored s c s'
  call_moved h k = record {
    size = k.size;
    meets = record {
      unchanged = λ j w. absurd (true≢false (sym (ap refuses (answered ∙ w)) ∙ h));
      answered = λ u. refl;
      moved = λ u w. k.tables ∙ meets_here.moved (state_honest s) w;
      emptied = λ u f. k.whole (meets_here.emptied (honest_tidy (monitor_of s) (state_honest s)) (λ j e. f j (sym answered ∙ e)));
      stays = λ u. u;
      neat = λ u. u;
      says = λ u. refl;
      kept = λ u r. k.right (meets_here.kept (honest_tidy (monitor_of s) (state_honest s)) r);
    };
    counts = ap counts_of k.tally
        ∙ p.counts.counts honest_here
        ∙ ap₂ (λ (x : Monitor) (v : Tally). tallied (clean (view x)) c (counts_of v)) p.from_monitor p.from_tally;
    exact = λ w. k.again;
  }

-- what is returned of a, and read off it
module _ {s : List ℕ} {r : Raw} {m : Monitor} {y : Tally} {a : Answer} {n : Monitor} {z : Tally} {k : ℕ}
    (p : Made s (decode r) m y a n z) (h : Sized s) (number : k ≡ answer_number a) (back : answer_in k ≡ a) where
  called : {s' : List ℕ} → Stored s (decode r) s' → Called s r k s'
  called q = record { returned = call_answered p k h number; told = λ w. back ∙ answered p; stored = λ w. q; other = λ w. absurd (w h) }

  pub called_refused : refuses a ≡ true → {s' : List ℕ} → s' ≡ s → Called s r k s'
  called_refused l {s'} q = subst (Called s r k) (sym q) (called (call_refused p h l))

  pub called_moved : refuses a ≡ false → {s' u : List ℕ} → s' ≡ u → Stands u n z → Called s r k s'
  called_moved l {s'} q w = subst (Called s r k) (sym q) (called (call_moved p l w))

-- bytes of another length
pub called_unsized : (s : List ℕ) (r : Raw) → (Sized s → ⊥) → Called s r 0 s
unfolding call_number
called_unsized s r h = record { returned = rw (ne_eqb (length s) state_bytes h); told = λ w. absurd (h w); stored = λ w. absurd (h w); other = λ w. refl }
