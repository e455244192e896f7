-- The struct that is told of a call on a monitor: t is the monitor once what dangles in it is emptied, and k the call by slot. Assumes nothing.
use mathlib.Core.Path.{◌≡◌, refl, sym, ◌∙◌, ap, ap₂, subst, subst₂}
use mathlib.Core.Bool.{true, false}
use mathlib.Core.Option.{some}
use mathlib.Core.List.{List}
use Prim.Native.Nat.{ℕ, ◌≤◌, ◌<◌}
use native.Mathlib.Omega.{arith}
use lib.ListN.{length, get_or}
use lib.Dec.{T}
use Rattle.model.specs.Lists.Rising.{at_most, each_rising, each_of}
use Rattle.model.specs.Flow.{object}
use Rattle.model.specs.Tables.{Tables, is_some, clean}
use Rattle.model.specs.Tables.Numbers.{Distinct}
use Rattle.model.specs.Invariant.{Wf, Even}
use Rattle.model.proofs.Invariant.Laws.{clean_same}
use Rattle.model.specs.Calls.{Call, refusal}
use Rattle.model.specs.Calls.{Answer as Told}
use Rattle.model.proofs.Calls.Renaming.{ren, refusal_ren}
use Rattle.model.proofs.Calls.Listed.{Listed}
use Rattle.model.specs.Promise.{Meets}
use Rattle.tables.specs.declared.Object.{Object}
use Rattle.tables.specs.Records.{tables_of}
use Rattle.tables.specs.Slots.{slot_used, single}
use Rattle.gatekeeper.specs.declared.Monitor.{Monitor}
use Rattle.gatekeeper.specs.View.{used_slots, beside, slots, numbers_of, straight_view, view, Apart, Honest, Assured, monitors}
use Rattle.gatekeeper.specs.Numbering.{Lift}
use Rattle.gatekeeper.proofs.Acting.{entry_used, entry_low}
use Rattle.gatekeeper.proofs.Numbered.{view_listed, view_slots, once_apart, once_same, single_long}
use Rattle.ways.specs.declared.Way.{Way}
use Rattle.why.specs.Why.{no_chain, Explains}
use Rattle.why.specs.Working.{Due, DueTells, told_by, nine_in}
use Rattle.why.proofs.Telling.{even_back, some_told, refused_nine, not_nine}

module _ (m t : Monitor) (lm : length m.objects ≡ 64) (h : Assured m t) where
  objects_are : t.objects ≡ single m.objects m.numbers
  objects_are = ap (λ (x : Monitor). x.objects) h.same

  numbers_are : t.numbers ≡ m.numbers
  numbers_are = ap (λ (x : Monitor). x.numbers) h.same

  lt : length t.objects ≡ 64
  lt = ap length objects_are ∙ single_long m.objects m.numbers ∙ lm

  pub apart : Apart t
  apart = subst₂ (λ (os : List Object) (ns : List ℕ). Distinct (slot_used os) (λ i. get_or ns i 0) 64) (sym objects_are) (sym numbers_are) (once_apart m)

  abbrev x : Tables
  x = clean (view m)

  module _ (c k : Call) (ns : List ℕ) (L : Lift t.objects t.numbers c k ns) where
    seen : (view t ≡ ren L.ρ L.σ L.one_to_one (numbers_of t) (slots t)) × (length (numbers_of t) ≡ length (slots t).numbers)
    seen = view_slots t lt apart h.emptied L.ρ L.σ L.one_to_one L.names

    is : x ≡ ren L.ρ L.σ L.one_to_one (numbers_of t) (slots t)
    is = sym h.tables ∙ seen.0

    listed : Listed x
    listed = subst Listed (ap straight_view (sym (once_same t lt apart)) ∙ h.tables)
        (view_listed t lt (subst Wf (sym (clean_same (slots t) h.emptied)) h.emptied) L.ρ L.σ L.one_to_one L.names)

    few : length x.numbers ≤ 64
    unfolding tables_of
    few = subst (λ (n : ℕ). n ≤ 64) (sym (ap (λ (u : Tables). length u.numbers) is ∙ seen.1))
        (at_most (used_slots t.objects) 64 (each_rising (length t.objects) (slot_used t.objects))
        (λ n i. omega (arith, (each_of (length t.objects) (slot_used t.objects) n i).0, lt)))

    names : (o : ℕ) → T (is_some ((slots t).at (object o))) → (o < 64) × (L.ρ o ≡ get_or t.numbers o 0)
    unfolding tables_of
    names o g = let l : o < 64 = omega (arith, lt, entry_low t.objects o g) in (l, L.names o l (entry_used t.objects o g))

    module _ (q : refusal (clean (view m)) c ≡ some 9) where
      by_slot : refusal (slots t) k ≡ some 9
      by_slot = sym (refusal_ren L.ρ L.σ L.one_to_one (numbers_of t) (slots t) seen.1 k) ∙ ap₂ refusal (sym is) (L.call_is (numbers_of t)) ∙ q

      due : Even x → Due (beside t) t.subjects t.groups t.objects t.handles k
      unfolding tables_of
      due e = record {
        kin = refl;
        wf = h.emptied;
        even = even_back L.ρ L.σ L.one_to_one (numbers_of t) (slots t) (subst Even is e);
        room = L.room (slots t) (λ i. refl) refl;
        nine = by_slot;
      }

      pub explained : (w : Way) → DueTells t.subjects t.groups t.objects t.handles k w → Explains (clean (view m)) c (told_by t.numbers w)
      explained w f = record {
        none = λ g. absurd (g q);
        some = λ z safe even. some_told L.ρ L.σ L.one_to_one (numbers_of t) (slots t) t.numbers names k c x is (L.call_is (numbers_of t)) w (f (beside t) (due even))
            h.emptied safe even listed few z;
      }

-- ── the answer ──
pub answered_nine : (m n : Monitor) (c : Call) (a : Told) → Honest m → Meets monitors m c a n → nine_in a ≡ true → refusal (clean (view m)) c ≡ some 9
answered_nine m n c a g z e = refused_nine (clean (view m)) c a (z.answered g) e

pub answered_other : (m n : Monitor) (c : Call) (a : Told) → Honest m → Meets monitors m c a n → nine_in a ≡ false → Explains (clean (view m)) c no_chain
answered_other m n c a g z e = record { none = λ f. refl; some = λ q safe even. absurd (not_nine (clean (view m)) c a (z.answered g) e q) }
