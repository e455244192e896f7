-- What an exec drops, stored: the mates are gone, their places empty, and the caller's places with a marked handle or a mapping. Assumes nothing.
use mathlib.Core.Path.{◌≡◌, refl, sym, ◌∙◌, ap, ap₂, fun_ext}
use mathlib.Core.Bool.{Bool, true, false, not, ◌||◌, ◌&&◌, cond}
use mathlib.Core.Option.{Option, none}
use mathlib.Core.List.{List}
use Prim.Native.Nat.{ℕ, ◌%◌, ◌<◌}
use native.Mathlib.Omega.{arith}
use native.Mathlib.Decide.{dec_lt}
use borrow.Author.Tests.{eq-eqb, ne_eqb}
use lib.ListN.{length, get_or, get_or-eq_default}
use lib.Dec.{eqb}
use Rattle.model.specs.Flow.{Thing, subject, object}
use Rattle.model.specs.Tables.{Tables, with_hand, with_kin, mates}
use Rattle.model.specs.Tables.{Handle as Held}
use Rattle.model.specs.Steps.{row, vacated, parted, applies}
use Rattle.model.specs.Calls.{lasting, sheds}
use Rattle.tables.specs.declared.Subject.{Subject}
use Rattle.tables.specs.declared.Object.{Object}
use Rattle.tables.specs.declared.Handle.{Handle}
use Rattle.tables.specs.Records.{subject_entry, no_subject, entries, hands, tables_of}
use Rattle.groups.specs.Groups.{stands, kin_of, mate_of, ousted_by}
use Rattle.groups.specs.Groups.Laws.{kin_parted}

-- the handles once some subjects have none, and once s has run a program
abbrev Closes : List Handle → List Bool → List Handle → Type 0
Closes hs gone kept = (rest : Tables) (ss : List Subject) (os : List Object)
    → tables_of rest ss os kept ≡ with_hand (tables_of rest ss os hs) (λ s p. cond (get_or gone s false) none (hands hs s p))

abbrev Sheds : List Handle → ℕ → List Handle → Type 0
Sheds hs s after = (rest : Tables) (ss : List Subject) (os : List Object)
    → tables_of rest ss os after ≡ with_hand (tables_of rest ss os hs) (row (hands hs) s (λ p. lasting (hands hs s p)))

-- nobody is a mate of itself
never_own : (ss : List Subject) (gs : List ℕ) (s : ℕ) → mate_of ss gs s s ≡ false
never_own ss gs s = ap (λ (b : Bool). not b && kin_of ss gs s s) (eq-eqb s s refl)

pub own_left : (ss left : List Subject) (gs : List ℕ) (gone : List Bool) (i : ℕ) → i < 32 → ((a : ℕ) → a < 32 → get_or gone a false ≡ mate_of ss gs i a)
    → ((a : ℕ) → a < 32 → get_or left a no_subject ≡ ousted_by (get_or ss a no_subject) (get_or gone a false)) → get_or left i no_subject ≡ get_or ss i no_subject
own_left ss left gs gone i l g o = o i l ∙ ap (ousted_by (get_or ss i no_subject)) (g i l ∙ never_own ss gs i)

module _ (ss left : List Subject) (gs : List ℕ) (hs kept after : List Handle) (gone : List Bool) (s : ℕ) (low : s < 32) (ls : length ss ≡ 32) (ll : length left ≡ 32)
    (lg : length gone ≡ 32) (g : (a : ℕ) → a < 32 → get_or gone a false ≡ mate_of ss gs (s % 32) a)
    (o : (a : ℕ) → a < 32 → get_or left a no_subject ≡ ousted_by (get_or ss a no_subject) (get_or gone a false)) (c : Closes hs gone kept) (d : Sheds kept (s % 32) after) where
  same_s : s % 32 ≡ s
  same_s = omega arith

  -- who goes, of all numbers
  goes : (a : ℕ) → get_or gone a false ≡ mate_of ss gs s a
  goes a = elim (dec_lt a 32) [
    | yes l ↦ g a l ∙ ap (λ (i : ℕ). mate_of ss gs i a) same_s
    | no n ↦ get_or-eq_default gone false {n = a} (omega arith) ∙ sym (ap₂ (λ (b : Bool) (x : Subject). not b && (b || (stands ss s && (not (eqb x.live 0) && eqb (get_or gs s 0) (get_or gs a 0)))))
        (ne_eqb s a (λ q. omega arith)) (get_or-eq_default ss no_subject {n = a} (omega arith)) ∙ none_right (stands ss s))
  ]
    where
      none_right : (b : Bool) → (b && false) ≡ false
      none_right true = refl
      none_right false = refl

  left_at : (a : ℕ) → get_or left a no_subject ≡ ousted_by (get_or ss a no_subject) (mate_of ss gs s a)
  left_at a = elim (dec_lt a 32) [
    | yes l ↦ o a l ∙ ap (ousted_by (get_or ss a no_subject)) (goes a)
    | no n ↦ get_or-eq_default left no_subject {n = a} (omega arith)
        ∙ sym (ap (λ (x : Subject). ousted_by x (mate_of ss gs s a)) (get_or-eq_default ss no_subject {n = a} (omega arith)) ∙ either (mate_of ss gs s a))
  ]
    where
      either : (b : Bool) → ousted_by no_subject b ≡ no_subject
      either true = refl
      either false = refl

  not_self : mate_of ss gs s s ≡ false
  not_self = never_own ss gs s

  module _ (rest : Tables) (os : List Object) (k : rest.kin ≡ kin_of ss gs) where
    abbrev t : Tables
    t = tables_of rest ss os hs

    mate_is : (x : Thing) → mates (with_kin rest (kin_of ss gs)) s x ≡ mates t s x
    unfolding tables_of
    mate_is (subject a) = ap (λ (f : ℕ → ℕ → Bool). not (eqb s a) && f s a) (sym k)
    mate_is (object n) = refl

    mate_there : (a : ℕ) → mate_of ss gs s a ≡ mates t s (subject a)
    mate_there a = mate_is (subject a)

    at_is : (x : Thing) → entries left os x ≡ cond (mates t s x) none (entries ss os x)
    at_is (subject a) = ap subject_entry (left_at a) ∙ gone_entry (mate_of ss gs s a) (get_or ss a no_subject) ∙ ap (λ (b : Bool). cond b none (subject_entry (get_or ss a no_subject))) (mate_there a)
      where
        gone_entry : (b : Bool) (x : Subject) → subject_entry (ousted_by x b) ≡ cond b none (subject_entry x)
        gone_entry true x = refl
        gone_entry false x = refl
    at_is (object n) = refl

    hand_is : hands after ≡ row (vacated (mates t s) (hands hs)) s (λ p. lasting (hands hs s p))
    unfolding tables_of
    hand_is = ap (λ (u : Tables). u.hand) (d rest ss os) ∙ ap (λ (i : ℕ). row (hands kept) i (λ p. lasting (hands kept i p))) same_s
        ∙ ap₂ (λ (f : ℕ → ℕ → Option Held) (r : ℕ → Option Held). row f s (λ p. lasting (r p))) rows own_row
      where
        rows : hands kept ≡ vacated (mates t s) (hands hs)
        rows = ap (λ (u : Tables). u.hand) (c rest ss os) ∙ fun_ext (λ a. fun_ext (λ p. ap (λ (b : Bool). cond b none (hands hs a p)) (goes a ∙ mate_there a)))

        own_row : hands kept s ≡ hands hs s
        own_row = ap (λ (f : ℕ → ℕ → Option Held). f s) (ap (λ (u : Tables). u.hand) (c rest ss os))
            ∙ fun_ext (λ p. ap (λ (b : Bool). cond b none (hands hs s p)) (goes s ∙ not_self))

    kin_is : kin_of left gs ≡ parted (mates t s) rest.kin
    kin_is = kin_parted ss left gs (mates t s) (λ a. ap (λ (x : Subject). not (eqb x.live 0)) (left_at a) ∙ stays (mate_of ss gs s a) (get_or ss a no_subject)
        ∙ ap (λ (b : Bool). not b && stands ss a) (mate_there a)) ∙ ap (parted (mates t s)) (sym k)
      where
        stays : (b : Bool) (x : Subject) → not (eqb (ousted_by x b).live 0) ≡ (not b && not (eqb x.live 0))
        stays true x = refl
        stays false x = refl

    pub left_alone : tables_of (with_kin rest (kin_of left gs)) left os after ≡ applies (sheds (tables_of rest ss os hs) s) (tables_of rest ss os hs)
    unfolding tables_of sheds
    left_alone = λ i. record { at = fun_ext at_is i; hand = hand_is i; freeze = rest.freeze; numbers = rest.numbers; kin = kin_is i }
