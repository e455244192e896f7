-- A stage, read and written. In order: what ends a stage; the readings that make one; a stage. Of each: what is read so stands there (…-spaced), and
-- what stands there is read so (spaced-…). Assumes nothing.
use Rattle.std.specs.Prelude.{◌≡◌, refl, Bool, true, false, cond, List, [], ◌∷◌, ◌++◌, ℕ, eqb}
use Rattle.std.proofs.Common.{sym, ◌∙◌, ap, subst, subst₂, append_assoc}
use Rattle.std.proofs.Math.Option.{Option, none, some, some-injective}
use Rattle.lines.specs.Line.{Stage, Token, number, less, greater, bar, semicolon, given, stage_tokens, Spaced, ends}
use Rattle.lines.specs.Reading.{Got, got, skip, is_digit, numeral, signed, End, at_bar, at_semicolon, at_end, Staged, ended_at}
use Rattle.lines.specs.Reading.{with_end, with_into, with_from, with_program, staged}
use Rattle.lines.proofs.Reading.Numbers.{clash}
use Rattle.lines.proofs.Reading.Tokens.{skip_back, empties, TokenFails, TokensFail, number_spaced, spaced_number}
use Rattle.lines.proofs.Reading.Tokens.{sign_spaced, spaced_sign, signed_spaced, spaced_signed}

-- ── what ends a stage ──
-- the sign that ends a stage, and what stands behind it
pub data Behind : List Token → End → Type 0 where
  nothing : Behind [] at_end
  a_bar : {ts : List Token} {bs : List ℕ} → Spaced ts bs → Behind (bar ∷ ts) (at_bar bs)
  a_semicolon : {ts : List Token} {bs : List ℕ} → Spaced ts bs → Behind (semicolon ∷ ts) (at_semicolon bs)

-- what may stand behind a stage
pub data Stops : List Token → Type 0 where
  with_nothing : Stops []
  with_bar : {ts : List Token} → Stops (bar ∷ ts)
  with_semicolon : {ts : List Token} → Stops (semicolon ∷ ts)

ended_spaced : (ts : List Token) (bs : List ℕ) (e : End) → ended_at (skip bs) ≡ some e → Behind ts e → Spaced ts bs
ended_spaced ts bs e q h = skip_back ts bs (by_next (skip bs) q)
  where
    nothing_spaced : {us : List Token} → Behind us at_end → Spaced us []
    nothing_spaced nothing = ends

    bar_spaced : {us : List Token} {cs : List ℕ} (b : ℕ) → eqb b 124 ≡ true → Behind us (at_bar cs) → Spaced us (b ∷ cs)
    bar_spaced b q (a_bar d) = sign_spaced bar 124 refl tt b q d

    semicolon_spaced : {us : List Token} {cs : List ℕ} (b : ℕ) → eqb b 59 ≡ true → Behind us (at_semicolon cs) → Spaced us (b ∷ cs)
    semicolon_spaced b q (a_semicolon d) = sign_spaced semicolon 59 refl tt b q d

    so : {x : End} → some x ≡ some e → Behind ts x
    so q = subst (Behind ts) (sym (cc)) h

    by_semicolon : (b : ℕ) (cs : List ℕ) (x : Bool) → eqb b 59 ≡ x → cond x (some (at_semicolon cs)) none ≡ some e → Spaced ts (b ∷ cs)
    by_semicolon b cs true r q = semicolon_spaced b r (so q)
    by_semicolon b cs false r q = clash (cc)

    by_bar : (b : ℕ) (cs : List ℕ) (x : Bool) → eqb b 124 ≡ x → cond x (some (at_bar cs)) (cond (eqb b 59) (some (at_semicolon cs)) none) ≡ some e
        → Spaced ts (b ∷ cs)
    by_bar b cs true r q = bar_spaced b r (so q)
    by_bar b cs false r q = by_semicolon b cs (eqb b 59) refl q

    by_next : (cs : List ℕ) → ended_at cs ≡ some e → Spaced ts cs
    by_next [] q = nothing_spaced (so q)
    by_next (b ∷ cs) q = by_bar b cs (eqb b 124) refl q

spaced_ended : {ts : List Token} (bs : List ℕ) → Stops ts → Spaced ts bs → (e : End) × (ended_at (skip bs) ≡ some e) × Behind ts e
spaced_ended bs with_nothing d = (at_end, ap ended_at (empties d), nothing)
spaced_ended bs with_bar d = let (cs, q, e) = spaced_sign bar 124 refl tt d in (at_bar cs, ap ended_at q, a_bar e)
spaced_ended bs with_semicolon d = let (cs, q, e) = spaced_sign semicolon 59 refl tt d in (at_semicolon cs, ap ended_at q, a_semicolon e)

stops_fail : (f : ℕ → Bool) → f 124 ≡ false → f 59 ≡ false → {ts : List Token} → Stops ts → TokensFail f ts
stops_fail f b s with_nothing = tt
stops_fail f b s with_bar = b
stops_fail f b s with_semicolon = s

given_fail : (f : ℕ → Bool) (t : Token) (o : Option ℕ) (ts : List Token) → TokenFails f t → TokensFail f ts → TokensFail f (given t o ++ ts)
given_fail f t none ts h k = k
given_fail f t (some n) ts h k = h

-- ── a stage ──
-- the readings that make one
record Parts (bs : List ℕ) (s : Stage) (e : End) : Type 0 where
  after_program : List ℕ
  after_from : List ℕ
  after_into : List ℕ
  program_read : numeral (skip bs) ≡ some (got s.program after_program)
  from_read : signed 60 after_program ≡ some (got s.from after_from)
  into_read : signed 62 after_from ≡ some (got s.into after_into)
  end_read : ended_at (skip after_into) ≡ some e

parts_staged : (bs : List ℕ) (s : Stage) (e : End) → Parts bs s e → staged bs ≡ some (record { stage = s; end = e })
unfolding staged
parts_staged bs s e r =
    ap with_program r.program_read
    ∙ ap (with_from s.program) r.from_read
    ∙ ap (with_into s.program s.from) r.into_read
    ∙ ap (with_end s) r.end_read

staged_parts : (bs : List ℕ) (s : Stage) (e : End) → staged bs ≡ some (record { stage = s; end = e }) → Parts bs s e
unfolding staged
staged_parts bs s e q = by_program (numeral (skip bs)) refl q
  where
    Said : Option Staged → Type 0
    Said o = o ≡ some (record { stage = s; end = e })

    by_end : (p : Got ℕ) (f t : Got (Option ℕ)) → numeral (skip bs) ≡ some p → signed 60 p.rest ≡ some f → signed 62 f.rest ≡ some t
        → (x : Option End) → ended_at (skip t.rest) ≡ x → Said (with_end (record { program = p.value; from = f.value; into = t.value }) x) → Parts bs s e
    by_end p f t is-p is_f is-t none is_x q = clash (cc)
    by_end p f t is-p is_f is-t (some x) is_x q =
        let made : Stage = record { program = p.value; from = f.value; into = t.value } in
        let same = some-injective (record { stage = made; end = x }) (record { stage = s; end = e }) q in
        subst₂ (Parts bs) (ap (λ (r : Staged). r.stage) same) (ap (λ (r : Staged). r.end) same)
        (record {
          after_program = p.rest;
          after_from = f.rest;
          after_into = t.rest;
          program_read = is-p;
          from_read = is_f;
          into_read = is-t;
          end_read = is_x;
        })

    by_into : (p : Got ℕ) (f : Got (Option ℕ)) → numeral (skip bs) ≡ some p → signed 60 p.rest ≡ some f
        → (t : Option (Got (Option ℕ))) → signed 62 f.rest ≡ t → Said (with_into p.value f.value t) → Parts bs s e
    by_into p f is-p is_f none is-t q = clash (cc)
    by_into p f is-p is_f (some t) is-t q = by_end p f t is-p is_f is-t (ended_at (skip t.rest)) refl q

    by_from : (p : Got ℕ) → numeral (skip bs) ≡ some p → (f : Option (Got (Option ℕ))) → signed 60 p.rest ≡ f → Said (with_from p.value f)
        → Parts bs s e
    by_from p is-p none is_f q = clash (cc)
    by_from p is-p (some f) is_f q = by_into p f is-p is_f (signed 62 f.rest) refl q

    by_program : (p : Option (Got ℕ)) → numeral (skip bs) ≡ p → Said (with_program p) → Parts bs s e
    by_program none is-p q = clash (cc)
    by_program (some p) is-p q = by_from p is-p (signed 60 p.rest) refl q

stage_apart : (s : Stage) (ts : List Token) → stage_tokens s ++ ts ≡ number s.program ∷ (given less s.from ++ (given greater s.into ++ ts))
stage_apart s ts = ap (λ (l : List Token). number s.program ∷ l) (append_assoc (given less s.from) (given greater s.into) ts)

pub staged_spaced : (bs : List ℕ) (s : Stage) (e : End) (ts : List Token) → staged bs ≡ some (record { stage = s; end = e }) → Behind ts e
    → Spaced (stage_tokens s ++ ts) bs
staged_spaced bs s e ts q h =
    let r = staged_parts bs s e q in
    let after_into = given greater s.into ++ ts in
    let after_from = given less s.from ++ after_into in
    let d₁ = ended_spaced ts r.after_into e r.end_read h in
    let d₂ = signed_spaced greater 62 refl tt s.into ts r.after_from r.after_into r.into_read d₁ in
    let d₃ = signed_spaced less 60 refl tt s.from after_into r.after_program r.after_from r.from_read d₂ in
    subst (λ (l : List Token). Spaced l bs) (sym (stage_apart s ts)) (number_spaced s.program after_from bs r.after_program r.program_read d₃)

pub spaced_staged : (bs : List ℕ) (s : Stage) (ts : List Token) → Stops ts → Spaced (stage_tokens s ++ ts) bs
    → (e : End) × (staged bs ≡ some (record { stage = s; end = e })) × Behind ts e
spaced_staged bs s ts stops d =
    let after_into = given greater s.into ++ ts in
    let after_from = given less s.from ++ after_into in
    let no_digit = stops_fail is_digit refl refl stops in
    let into-no-digit = given_fail is_digit greater s.into ts refl no_digit in
    let from-no-digit = given_fail is_digit less s.from after_into refl into-no-digit in
    let into-no-less = given_fail (λ b. eqb b 60) greater s.into ts refl (stops_fail (λ b. eqb b 60) refl refl stops) in
    let no-greater = stops_fail (λ b. eqb b 62) refl refl stops in
    let (p, is-p, d₁) = spaced_number s.program after_from bs from-no-digit (subst (λ (l : List Token). Spaced l bs) (stage_apart s ts) d) in
    let (f, is_f, d₂) = spaced_signed less 60 refl tt s.from after_into p refl into-no-digit into-no-less d₁ in
    let (t, is-t, d₃) = spaced_signed greater 62 refl tt s.into ts f refl no_digit no-greater d₂ in
    let (e, is-e, h) = spaced_ended t stops d₃ in (
      e,
      parts_staged bs s e
          (record { after_program = p; after_from = f; after_into = t; program_read = is-p; from_read = is_f; into_read = is-t; end_read = is-e }),
      h,
    )
