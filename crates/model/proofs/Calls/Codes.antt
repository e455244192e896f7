-- The laws of `decode`: a code that stands in no row is that of no call, and what holds of each row's call holds of what a code asks for. Assumes nothing.
use Rattle.std.specs.Prelude.{◌≡◌, refl, Bool, true, false, List, [], ◌∷◌, ℕ}
use Rattle.std.proofs.Common.{sym, ◌∙◌, subst, eq-eqb, ne_eqb}
use Rattle.std.proofs.Math.Option.{some}
use Rattle.std.proofs.Math.Decide.{ℕ_discrete}
use Rattle.model.specs.Tables.{Tables}
use Rattle.model.specs.Calls.{Call, Raw, Row, rows, lookup, unknown, decode, refusal}

lookup_past : (k : Row) (ks : List Row) (n : ℕ) → (n ≡ k.code → ⊥) → lookup n (k ∷ ks) ≡ lookup n ks
lookup_past k ks n h = subst (λ (b : Bool). (elim b as (λ _. Call) [ true ↦ k.call | false ↦ lookup n ks ]) ≡ lookup n ks)
    (sym (ne_eqb k.code n (λ e. h (sym e)))) refl

-- no row has this code
abbrev pub Missed : ℕ → List Row → Type 0
Missed n [] = Unit {0}
Missed n (k ∷ ks) = (n ≡ k.code → ⊥) × Missed n ks

lookup_missed : (n : ℕ) (ks : List Row) → Missed n ks → lookup n ks ≡ unknown
lookup_missed n [] h = refl
lookup_missed n (k ∷ ks) h = lookup_past k ks n h.0 ∙ lookup_missed n ks h.1

pub decode_unknown : (r : Raw) → Missed r.code (rows r) → decode r ≡ unknown
unfolding decode
decode_unknown r h = lookup_missed r.code (rows r) h

-- what each row's call has whose code this is
abbrev pub Rowed : (Call → Type 0) → ℕ → List Row → Type 0
Rowed P n [] = Unit {0}
Rowed P n (k ∷ ks) = (n ≡ k.code → P k.call) × Rowed P n ks

lookup_by : (P : Call → Type 0) (n : ℕ) (ks : List Row) → Rowed P n ks → (Missed n ks → P unknown) → P (lookup n ks)
lookup_by P n [] h m = m tt
lookup_by P n (k ∷ ks) h m = go (ℕ_discrete n k.code) (lookup_by P n ks h.1)
  where
    go : Dec (n ≡ k.code) → ((Missed n ks → P unknown) → P (lookup n ks)) → P (lookup n (k ∷ ks))
    go (yes e) ih = subst (λ (b : Bool). P (elim b as (λ _. Call) [ true ↦ k.call | false ↦ lookup n ks ])) (sym (eq-eqb k.code n (sym e))) (h.0 e)
    go (no ne) ih = subst P (sym (lookup_past k ks n ne)) (ih (λ r. m (ne, r)))

pub decode_by : (P : Call → Type 0) (r : Raw) → Rowed P r.code (rows r) → (Missed r.code (rows r) → P unknown) → P (decode r)
unfolding decode
decode_by P r h m = lookup_by P r.code (rows r) h m

pub unknown_refused : (t : Tables) → refusal t unknown ≡ some 1
unfolding refusal
unknown_refused t = refl
