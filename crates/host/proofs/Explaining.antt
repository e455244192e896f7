-- What a host is told of a refusal 9, from the chain that crate `why` makes, and from the monitor that bytes stand for. Assumes nothing.
use mathlib.Core.Path.{◌≡◌, refl, sym, ap, ◌∙◌, subst}
use mathlib.Core.List.{List}
use Prim.Native.Nat.{ℕ}
use native.Mathlib.Omega.{arith}
use Rattle.model.specs.Tables.{Tables, clean}
use Rattle.model.specs.Calls.{Call, Raw, decode}
use Rattle.gatekeeper.specs.declared.Monitor.{Monitor}
use Rattle.gatekeeper.specs.View.{view, Honest}
use Rattle.stored.specs.State.{Sized, monitor_of}
use Rattle.why.specs.declared.Chain.{Chain}
use Rattle.why.specs.Why.{Explains}
use Rattle.host.specs.Behind.{Left, Tells, WhyBytes}
use Rattle.host.proofs.Sizing.{state_honest}

module _ {t : Tables} {c : Call} {k : Chain} (e : Explains t c k) where
  -- a chain without a step explains nothing
  pub kept_tells : (was : Chain) → k.count ≡ 0 → Tells t c 0 was
  kept_tells was z = record { none = λ _. refl; some = λ r s v. absurd (omega (arith, (e.some r s v).some, z)) }

  pub given_tells : {n : ℕ} → n ≡ k.count → Tells t c n k
  given_tells q = record { none = λ r. q ∙ ap (λ (x : Chain). x.count) (e.none r); some = λ r s v. (omega (arith, q, (e.some r s v).some), e.some r s v) }

module _ (s : List ℕ) {r : Raw} {k : Chain} where
  pub unsized_why : (Sized s → ⊥) → WhyBytes s r k 0 k
  unsized_why h = record { left = record { few = omega arith; count = λ h. absurd (omega (arith, h)); same = λ _. refl }; tells = λ z. absurd (h z); other = λ _. refl }

  pub sized_why : {n : ℕ} {k' : Chain} {m : Monitor} → Sized s → m ≡ monitor_of s → Left k n k' → (Honest m → Tells (clean (view m)) (decode r) n k') → WhyBytes s r k n k'
  sized_why {n} {k'} z em l e = record {
    left = l;
    tells = λ _. subst (λ (x : Monitor). Tells (clean (view x)) (decode r) n k') em (e (subst Honest (sym em) (state_honest s)));
    other = λ h. absurd (h z);
  }
