-- Lent bytes as an array of a state's length: the array is those bytes, which then have that length; and what is loaded from them says nothing of itself. Assumes nothing.
use Rattle.std.proofs.Common.{◌≡◌, ℕ, List, length, cond, Bool, sym, ◌∙◌, ap, arith, eq-eqb}
use Rattle.std.specs.Array.{IsWholeChunk}
use Rattle.gatekeeper.specs.View.{Honest}
use Rattle.stored.specs.State.{state_bytes, Sized, monitor_of}
use Rattle.host.specs.Numbers.{sized}

pub array_sized : {s t : List ℕ} → IsWholeChunk s t state_bytes → Sized t
array_sized k = ap length k.same ∙ k.long

-- what is read of the array is read of the bytes
pub sized_by : {A : Type 0} {s t : List ℕ} {r : A} (f : List ℕ → A) (y : A) → IsWholeChunk s t state_bytes → r ≡ f t → r ≡ sized s (f s) y
sized_by {s} f y k e = e ∙ ap f k.same ∙ sym (ap (λ (b : Bool). cond b (f s) y) (eq-eqb (length s) state_bytes k.long))

pub state_honest : (s : List ℕ) → Honest (monitor_of s)
state_honest s e = absurd (let z : ◌≡◌ {A = ℕ} 0 1 = e in omega arith)
