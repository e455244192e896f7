-- `inplace::is_beside` meets its contract. Assumes nothing.
use Rattle.std.proofs.Common.{◌≡◌, ℕ, zero, suc, ◌+◌, ◌-◌, ◌%◌, ◌<◌, ◌≤◌, Bool, true, false, ◌||◌, get_or, refl, sym, ap, ◌∙◌, arith, rules}
use native.Mathlib.Decide.{ℕ_discrete, dec_lt}
use Rattle.std.specs.List.{list_any, range_with_len}
use Rattle.std.proofs.lemmas.Iterator.{YieldsList-from_range}
use Rattle.std.proofs.lemmas.Iterator.Search.{any_from_yields_List}
use Rattle.std.proofs.Math.Bool.{or-true}
use Rattle.passes.proofs.Raising.{true_false}
use Rattle.tables.specs.Records.{no_handle}
use Rattle.handles.specs.Working.{on}
use Rattle.inplace.specs.Bytes.{handles_in}
use Rattle.inplace.proofs.is_beside.Goals as goal

-- a test of n numbers from a on
module _ (test : ℕ → Bool) where
  some : (a n : ℕ) → list_any test (range_with_len a n) ≡ true → (k : ℕ) × (a ≤ k) × (k < a + n) × (test k ≡ true)
  some a zero e = true_false (sym e)
  some a (suc n) e = go (test a) refl (some (a + 1) n)
    where
      go : (b : Bool) → test a ≡ b → (list_any test (range_with_len (a + 1) n) ≡ true → (k : ℕ) × (a + 1 ≤ k) × (k < a + 1 + n) × (test k ≡ true)) → (k : ℕ) × (a ≤ k) × (k < a + suc n) × (test k ≡ true)
      go true q r = (a, omega arith, omega arith, q)
      go false q r = let k = r (sym (ap (λ (b : Bool). b || list_any test (range_with_len (a + 1) n)) q) ∙ e) in (k.0, omega (arith, k.1), omega (arith, k.2), k.3)

  found : (a n k : ℕ) → a ≤ k → k < a + n → test k ≡ true → list_any test (range_with_len a n) ≡ true
  found a zero k l m e = absurd (omega arith)
  found a (suc n) k l m e = go (ℕ_discrete k a) (found (a + 1) n k)
    where
      go : Dec (k ≡ a) → (a + 1 ≤ k → k < a + 1 + n → test k ≡ true → list_any test (range_with_len (a + 1) n) ≡ true) → (test a || list_any test (range_with_len (a + 1) n)) ≡ true
      go (yes q) r = ap (λ (b : Bool). b || list_any test (range_with_len (a + 1) n)) (ap test (sym q) ∙ e)
      go (no z) r = ap (λ (b : Bool). test a || b) (r (omega arith) (omega arith) e) ∙ or-true (test a)

-- an index apart from `at` is some steps after it
below_of : (at i : ℕ) → at < 512 → i < 512 → (i ≡ at → ⊥) → 0 < (i + (512 - at)) % 512
below_of at i la li ne = go (dec_lt 0 ((i + (512 - at)) % 512))
  where
    go : Dec (0 < (i + (512 - at)) % 512) → 0 < (i + (512 - at)) % 512
    go (yes l) = l
    go (no n) = absurd (ne (omega arith))

pub returns : goal.returns
returns c =
    let a = c.args in
    let hs = handles_in a.handles.now in
    let test : ℕ → Bool = λ k. on (get_or hs ((a.at + k) % 512) no_handle) a.o in
    let is : c.any.result ≡ list_any test (range_with_len 1 511) =
    any_from_yields_List test _ _ _ c.any.ensures.ran (YieldsList-from_range 1 512 511 refl refl) (λ x b q k. search rules) in
    let l = c.requires in (
      λ e. let k = some test 1 511 (sym is ∙ e) in record {
        index = (a.at + k.0) % 512;
        below = omega arith;
        apart = λ q. omega (arith, l, k.1, k.2);
        is_on = k.3;
      },
      λ b. let k = (b.index + (512 - a.at)) % 512 in
          let e : (a.at + k) % 512 ≡ b.index = omega (arith, l, b.below) in
          is ∙ found test 1 511 k (below_of a.at b.index l b.below b.apart) (omega arith) (ap (λ (i : ℕ). on (get_or hs i no_handle) a.o) e ∙ b.is_on),
    )
