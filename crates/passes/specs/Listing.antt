-- Flows as a list of edges. Assumes nothing.
use Rattle.std.specs.Prelude.{◌≡◌, ◌⊎◌, List, ℕ, ◌≤◌, ◌<◌, length, get_or, map}
use Rattle.tables.specs.declared.Handle.{Handle}
use Rattle.passes.specs.declared.edge.Edge.{Edge}
use Rattle.passes.specs.Working.{source, target}

-- where the k-th edge starts, and where it ends
abbrev pub start_at : List Edge → ℕ → ℕ
start_at es k = get_or (map (λ e. e.from) es) k 0

abbrev pub end_at : List Edge → ℕ → ℕ
end_at es k = get_or (map (λ e. e.to) es) k 0

-- the k-th edge of the list is the flow of the i-th handle
pub record Flow (ld : List ℕ) (hs : List Handle) (es : List Edge) (i k : ℕ) : Type 0 where
  pub start : start_at es k ≡ source ld hs i
  pub end : end_at es k ≡ target ld hs i

-- of the first `done` handles, the list has each flow, but for those that lead nowhere, and no other
pub record Listed (ld : List ℕ) (hs : List Handle) (es : List Edge) (done : ℕ) : Type 0 where
  pub few : length es ≤ done
  pub has : (i : ℕ) → i < done → (source ld hs i ≡ target ld hs i) ⊎ ((k : ℕ) × (k < length es) × Flow ld hs es i k)
  pub only : (k : ℕ) → k < length es → (i : ℕ) × (i < done) × Flow ld hs es i k
