-- The stages of a pipeline, counted one by one: what was read so far, and what is left to be read. Assumes nothing.
use Rattle.std.proofs.Common.{◌≡◌, List, ℕ, ◌+◌, length, sym, ◌∙◌, ap, subst, arith}
use mathlib.Core.Option.{Option, none, some, none-ne-some, some-injective}
use Rattle.lines.specs.Line.{one, more, all, Stage}
use Rattle.lines.specs.Line.{Pipeline as Stages}
use Rattle.lines.specs.Reading.{End, at_bar, at_semicolon, at_end, kind, behind, Staged, staged, Pipelined, closed, parted, joined}

abbrev ended : Stage → End → Option Staged
ended s e = some (record { stage = s; end = e })

-- two ways to say what is staged
same_end : (bs : List ℕ) (s t : Stage) (e f : End) → staged bs ≡ ended s e → staged bs ≡ ended t f → e ≡ f
same_end bs s t e f p q = ap (λ (x : Staged). x.end) (some-injective _ _ (sym p ∙ q))

-- ── what was read so far ──
-- n stages stand before the rest: nothing can be read of the bytes where nothing can of the rest, and what is read of the rest is read of the bytes behind them
pub record Taken (bs : List ℕ) (n : ℕ) (rest : List ℕ) : Type 0 where
  pub nothing : ((q : Stages) (e : Option (List ℕ)) → Pipelined rest q e → ⊥) → (p : Stages) (e : Option (List ℕ)) → Pipelined bs p e → ⊥
  pub longer : (q : Stages) (e : Option (List ℕ)) → Pipelined rest q e → (p : Stages) × Pipelined bs p e × (length (all p) ≡ n + length (all q))

pub taken_none : (bs : List ℕ) → Taken bs 0 bs
taken_none bs = record { nothing = λ h. h; longer = λ q e w. (q, w, omega arith) }

module _ (bs : List ℕ) (n : ℕ) (rest : List ℕ) (k : Taken bs n rest) where
  -- no stage can be read
  pub taken_wrong : staged rest ≡ none → (p : Stages) (e : Option (List ℕ)) → Pipelined bs p e → ⊥
  taken_wrong z = k.nothing stuck
    where
      stuck : (q : Stages) (e : Option (List ℕ)) → Pipelined rest q e → ⊥
      stuck q e (closed w) = none-ne-some _ (sym z ∙ w)
      stuck q e (parted w) = none-ne-some _ (sym z ∙ w)
      stuck q e (joined w v) = none-ne-some _ (sym z ∙ w)

  module _ (s : Stage) (l : List ℕ) where
    -- one stage more
    pub taken_more : staged rest ≡ ended s (at_bar l) → Taken bs (n + 1) l
    taken_more bar = record { nothing = λ h. k.nothing (back h); longer = λ q e w. let f = k.longer (more s q) e (joined bar w) in (f.0, f.1, omega (arith, f.2)) }
      where
        back : ((q : Stages) (e : Option (List ℕ)) → Pipelined l q e → ⊥) → (q : Stages) (e : Option (List ℕ)) → Pipelined rest q e → ⊥
        back h q e (closed {s = t} w) = absurd (let d : ◌≡◌ {A = ℕ} 1 3 = ap kind (same_end rest s t (at_bar l) at_end bar w) in omega (arith, d))
        back h q e (parted {rest = b} {s = t} w) = absurd (let d : ◌≡◌ {A = ℕ} 1 2 = ap kind (same_end rest s t (at_bar l) (at_semicolon b) bar w) in omega (arith, d))
        back h q e (joined {rest = b} {s = t} {p = p} w v) = h p e (subst (λ (m : List ℕ). Pipelined m p e) (sym (ap behind (same_end rest s t (at_bar l) (at_bar b) bar w))) v)

    -- the last one
    pub taken_parted : staged rest ≡ ended s (at_semicolon l) → (p : Stages) × Pipelined bs p (some l) × (n + 1 ≡ length (all p))
    taken_parted w = let f = k.longer (one s) (some l) (parted w) in (f.0, f.1, omega (arith, f.2))

  pub taken_closed : (s : Stage) → staged rest ≡ ended s at_end → (p : Stages) × Pipelined bs p none × (n + 1 ≡ length (all p))
  taken_closed s w = let f = k.longer (one s) none (closed w) in (f.0, f.1, omega (arith, f.2))

-- what `lines::read_pipeline` goes by
pub ruleset counting = (taken_more, taken_parted, taken_closed)
