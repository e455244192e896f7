-- The pipelines of a line, looked at one by one: whether it is a line, and whether one of them is too long. Assumes nothing.
use Rattle.std.proofs.Common.{◌≡◌, Bool, true, false, not, ◌||◌, ◌&&◌, cond, leb, nat_lt, arith, List, ℕ, length, refl, sym, ◌∙◌, ap, subst}
use Rattle.std.proofs.lemmas.Bool.Decides.{nat_tests}
use mathlib.Core.Option.{Option, none, some, none-ne-some, some-injective}
use Rattle.lines.specs.Line.{one, more, all, Reading, most_stages, short, Judges, no_line, a_line}
use Rattle.lines.specs.Line.{Pipeline as Stages}
use Rattle.lines.specs.Reading.{Pipelined, Lined, last, then}
use Rattle.lines.proofs.Reading.Laws.{lined_line, line_lined, pipelined_one}

-- pipelines stand before the rest, of which one is too long or none: no line is read where none is read of the rest, and what is read of the rest is read behind them
pub record Judged (bs : List ℕ) (long : Bool) (rest : List ℕ) : Type 0 where
  pub nothing : ((k : Reading) → Lined rest k → ⊥) → (l : Reading) → Lined bs l → ⊥
  pub longer : (k : Reading) → Lined rest k → (l : Reading) × Lined bs l × (short l ≡ (not long && short k))

pub judged_none : (bs : List ℕ) → Judged bs false bs
judged_none bs = record { nothing = λ h. h; longer = λ k w. (k, w, refl) }

-- whether one is too long, once one more of n stages has come to those before it
abbrev pub is_long : Bool → ℕ → Bool
is_long long n = long || nat_lt most_stages n

more_than : (n : ℕ) → nat_lt most_stages n ≡ not (leb n most_stages)
more_than n = grind (arith, nat_tests)

is_short : (long : Bool) (n : ℕ) (p : Stages) → n ≡ length (all p) → is_long long n ≡ (long || not (leb (length (all p)) most_stages))
is_short long n p e = ap (λ (b : Bool). long || b) (more_than n ∙ ap (λ (m : ℕ). not (leb m most_stages)) e)

and_then : (b s : Bool) (c : Bool) → (not b && (s && c)) ≡ (not (b || not s) && c)
and_then true s c = refl
and_then false true c = refl
and_then false false c = refl

turned : (b s : Bool) → ◌≡◌ {A = ℕ} (cond (b || not s) 19 0) (cond (not b && s) 0 19)
turned true s = refl
turned false true = refl
turned false false = refl

module _ (bs : List ℕ) (long : Bool) (rest : List ℕ) (j : Judged bs long rest) where
  -- no pipeline can be read
  pub judged_wrong : ((p : Stages) (e : Option (List ℕ)) → Pipelined rest p e → ⊥) → Judges bs 18
  judged_wrong h = no_line (λ l w. j.nothing stuck l (line_lined bs l w)) refl
    where
      stuck : (k : Reading) → Lined rest k → ⊥
      stuck k (last {p = p} w) = h p none w
      stuck k (then {rest = b} {p = p} w v) = h p (some b) w

  -- a pipeline of n stages
  module _ (n : ℕ) (p : Stages) (e : n ≡ length (all p)) where
    -- the last one
    last_by : Pipelined rest p none → (b : Bool) → is_long long n ≡ b → Judges bs (cond b 19 0)
    last_by w b q =
        let g = j.longer (one p) (last w) in
        a_line g.0 (lined_line bs g.0 g.1)
        (ap (λ (t : Bool). cond t 19 0) (sym q ∙ is_short long n p e) ∙ turned long (leb (length (all p)) most_stages) ∙ ap (λ (t : Bool). cond t 0 19) (sym g.2))

    pub judged_long : Pipelined rest p none → is_long long n ≡ true → Judges bs 19
    judged_long w q = last_by w true q

    pub judged_short : Pipelined rest p none → is_long long n ≡ false → Judges bs 0
    judged_short w q = last_by w false q

    -- one more
    pub judged_more : (l : List ℕ) → Pipelined rest p (some l) → Judged bs (is_long long n) l
    judged_more l has = record {
      nothing = λ h. j.nothing (back h);
      longer = λ k w. let g = j.longer (more p k) (then has w) in (g.0, g.1, g.2 ∙ and_then long (leb (length (all p)) most_stages) (short k) ∙ ap (λ (b : Bool). not b && short k) (sym (is_short long n p e)));
    }
      where
        back : ((k : Reading) → Lined l k → ⊥) → (k : Reading) → Lined rest k → ⊥
        back h k (last w) = none-ne-some _ (pipelined_one w has).1
        back h k (then {rest = b} {l = m} w v) = h m (subst (λ (x : List ℕ). Lined x m) (some-injective _ _ (pipelined_one w has).1) v)

-- what `lines::verdict` goes by
pub ruleset judging = (judged_wrong, judged_more)
