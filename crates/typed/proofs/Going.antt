-- The pipelines of a good line, made one after the other; and what the line comes to. Assumes nothing.
use Rattle.std.proofs.Common.{◌≡◌, ℕ, ◌-◌, ◌*◌, ◌≤◌, ◌<◌, Bool, true, false, cond, leb, List, [], ◌++◌, length, get_or, sym, refl, ap, ◌∙◌, subst, true≢false, append_assoc, arith, leb-true}
use mathlib.Core.Bool.{and-eq-true_iff}
use mathlib.Core.Option.{Option, none, some, none-ne-some, some-injective}
use Rattle.std.specs.Prelude.{Result}
use Rattle.model.specs.Lists.{each}
use Rattle.model.specs.Calls.{Raw}
use Rattle.gatekeeper.specs.declared.Monitor.{Monitor}
use Rattle.tally.specs.declared.Tally.{Tally}
use Rattle.lines.specs.Line.{one, more, all, Reading, Line, most_stages, short, Judges, no_line, a_line}
use Rattle.lines.proofs.Line.Laws.{one_reading}
use Rattle.lines.specs.Line.{Pipeline as Stages}
use Rattle.lines.specs.Line.{Stage as Stage-read}
use Rattle.lines.specs.Reading.{Pipelined, Lined, last, then}
use Rattle.lines.proofs.Reading.Laws.{line_lined, pipelined_one, lined_one}
use Rattle.lines.specs.Told.{number_of, said}
use Rattle.lines.specs.declared.LineError.{LineError}
use Rattle.lines.specs.declared.LineError.TheVariants.{NotALine, TooLong}
use Rattle.lines.specs.Calls.{counted_from, pipe_call, close_call, stage_calls, exit_call, no_stage, pipeline_calls, calls_of}
use Rattle.typed.specs.declared.Outcome.{Outcome}
use Rattle.typed.specs.declared.Hand.{Hand}
use Rattle.typed.specs.Typed.{Ran, refused_line, Handed}
use Rattle.typed.specs.Working.{Works, Good, Going, Stands}
use Rattle.typed.specs.Working.Laws.{works_none, works_then, counted_from_none}

-- ── a pipeline, by its parts ──
module _ (shell child pipe : ℕ) where
  abbrev parts : ℕ → List Stage-read → List Raw
  parts n p = each (n - 1) (pipe_call shell pipe) ++ each n (λ i. stage_calls shell (n - 1) i (counted_from child i) (get_or p i no_stage))
      ++ each (2 * (n - 1)) (close_call shell) ++ each n (exit_call child)

  pub pipeline_works : (p : List Stage-read) (n : ℕ) (h o : Hand) → n ≡ length p → Works h (parts n p) o → Works h (pipeline_calls shell child pipe p) o
  unfolding pipeline_calls
  pipeline_works p n h o e w = subst (λ (m : ℕ). Works h (parts m p) o) e w

-- ── the first pipeline of what is left ──
pub some_stages : (p : Stages) → 1 ≤ length (all p)
some_stages (one s) = omega arith
some_stages (more s p) = omega (arith, some_stages p)

first_short : (l : Reading) (p : Stages) → (l ≡ one p) → short l ≡ true → length (all p) ≤ most_stages
first_short l p e s = leb-true (length (all p)) most_stages (ap short (sym e) ∙ s)

then_short : (l k : Reading) (p : Stages) → (l ≡ more p k) → short l ≡ true → (length (all p) ≤ most_stages) × (short k ≡ true)
then_short l k p e s = let f = (and-eq-true_iff (leb (length (all p)) most_stages) (short k)).0 (ap short (sym e) ∙ s) in (leb-true (length (all p)) most_stages f.0, f.1)

module _ (bs : List ℕ) where
  -- it is the only one, or others follow
  pub data First (n : ℕ) (e : Option (List ℕ)) (l : Reading) : Type 0 where
    only : (p : Stages) → l ≡ one p → e ≡ none → Pipelined bs p none → n ≡ length (all p) → First n e l
    leads : (p : Stages) (b : List ℕ) (k : Reading) → l ≡ more p k → e ≡ some b → Pipelined bs p (some b) → Lined b k → n ≡ length (all p) → First n e l

  first_of : (n : ℕ) (l : Reading) → Lined bs l → (q : Stages) (e : Option (List ℕ)) → Pipelined bs q e → n ≡ length (all q) → First n e l
  first_of n l (last {p = p} w) q e v m =
      let z = pipelined_one w v in
      only p refl (sym z.1) w (m ∙ sym (ap (λ (x : Stages). length (all x)) z.0))
  first_of n l (then {rest = b} {p = p} {l = k} w u) q e v m =
      let z = pipelined_one w v in
      leads p b k refl (sym z.1) w u (m ∙ sym (ap (λ (x : Stages). length (all x)) z.0))

  -- so that one is read
  pub reads_first : (l : Reading) → Lined bs l → ((p : Stages) (e : Option (List ℕ)) → Pipelined bs p e → ⊥) → ⊥
  reads_first l (last {p = p} w) h = h p none w
  reads_first l (then {rest = b} {p = p} w u) h = h p (some b) w

-- ── the line ──
module _ (shell child pipe : ℕ) (line : List ℕ) (h : Hand) where
  pub going_none : Good line → Going shell child pipe line h h line
  going_none g = record { reading = g.reading; read = g.read; left = g.reading; left_read = g.read; is_short = g.is_short; calls = []; made = works_none h; whole = refl }

  module _ (k : Hand) (rest : List ℕ) (g : Going shell child pipe line h k rest) (n : ℕ) (q : Stages) (e : Option (List ℕ)) (v : Pipelined rest q e) (m : n ≡ length (all q)) where
    first : First rest n e g.left
    first = first_of rest n g.left g.left_read q e v m

    pub going_stands : Stands rest n
    going_stands = go first
      where
        go : First rest n e g.left → Stands rest n
        go (only p f z w c) = record { stages = p; behind = none; read = w; many = c; few = omega (arith, c, first_short g.left p f g.is_short) }
        go (leads p b l f z w u c) = record { stages = p; behind = some b; read = w; many = c; few = omega (arith, c, (then_short g.left l p f g.is_short).0) }

    -- what the first pipeline came to
    module _ (o : Hand) (made : (p : Stages) (f : Option (List ℕ)) → Pipelined rest p f → Works k (pipeline_calls shell child pipe (all p)) o) where
      pub going_last : e ≡ none → (l : Reading) → Lined line l → Works h (calls_of shell child pipe l) o
      going_last z l w = subst (λ (x : Reading). Works h (calls_of shell child pipe x) o) (lined_one g.read w) (go first)
        where
          go : First rest n e g.left → Works h (calls_of shell child pipe g.reading) o
          go (only p f y u c) = subst (λ (rs : List Raw). Works h rs o) (ap (λ (x : Reading). g.calls ++ calls_of shell child pipe x) (sym f) ∙ g.whole) (works_then g.made (made p none u))
          go (leads p b x f y u t c) = absurd (none-ne-some _ (sym z ∙ y))

      pub going_on : (b : List ℕ) → e ≡ some b → Going shell child pipe line h o b
      going_on b z = go first
        where
          go : First rest n e g.left → Going shell child pipe line h o b
          go (only p f y u c) = absurd (none-ne-some _ (sym y ∙ z))
          go (leads p a x f y u t c) = record {
            reading = g.reading;
            read = g.read;
            left = x;
            left_read = subst (λ (bs : List ℕ). Lined bs x) (some-injective _ _ (sym y ∙ z)) t;
            is_short = (then_short g.left x p f g.is_short).1;
            calls = g.calls ++ pipeline_calls shell child pipe (all p);
            made = works_then g.made (made p (some a) u);
            whole = append_assoc g.calls (pipeline_calls shell child pipe (all p)) (calls_of shell child pipe x) ∙ ap (λ (y : Reading). g.calls ++ calls_of shell child pipe y) (sym f) ∙ g.whole;
          }

-- ── what a line comes to ──
by_short : (b : Bool) (v : ℕ) → v ≡ cond b 0 19 → (v ≡ 0 → b ≡ true) × ((v ≡ 0 → ⊥) → (b ≡ false) × (v ≡ 19))
by_short true v e = ((λ _. refl), λ n. absurd (n e))
by_short false v e = ((λ z. absurd (omega (arith, z, e))), λ n. (refl, e))

pub number_some : (e : LineError) → 0 < number_of e
number_some NotALine = omega arith
number_some TooLong = omega arith

pub good_line : (bs : List ℕ) → Judges bs 0 → Good bs
good_line bs (no_line h e) = absurd (omega (arith, e))
good_line bs (a_line l w e) = record { reading = l; read = line_lined bs l w; is_short = (by_short (short l) 0 e).0 refl }

pub good_said : (bs : List ℕ) (r : Result Unit LineError) → Judges bs (said r) → said r ≡ 0 → Good bs
good_said bs r j z = good_line bs (subst (Judges bs) z j)

module _ (m : Monitor) (y : Tally) (bs : List ℕ) (shell child pipe : ℕ) where
  same_short : (l k : Reading) → Line l bs → Line k bs → short l ≡ short k
  same_short l k p q = ap short (one_reading bs l k p q)

  refuses_with : (v : ℕ) → Judges bs v → (v ≡ 0 → ⊥) → Handed m y bs shell child pipe (record { monitor = m; tally = y; outcome = refused_line v; moved = false })
  refuses_with v (no_line h e) n = record {
    typed = record { no_line = λ _. (ap refused_line e, refl, refl); too_long = λ l w s. absurd (h l w); ran = λ l w s. absurd (h l w) };
    moved = λ l w s. absurd (h l w);
    still = λ _. refl;
  }
  refuses_with v (a_line l w e) n =
      let f = (by_short (short l) v e).1 n in
      record {
        typed = record {
          no_line = λ h. absurd (h l w);
          too_long = λ k u s. (ap refused_line f.1, refl, refl);
          ran = λ k u s. absurd (true≢false (sym s ∙ same_short k l u w ∙ f.0));
        };
        moved = λ k u s. absurd (true≢false (sym s ∙ same_short k l u w ∙ f.0));
        still = λ _. refl;
      }

  -- the hand that a line begins with
  abbrev begun : Hand
  begun = record { monitor = m; tally = y; outcome = refused_line 0; moved = false }

  pub runs_line : Judges bs 0 → (o : Hand) → ((l : Reading) → Lined bs l → Works begun (calls_of shell child pipe l) o) → Handed m y bs shell child pipe o
  runs_line (no_line h e) o made = absurd (omega (arith, e))
  runs_line (a_line l w e) o made = record {
    typed = record {
      no_line = λ h. absurd (h l w);
      too_long = λ k u s. absurd (true≢false (sym (same_short k l u w ∙ (by_short (short l) 0 e).0 refl) ∙ s));
      ran = ran;
    };
    moved = λ k u s. (made k (line_lined bs k u)).stirred;
    still = λ n. absurd (n (ap (λ (x : Outcome). x.refusal) (ran l w ((by_short (short l) 0 e).0 refl)).told));
  }
    where
      ran : (k : Reading) → Line k bs → short k ≡ true → Ran m y (calls_of shell child pipe k) o.outcome o.monitor o.tally
      ran k u s = let r = made k (line_lined bs k u) in record { answers = r.answers; made = r.made; told = r.tallied ∙ counted_from_none r.answers }

  -- ── the same by what `verdict` said, and with the outcome that a hand begins with or is left with ──
  pub runs_said : (r : Result Unit LineError) → Judges bs (said r) → said r ≡ 0 → (x : Outcome) → x ≡ refused_line 0 → (o : Hand)
      → ((l : Reading) → Lined bs l → Works (record { monitor = m; tally = y; outcome = x; moved = false }) (calls_of shell child pipe l) o) → Handed m y bs shell child pipe o
  runs_said r j z x e o made = runs_line (subst (Judges bs) z j) o (λ l w. subst (λ (v : Outcome). Works (record { monitor = m; tally = y; outcome = v; moved = false }) (calls_of shell child pipe l) o) e (made l w))

  pub refuses_said : (r : Result Unit LineError) → Judges bs (said r) → 0 < said r → (x : Outcome) → x ≡ refused_line (said r)
      → Handed m y bs shell child pipe (record { monitor = m; tally = y; outcome = x; moved = false })
  refuses_said r j p x e = subst (λ (v : Outcome). Handed m y bs shell child pipe (record { monitor = m; tally = y; outcome = v; moved = false })) (sym e)
      (refuses_with (said r) j (λ z. omega (arith, p, z)))
