-- What a typed line leaves in the state's bytes, and what it comes to. Assumes nothing.
use mathlib.Core.Path.{◌≡◌, refl, sym, ◌∙◌, ap, subst, subst₂}
use mathlib.Core.Bool.{Bool, true, false, true≢false}
use mathlib.Core.Option.{some}
use mathlib.Core.List.{List}
use Prim.Native.Nat.{ℕ, ◌*◌, ◌+◌}
use native.Mathlib.Omega.{arith}
use lib.Dec.{T}
use lib.ListN.{drop}
use Rattle.model.specs.Flow.{Thing, subject, object}
use Rattle.model.specs.Tables.{Tables, Entry, subjects, objects, places, in_range, used, clean}
use Rattle.model.specs.Invariant.{Teams, Wf}
use Rattle.model.proofs.Invariant.Laws.{teams_same, clean_wf}
use Rattle.model.specs.Calls.{Raw, answers, after}
use Rattle.model.specs.Tally.{tally}
use Rattle.model.proofs.Promise.Laws.{runs_right}
use Rattle.gatekeeper.specs.declared.Monitor.{Monitor}
use Rattle.gatekeeper.specs.View.{slots, straight_view, once, view, Tidy, monitors}
use Rattle.gatekeeper.specs.View.Laws.{honest_tidy}
use Rattle.gatekeeper.proofs.Owned.{Long}
use Rattle.gatekeeper.proofs.Keeping.{read_wf}
use Rattle.gatekeeper.proofs.Numbered.{once_long}
use Rattle.gatekeeper.proofs.Telling.{told_subject}
use Rattle.tally.specs.declared.Tally.{Tally}
use Rattle.tally.specs.Counting.{counts_of}
use Rattle.stored.specs.State.{Sized, subject_of, subject_width, object_of, object_width, objects_at, handle_of, handle_width, handles_at, byte_of, byte_width, whole, need_width, needs_at, groups_at, subjects_of, objects_of, handles_of, needs_of, groups_of, monitor_of, tally_of, Stands, state_view}
use Rattle.stored.specs.State.Laws.{length_records}
use Rattle.lines.specs.Calls.{calls_of}
use Rattle.typed.specs.declared.Outcome.{Outcome}
use Rattle.typed.specs.declared.Hand.{Hand}
use Rattle.typed.specs.Typed.{outcome_of, refused_line, moves, Ran, Handed}
use Rattle.typed.specs.Typed.Laws.{made_runs, made_rules, made_tables, made_same, made_whole}
use Rattle.host.specs.Typing.{read_tables, Leaves, Types}
use Rattle.host.proofs.Sizing.{state_honest}

-- ── bytes as a monitor ──
module _ (s : List ℕ) where
  state_long : Long (monitor_of s)
  unfolding subjects_of objects_of handles_of needs_of groups_of
  state_long = record {
    subjects = length_records subject_of subject_width subjects s;
    objects = length_records object_of object_width objects (drop objects_at s);
    handles = length_records handle_of handle_width (subjects * places) (drop handles_at s);
    needs = length_records whole need_width (subjects + objects) (drop needs_at s);
    groups = length_records byte_of byte_width subjects (drop groups_at s);
  }

  -- the groups by number are those by slot
  same_teams : Teams (clean (slots (once (monitor_of s)))) → Teams (state_view s)
  unfolding straight_view clean used
  same_teams g = teams_same {t = clean (slots (once (monitor_of s)))} {u = state_view s} refl (λ a h. h) g

  -- nothing dangles in the tables as they are read
  state_wf : Wf (read_tables s)
  unfolding clean
  state_wf = clean_wf (state_view s) ranged (same_teams slots_wf.teams)
    where
      slots_wf : Wf (clean (slots (once (monitor_of s))))
      slots_wf = read_wf (once (monitor_of s)) (once_long (monitor_of s) state_long)

      by_slot : (n : ℕ) (e : Entry) → (slots (once (monitor_of s))).at (subject n) ≡ some e → T (in_range (subject n))
      by_slot n e q = slots_wf.ranged (subject n) e q

      ranged : (x : Thing) (e : Entry) → (state_view s).at x ≡ some e → T (in_range x)
      ranged (subject n) e q = by_slot n e (sym (told_subject (monitor_of s) n) ∙ q)
      ranged (object o) e q = tt

contrary : {b : Bool} → b ≡ true → b ≡ false → ⊥
contrary p q = true≢false (sym p ∙ q)

-- ── the calls of a line ──
module _ (s : List ℕ) (cs : List Raw) (out : Outcome) (n : Monitor) (z : Tally) (k : Ran (monitor_of s) (tally_of s) cs out n z) where
  abbrev t : Tables
  t = read_tables s

  by_rules : (k.answers ≡ answers t cs) × (clean (view n) ≡ after t cs) × (counts_of z ≡ tally t (counts_of (tally_of s)) cs)
  by_rules = made_rules (state_wf s) (state_honest s) k.made

  is_told : out ≡ outcome_of (answers t cs)
  is_told = k.told ∙ ap outcome_of by_rules.0

  -- all of them refused: no byte is touched
  leaves_still : Sized s → moves k.answers ≡ false → Leaves s cs out s
  leaves_still h q = record {
    told = is_told;
    size = h;
    tables = ap (λ (m : Monitor). clean (view m)) (sym f.0) ∙ by_rules.1;
    counts = ap counts_of (sym f.1) ∙ by_rules.2;
    right = λ r. r;
    same = λ _. refl;
    moved = λ e. absurd (contrary e (ap moves (sym by_rules.0) ∙ q));
  }
    where
      f : (n ≡ monitor_of s) × (z ≡ tally_of s)
      f = made_same q k.made

  -- one of them not: what was handed back is stored
  leaves_moved : (s' : List ℕ) → Stands s' n z → moves k.answers ≡ true → Leaves s cs out s'
  leaves_moved s' u q = record {
    told = is_told;
    size = u.size;
    tables = ap clean u.tables ∙ by_rules.1;
    counts = ap counts_of u.tally ∙ by_rules.2;
    right = λ r. u.right (runs_right monitors cs (monitor_of s) n k.answers tidy (made_runs k.made) r);
    same = λ e. absurd (contrary (ap moves (sym by_rules.0) ∙ q) e);
    moved = λ _. (u.tables ∙ made_tables (state_wf s) (state_honest s) q k.made, u.whole (made_whole tidy q k.made), u.again);
  }
    where
      tidy : Tidy (monitor_of s)
      tidy = honest_tidy (monitor_of s) (state_honest s)

-- ── the line ──
module _ (s bs : List ℕ) (shell child pipe : ℕ) (m : Monitor) (y : Tally) (r : Hand) (em : m ≡ monitor_of s) (ey : y ≡ tally_of s) (p : Handed m y bs shell child pipe r) (h : Sized s) where
  here : Handed (monitor_of s) (tally_of s) bs shell child pipe r
  here = subst₂ (λ (x : Monitor) (v : Tally). Handed x v bs shell child pipe r) em ey p

  still : r.moved ≡ false → Types s bs shell child pipe r.outcome s
  still q = record {
    no_line = λ _ n. ((here.typed.no_line n).0, refl);
    too_long = λ _ l w e. ((here.typed.too_long l w e).0, refl);
    ran = λ _ l w e. leaves_still s (calls_of shell child pipe l) r.outcome r.monitor r.tally (here.typed.ran l w e) h (sym (here.moved l w e) ∙ q);
    other = λ n. absurd (n h);
  }

  -- a line that was refused has moved nothing
  not_refused : (k : ℕ) → (k ≡ 0 → ⊥) → r.moved ≡ true → r.outcome ≡ refused_line k → ⊥
  not_refused k n q e = contrary q (here.still (λ z. n (sym (ap (λ (o : Outcome). o.refusal) e) ∙ z)))

  moved : r.moved ≡ true → (s' : List ℕ) → Stands s' r.monitor r.tally → Types s bs shell child pipe r.outcome s'
  moved q s' u = record {
    no_line = λ _ n. absurd (not_refused 18 (λ e. omega (arith, e)) q (here.typed.no_line n).0);
    too_long = λ _ l w e. absurd (not_refused 19 (λ z. omega (arith, z)) q (here.typed.too_long l w e).0);
    ran = λ _ l w e. leaves_moved s (calls_of shell child pipe l) r.outcome r.monitor r.tally (here.typed.ran l w e) s' u (sym (here.moved l w e) ∙ q);
    other = λ n. absurd (n h);
  }

  pub types_still : r.moved ≡ false → {s' : List ℕ} → s' ≡ s → Types s bs shell child pipe r.outcome s'
  types_still q {s'} e = subst (Types s bs shell child pipe r.outcome) (sym e) (still q)

  pub types_moved : r.moved ≡ true → {s' u : List ℕ} → s' ≡ u → Stands u r.monitor r.tally → Types s bs shell child pipe r.outcome s'
  types_moved q {s'} e w = subst (Types s bs shell child pipe r.outcome) (sym e) (moved q _ w)

-- bytes of another length
pub types_unsized : (s bs : List ℕ) (shell child pipe : ℕ) → (Sized s → ⊥) → Types s bs shell child pipe (refused_line 255) s
types_unsized s bs shell child pipe h = record { no_line = λ w. absurd (h w); too_long = λ w. absurd (h w); ran = λ w. absurd (h w); other = λ _. (refl, refl) }
