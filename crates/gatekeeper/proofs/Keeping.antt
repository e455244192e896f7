-- The needs that a monitor keeps: what is told of them, and figures that are worked out for its tables as they are read. Assumes nothing.
use mathlib.Core.Path.{◌≡◌, refl, sym, ◌∙◌, ap, subst}
use mathlib.Core.Bool.{Bool, true, false, not, ◌&&◌, cond}
use mathlib.Core.Option.{Option, none, some}
use mathlib.Core.List.{List}
use Prim.Native.Nat.{ℕ, ◌%◌}
use native.Mathlib.Omega.{arith}
use borrow.Author.Tests.{eq-eqb, ne_eqb}
use lib.ListN.{get_or}
use lib.Dec.{T, eqb, ltb→lt}
use Rattle.model.specs.Bools.{is_true, both}
use Rattle.model.specs.Label.{label}
use Rattle.labels.specs.Codes.{coded}
use Rattle.labels.specs.Codes.Laws.{coded_zero}
use Rattle.model.specs.Flow.{Thing, subject}
use Rattle.model.specs.Tables.{running, Entry, entry, Tables, empty, with_freeze, with_numbers, in_range, is_some, used, live, clean, needs, safe}
use Rattle.model.proofs.Tables.Laws.{used_is, some_is, live_of}
use Rattle.model.proofs.Steps.Laws.{live_hand}
use Rattle.model.specs.Invariant.{Wf}
use Rattle.model.proofs.Calls.Kept.{empty_kept}
use Rattle.model.proofs.Invariant.Laws.{clean_same, empty_wf}
use Rattle.model.specs.Figures.{Ready}
use Rattle.model.proofs.Figures.Laws.{empty_ready, needs_none, ready_anew}
use Rattle.tables.specs.declared.Subject.{Subject}
use Rattle.tables.specs.declared.Handle.{Handle}
use Rattle.tables.specs.Records.{subject_entry, tables_of}
use Rattle.tables.specs.Records.Laws.{cleaned_wf}
use Rattle.tables.specs.Needs.{node, figure_of, Needed}
use Rattle.gatekeeper.specs.declared.Monitor.{Monitor}
use Rattle.groups.specs.Groups.{kin_of}
use Rattle.groups.specs.Groups.Laws.{any_teams}
use Rattle.gatekeeper.specs.View.{used_slots, beside, slots, Steady}
use Rattle.gatekeeper.specs.Acting.{Fit}
use Rattle.gatekeeper.proofs.Owned.{Long}

-- nothing dangles in the tables as they are read
pub read_wf : (m : Monitor) → Long m → Wf (clean (slots m))
read_wf m g = cleaned_wf (beside m) m.subjects m.objects m.handles (clean (slots m)) g.subjects g.objects
    (any_teams (with_numbers (with_freeze empty m.freeze) (used_slots m.objects)) m.subjects m.objects m.handles m.groups g.subjects g.objects) refl

module _ (m : Monitor) (w : Wf (clean (slots m))) where
  -- ── what is live ──
  pub dead : (x : Thing) → (slots m).at x ≡ none → live (slots m) x ≡ false
  dead x q = ap (λ (b : Bool). in_range x && b) (used_is (slots m) x ∙ ap is_some q) ∙ go (in_range x)
    where
      go : (b : Bool) → (b && false) ≡ false
      go true = refl
      go false = refl

  pub ranged : (x : Thing) (e : Entry) → (slots m).at x ≡ some e → T (in_range x)
  unfolding clean
  ranged x e q = w.ranged x e q

  pub alive : (x : Thing) (e : Entry) → (slots m).at x ≡ some e → live (slots m) x ≡ true
  alive x e q = is_true (live (slots m) x) (both (in_range x) (used (slots m) x) (ranged x e q) (subst T (sym (used_is (slots m) x)) (some_is q)))

  -- ── what is told ──
  -- the kept need of a thing by slot where it is live, 0 where it is not
  abbrev kept_by : Thing → ℕ
  kept_by x = cond (live (slots m) x) (get_or m.needs (node x) 0) 0

  -- on a right monitor, the need of any thing
  pub told_right : (x : Thing) → Fit m → coded (kept_by x) ≡ needs (clean (slots m)) x
  unfolding clean
  told_right x r = go ((slots m).at x) refl
    where
      go : (o : Option Entry) → (slots m).at x ≡ o → coded (kept_by x) ≡ needs (clean (slots m)) x
      go none q = ap (λ (b : Bool). coded (cond b (get_or m.needs (node x) 0) 0)) (dead x q) ∙ coded_zero ∙ sym (needs_none (clean (slots m)) x w q)
      go (some e) q = ap (λ (b : Bool). coded (cond b (get_or m.needs (node x) 0) 0)) (alive x e q)
          ∙ r.need_is x (live_hand (slots m) (clean (slots m)).hand x (subst T (sym (alive x e q)) tt))

  told_none : (x : Thing) → (slots m).at x ≡ none → 0 ≡ kept_by x
  told_none x q = sym (ap (λ (b : Bool). cond b (get_or m.needs (node x) 0) 0) (dead x q))

  told_some : (x : Thing) (e : Entry) → (slots m).at x ≡ some e → get_or m.needs (node x) 0 ≡ kept_by x
  told_some x e q = sym (ap (λ (b : Bool). cond b (get_or m.needs (node x) 0) 0) (alive x e q))

  -- a number, and that it is told on a right monitor
  unfoldable pub Told : Thing → ℕ → Type 0
  Told x n = (n ≡ kept_by x) × (Fit m → coded n ≡ needs (clean (slots m)) x)

  as_told : (x : Thing) (n : ℕ) → n ≡ kept_by x → Told x n
  unfolding Told
  as_told x n q = (q, λ r. ap coded q ∙ told_right x r)

  -- the record of thing y says that it is free, or what it is
  module _ (y : Thing) (free : Bool) (e : Entry) (q : (slots m).at y ≡ cond free none (some e)) where
    free_told : free ≡ true → Told y 0
    free_told z = as_told y 0 (told_none y (q ∙ ap (λ (b : Bool). cond b none (some e)) z))

    used_told : (i n : ℕ) → free ≡ false → n ≡ get_or m.needs i 0 → (T (live (slots m) y) → i ≡ node y) → Told y n
    used_told i n z f l = as_told y n (f ∙ ap (λ (k : ℕ). get_or m.needs k 0) (l (subst T (sym (alive y e full)) tt)) ∙ told_some y e full)
      where
        full : (slots m).at y ≡ some e
        full = q ∙ ap (λ (b : Bool). cond b none (some e)) z

  module _ (s : ℕ) (x : Subject) (q : (slots m).at (subject s) ≡ subject_entry x) where
    pub subject_dead : x.live ≡ 0 → Told (subject s) 0
    subject_dead e = free_told (subject s) (eqb x.live 0) (entry running (label x.level x.shops)) q (eq-eqb x.live 0 e)

    pub subject_told : (n : ℕ) → (x.live ≡ 0 → ⊥) → n ≡ get_or m.needs (s % 32) 0 → Told (subject s) n
    subject_told n e f = used_told (subject s) (eqb x.live 0) (entry running (label x.level x.shops)) q (s % 32) n (ne_eqb x.live 0 e) f
        (λ r. omega (arith, ltb→lt s 32 (live_of (slots m) (subject s) r).0))

  -- ── worked out anew ──
  pub right_anew : (hs : List Handle) (ns : List ℕ) → tables_of (beside m) m.subjects m.objects hs ≡ clean (slots m)
      → ((rest : Tables) → rest.kin ≡ kin_of m.subjects m.groups → Wf (tables_of rest m.subjects m.objects hs) → Needed (tables_of rest m.subjects m.objects hs) ns)
      → Ready (clean (slots m)) (figure_of ns)
  right_anew hs ns q f = ready_anew (clean (slots m)) (tables_of (beside m) m.subjects m.objects hs) (figure_of ns)
      (f (beside m) refl (subst Wf (sym q) w)).need_is (λ x. ap (λ (t : Tables). needs t x) (sym q))

  -- what dangles is gone and the needs are worked out anew: whether some level is below its need
  pub short_anew : (hs : List Handle) (ns : List ℕ) (short : Bool) → tables_of (beside m) m.subjects m.objects hs ≡ clean (slots m) → Ready (clean (slots m)) (figure_of ns)
      → ((rest : Tables) (os : List Handle) → Wf (tables_of rest m.subjects m.objects os) → Ready (tables_of rest m.subjects m.objects os) (figure_of ns)
      → short ≡ not (safe (tables_of rest m.subjects m.objects os)))
      → short ≡ not (safe (clean (slots m)))
  short_anew hs ns short q r g = g (beside m) hs (subst Wf (sym q) w) (subst (λ (u : Tables). Ready u (figure_of ns)) (sym q) r) ∙ ap (λ (u : Tables). not (safe u)) q

-- ── the empty tables ──
pub empty_right : (t : Tables) (ns : List ℕ) → t ≡ empty → Ready (clean t) (figure_of ns)
empty_right t ns q = subst (λ (u : Tables). Ready u (figure_of ns)) (sym (ap clean q ∙ clean_same empty empty_wf)) (empty_ready (figure_of ns))

pub empty_honest : (t : Tables) (ns : List ℕ) → t ≡ empty → Steady t × Ready t (figure_of ns)
empty_honest t ns q = (subst Steady (sym q) (record { wf = empty_kept.wf; safe = empty_kept.safe }), subst (λ (u : Tables). Ready u (figure_of ns)) (sym q) (empty_ready (figure_of ns)))
