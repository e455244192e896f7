-- Behind a call that is refused with 9 there is a chain of at most 95 handles, 94 behind an exec. Proves RULES A1, A3 and A4. Assumes nothing.
use Rattle.std.specs.Prelude.{◌≡◌, not, ◌⊎◌, ℕ, ◌≤◌, length, T, eqb}
use Rattle.std.proofs.Math.Path.{refl, ap}
use Rattle.std.proofs.Common.{sym, ◌∙◌, subst, subst₂, le_refl, arith, T_not, eqb→eq}
use Rattle.std.proofs.Math.Logic.{inl, inr}
use Rattle.std.proofs.Math.Option.{Option, some, some-injective}
use mathlib.Core.List.{List}
use Rattle.model.specs.Bools.{test, both}
use Rattle.model.specs.Lists.{In}
use Rattle.model.specs.Label.{Label, leq}
use Rattle.model.specs.Flow.{Thing, subject, object, Edge, Reaches, step}
use Rattle.model.proofs.Flow.Changes.{Sub, Adds}
use Rattle.model.specs.Tables.{Kind, running, file, pipe, Dir, reading, writing, Entry, entry, Handle, handle, mapping, Tables, live, label_of, is_file, is_pipe, cell, whole, mates, flow, edges, needs}
use Rattle.model.proofs.Tables.Laws.{some_of, used_is, live_of, cell_self, whole_by, whole_cases, step_entry, cell_entry, object_entry}
use Rattle.model.specs.Steps.{hold, put, place, apply, applies}
use Rattle.model.proofs.Steps.Laws.{put_cases, place_same, place_apart}
use Rattle.model.specs.Invariant.{Wf, Safe, Even}
use Rattle.model.proofs.Invariant.Laws.{Less, less_pot, pot_safe, needs_pot, unlike_back, mates_live, parted_cases}
use Rattle.model.specs.Calls.{Call, opens, exec, maps, connect, sheds, channel, effect, alive, present, no_pipe, vacant, others, InOrder, refusal}
use Rattle.model.proofs.Calls.Refusals.{refused_by}
use Rattle.model.proofs.Calls.Passed.{is_alive, is_present, sheds_less}
use Rattle.model.proofs.Calls.Needs.{edge_in, wf_ranged}
use Rattle.model.proofs.Calls.Listed.{Listed, effect_listed, effect_few}
use Rattle.model.specs.Demand2.{Leaks, Offends, opened}
use Rattle.model.proofs.Demand2.Laws.{open_refused_iff, map_refused_iff, connect_refused_iff, exec_leaks_iff}
use Rattle.attack.specs.Attack.{Barred, Begins, most, Chain}
use Rattle.attack.proofs.Attack.Ways.{Led, led_95, led_94}
use Rattle.attack.proofs.Attack.Sought.{Seeks, an_open, a_map, an_exec, a_connect, seeks, steps_wf, sought_wf, effect_edges, map_edges, exec_edges, file_stays, reaches_more, not_reached, placed_adds}

-- RULES A4, A10: a chain behind the call that is short enough
pub record Short (t : Tables) (c : Call) : Type 0 where
  pub low : Thing
  pub high : Thing
  pub l : List ℕ
  pub chain : Chain t c low high l
  pub few : length l ≤ most c

live_entry : (t : Tables) (x : Thing) → T (live t x) → (e : Entry) × (t.at x ≡ some e)
live_entry t x l = some_of (t.at x) (subst T (used_is t x) (live_of t x l).1)

-- a member of a group of a live thing is live, with its label
mate_entry : (t : Tables) → Wf t → Even t → (x z : Thing) → T (whole t x z) → (e : Entry) → t.at x ≡ some e → (d : Entry) × (t.at z ≡ some d) × (e.label ≡ d.label)
mate_entry t w v x z h e q = elim (whole_cases t x z h) [
  | inl i ↦ (e, ap t.at (sym i) ∙ q, refl)
  | inr (a, b, i, j, k) ↦ elim (test (eqb a b)) [
    | inl n ↦ (e, ap t.at (sym j ∙ ap subject (sym (eqb→eq a b n)) ∙ i) ∙ q, refl)
    | inr n ↦ (let d = step_entry t b (mates_live w.teams a b k n).1 in
        (d.0, ap t.at (sym j) ∙ d.1, sym (ap label_of (ap t.at i ∙ q)) ∙ v.one_level a b k ∙ ap label_of d.1))
  ]
]

module _ (t : Tables) (w : Wf t) (v : Even t) (listed : Listed t) (h : length t.numbers ≤ 64) where
  -- a thing that reaches, once the call is let through, a file that it must not reach: a chain leads from it or a member of its group
  from_low : {c : Call} → Seeks c → refusal t c ≡ some 9 → (effect t c).kin ≡ t.kin → ((x : Thing) → Begins c x x) → 95 ≤ most c
      → (low high : Thing) → Barred t low high → Reaches (edges (effect t c)) low high → Short t c
  from_low {c} k q g f m low (subject n) b r = absurd b.high_file
  from_low {c} k q g f m low (object n) b r = record {
    low = d.from;
    high = object n;
    l = d.places;
    chain = record {
      barred = record {
        low_entry = e.0;
        low_live = e.1;
        high_entry = b.high_entry;
        high_live = b.high_live;
        high_file = b.high_file;
        insufficient = subst (λ (a : Label). T (not (leq b.high_entry.label a))) e.2 b.insufficient;
      };
      start = d.from;
      begins = f d.from;
      way = d.way;
    };
    few = omega (arith, m, d.few);
  }
    where
      u : Tables
      u = effect t c

      d : Led u 95 low (object n)
      d = led_95 (sought_wf t w c q) (effect_listed t c listed) (effect_few t c (refused_by t c 9 q).1 h) low n (file_stays t k q n b.high_entry b.high_live b.high_file) r

      e : (e : Entry) × (t.at d.from ≡ some e) × (b.low_entry.label ≡ e.label)
      e = mate_entry t w v low d.from (subst T (whole_by u t g low d.from) d.member) b.low_entry b.low_live

  -- what offends in tables u, where it and the file have these entries in t
  offends_barred : (u : Tables) (f : Offends u) → (e : Entry) → t.at f.low ≡ some e → label_of (u.at f.low) ≡ e.label → t.at f.leaks.high ≡ some f.leaks.high_entry
      → Barred t f.low f.leaks.high
  offends_barred u f e q i g = record {
    low_entry = e;
    low_live = q;
    high_entry = f.leaks.high_entry;
    high_live = g;
    high_file = f.leaks.high_file;
    insufficient = subst (λ (a : Label). T (not (leq f.leaks.high_entry.label a))) i f.leaks.higher;
  }

  -- ── an open ──
  open_short : (d : Dir) (s o p : ℕ) → refusal t (opens d s o p) ≡ some 9 → Short t (opens d s o p)
  unfolding effect
  open_short d s o p q = from_low (an_open d s o p) q refl (λ x. refl) (le_refl 95) f.low f.leaks.high
      (offends_barred u f e.0 e.1 (ap label_of e.1) f.leaks.high_live)
      (subst (λ (es : List Edge). Reaches es f.low f.leaks.high) (sym (effect_edges t (opens d s o p))) f.leaks.reaches)
    where
      u : Tables
      u = opened t d s o p

      f : Offends u
      f = ((open_refused_iff t d s o p).0 q).1

      e : (e : Entry) × (t.at f.low ≡ some e)
      e = live_entry u f.low f.low_live

  -- ── a map: its handle makes the flow of the open for reading ──
  map_short : (s o p : ℕ) → refusal t (maps s o p) ≡ some 9 → Short t (maps s o p)
  unfolding effect
  map_short s o p q = from_low (a_map s o p) q refl (λ x. refl) (le_refl 95) f.low f.leaks.high
      (offends_barred u f e.0 e.1 (ap label_of e.1) f.leaks.high_live)
      (subst (λ (es : List Edge). Reaches es f.low f.leaks.high) (sym (map_edges t s o p)) (reaches_more sub f.leaks.reaches))
    where
      u : Tables
      u = opened t reading s o p

      r : InOrder t (maps s o p) 9 × Offends u
      r = (map_refused_iff t s o p).0 q

      f : Offends u
      f = r.1

      e : (e : Entry) × (t.at f.low ≡ some e)
      e = live_entry u f.low f.low_live

      -- the flow of either handle
      adds : (k : Handle) → Adds (flow (subject s) k) (edges t) (edges (apply (hold s p (some k)) t))
      adds k = placed_adds t w s p k (r.0 (alive s) (inl refl) tt) (r.0 (vacant s p) (inr (inr (inr (inl refl)))) tt)

      sub : Sub (edges u) (edges (apply (hold s p (some (mapping o))) t))
      sub = record {
        all = λ d i. elim ((adds (handle reading o)).only d i) [
          | inl j ↦ (adds (mapping o)).more.all d j
          | inr z ↦ subst (λ (k : Edge). In k (edges (apply (hold s p (some (mapping o))) t))) z (adds (mapping o)).new
        ];
      }

  -- ── a connect ──
  connect_short : (s r a b p j : ℕ) → refusal t (connect s r a b p j) ≡ some 9 → Short t (connect s r a b p j)
  unfolding effect
  connect_short s r a b p j q = by_low (live_entry u f.low f.low_live)
    where
      k : InOrder t (connect s r a b p j) 9 × Offends (applies (channel t s r a b p j) t)
      k = (connect_refused_iff t s r a b p j).0 q

      u : Tables
      u = applies (channel t s r a b p j) t

      f : Offends u
      f = k.1

      l : Leaks u (label_of (u.at f.low)) f.low
      l = f.leaks

      ea : Entry
      ea = entry pipe (label_of (t.at (cell t s)))

      eb : Entry
      eb = entry pipe (label_of (t.at (cell t r)))

      -- an entry of these tables is that of pipe b, of pipe a, or one that was
      was : (x : Thing) (e : Entry) → u.at x ≡ some e → ((object b ≡ x) × (eb ≡ e)) ⊎ (((object a ≡ x) × (ea ≡ e)) ⊎ (t.at x ≡ some e))
      was x e g = elim (put_cases (put t.at (object a) (some ea)) (object b) (some eb) x (some e) g) [
        | inl c ↦ inl (c.0, some-injective eb e c.1)
        | inr c ↦ elim (put_cases t.at (object a) (some ea) x (some e) c.1) [ inl d ↦ inr (inl (d.0, some-injective ea e d.1)) | inr d ↦ inr (inr d.1) ]
      ]

      high_was : t.at l.high ≡ some l.high_entry
      high_was = elim (was l.high l.high_entry l.high_live) [
        | inl c ↦ absurd (subst₂ (λ (x : Thing) (e : Entry). T (is_file x e.kind)) (sym c.0) (sym c.1) l.high_file)
        | inr (inl c) ↦ absurd (subst₂ (λ (x : Thing) (e : Entry). T (is_file x e.kind)) (sym c.0) (sym c.1) l.high_file)
        | inr (inr c) ↦ c
      ]

      from : (x : Thing) (e : Entry) → t.at x ≡ some e → label_of (u.at f.low) ≡ e.label → Reaches (edges u) x l.high → Short t (connect s r a b p j)
      from x e at i c = from_low (a_connect s r a b p j) q refl (λ x. refl) (le_refl 95) x l.high
          (record {
            low_entry = e;
            low_live = at;
            high_entry = l.high_entry;
            high_live = high_was;
            high_file = l.high_file;
            insufficient = subst (λ (y : Label). T (not (leq l.high_entry.label y))) i l.higher;
          })
          (subst (λ (es : List Edge). Reaches es x l.high) (sym (effect_edges t (connect s r a b p j))) c)

      -- a new pipe holds nothing: its chain is that of its writer, who has its label
      from_writer : (x o : ℕ) → T (live t (subject x)) → object o ≡ f.low → label_of (u.at f.low) ≡ label_of (t.at (cell t x)) → u.hand x j ≡ some (handle writing o)
          → Short t (connect s r a b p j)
      from_writer x o there is i g = let e = cell_entry t x there in from (subject x) e.0 (ap t.at (sym (cell_self t x)) ∙ e.1) (i ∙ ap label_of e.1)
          (step (flow (subject x) (handle writing o)) (edge_in u (wf_ranged (steps_wf t w (a_connect s r a b p j) q)) g g) refl
          (subst (λ (y : Thing). Reaches (edges u) y l.high) (sym is) l.reaches))

      two : T (not (eqb r s))
      two = unlike_back s r (k.0 (others s r) (inr (inr (inl refl))) tt)

      at_s : ℕ → ℕ → Option Handle
      at_s = place t.hand s p (some (handle reading b))

      both_s : ℕ → ℕ → Option Handle
      both_s = place at_s s j (some (handle writing a))

      at_r : ℕ → ℕ → Option Handle
      at_r = place both_s r p (some (handle reading a))

      hand_s : u.hand s j ≡ some (handle writing a)
      hand_s = place_apart at_r r j (some (handle writing b)) s j two ∙ place_apart both_s r p (some (handle reading a)) s j two ∙ place_same at_s s j (some (handle writing a))

      hand_r : u.hand r j ≡ some (handle writing b)
      hand_r = place_same at_r r j (some (handle writing b))

      by_low : (e : Entry) × (u.at f.low ≡ some e) → Short t (connect s r a b p j)
      by_low e = elim (was f.low e.0 e.1) [
        | inl c ↦ from_writer r b (is_alive t r (k.0 (alive r) (inr (inl refl)) tt)) c.0 (ap label_of e.1 ∙ ap (λ (y : Entry). y.label) (sym c.1)) hand_r
        | inr (inl c) ↦ from_writer s a (is_alive t s (k.0 (alive s) (inl refl) tt)) c.0 (ap label_of e.1 ∙ ap (λ (y : Entry). y.label) (sym c.1)) hand_s
        | inr (inr c) ↦ from f.low e.0 c (ap label_of e.1) l.reaches
      ]

  -- ── an exec ──
  -- s is alone in its group then
  exec_alone : (s o : ℕ) (z : Thing) → T (whole (effect t (exec s o)) (subject s) z) → subject s ≡ z
  unfolding effect sheds whole
  exec_alone s o (object n) g = absurd g
  exec_alone s o (subject n) g = elim (parted_cases (mates t s) t.kin s n g) [
    | inl e ↦ ap subject e
    | inr (a, b, k) ↦ elim (test (eqb s n)) [ inl e ↦ ap subject (eqb→eq s n e) | inr e ↦ absurd (T_not (mates t s (subject n)) b (both (not (eqb s n)) (t.kin s n) e k)) ]
  ]

  -- RULES A3, A4: the program file is the thing, and running it the first step; the chain never passes the program, which reaches no such file
  exec_short : Safe t → (s o : ℕ) → refusal t (exec s o) ≡ some 9 → Short t (exec s o)
  exec_short safe s o q = by_high l.high l.high_entry (less.was_at l.high l.high_entry l.high_live) l.high_file l.higher l.reaches
    where
      u : Tables
      u = applies (sheds t s) t

      less : Less t u
      less = sheds_less t s

      r : InOrder t (exec s o) 9 × Leaks u (label_of (t.at (object o))) (cell t s)
      r = (exec_leaks_iff t s o).0 q

      l : Leaks u (label_of (t.at (object o))) (cell t s)
      l = r.1

      e : (e : Entry) × (t.at (object o) ≡ some e)
      e = object_entry t o (is_present t o (r.0 (present o) (inr (inl refl)) tt))

      e_file : T (is_file (object o) e.0.kind)
      e_file = go e.0.kind (subst (λ (v : Option Entry). T (not (is_pipe (object o) v))) e.1 (r.0 (no_pipe o) (inr (inr (inl refl))) tt))
        where
          go : (k : Kind) → T (not (is_pipe (object o) (some (entry k e.0.label)))) → T (is_file (object o) k)
          go running n = tt
          go file n = tt
          go pipe n = n

      by_high : (high : Thing) (d : Entry) → t.at high ≡ some d → T (is_file high d.kind) → T (not (leq d.label (label_of (t.at (object o))))) → Reaches (edges u) (cell t s) high → Short t (exec s o)
      by_high (subject n) d at is worse c = absurd is
      by_high (object n) d at is worse c = record {
        low = object o;
        high = object n;
        l = g.places;
        chain = record { barred = b; start = g.from; begins = (refl, exec_alone s o g.from g.member); way = g.way };
        few = g.few;
      }
        where
          b : Barred t (object o) (object n)
          b = record {
            low_entry = e.0;
            low_live = e.1;
            high_entry = d;
            high_live = at;
            high_file = is;
            insufficient = subst (λ (a : Label). T (not (leq d.label a))) (ap label_of e.1) worse;
          }

          b_left : Barred u (object o) (object n)
          b_left = record {
            low_entry = e.0;
            low_live = less.objects_stay o ∙ e.1;
            high_entry = d;
            high_live = less.objects_stay n ∙ at;
            high_file = is;
            insufficient = b.insufficient;
          }

          g : Led (effect t (exec s o)) 94 (subject s) (object n)
          g = led_94 (sought_wf t w (exec s o) q) (effect_listed t (exec s o) listed) (effect_few t (exec s o) r.0 h) (subject s) n o
              (file_stays t (an_exec s o) q n d at is) (file_stays t (an_exec s o) q o e.0 e.1 e_file)
              (λ x. not_reached u (pot_safe (less_pot (needs t) less (needs_pot w safe))) (object o) (object n) b_left
              (subst (λ (es : List Edge). Reaches es (object o) (object n)) (exec_edges t s o) x))
              (subst₂ (λ (es : List Edge) (x : Thing). Reaches es x (object n)) (sym (exec_edges t s o)) (cell_self t s) c)

-- RULES A1, A4, A10: behind a call that is refused with 9 there is a chain of at most 95 handles, 94 behind an exec
pub chain_exists : (t : Tables) → Wf t → Safe t → Even t → Listed t → length t.numbers ≤ 64 → (c : Call) → refusal t c ≡ some 9 → Short t c
chain_exists t w safe v k h c q = go (seeks t c q) q
  where
    go : {c : Call} → Seeks c → refusal t c ≡ some 9 → Short t c
    go (an_open d s o p) q = open_short t w v k h d s o p q
    go (a_map s o p) q = map_short t w v k h s o p q
    go (an_exec s o) q = exec_short t w v k h safe s o q
    go (a_connect s r a b p j) q = connect_short t w v k h s r a b p j q
