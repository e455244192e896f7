-- Chains of handles and chains of flows: a chain of handles reaches what it leads to, and what is reached is led to by few handles, a group counted as one thing.
-- Gives RULES A4 and A10. Assumes nothing.
use Rattle.std.specs.Prelude.{◌≡◌, refl, not, ◌⊎◌, List, [], ◌∷◌, ◌++◌, map, ℕ, suc, ◌+◌, ◌*◌, ◌/◌, ◌%◌, ◌≤◌, ◌<◌, length, T, eqb}
use Rattle.std.proofs.Common.{sym, ◌∙◌, ap, ap₂, subst, subst₂, inl, inr, arith, eqb→eq, ltb→lt}
use Rattle.std.proofs.Math.Dec.{not_T}
use Rattle.model.specs.Bools.{test, both}
use Rattle.model.specs.Lists.{In, each}
use Rattle.model.specs.Lists.Laws.{in_left, in_right, in_each}
use Rattle.model.specs.Flow.{Thing, subject, object, same, Edge, Reaches, here, step}
use Rattle.model.proofs.Flow.Laws.{same→eq}
use Rattle.attack.proofs.Attack.Trails.{Trail, end as stop, via as past, within_few, widen, avoids, cut, cut_in, omit, in_omit, omit_lt}
use Rattle.model.specs.Tables.{Dir, reading, writing, Handle, Tables, subjects, live, whole, arc, flow, share, edges}
use Rattle.model.proofs.Tables.Laws.{live_of, used_is, whole_self, whole_cases, whole_kin, share_edge, Shares}
use Rattle.model.specs.Invariant.{Ends, Wf}
use Rattle.model.proofs.Invariant.Laws.{row_below, mates_kin, mates_live}
use Rattle.model.proofs.Calls.Needs.{wf_ranged, edge_in, in_edge, Held}
use Rattle.model.proofs.Calls.Listed.{Listed}
use Rattle.attack.specs.Attack.{Way, end, via}

-- ── groups ──
-- who takes in what a member does is a member
pub whole_on : {t : Tables} → Wf t → (x y z : Thing) → T (whole t x y) → T (whole t y z) → T (whole t x z)
unfolding whole
whole_on {t} w (subject a) (subject b) (subject c) p q = w.teams.shared a b c p q
whole_on {t} w (subject a) (subject b) (object c) p q = absurd q
whole_on {t} w (subject a) (object b) z p q = absurd p
whole_on {t} w (object a) y z p q = subst (λ (x : Thing). T (whole t x z)) (sym (same→eq (object a) y p)) q

pub whole_back : {t : Tables} → Wf t → (x y : Thing) → T (whole t x y) → T (whole t y x)
unfolding whole
whole_back {t} w (subject a) (subject b) h = w.teams.both_ways a b h
whole_back {t} w (subject a) (object b) h = absurd h
whole_back {t} w (object a) y h = subst (λ (x : Thing). T (whole t y x)) (sym (same→eq (object a) y h)) (whole_self t y w.teams.itself)

-- what a member reaches each member does
pub reaches_whole : {t : Tables} → Wf t → (x z : Thing) → T (whole t x z) → {y : Thing} → Reaches (edges t) z y → Reaches (edges t) x y
reaches_whole {t} w x z h {y} r = elim (whole_cases t x z h) [
  | inl q ↦ subst (λ (v : Thing). Reaches (edges t) v y) (sym q) r
  | inr (a, b, p, q, k) ↦ subst (λ (v : Thing). Reaches (edges t) v y) p (member a b k (subst (λ (v : Thing). Reaches (edges t) v y) (sym q) r))
]
  where
    low : (a : ℕ) → T (live t (subject a)) → a < subjects
    low a l = ltb→lt a subjects (live_of t (subject a) l).0

    member : (a b : ℕ) → T (t.kin a b) → Reaches (edges t) (subject b) y → Reaches (edges t) (subject a) y
    member a b k c = elim (test (eqb a b)) [
      | inl e ↦ subst (λ (n : ℕ). Reaches (edges t) (subject n) y) (sym (eqb→eq a b e)) c
      | inr n ↦ (let l = mates_live w.teams a b k n in
          step (share a b) (share_edge t a b (low a l.0) (low b l.1) (both (not (eqb a b)) (t.kin a b) n k)) refl c)
    ]

-- ── handles are flows ──
pub way_reaches : {t : Tables} → Wf t → {x y : Thing} {l : List ℕ} → Way t x l y → Reaches (edges t) x y
way_reaches w (end q) = here q
way_reaches {t} w (via i k z h q g r) = step (flow (subject (i / 16)) k) (edge_in t (wf_ranged w) h h) q
    (reaches_whole w (flow (subject (i / 16)) k).dst z g (way_reaches w r))

-- ── flows are handles ──
-- from x itself or a member of its group, by at most n handles
pub record Led (t : Tables) (n : ℕ) (x y : Thing) : Type 0 where
  pub from : Thing
  pub member : T (whole t x from)
  pub places : List ℕ
  pub few : length places ≤ n
  pub way : Way t from places y

pub trail_led : {t : Tables} → Wf t → {n : ℕ} {x y : Thing} → Trail (edges t) n x y → Led t n x y
trail_led {t} w {x = x} (stop q) = record { from = x; member = whole_self t x w.teams.itself; places = []; few = omega arith; way = end q }
trail_led {t} w {x = x} {y = y} (past {n = m} e i q r) = more (trail_led w r) (in_edge t e i)
  where
    by_handle : Led t m e.dst y → Held t e → Led t (suc m) x y
    by_handle l f = record {
      from = x;
      member = whole_self t x w.teams.itself;
      places = j ∷ l.places;
      few = omega (arith, l.few);
      way = via j f.k l.from (ap₂ t.hand row place ∙ f.holds) (ap (λ (d : Edge). d.src) is ∙ q)
          (subst (λ (d : Edge). T (whole t d.dst l.from)) (sym is) l.member) l.way;
    }
      where
        j : ℕ
        j = f.s * 16 + f.p

        low : f.p < 16
        low = (w.ends f.s f.p f.k f.holds).place

        row : j / 16 ≡ f.s
        row = omega (arith, low)

        place : j % 16 ≡ f.p
        place = omega (arith, low)

        is : flow (subject (j / 16)) f.k ≡ e
        is = ap (λ (s : ℕ). flow (subject s) f.k) row ∙ f.is

    -- inside a group no handle is needed
    by_group : Led t m e.dst y → Shares t e → Led t (suc m) x y
    by_group l f = record {
      from = l.from;
      member = whole_on w x e.dst l.from (subst₂ (λ (a b : Thing). T (whole t a b)) (ap (λ (d : Edge). d.src) f.is ∙ q) (ap (λ (d : Edge). d.dst) f.is)
          (subst T (sym (whole_kin t f.a f.b)) (mates_kin t f.a f.b f.linked).1)) l.member;
      places = l.places;
      few = omega (arith, l.few);
      way = l.way;
    }

    more : Led t m e.dst y → Held t e ⊎ Shares t e → Led t (suc m) x y
    more l (inl f) = by_handle l f
    more l (inr f) = by_group l f

-- ── the 96 things ──
abbrev everything : Tables → List Thing
everything t = each subjects (λ n. subject n ∷ []) ++ map object t.numbers

in_map : (l : List ℕ) (n : ℕ) → In n l → In (object n) (map object l)
in_map [] n i = absurd i
in_map (m ∷ l) n (inl q) = inl (ap object q)
in_map (m ∷ l) n (inr i) = inr (in_map l n i)

length-map : (l : List ℕ) → length (map object l) ≡ length l
length-map [] = refl
length-map (n ∷ l) = ap suc (length-map l)

subject_in : (t : Tables) (n : ℕ) → n < subjects → In (subject n) (everything t)
subject_in t n h = in_left (subject n) (each subjects (λ n. subject n ∷ [])) (map object t.numbers) (in_each subjects (λ n. subject n ∷ []) (subject n) n h (inl refl))

most : (t : Tables) → length t.numbers ≤ 64 → length (everything t) ≤ 96
most t h = let e = length-map t.numbers in omega (arith, e, h)

object_in : {t : Tables} → Listed t → (n : ℕ) → T (live t (object n)) → In (object n) (everything t)
object_in {t} k n h = in_right (object n) (each subjects (λ n. subject n ∷ [])) (map object t.numbers)
    (in_map t.numbers n (k.complete n (subst T (used_is t (object n)) (live_of t (object n) h).1)))

source_in : {t : Tables} → Wf t → Listed t → (e : Edge) → In e (edges t) → In e.src (everything t)
source_in {t} w k e i = elim (in_edge t e i) [
  | inl f ↦ subst (λ (d : Edge). In d.src (everything t)) f.is (ends f.s f.k.dir (w.ends f.s f.p f.k f.holds))
  | inr f ↦ subst (λ (d : Edge). In d.src (everything t)) f.is (subject_in t f.a f.low_a)
]
  where
    ends : (s : ℕ) {p : ℕ} {j : Handle} (d : Dir) → Ends t s p j → In (arc d (subject s) (object j.to)).src (everything t)
    ends s {j = j} reading f = object_in k j.to f.to
    ends s writing f = subject_in t s (row_below f)

-- RULES A4: of at most 64 live objects and 32 subjects, what is reached is led to by at most 95 handles ..
pub led_95 : {t : Tables} → Wf t → Listed t → length t.numbers ≤ 64 → (x : Thing) (o : ℕ) → T (live t (object o)) → Reaches (edges t) x (object o) → Led t 95 x (object o)
led_95 {t} w k h x o l r = trail_led w (within_few 95 (edges t) (everything t) x (object o) (most t h) (object_in k o l) (source_in w k) r)

-- .. and by 94 where a live object lies aside, which does not reach it
pub led_94 : {t : Tables} → Wf t → Listed t → length t.numbers ≤ 64 → (x : Thing) (o n : ℕ) → T (live t (object o)) → T (live t (object n))
    → (Reaches (edges t) (object n) (object o) → ⊥) → Reaches (edges t) x (object o) → Led t 94 x (object o)
led_94 {t} w k h x o n l m f r = trail_led w (widen (edges t) z (within_few 94 (cut z (edges t)) (omit z (everything t)) x (object o)
    (let a = omit_lt z (everything t) (object_in k n m) in omega (arith, a, most t h))
    (in_omit z (everything t) (object o) (object_in k o l) (not_T (same (object o) z) (λ q. f (here (sym (same→eq (object o) z q))))))
    (λ e i. let c = cut_in z (edges t) e i in in_omit z (everything t) e.src (source_in w k e c.0) c.1)
    (avoids (edges t) z r f)))
  where
    z : Thing
    z = object n
