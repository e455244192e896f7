-- What a change of flows does to needs (RULES F7): the laws by which needs that are kept are brought up to date.
--
-- Over any list of flows and any demand f. A change is `Adds e es ds`: ds is es with the flow e, at any place. Coming reads it from es to ds, going
-- from ds to es. In order: changes; figures that are the need; figures between the demand and the need, for passes that raise them; more and fewer
-- flows; one flow that comes; one that goes; new things; a ring of pipes, computed.
-- Labels are known by the laws of `Label.Laws`, and by their parts in `remove_parts` alone. Assumes nothing.
use Rattle.std.specs.Prelude.{◌≡◌, refl, Bool, true, false, cond, ◌⊎◌, List, [], ◌∷◌, ◌++◌, map, ℕ, ◌≤◌, ◌<◌, max, drop, T}
use Rattle.std.proofs.Common.{sym, ◌∙◌, ap, subst, subst₂, inl, inr, arith}
use Rattle.std.proofs.Math.Dec.{not_T}
use Rattle.model.specs.Bools.{cond_yes, cond_no}
use Rattle.model.specs.Lists.{In}
use Rattle.model.specs.Lists.Laws.{in_left, in_right, in_cases}
use Rattle.model.specs.Label.{Label, label, level, shops, leq, ◌⊑◌, join, bot}
use Rattle.model.specs.Sets.{within}
use Rattle.model.specs.Sets.Laws.{within_trans}
use Rattle.model.proofs.Label.Laws.{⊑_refl, ⊑_trans, ⊑-antisym, join_left, join_right, join_lub, bot_least, ⊑-of, ⊑→le, ⊑→within, level_join}
use Rattle.model.specs.Flow.{Thing, subject, object, same, Edge, Reaches, here, step, need}
use Rattle.model.proofs.Flow.Laws.{same→eq, same_refl, reaches_in, need_upper, need_least, need_self, need_flow, need_below}

-- ── changes of flows ──
-- the flow from x to y
abbrev pub flow_to : Thing → Thing → Edge
flow_to x y = record { src = x; dst = y }

-- every flow of es is one of ds
pub record Sub (es ds : List Edge) : Type 0 where
  pub all : (e : Edge) → In e es → In e ds

-- ds is es with the flow e; es may have it too (two handles that make one flow)
pub record Adds (e : Edge) (es ds : List Edge) : Type 0 where
  pub more : Sub es ds
  pub new : In e ds
  pub only : (d : Edge) → In d ds → In d es ⊎ (e ≡ d)

-- a flow more in a list, at any place
pub adds_at : (e : Edge) (l m : List Edge) → Adds e (l ++ m) (l ++ e ∷ m)
adds_at e l m = record {
  more = record { all = λ d i. elim (in_cases d l m i) [ inl j ↦ in_left d l (e ∷ m) j | inr j ↦ in_right d l (e ∷ m) (inr j) ] };
  new = in_right e l (e ∷ m) (inl refl);
  only = λ d i. elim (in_cases d l (e ∷ m) i) [ inl j ↦ inl (in_left d l m j) | inr (inl q) ↦ inr q | inr (inr j) ↦ inl (in_right d l m j) ];
}

-- ── figures that are the need ──
-- figures that are at least the demand and fall along every flow
pub record Potential (f : Thing → Label) (es : List Edge) (φ : Thing → Label) : Type 0 where
  pub low : (x : Thing) → f x ⊑ φ x
  pub falls : (e : Edge) → In e es → φ e.dst ⊑ φ e.src

pub need_potential : (f : Thing → Label) (es : List Edge) → Potential f es (need f es)
need_potential f es = record { low = need_self es f; falls = need_flow es f }

-- any way to bring figures up to date is right if it ends in a potential that is nowhere above the need
pub need_is : {f : Thing → Label} {es : List Edge} {φ : Thing → Label} → Potential f es φ → ((x : Thing) → φ x ⊑ need f es x) → (x : Thing) → need f es x ≡ φ x
need_is {f} {es} {φ} p h x = ⊑-antisym (need_below es f φ p.low p.falls x) (h x)

-- what reaches a thing has at least its figure
pub falls_to : {f : Thing → Label} {es : List Edge} {φ : Thing → Label} {x y : Thing} → Potential f es φ → Reaches es x y → φ y ⊑ φ x
falls_to {φ = φ} {x} p r = reaches_in (λ z. φ z ⊑ φ x) (λ e i q. ⊑_trans (p.falls e i) q) r ⊑_refl

-- ── figures between the demand and the need ──
pub record Between (f : Thing → Label) (es : List Edge) (g : Thing → Label) : Type 0 where
  pub low : (x : Thing) → f x ⊑ g x
  pub high : (x : Thing) → g x ⊑ need f es x

-- a pass over all flows may start from the demands
pub between_start : (f : Thing → Label) (es : List Edge) → Between f es f
between_start f es = record { low = λ x. ⊑_refl; high = need_self es f }

-- the figure of a flow's source raised by that of its end
abbrev pub raised : (Thing → Label) → Edge → Thing → Label
raised g e x = cond (same e.src x) (join (g x) (g e.dst)) (g x)

-- one flow of a pass
pub between_raised : {f : Thing → Label} {es : List Edge} {g : Thing → Label} (e : Edge) → In e es → Between f es g → Between f es (raised g e)
between_raised {f} {es} {g} e i b = record { low = λ x. low' x (same e.src x); high = λ x. high' x (same e.src x) (same→eq e.src x) }
  where
    low' : (x : Thing) (t : Bool) → f x ⊑ cond t (join (g x) (g e.dst)) (g x)
    low' x true = ⊑_trans (b.low x) (join_left (g x) (g e.dst))
    low' x false = b.low x

    high' : (x : Thing) (t : Bool) → (T t → e.src ≡ x) → cond t (join (g x) (g e.dst)) (g x) ⊑ need f es x
    high' x true q = join_lub (b.high x) (subst (λ (z : Thing). g e.dst ⊑ need f es z) (q tt) (⊑_trans (b.high e.dst) (need_flow es f e i)))
    high' x false q = b.high x

-- a pass that raised nothing: the figures are the needs
pub between_end : {f : Thing → Label} {es : List Edge} {g : Thing → Label} → Between f es g → ((e : Edge) → In e es → g e.dst ⊑ g e.src) → (x : Thing)
    → need f es x ≡ g x
between_end b falls = need_is (record { low = b.low; falls = falls }) b.high

-- what works out the needs from the demands works them out from any figures between
pub between_need : {f : Thing → Label} {es : List Edge} {g : Thing → Label} → Between f es g → (x : Thing) → need f es x ≡ need g es x
between_need {f} {es} {g} b = need_is (record { low = λ x. ⊑_trans (b.low x) (need_self es g x); falls = need_flow es g })
    (need_below es g (need f es) b.high (need_flow es f))

-- ── what a removal asks of labels ──
-- whatever makes up a together with b has b in it: b is spare in a
pub record Spare (a b : Label) : Type 0 where
  pub covered : (c : Label) → a ⊑ join c b → b ⊑ c

-- ── helpers ──
reaches_on : {es : List Edge} {x y : Thing} (e : Edge) → In e es → Reaches es x y → e.src ≡ y → Reaches es x e.dst
reaches_on e i (here q) s = step e i (s ∙ sym q) (here refl)
reaches_on e i (step d j q r) s = step d j q (reaches_on e i r s)

join_mono : {a b c d : Label} → a ⊑ c → b ⊑ d → join a b ⊑ join c d
join_mono {c = c} {d} p q = join_lub (⊑_trans p (join_left c d)) (⊑_trans q (join_right c d))

module _ (f : Thing → Label) {es ds : List Edge} where
  -- ── more flows ──
  -- after flows went, the figures of before still fit, and may be too high (`ring_stale`)
  pub sub_potential : Sub es ds → Potential f es (need f ds)
  sub_potential s = record { low = need_self ds f; falls = λ e i. need_flow ds f e (s.all e i) }

  -- while flows come needs only rise, while they go they only sink
  pub need_more : Sub es ds → (x : Thing) → need f es x ⊑ need f ds x
  need_more s = let p = sub_potential s in need_below es f (need f ds) p.low p.falls

  -- after flows came, the figures of before are a start for passes
  pub between_more : {g : Thing → Label} → Sub es ds → Between f es g → Between f ds g
  between_more s b = record { low = b.low; high = λ x. ⊑_trans (b.high x) (need_more s x) }

  -- many flows at once: if each that came or went falls by the needs without it, no need changes
  pub need_same : Sub es ds → ((e : Edge) → In e ds → In e es ⊎ (need f es e.dst ⊑ need f es e.src)) → (x : Thing) → need f ds x ≡ need f es x
  need_same s h = need_is (record { low = need_self es f; falls = λ e i. elim (h e i) [ inl j ↦ need_flow es f e j | inr q ↦ q ] }) (need_more s)

  -- a thing from which no flow that came or went is reached keeps its need
  pub need_far : (x : Thing) → Sub es ds → ((e : Edge) → In e ds → Reaches es x e.src → In e es) → need f ds x ≡ need f es x
  need_far x s h = ⊑-antisym (need_least ds f x (need f es x)
      (λ y r. need_upper es f (reaches_in (Reaches es x) (λ e i p. reaches_on e (h e i p) p refl) r (here refl)))) (need_more s x)

  -- ── a flow comes ──
  module _ {e : Edge} (a : Adds e es ds) where
    -- if it falls by the needs of before, no need changes ..
    pub add_quiet : need f es e.dst ⊑ need f es e.src → (x : Thing) → need f ds x ≡ need f es x
    add_quiet h = need_same a.more (λ d i. elim (a.only d i)
        [ inl j ↦ inl j | inr q ↦ inr (subst (λ (z : Edge). need f es z.dst ⊑ need f es z.src) q h) ])

    -- .. and only then: the test is exact
    pub add_exact : need f ds e.src ≡ need f es e.src → need f es e.dst ⊑ need f es e.src
    add_exact q = subst (λ (z : Label). need f es e.dst ⊑ z) q (⊑_trans (need_more a.more e.dst) (need_flow ds f e a.new))

    -- a bound for every need, with no search
    pub add_within : (x : Thing) → need f ds x ⊑ join (need f es x) (need f es e.dst)
    add_within = need_below ds f (λ x. join (need f es x) (need f es e.dst)) (λ x. ⊑_trans (need_self es f x) (join_left (need f es x) (need f es e.dst)))
        (λ d i. elim (a.only d i) [
          | inl j ↦ join_mono (need_flow es f d j) ⊑_refl
          | inr q ↦ subst
              (λ (z : Edge). join (need f es z.dst) (need f es e.dst) ⊑ join (need f es z.src) (need f es e.dst)) q
              (⊑_trans (join_lub ⊑_refl ⊑_refl) (join_right (need f es e.src) (need f es e.dst)))
        ])

    -- what does not reach the flow's source keeps its need
    pub add_apart : (x : Thing) → (Reaches es x e.src → ⊥) → need f ds x ≡ need f es x
    add_apart x n = need_far x a.more (λ d i r. elim (a.only d i)
        [ inl j ↦ j | inr q ↦ absurd (n (subst (λ (z : Edge). Reaches es x z.src) (sym q) r)) ])

    -- ── a flow goes, from ds to es ──
    -- if the source needs without the flow some label that is at least the need of the flow's end, no need changes
    pub remove_quiet : (b : Label) → need f ds e.dst ⊑ b → b ⊑ need f es e.src → (x : Thing) → need f es x ≡ need f ds x
    remove_quiet b p q x = sym (add_quiet (⊑_trans (need_more a.more e.dst) (⊑_trans p q)) x)

    -- the source still reaches, by one flow or by many, what demands as much
    pub remove_reaching : (w : Thing) → Reaches es e.src w → need f ds e.dst ⊑ f w → (x : Thing) → need f es x ≡ need f ds x
    remove_reaching w r h = remove_quiet (f w) h (need_upper es f r)

    -- another flow of the same source goes to what demands as much
    pub remove_beside : (d : Edge) → In d es → d.src ≡ e.src → need f ds e.dst ⊑ f d.dst → (x : Thing) → need f es x ≡ need f ds x
    remove_beside d i q = remove_reaching d.dst (step d i q (here refl))

    -- the flow's end leads to no file
    pub remove_bot : need f ds e.dst ≡ bot → (x : Thing) → need f es x ≡ need f ds x
    remove_bot q = remove_quiet bot (subst (λ (z : Label). need f ds e.dst ⊑ z) q ⊑_refl) bot_least

    -- the need of the flow's end is spare in that of its source
    pub remove_spare : Spare (need f ds e.src) (need f ds e.dst) → (x : Thing) → need f es x ≡ need f ds x
    remove_spare s = remove_quiet (need f ds e.dst) ⊑_refl
        (s.covered (need f es e.src) (⊑_trans (add_within e.src) (join_mono ⊑_refl (need_more a.more e.dst))))

    -- part by part: the source needs without the flow the label b (what it demands itself, what files beside demand). Of the need of the flow's end, the marks are
    -- in b, and the level is in b or below that of the source
    pub remove_parts : (b : Label) → b ⊑ need f es e.src → T (within (shops (need f ds e.dst)) (shops b))
        → (level (need f ds e.dst) < level (need f ds e.src)) ⊎ (level (need f ds e.dst) ≤ level b) → (x : Thing) → need f es x ≡ need f ds x
    remove_parts b h m l = remove_quiet (need f ds e.dst) ⊑_refl (⊑-of v w (levels l) (within_trans (shops v) (shops b) (shops w) m (⊑→within b w h)))
      where
        v : Label
        v = need f ds e.dst

        w : Label
        w = need f es e.src

        most : level (need f ds e.src) ≤ max (level w) (level v)
        most = subst (λ (n : ℕ). level (need f ds e.src) ≤ n) (level_join w v)
            (⊑→le _ _ (⊑_trans (add_within e.src) (join_mono ⊑_refl (need_more a.more e.dst))))

        levels : (level v < level (need f ds e.src)) ⊎ (level v ≤ level b) → level v ≤ level w
        levels (inl k) = omega (arith, most, k)
        levels (inr k) = omega (arith, k, ⊑→le b w h)

    -- a second handle makes the same flow
    pub remove_twin : In e es → (x : Thing) → need f es x ≡ need f ds x
    remove_twin i x = sym (add_quiet (need_flow es f e i) x)

-- the same flow, at whichever place it comes
pub adds_same : (f : Thing → Label) {e : Edge} {es ds cs : List Edge} → Adds e es ds → Adds e es cs → (x : Thing) → need f ds x ≡ need f cs x
adds_same f a b x = ⊑-antisym (need_more f (both a b) x) (need_more f (both b a) x)
  where
    both : {e : Edge} {es ds cs : List Edge} → Adds e es ds → Adds e es cs → Sub ds cs
    both {cs = cs} a b = record { all = λ d i. elim (a.only d i) [ inl j ↦ b.more.all d j | inr q ↦ subst (λ (c : Edge). In c cs) q b.new ] }

-- ── things that no flow leaves or enters ──
module _ (f : Thing → Label) (es : List Edge) where
  -- a need by the demand and the needs one flow on
  pub need_steps : (x : Thing) (v : Label) → f x ⊑ v → ((e : Edge) → In e es → e.src ≡ x → need f es e.dst ⊑ v) → need f es x ⊑ v
  need_steps x v h k = need_least es f x v by_first
    where
      by_first : (y : Thing) → Reaches es x y → f y ⊑ v
      by_first y (here q) = subst (λ (z : Thing). f z ⊑ v) q h
      by_first y (step e i q r) = ⊑_trans (need_upper es f r) (k e i q)

  -- what no flow leaves needs what it demands
  pub need_alone : (x : Thing) → ((e : Edge) → In e es → e.src ≡ x → ⊥) → need f es x ≡ f x
  need_alone x n = ⊑-antisym (need_steps x (f x) ⊑_refl (λ e i q. absurd (n e i q))) (need_self es f x)

  -- a need asks the demands of what is reached, and of nothing else
  pub need_agree : (g : Thing → Label) (x : Thing) → ((y : Thing) → Reaches es x y → f y ≡ g y) → need f es x ≡ need g es x
  need_agree g x q = ⊑-antisym (need_least es f x (need g es x) (λ y r. subst (λ (z : Label). z ⊑ need g es x) (sym (q y r)) (need_upper es g r)))
      (need_least es g x (need f es x) (λ y r. subst (λ (z : Label). z ⊑ need f es x) (q y r) (need_upper es f r)))

  -- a thing that no flow enters comes or goes: no other need changes
  pub need_others : (g : Thing → Label) (z : Thing) → ((e : Edge) → In e es → e.dst ≡ z → ⊥) → ((y : Thing) → (y ≡ z → ⊥) → f y ≡ g y) → (x : Thing)
      → (x ≡ z → ⊥) → need f es x ≡ need g es x
  need_others g z n q x ne = need_agree g x (λ y r. q y (reaches_in (λ u. u ≡ z → ⊥) (λ e i p. n e i) r ne))

-- ── new things and their flows ──
-- figures with that of z set to v
abbrev pub but : (Thing → Label) → Thing → Label → Thing → Label
but φ z v x = cond (same z x) v (φ x)

pub but_here : (φ : Thing → Label) (z : Thing) (v : Label) → but φ z v z ≡ v
but_here φ z v = cond_yes (same z z) v (φ z) (same_refl z)

pub but_there : (φ : Thing → Label) (z : Thing) (v : Label) (x : Thing) → (x ≡ z → ⊥) → but φ z v x ≡ φ x
but_there φ z v x n = cond_no (same z x) v (φ x) (not_T (same z x) (λ t. n (sym (same→eq z x t))))

-- no flow of es touches z
pub record Fresh (z : Thing) (es : List Edge) : Type 0 where
  pub leaves : (e : Edge) → In e es → e.src ≡ z → ⊥
  pub enters : (e : Edge) → In e es → e.dst ≡ z → ⊥

-- where z is fresh, its figure does not touch the flows that were
but_falls : (f : Thing → Label) {es : List Edge} {z : Thing} (v : Label) → Fresh z es → (d : Edge) → In d es
    → but (need f es) z v d.dst ⊑ but (need f es) z v d.src
but_falls f {es} {z} v n d j = subst₂ (λ a b. a ⊑ b) (sym (but_there (need f es) z v d.dst (n.enters d j)))
    (sym (but_there (need f es) z v d.src (n.leaves d j))) (need_flow es f d j)

module _ (f : Thing → Label) {es ds : List Edge} (s : Sub es ds) where
  -- a new thing comes with flows: it needs v, and no other need changes
  pub need_fresh : {z : Thing} (v : Label) → Fresh z es → f z ⊑ v → v ⊑ need f ds z
      → ((d : Edge) → In d ds → In d es ⊎ (but (need f es) z v d.dst ⊑ but (need f es) z v d.src)) → (x : Thing) → need f ds x ≡ but (need f es) z v x
  need_fresh {z} v n lo hi h = need_is (record
      { low = λ x. low (same z x) x (same→eq z x); falls = λ d i. elim (h d i) [ inl j ↦ but_falls f v n d j | inr q ↦ q ] })
      (λ x. high (same z x) x (same→eq z x))
    where
      low : (b : Bool) (x : Thing) → (T b → z ≡ x) → f x ⊑ cond b v (need f es x)
      low true x q = subst (λ (y : Thing). f y ⊑ v) (q tt) lo
      low false x q = need_self es f x

      high : (b : Bool) (x : Thing) → (T b → z ≡ x) → cond b v (need f es x) ⊑ need f ds x
      high true x q = subst (λ (y : Thing). v ⊑ need f ds y) (q tt) hi
      high false x q = need_more f s x

  -- every flow that goes touches z: if z leads to no file, no need changes ..
  pub remove_thing : (z : Thing) → ((e : Edge) → In e ds → In e es ⊎ (e.src ≡ z) ⊎ (e.dst ≡ z)) → need f ds z ≡ bot → (x : Thing) → need f es x ≡ need f ds x
  remove_thing z h q x = sym (need_same f s
      (λ e i. elim (h e i) [
        | inl j ↦ inl j
        | inr (inl k) ↦ inr
            (under e.dst e.src (subst (λ (y : Thing). need f ds e.dst ⊑ need f ds y) k (need_flow ds f e i)))
        | inr (inr k) ↦ inr
            (under e.dst e.src (subst (λ (y : Thing). need f ds y ⊑ need f ds z) (sym k) ⊑_refl))
      ]) x)
    where
      under : (y u : Thing) → need f ds y ⊑ need f ds z → need f es y ⊑ need f es u
      under y u le = ⊑_trans (need_more f s y) (⊑_trans (subst (λ (b : Label). need f ds y ⊑ b) q le) bot_least)

  -- .. in any case none of what does not reach z ..
  pub remove_thing_far : (z : Thing) → ((e : Edge) → In e ds → In e es ⊎ (e.src ≡ z) ⊎ (e.dst ≡ z)) → (x : Thing) → (Reaches ds x z → ⊥)
      → need f es x ≡ need f ds x
  remove_thing_far z h x n = sym (need_far f x s
      (λ e i r. elim (h e i) [
        | inl j ↦ j
        | inr (inl k) ↦ absurd (n (subst (Reaches ds x) k (wider r)))
        | inr (inr k) ↦ absurd
            (n (subst (Reaches ds x) k (reaches_on e i (wider r) refl)))
      ]))
    where
      wider : {y : Thing} → Reaches es x y → Reaches ds x y
      wider r = reaches_in (Reaches ds x) (λ e i p. reaches_on e (s.all e i) p refl) r (here refl)

  -- .. and no other, if that of z is spare in each need one flow back: `remove_spare` for all flows of z at once
  pub remove_thing_spare : (z : Thing) → Fresh z es → ((e : Edge) → In e ds → In e es ⊎ (e.src ≡ z) ⊎ (e.dst ≡ z))
      → ((e : Edge) → In e ds → e.dst ≡ z → Spare (need f ds e.src) (need f ds z)) → (x : Thing) → (x ≡ z → ⊥) → need f es x ≡ need f ds x
  remove_thing_spare z n h k x ne = ⊑-antisym (need_more f s x)
      (subst (λ (b : Label). need f ds x ⊑ b) (but_there (need f es) z v x ne) (need_below ds f φ (λ y. low (same z y) y (same→eq z y)) fall x))
    where
      v : Label
      v = need f ds z

      φ : Thing → Label
      φ = but (need f es) z v

      low : (b : Bool) (y : Thing) → (T b → z ≡ y) → f y ⊑ cond b v (need f es y)
      low true y q = subst (λ (u : Thing). f u ⊑ v) (q tt) (need_self ds f z)
      low false y q = need_self es f y

      high : (b : Bool) (y : Thing) → (T b → z ≡ y) → cond b v (need f es y) ⊑ need f ds y
      high true y q = subst (λ (u : Thing). v ⊑ need f ds u) (q tt) ⊑_refl
      high false y q = need_more f s y

      within : (y : Thing) → need f ds y ⊑ join (need f es y) v
      within = need_below ds f (λ y. join (need f es y) v) (λ y. ⊑_trans (need_self es f y) (join_left (need f es y) v)) (λ e i. elim (h e i) [
        | inl j ↦ join_mono (need_flow es f e j) ⊑_refl
        | inr (inl q) ↦ ⊑_trans (join_lub (⊑_trans (need_more f s e.dst)
            (subst (λ (u : Thing). need f ds e.dst ⊑ need f ds u) q (need_flow ds f e i))) ⊑_refl) (join_right (need f es e.src) v)
        | inr (inr q) ↦ ⊑_trans (join_lub (⊑_trans (need_more f s e.dst) (subst (λ (u : Thing). need f ds u ⊑ v) (sym q) ⊑_refl)) ⊑_refl)
            (join_right (need f es e.src) v)
      ])

      over : (b : Bool) (y : Thing) → v ⊑ need f es y → v ⊑ cond b v (need f es y)
      over true y le = ⊑_refl
      over false y le = le

      fall : (e : Edge) → In e ds → φ e.dst ⊑ φ e.src
      fall e i = elim (h e i) [
        | inl j ↦ but_falls f v n e j
        | inr (inl q) ↦ subst (λ (u : Thing). φ e.dst ⊑ φ u) (sym q)
            (subst (λ (b : Label). φ e.dst ⊑ b) (sym (but_here (need f es) z v))
            (⊑_trans (high (same z e.dst) e.dst (same→eq z e.dst))
            (subst (λ (u : Thing). need f ds e.dst ⊑ need f ds u) q (need_flow ds f e i))))
        | inr (inr q) ↦ subst (λ (u : Thing). φ u ⊑ φ e.src) (sym q)
            (subst (λ (b : Label). b ⊑ φ e.src) (sym (but_here (need f es) z v))
            (over (same z e.src) e.src ((k e i q).covered (need f es e.src) (within e.src))))
      ]

-- a new pipe z, read and written by x, needs what x needs, and no other need changes
pub need_pipe : (f : Thing → Label) {es ms ds : List Edge} {x z : Thing} → Fresh z es → (x ≡ z → ⊥) → f z ≡ bot → Adds (flow_to z x) es ms
    → Adds (flow_to x z) ms ds → (y : Thing) → need f ds y ≡ but (need f es) z (need f es x) y
need_pipe f {es} {ms} {ds} {x} {z} n ne q a b = need_fresh f s v n (subst (λ (c : Label). c ⊑ v) (sym q) bot_least)
    (⊑_trans (need_more f s x) (need_flow ds f (flow_to z x) (b.more.all (flow_to z x) a.new)))
    (λ d i. elim (b.only d i) [
      | inr k ↦ inr (subst (λ (e : Edge). φ e.dst ⊑ φ e.src) k (equal z x (but_here (need f es) z v) at_x))
      | inl j ↦ elim (a.only d j) [ inl l ↦ inl l | inr k ↦ inr (subst (λ (e : Edge). φ e.dst ⊑ φ e.src) k (equal x z at_x (but_here (need f es) z v))) ]
    ])
  where
    s : Sub es ds
    s = record { all = λ e i. b.more.all e (a.more.all e i) }

    v : Label
    v = need f es x

    φ : Thing → Label
    φ = but (need f es) z v

    at_x : φ x ≡ v
    at_x = but_there (need f es) z v x ne

    equal : (y w : Thing) → φ y ≡ v → φ w ≡ v → φ y ⊑ φ w
    equal y w p r = subst₂ (λ c d. c ⊑ d) (sym p) (sym r) ⊑_refl

-- ds is es with the flows of x doubled for z; a doubled flow into z may lack
pub record Copied (x z : Thing) (es ds : List Edge) : Type 0 where
  pub more : Sub es ds
  pub fresh : Fresh z es
  pub out : (e : Edge) → In e es → e.src ≡ x → In (flow_to z e.dst) ds
  pub only : (d : Edge) → In d ds → In d es ⊎ ((e : Edge) × In e es × (e.src ≡ x) × (flow_to z e.dst ≡ d)) ⊎ ((e : Edge) × In e
      es × (e.dst ≡ x) × (flow_to e.src z ≡ d))

-- a copy needs what x needs, and no other need changes
pub need_copied : (f : Thing → Label) {x z : Thing} {es ds : List Edge} → Copied x z es ds → f x ≡ f z → (y : Thing)
    → need f ds y ≡ but (need f es) z (need f es x) y
need_copied f {x} {z} {es} {ds} c q = need_fresh f c.more v c.fresh (subst (λ (b : Label). b ⊑ v) q (need_self es f x))
    (need_steps f es x (need f ds z) (subst (λ (b : Label). b ⊑ need f ds z) (sym q) (need_self ds f z))
    (λ e i k. ⊑_trans (need_more f c.more e.dst) (need_flow ds f (flow_to z e.dst) (c.out e i k))))
    (λ d i. elim (c.only d i) [
      | inl j ↦ inl j
      | inr (inl r) ↦ inr (subst (λ (e : Edge). φ e.dst ⊑ φ e.src) r.3
          (subst₂ (λ a b. a ⊑ b) (sym (but_there (need f es) z v r.0.dst (c.fresh.enters r.0 r.1))) (sym (but_here (need f es) z v))
          (subst (λ (y : Thing). need f es r.0.dst ⊑ need f es y) r.2 (need_flow es f r.0 r.1))))
      | inr (inr r) ↦ inr (subst (λ (e : Edge). φ e.dst ⊑ φ e.src) r.3
          (subst₂ (λ a b. a ⊑ b) (sym (but_here (need f es) z v)) (sym (but_there (need f es) z v r.0.src (c.fresh.leaves r.0 r.1)))
          (subst (λ (y : Thing). need f es y ⊑ need f es r.0.src) r.2 (need_flow es f r.0 r.1))))
    ])
  where
    v : Label
    v = need f es x

    φ : Thing → Label
    φ = but (need f es) z v

-- ── a ring of pipes, computed ──
-- subject 0 writes pipe 0, subject 1 reads it and writes pipe 1, subject 0 reads that; subject 0 writes files 5 and 9, of these levels
abbrev ring : List Edge
ring = flow_to (subject 0) (object 0) ∷ flow_to (object 0) (subject 1) ∷ flow_to (subject 1) (object 1) ∷ flow_to (object 1) (subject 0) ∷ []

abbrev files : Thing → Label
files x = cond (same x (object 5)) (label 5 0) (cond (same x (object 9)) (label 9 0) bot)

abbrev figures : List Edge → List ℕ
figures es = map (λ x. level (need files es x)) (subject 0 ∷ object 0 ∷ subject 1 ∷ object 1 ∷ [])

-- both files; without file 5, which changes no need; without file 9, the ring sinks to 5; without both, to 0; without the
-- flow into pipe 0, which `remove_beside` finds quiet by file 9
pub ring_figures : (figures (flow_to (subject 0) (object 9) ∷ flow_to (subject 0) (object 5) ∷ ring) ≡ 9 ∷ 9 ∷ 9 ∷ 9 ∷ [])
    × (figures (flow_to (subject 0) (object 9) ∷ ring) ≡ 9 ∷ 9 ∷ 9 ∷ 9 ∷ [])
    × (figures (flow_to (subject 0) (object 5) ∷ ring) ≡ 5 ∷ 5 ∷ 5 ∷ 5 ∷ [])
    × (figures ring ≡ 0 ∷ 0 ∷ 0 ∷ 0 ∷ [])
    × (figures (flow_to (subject 0) (object 9) ∷ flow_to (subject 0) (object 5) ∷ drop 1 ring) ≡ 9 ∷ 9 ∷ 9 ∷ 9 ∷ [])
unfolding Label label level leq join bot need
ring_figures = (refl, refl, refl, refl, refl)

-- in a ring the needs of before still fit when a file has gone, and are too high: they must be let down before they are raised
pub ring_stale : (need files (flow_to (subject 0) (object 9) ∷ ring) (subject 0) ≡ need files ring (subject 0)
    → ⊥) × Potential files ring (need files (flow_to (subject 0) (object 9) ∷ ring))
unfolding Label label level leq join bot need
ring_stale = (λ q. let z : ◌≡◌ {A = ℕ} 9 0 = ap level q in omega arith, sub_potential files (adds_at (flow_to (subject 0) (object 9)) [] ring).more)
