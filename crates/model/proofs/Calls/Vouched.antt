-- RULES T53: where every set that calls name has all marks, so has that of every live thing, at any time; then everything goes by levels: two labels compare as their
-- levels do, so do a need and a label, no answer tells of a lost mark, and a call lowers where a level falls. So a list of calls of before labels had sets, with set 255
-- added to its admits and registers, is answered as it was by levels. Assumes nothing.
use Rattle.std.specs.Prelude.{◌≡◌, refl, Bool, true, false, ◌&&◌, cond, List, [], ◌∷◌, ℕ, ◌≤◌, T, leb}
use Rattle.std.proofs.Common.{sym, ◌∙◌, ap, ap₂, subst}
use Rattle.std.proofs.Math.Option.{Option, none, some, none-ne-some}
use Rattle.std.specs.Int.Bits.{bit_and}
use Rattle.std.specs.Int.Count.{ones, ones_in}
use Rattle.model.specs.Bools.{is_true}
use Rattle.model.specs.Lists.{In}
use Rattle.model.specs.Sets.{within, lost}
use Rattle.model.specs.Sets.Laws.{within_all}
use Rattle.model.specs.Label.{Label, highest, every_shop, label, level, shops, in_scale, leq, ◌⊑◌, meet, bot, marks_lost}
use Rattle.model.proofs.Label.Laws.{leq_parts, meet_parts, shops_label, level_label, label_level, lost_labels, ⊑-of, ⊑→within, bot_least, level_in_scale, shops_in_scale}
use Rattle.model.specs.Flow.{Thing}
use Rattle.model.proofs.Flow.Laws.{need_least}
use Rattle.model.specs.Tables.{Entry, Tables, empty, is_file, handles, edges, demand, needs}
use Rattle.model.specs.Steps.{applies, ended, reap}
use Rattle.model.specs.Invariant.{Scaled, Vouched}
use Rattle.model.proofs.Invariant.Laws.{labelled_without}
use Rattle.model.specs.Calls.{Call, leveled, tests, steps, Raw, decode, effect, refusal, next, after, fewer}
use Rattle.model.proofs.Calls.Refusals.{allowed_iff}
use Rattle.model.proofs.Calls.Scale.{call_labelled}

-- RULES T53: the sets that a call names have all marks
abbrev pub NamesAll : Call → Type 0
NamesAll c = (a : Label) → In (leveled a) (tests c) → shops a ≡ every_shop

abbrev pub AllNames : List Raw → Type 0
AllNames [] = Unit {0}
AllNames (r ∷ rs) = NamesAll (decode r) × AllNames rs

-- ── all sets stay whole ──
meet_vouched : (a b : Label) → shops a ≡ every_shop → shops b ≡ every_shop → shops (meet a b) ≡ every_shop
meet_vouched a b p q = ap shops (meet_parts a b) ∙ shops_label _ _ ∙ ap₂ bit_and p q

pub next_vouched : (t : Tables) → Vouched t → (c : Call) → NamesAll c → Vouched (next t c)
unfolding effect
next_vouched t v c n = go (refusal t c) refl
  where
    go : (o : Option ℕ) → refusal t c ≡ o → Vouched (elim o as (λ _. Tables) [ none ↦ effect t c | some k ↦ t ])
    go (some k) e = v
    go none e = record { within = done.within }
      where
        u : Tables
        u = applies (steps t c) t

        done : Vouched (reap (handles t) u)
        done = labelled_without (λ a. shops a ≡ every_shop) (λ x. ended (handles t) (handles u) x (u.at x)) u
            (call_labelled (λ a. shops a ≡ every_shop) meet_vouched t v c ((allowed_iff t c).0 e) n)

pub always_vouched : (rs : List Raw) (t : Tables) → Vouched t → AllNames rs → Vouched (after t rs)
always_vouched [] t v n = v
always_vouched (r ∷ rs) t v n = always_vouched rs (next t (decode r)) (next_vouched t v (decode r) n.0) n.1

pub empty_vouched : Vouched empty
empty_vouched = record { within = λ x e q. absurd (none-ne-some e q) }

-- ── then all goes by levels ──
-- two labels compare as their levels do
pub vouched_leq : (a b : Label) → shops a ≡ every_shop → shops b ≡ every_shop → leq a b ≡ leb (level a) (level b)
vouched_leq a b p q = leq_parts a b ∙ ap₂ (λ (x y : ℕ). leb (level a) (level b) && within x y) p q ∙ and_true (leb (level a) (level b))
  where
    and_true : (c : Bool) → (c && within every_shop every_shop) ≡ c
    and_true true = refl
    and_true false = refl

-- what calls leave needs no mark that is none of the eight
need_shops : (t : Tables) → Scaled t → (x : Thing) → T (within (shops (needs t x)) every_shop)
need_shops t v x = subst (λ (n : ℕ). T (within (shops (needs t x)) n)) (shops_label highest every_shop) (⊑→within (needs t x) top
    (need_least (edges t) (λ y. demand y (t.at y)) x top (λ y r. under y (t.at y) (v.within y))))
  where
    top : Label
    top = label highest every_shop

    under : (y : Thing) (o : Option Entry) → ((e : Entry) → o ≡ some e → T (in_scale e.label)) → demand y o ⊑ top
    under y none f = bot_least
    under y (some e) f = go (is_file y e.kind)
      where
        go : (b : Bool) → cond b e.label bot ⊑ top
        go true = ⊑-of e.label top (subst (λ (n : ℕ). level e.label ≤ n) (sym (level_label highest every_shop)) (level_in_scale e.label (f e refl)))
            (subst (λ (n : ℕ). T (within (shops e.label) n)) (sym (shops_label highest every_shop)) (within_all (shops e.label) (shops_in_scale e.label (f e refl))))
        go false = bot_least

-- and so do a need, which has all marks or none, and a label
pub need_leq : (t : Tables) → Scaled t → (x : Thing) (a : Label) → shops a ≡ every_shop → leq (needs t x) a ≡ leb (level (needs t x)) (level a)
need_leq t v x a q = leq_parts (needs t x) a ∙ ap (λ (y : ℕ). leb (level (needs t x)) (level a) && within (shops (needs t x)) y) q
    ∙ and_is (leb (level (needs t x)) (level a)) (within (shops (needs t x)) every_shop) (is_true (within (shops (needs t x)) every_shop) (need_shops t v x))
  where
    and_is : (c d : Bool) → d ≡ true → (c && d) ≡ c
    and_is true d e = e
    and_is false d e = refl

-- no mark is lost
pub none_lost : (a b : Label) → shops a ≡ every_shop → shops b ≡ every_shop → marks_lost a b ≡ 0
unfolding ones ones_in
none_lost a b p q = ap₂ marks_lost (sym (label_level a)) (sym (label_level b)) ∙ lost_labels (level a) (shops a) (level b) (shops b) ∙ ap₂ lost p q

pub none_fewer : (t u : Tables) → Vouched t → Vouched u → (x : Thing) → fewer (t.at x) (u.at x) ≡ 0
none_fewer t u v w x = go (t.at x) (u.at x) (v.within x) (w.within x)
  where
    go : (a b : Option Entry) → ((e : Entry) → a ≡ some e → shops e.label ≡ every_shop) → ((e : Entry) → b ≡ some e → shops e.label ≡ every_shop) → fewer a b ≡ 0
    go none b f g = refl
    go (some e) none f g = refl
    go (some e) (some d) f g = none_lost e.label d.label (f e refl) (g d refl)
