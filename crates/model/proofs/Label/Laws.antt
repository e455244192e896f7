-- The laws of labels: `◌⊑◌` is a partial order with greatest lower bounds `meet`, least upper bounds `join` and least element
-- `bot`; what is below a label in scale is in scale. Nothing else about labels is used elsewhere, but by the table of cases, which computes. Assumes nothing.
use Rattle.std.specs.Prelude.{◌≡◌, refl, not, ◌&&◌, ◌||◌, ℕ, ◌≤◌, ◌<◌, min, max, T, leb, ltb}
use Rattle.std.proofs.Common.{sym, subst, lt-ltb, le-ltb, le-leb, zero-le, le_refl, le_trans, le_antisymm, arith, leb→le, le→leb}
use Rattle.std.proofs.Math.Decide.{dec_lt}
use Rattle.std.proofs.lemmas.Bool.{lt-leb}
use Rattle.std.proofs.Math.Nat.{min-le_left, min-le_right, le-max_left, le-max_right, le-min, max-le}
use Rattle.std.specs.Int.Bits.{bit_and, bit_or}
use Rattle.std.proofs.lemmas.Nat.{or_comm}
use Rattle.model.specs.Bools.{both, both_of}
use Rattle.model.specs.Sets.{within, lost}
use Rattle.model.specs.Sets.Laws.{within_refl, within_trans, within_antisym, common_left, common_right, common_most, all_left, all_least, none_least, within_le, lost_few}
use Rattle.model.specs.Label.{Label, highest, every_shop, label, level, shops, in_scale, leq, ◌⊑◌, meet, join, bot, marks_lost}

-- ── levels and marks ──
pub level_label : (n m : ℕ) → level (label n m) ≡ n
unfolding Label level label
level_label n m = refl

pub shops_label : (n m : ℕ) → shops (label n m) ≡ m
unfolding Label shops label
shops_label n m = refl

pub label_level : (a : Label) → label (level a) (shops a) ≡ a
unfolding Label level shops label
label_level a = refl

-- the order of labels is that of their levels and of their sets
pub leq_parts : (a b : Label) → leq a b ≡ (leb (level a) (level b) && within (shops a) (shops b))
unfolding Label leq level shops
leq_parts a b = refl

pub meet_parts : (a b : Label) → meet a b ≡ label (min (level a) (level b)) (bit_and (shops a) (shops b))
unfolding Label meet label level shops
meet_parts a b = refl

pub join_parts : (a b : Label) → join a b ≡ label (max (level a) (level b)) (bit_or (shops a) (shops b))
unfolding Label join label level shops
join_parts a b = refl

pub ⊑-of : (a b : Label) → level a ≤ level b → T (within (shops a) (shops b)) → a ⊑ b
⊑-of a b p q = record { tested = subst T (sym (leq_parts a b)) (both (leb (level a) (level b)) (within (shops a) (shops b)) (le→leb (level a) (level b) p) q) }

pub ⊑→le : (a b : Label) → a ⊑ b → level a ≤ level b
⊑→le a b h = leb→le (level a) (level b) (both_of (leb (level a) (level b)) (within (shops a) (shops b)) (subst T (leq_parts a b) h.tested)).0

pub ⊑→within : (a b : Label) → a ⊑ b → T (within (shops a) (shops b))
⊑→within a b h = (both_of (leb (level a) (level b)) (within (shops a) (shops b)) (subst T (leq_parts a b) h.tested)).1

-- ── order ──
pub ⊑_refl : {a : Label} → a ⊑ a
⊑_refl {a} = ⊑-of a a (le_refl (level a)) (within_refl (shops a))

pub ⊑_trans : {a b c : Label} → a ⊑ b → b ⊑ c → a ⊑ c
⊑_trans {a} {b} {c} p q = ⊑-of a c (le_trans (⊑→le a b p) (⊑→le b c q)) (within_trans (shops a) (shops b) (shops c) (⊑→within a b p) (⊑→within b c q))

pub ⊑-antisym : {a b : Label} → a ⊑ b → b ⊑ a → a ≡ b
unfolding Label level shops
⊑-antisym {a} {b} p q = λ i. (le_antisymm (⊑→le a b p) (⊑→le b a q) i, within_antisym a.1 b.1 (⊑→within a b p) (⊑→within b a q) i)

-- ── meet ──
pub meet_labels : (a b c d : ℕ) → meet (label a b) (label c d) ≡ label (min a c) (bit_and b d)
unfolding Label meet label
meet_labels a b c d = refl

pub leq_labels : (a b c d : ℕ) → leq (label a b) (label c d) ≡ (leb a c && within b d)
unfolding Label leq label
leq_labels a b c d = refl

pub meet_left : (a b : Label) → meet a b ⊑ a
unfolding Label meet level shops
meet_left a b = ⊑-of (meet a b) a (min-le_left a.0 b.0) (common_left a.1 b.1)

pub meet_right : (a b : Label) → meet a b ⊑ b
unfolding Label meet level shops
meet_right a b = ⊑-of (meet a b) b (min-le_right a.0 b.0) (common_right a.1 b.1)

pub meet_glb : {a b c : Label} → c ⊑ a → c ⊑ b → c ⊑ meet a b
unfolding Label meet level shops
meet_glb {a} {b} {c} p q = ⊑-of c (meet a b) (le-min (⊑→le c a p) (⊑→le c b q)) (common_most a.1 b.1 c.1 (⊑→within c a p) (⊑→within c b q))

pub meet_stays : (a b : Label) → a ⊑ b → meet a b ≡ a
meet_stays a b h = ⊑-antisym (meet_left a b) (meet_glb ⊑_refl h)

pub meet_falls : (a b : Label) → b ⊑ a → meet a b ≡ b
meet_falls a b h = ⊑-antisym (meet_right a b) (meet_glb h ⊑_refl)

-- ── join and bot ──
pub join_left : (a b : Label) → a ⊑ join a b
unfolding Label join level shops
join_left a b = ⊑-of a (join a b) (le-max_left a.0 b.0) (all_left a.1 b.1)

pub join_right : (a b : Label) → b ⊑ join a b
unfolding Label join level shops
join_right a b = ⊑-of b (join a b) (le-max_right a.0 b.0) (subst (λ (x : ℕ). T (within b.1 x)) (or_comm b.1 a.1) (all_left b.1 a.1))

pub level_join : (a b : Label) → level (join a b) ≡ max (level a) (level b)
unfolding Label join level
level_join a b = refl

pub join_lub : {a b c : Label} → a ⊑ c → b ⊑ c → join a b ⊑ c
unfolding Label join level shops
join_lub {a} {b} {c} p q = ⊑-of (join a b) c (max-le (⊑→le a c p) (⊑→le b c q)) (all_least a.1 b.1 c.1 (⊑→within a c p) (⊑→within b c q))

-- the least label is that of level 0 and no marks
pub label_zero : label 0 0 ≡ bot
unfolding Label label bot
label_zero = refl

pub bot_least : {a : Label} → bot ⊑ a
unfolding Label bot level shops
bot_least {a} = ⊑-of bot a zero-le (none_least a.1)

-- ── in scale ──
scale_parts : (a : Label) → T (in_scale a) → (level a ≤ highest) × (shops a ≤ every_shop)
unfolding Label level shops in_scale
scale_parts a h = let p = both_of (leb a.0 highest) (leb a.1 every_shop) h in (leb→le a.0 highest p.0, leb→le a.1 every_shop p.1)

pub scale_of : (a : Label) → level a ≤ highest → shops a ≤ every_shop → T (in_scale a)
unfolding Label level shops in_scale
scale_of a p q = both (leb a.0 highest) (leb a.1 every_shop) (le→leb a.0 highest p) (le→leb a.1 every_shop q)

pub below_in_scale : {a b : Label} → a ⊑ b → T (in_scale b) → T (in_scale a)
below_in_scale {a} {b} p h = let s = scale_parts b h in scale_of a (le_trans (⊑→le a b p) s.0) (le_trans (within_le (shops a) (shops b) (⊑→within a b p)) s.1)

pub bot_in_scale : T (in_scale bot)
unfolding Label in_scale bot
bot_in_scale = tt

pub level_in_scale : (a : Label) → T (in_scale a) → level a ≤ highest
level_in_scale a h = (scale_parts a h).0

pub shops_in_scale : (a : Label) → T (in_scale a) → shops a ≤ every_shop
shops_in_scale a h = (scale_parts a h).1

-- what a call may not name
pub off_scale : (n m : ℕ) → not (in_scale (label n m)) ≡ (ltb highest n || ltb every_shop m)
unfolding Label label in_scale
off_scale n m = go (dec_lt highest n) (dec_lt every_shop m)
  where
    go : Dec (highest < n) → Dec (every_shop < m) → not (leb n highest && leb m every_shop) ≡ (ltb highest n || ltb every_shop m)
    go (yes a) d = rw (lt-leb n highest a, lt-ltb highest n a) refl
    go (no a) (yes b) = rw (le-leb n highest (omega (arith, a)), le-ltb highest n (omega (arith, a)), lt-leb m every_shop b, lt-ltb every_shop m b) refl
    go (no a) (no b) = rw (le-leb n highest (omega (arith, a)), le-ltb highest n (omega (arith, a)), le-leb m every_shop (omega (arith, b)), le-ltb every_shop m (omega (arith, b))) refl

-- ── marks lost ──
pub lost_labels : (a b c d : ℕ) → marks_lost (label a b) (label c d) ≡ lost b d
unfolding Label label marks_lost
lost_labels a b c d = refl

pub lost_in_scale : (a b : Label) → T (in_scale a) → marks_lost a b ≤ 8
unfolding Label shops marks_lost
lost_in_scale a b h = lost_few a.1 b.1 (let s = shops_in_scale a h in omega arith)
