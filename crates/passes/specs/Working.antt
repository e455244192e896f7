-- What the inner functions of this crate work out, on records. No caller needs these. Assumes nothing.
use Rattle.std.specs.Prelude.{◌≡◌, Bool, true, false, not, ◌&&◌, ◌||◌, cond, List, ℕ, zero, suc, ◌+◌, ◌*◌, ◌/◌, ◌%◌, ◌<◌, length, get_or, set, leb, ltb, eqb}
use Rattle.tables.specs.declared.Subject.{Subject}
use Rattle.tables.specs.declared.Object.{Object}
use Rattle.tables.specs.declared.Handle.{Handle}
use Rattle.tables.specs.Records.{reads_by, no_object, no_handle}
use Rattle.tables.specs.Working.{writes_by}
use Rattle.model.specs.Sets.{within}
use Rattle.model.specs.Label.{Label, label, level, shops, leq, ◌⊑◌, join, bot}
use Rattle.labels.specs.Codes.{coded}

abbrev pub alike : Bool → Bool → Bool
alike a b = cond a b (not b)

-- the start or the end of the flow of a handle of subject s; thing 0 for both where there is no handle
abbrev pub end_by : Handle → ℕ → Bool → ℕ
end_by h s start = cond (eqb h.way 0) 0 (cond (alike (reads_by h.way) start) (32 + h.object % 64) s)

-- the lead of subject s, which stands for its group
abbrev pub lead_of : List ℕ → ℕ → ℕ
lead_of ld s = get_or ld s 0 % 32

-- where the flow of the i-th handle starts, and where it ends, with each subject taken for its lead
abbrev pub source : List ℕ → List Handle → ℕ → ℕ
source ld hs i = end_by (get_or hs i no_handle) (lead_of ld (i / 16)) true

abbrev pub target : List ℕ → List Handle → ℕ → ℕ
target ld hs i = end_by (get_or hs i no_handle) (lead_of ld (i / 16)) false

-- what an object demands of all that reach it
abbrev pub demanded_by : Object → Label
demanded_by x = cond (eqb x.kind 1) (label x.level x.shops) bot

-- the figures to start from, of the first k objects: what each thing demands
pub record Started (os : List Object) (r : List ℕ) (k : ℕ) : Type 0 where
  pub long : length r ≡ 96
  pub subjects : (i : ℕ) → i < 32 → get_or r i 0 ≡ 0
  pub objects : (i : ℕ) → i < k → coded (get_or r (32 + i) 0) ≡ demanded_by (get_or os i no_object)

abbrev pub low_by : Bool → Label → Label → Bool
low_by used l v = cond used (not (leq v l)) false

abbrev pub short_subject : Subject → Label → Bool
short_subject x v = low_by (not (eqb x.live 0)) (label x.level x.shops) v

abbrev pub short_object : Object → Label → Bool
short_object x v = low_by (not (eqb x.kind 0)) (label x.level x.shops) v

-- a flow from what needs `source` to what needs `end` is not what the source has its need from, which has `own` without it
abbrev pub spare_by : Label → Label → Label → Bool
spare_by end source own = within (shops end) (shops own) && (ltb (level end) (level source) || leb (level end) (level own))

-- what the source of the flow of handle h, which is on object y, demands by itself
abbrev pub backed_by : Handle → Object → Label
backed_by h y = cond (reads_by h.way) (demanded_by y) bot

-- what the object y, on which handle h is, demands of the handle's subject by itself
abbrev pub upheld_by : Handle → Object → Label
upheld_by h y = cond (writes_by h.way) (demanded_by y) bot

-- the first n of some labels, joined
abbrev pub all_below : ℕ → (ℕ → Label) → Label
all_below zero f = bot
all_below (suc n) f = join (all_below n f) (f n)

-- all that the files demand which subject s writes from its first k places
abbrev pub beside_of : List Object → List Handle → ℕ → ℕ → Label
beside_of os hs s k = all_below k (λ p. let h = get_or hs (s * 16 + p) no_handle in upheld_by h (get_or os (h.object % 64) no_object))

-- a flow falls by the figures of its subject and its object
abbrev pub falls_by : Bool → Label → Label → Bool
falls_by reads mine its = cond reads (leq mine its) (leq its mine)

-- the figures of things once each subject has that of its lead
pub record Spread (ld n r : List ℕ) : Type 0 where
  pub subjects : (s : ℕ) → s < 32 → get_or r s 0 ≡ get_or n (lead_of ld s) 0
  pub objects : (i : ℕ) → get_or r (32 + i) 0 ≡ get_or n (32 + i) 0

-- the thing at which the flow of handle h of subject s starts
abbrev pub source_of : Handle → ℕ → ℕ
source_of h s = cond (reads_by h.way) (32 + h.object % 64) (s % 32)

-- and the one at which it ends
abbrev pub end_of : Handle → ℕ → ℕ
end_of h s = cond (reads_by h.way) (s % 32) (32 + h.object % 64)

-- m is v once thing a has taken in the figure of thing c, where it has not got it; b: it grew
pub record Taken (a c : ℕ) (v m : List ℕ) (b : Bool) : Type 0 where
  pub grew : b ≡ true → (w : ℕ) × (m ≡ set v a w) × (coded w ≡ join (coded (get_or v a 0)) (coded (get_or v c 0))) × (coded (get_or v c 0) ⊑ coded (get_or v a 0) → ⊥)
  pub still : b ≡ false → (m ≡ v) × (coded (get_or v c 0) ⊑ coded (get_or v a 0))
