-- Laws of the ports. In order: what a read's number means, by tests of it; how far reading has come. Assumes nothing.
use Rattle.std.specs.Prelude.{ℕ, zero, suc, ◌+◌, ◌-◌, ◌≤◌, ◌<◌, ◌≡◌, refl, true, false, List, ℤ, pos, negsuc, nat_abs, length, take, drop}
use Rattle.std.proofs.Common.{zero-le, arith, sym, subst, ltb-true, ltb-false, length-take, length-drop}
use Rattle.std.specs.Int.Signed.{lt_z}
use Rattle.ports.specs.declared.Intake.{Intake}
use Rattle.ports.specs.declared.Step.{Step}
use Rattle.ports.specs.declared.Step.TheVariants.{Failed, Ended, Brought}
use Rattle.ports.specs.Ports.{Moved, step, brought_by, Advanced, goes_by, goes}

-- ── what a read's number means ──
pub step_below : (z : ℤ) → lt_z z (pos 0) ≡ true → Failed ≡ step z
step_below (pos n) e = absurd (omega (arith, ltb-true n 0 e))
step_below (negsuc n) e = refl

pub step_above : (z : ℤ) → lt_z (pos 0) z ≡ true → Brought (nat_abs z) ≡ step z
step_above (pos zero) e = absurd (omega (arith, ltb-true 0 0 e))
step_above (pos (suc n)) e = refl
step_above (negsuc n) e = absurd (let q : ◌≡◌ {A = ℕ} 0 1 = cc in omega arith)

pub step_between : (z : ℤ) → lt_z z (pos 0) ≡ false → lt_z (pos 0) z ≡ false → Ended ≡ step z
step_between (pos zero) e f = refl
step_between (pos (suc n)) e f = absurd (omega (arith, ltb-false 0 (suc n) f))
step_between (negsuc n) e f = absurd (let q : ◌≡◌ {A = ℕ} 0 1 = cc in omega arith)

-- a read that is lent m bytes brings at most as many
pub brought_room : (m : ℕ) (z : ℤ) → Moved m z → brought_by (step z) ≤ m
brought_room m (pos zero) h = zero-le
brought_room m (pos (suc k)) h = h
brought_room m (negsuc k) h = zero-le

-- and one that is lent what lies behind `done` bytes keeps within the whole
pub reached_room : (done : ℕ) (buf : List ℕ) (z : ℤ) → done ≤ length buf
    → Moved (length (take (length buf - done) (drop done buf))) z → done + brought_by (step z) ≤ length buf
reached_room done buf z h m =
    omega (arith, h, brought_room _ z m, length-take (length buf - done) (drop done buf), length-drop done buf)

-- ── how far reading has come ──
-- what is left of it: a turn for each byte of room, while it goes on
abbrev pub left_by : Step → ℕ → ℕ → ℕ
left_by Failed done room = 0
left_by Ended done room = 0
left_by (Brought n) done room = suc (room - done)

abbrev pub left : Intake → ℕ → ℕ
left at room = left_by at.last at.done room

-- one that goes on has room
pub goes_room : (at : Intake) (room : ℕ) → goes at room ≡ true → at.done < room
goes_room at room = by at.last
  where
    by : (s : Step) → goes_by s at.done room ≡ true → at.done < room
    by Failed e = absurd (let q : ◌≡◌ {A = ℕ} 0 1 = cc in omega arith)
    by Ended e = absurd (let q : ◌≡◌ {A = ℕ} 0 1 = cc in omega arith)
    by (Brought n) e = ltb-true at.done room e

-- and has something left, of which the next read takes some
pub left_less : (at r : Intake) (buf buf' : List ℕ) → goes at (length buf) ≡ true → Advanced at r buf buf'
    → left r (length buf) < left at (length buf)
left_less at r buf buf' g a =
    subst (λ (i : Intake). left i (length buf) < left at (length buf)) (sym a.next) (by at.last g a.number)
  where
    by : (s : Step) → goes_by s at.done (length buf) ≡ true → (z : ℤ)
        → left_by (step z) (at.done + brought_by (step z)) (length buf) < left_by s at.done (length buf)
    by Failed e z = absurd (let q : ◌≡◌ {A = ℕ} 0 1 = cc in omega arith)
    by Ended e z = absurd (let q : ◌≡◌ {A = ℕ} 0 1 = cc in omega arith)
    by (Brought n) e (negsuc k) = omega arith
    by (Brought n) e (pos zero) = omega arith
    by (Brought n) e (pos (suc k)) = omega (arith, ltb-true at.done (length buf) e)
