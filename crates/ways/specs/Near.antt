-- How far things are from a goal, over 512 arcs: arc i leads from thing `from i` to thing `to i`. Goals have the figure 0, all else starts at 255, and figures
-- fall until no arc brings its start nearer; then a walk down them is a shortest one. No caller needs these. Assumes nothing.
use Rattle.std.specs.Prelude.{◌≡◌, Bool, true, false, ◌⊎◌, List, [], ◌∷◌, ℕ, ◌+◌, ◌≤◌, ◌<◌, length, get_or, take}

-- the figure of thing x, and the thing at which the x-th arc starts or ends
abbrev pub figure : List ℕ → ℕ → ℕ
figure l x = get_or l x 0

-- of the first k arcs none brings its start nearer
abbrev pub Settled : (ℕ → ℕ) → (ℕ → ℕ) → (ℕ → ℕ) → ℕ → Type 0
Settled from to d k = (i : ℕ) → i < k → d (from i) ≤ d (to i) + 1

-- some arc leads nearer from x
pub record Step (from to d : ℕ → ℕ) (x : ℕ) : Type 0 where
  pub arc : ℕ
  pub low : arc < 512
  pub leaves : from arc ≡ x
  pub nearer : d (to arc) < d x

-- no arc below i leads nearer from a
abbrev pub NoneBelow : (ℕ → ℕ) → (ℕ → ℕ) → (ℕ → ℕ) → ℕ → ℕ → Type 0
NoneBelow from to d a i = (j : ℕ) → j < i → from j ≡ a → d a ≤ d (to j)

-- figures that fell from v to m: each is as it was, or some arc leads nearer
pub record Falls (from to : ℕ → ℕ) (v m : List ℕ) : Type 0 where
  pub long : length m ≡ length v
  pub lower : (x : ℕ) → figure m x ≤ figure v x
  pub stepped : (x : ℕ) → (figure m x ≡ figure v x) ⊎ Step from to (figure m) x

abbrev pub sum : List ℕ → ℕ
sum [] = 0
sum (x ∷ l) = x + sum l

-- m is v after the first k arcs; b: some figure fell
pub record Neared (from to : ℕ → ℕ) (v m : List ℕ) (k : ℕ) (b : Bool) : Type 0 where
  pub falls : Falls from to v m
  pub total : sum m ≤ sum v
  pub fell : b ≡ true → sum m < sum v
  pub still : b ≡ false → Settled from to (figure m) k

-- the distances from the goals
pub record Ways (from to : ℕ → ℕ) (goals r : List ℕ) : Type 0 where
  pub falls : Falls from to goals r
  pub settled : Settled from to (figure r) 512

-- a walk down the figures does not get stuck above 0
pub record Sloped (from to d : ℕ → ℕ) : Type 0 where
  pub settled : Settled from to d 512
  pub steps : (x : ℕ) → x < 96 → (d x ≡ 0 → ⊥) → d x ≤ 95 → Step from to d x

-- RULES A13: arc i leads nearer from x, and no lower one does
pub record First (from to d : ℕ → ℕ) (x i : ℕ) : Type 0 where
  pub low : i < 512
  pub leaves : from i ≡ x
  pub nearer : d (to i) < d x
  pub lowest : (j : ℕ) → j < i → from j ≡ x → d x ≤ d (to j)

-- the arcs l lead from x down to y, each the first that leads nearer from where the one before it ends
pub data Walk (from to d : ℕ → ℕ) : ℕ → List ℕ → ℕ → Type 0 where
  there : {x y : ℕ} → x ≡ y → Walk from to d x [] y
  along : {x y : ℕ} {l : List ℕ} (i : ℕ) → First from to d x i → Walk from to d (to i) l y → Walk from to d x (i ∷ l) y

-- what a walk from x comes to: as many steps as the figure of x, and a thing whose figure is 0
pub record Walked (from to d : ℕ → ℕ) (x start : ℕ) (steps : List ℕ) (count end : ℕ) : Type 0 where
  pub begins : start ≡ x
  pub long : count ≡ d x
  pub low : end < 96
  pub arrived : d end ≡ 0
  pub walk : Walk from to d x (take count steps) end
