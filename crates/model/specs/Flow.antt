-- Things, the flows between them, what a thing reaches, and its need. States RULES F4 to F7.
--
-- In order: things; flows (edges of a graph); `Reaches`; all that a thing reaches, computed; `need`.
-- That `reached` is what `Reaches` says, and that `need` is the least label that is at least that of each file reached, is
-- proved in `Flow.Laws` (`reached_is`, `need_upper`, `need_least`). Assumes nothing.
use Rattle.std.specs.Prelude.{◌≡◌, Bool, false, not, List, [], ◌∷◌, ◌++◌, ℕ, zero, suc, length, eqb}
use Rattle.model.specs.Label.{Label, join, bot}
use Rattle.model.specs.Lists.{In, keep, any}

-- RULES T1, T2: subjects and objects, by number
pub data Thing : Type 0 where
  subject object : ℕ → Thing

abbrev pub same : Thing → Thing → Bool
same (subject a) (subject b) = eqb a b
same (subject a) (object b) = false
same (object a) (subject b) = false
same (object a) (object b) = eqb a b

-- RULES F1, F2: a flow, from one thing to another
pub record Edge : Type 0 where
  pub src : Thing
  pub dst : Thing

-- RULES F4: the rules' *reaches*, by a chain of flows of any length, none included. (Reachability in the graph of flows.)
pub data Reaches (es : List Edge) : Thing → Thing → Type 0 where
  here : {x y : Thing} → x ≡ y → Reaches es x y
  step : {x y : Thing} (e : Edge) → In e es → e.src ≡ x → Reaches es e.dst y → Reaches es x y

-- ── all that a thing reaches, computed ──
abbrev pub has : List Thing → Thing → Bool
has l x = any (λ y. same y x) l

-- where the edges that leave S lead, and the edges that do not leave it
abbrev pub targets : List Thing → List Edge → List Thing
targets S [] = []
targets S (e ∷ es) = keep (has S e.src) e.dst (targets S es)

abbrev pub others : List Thing → List Edge → List Edge
others S [] = []
others S (e ∷ es) = keep (not (has S e.src)) e (others S es)

-- S with the targets H, and on from there; S alone where there are none
abbrev pub grow : List Thing → (List Thing → List Thing) → List Thing → List Thing
grow [] on S = S
grow (h ∷ H) on S = on ((h ∷ H) ++ S)

-- S and all that it reaches: each round follows the edges that leave, and spends them
abbrev pub spread : ℕ → List Edge → List Thing → List Thing
spread zero es S = S
spread (suc n) es S = grow (targets S es) (spread n (others S es)) S

abbrev pub reached : List Edge → Thing → List Thing
reached es x = spread (length es) es (x ∷ [])

-- ── the need ──
abbrev pub joins : (Thing → Label) → List Thing → Label
joins f [] = bot
joins f (x ∷ l) = join (f x) (joins f l)

-- RULES F5, F6, F7: the rules' *need*, the largest label of the files reached, the least label where there are none. (The minimum label
-- that a thing may have.) Here f is a file's label, and the least label for any other thing.
unfoldable pub need : (Thing → Label) → List Edge → Thing → Label
need f es x = joins f (reached es x)
