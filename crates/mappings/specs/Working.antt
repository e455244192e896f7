-- What the inner functions of this crate work out, on records. No caller needs these. Assumes nothing.
use Rattle.std.specs.Prelude.{Bool, false, not, ◌&&◌, cond, ℕ, eqb}
use Rattle.model.specs.Label.{label, leq}
use Rattle.tables.specs.declared.Subject.{Subject}
use Rattle.tables.specs.declared.Handle.{Handle}

-- h is a mapping on object o
abbrev pub maps_on : Handle → ℕ → Bool
maps_on h o = eqb h.way 3 && eqb h.object o

-- x and y are live, and the label of y is not at least that of x
abbrev pub sank_by : Subject → Subject → Bool
sank_by x y = cond (eqb x.live 0) false (cond (eqb y.live 0) false (not (leq (label x.level x.shops) (label y.level y.shops))))
