-- What the inner functions of this crate work out, on records. No caller needs these. Assumes nothing.
use Rattle.std.specs.Prelude.{◌≡◌, Bool, false, cond, List, ℕ, ◌<◌, length, get_or, ltb, eqb}
use Rattle.tables.specs.declared.Subject.{Subject}
use Rattle.tables.specs.declared.Object.{Object}
use Rattle.tables.specs.declared.Handle.{Handle}
use Rattle.tables.specs.Records.{no_object, no_handle}
use Rattle.tables.specs.Working.{some_below}

-- h, of the subject, or an empty record where it dangles
abbrev pub kept_of : Handle → Subject → Object → Handle
kept_of h s o = cond (eqb s.live 0) no_handle (cond (ltb h.object 64) (cond (eqb o.kind 0) no_handle h) no_handle)

-- h, or an empty record where it is marked or a mapping
abbrev pub lasting_of : Handle → Handle
lasting_of h = cond (eqb h.mark 0) (cond (eqb h.way 3) no_handle h) no_handle

abbrev pub on : Handle → ℕ → Bool
on h o = cond (eqb h.way 0) false (eqb h.object o)

-- o is open by the first i handle records
abbrev pub open_by : List Handle → ℕ → ℕ → Bool
open_by hs i o = some_below i (λ j. on (get_or hs j no_handle) o)

-- of the numbers below n, r marks those that f finds at some number below i
pub record Hits (f : ℕ → ℕ → Bool) (n : ℕ) (r : List Bool) (i : ℕ) : Type 0 where
  pub long : length r ≡ n
  pub at : (x : ℕ) → x < n → get_or r x false ≡ some_below i (λ j. f j x)

abbrev pub outlived_by : Object → Bool → Bool → Object
outlived_by x was is = cond (ltb x.kind 2) x (cond is x (cond was no_object x))
