-- `refusals::of_exec` meets its contract. Assumes nothing.
use mathlib.Core.Path.{refl}
use Rattle.refusals.proofs.Testing.{alive_is, present_is, pipe_is}
use Rattle.refusals.proofs.Finding.{alone, finds}
use Rattle.refusals.proofs.of_exec.Goals as goal

pub returns : goal.returns
returns c =
    λ t s o w x y.
    let a = c.args in
    finds (record {
      one = refl;
      two = alone (alive_is t w s a.x x);
      sixteen = refl;
      three = refl;
      seventeen = λ _. refl;
      four = alone (present_is t w o a.y y);
      five = alone
          (pipe_is t o a.y y);
      six = refl;
      seven = refl;
      eight = refl;
    })
    c.first.ensures
