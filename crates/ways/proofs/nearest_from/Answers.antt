-- `ways::nearest_from` meets its contract. Assumes nothing.
use native.Mathlib.Omega.{arith}
use Rattle.ways.proofs.Aiming.{subject_no_goal}
use Rattle.ways.proofs.nearest_from.Goals as goal

pub way_from-requires : goal.way_from-requires
way_from-requires c =
    record {
      low = omega arith;
      off = subject_no_goal _ _ _ (omega arith);
    }

pub returns : goal.returns
returns c = c.way_from.ensures
