-- `stored::load_part` meets its contract. Assumes nothing.
use Rattle.std.proofs.Common.{◌/◌, length, rules, arith}
use Rattle.std.proofs.lemmas.Nat.{le-div}
use Rattle.stored.proofs.Loading.{loaded}
use Rattle.stored.proofs.load_part.Goals as goal

pub returns : goal.returns
returns g c =
    let w = g.row.W in
    let s = c.args.from.now in
    loaded _ _ g.T.Kept.of w (length s / w) g.row.N s _ (le-div g.row.N (length s) w g.met.T.Kept.few.0 (omega (arith, c.requires))) (λ i y q l k. search rules) c.from_fn.ensures.items
