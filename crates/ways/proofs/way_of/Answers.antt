-- `ways::way_of` meets its contract. Assumes nothing.
use mathlib.Core.Path.{subst}
use Rattle.model.specs.Label.{Label}
use Rattle.ways.specs.Paths.{Goal}
use Rattle.ways.proofs.Aiming.{own_no_goal}
use Rattle.ways.proofs.Finding.{live_found, idle_found}
use Rattle.ways.proofs.way_of.Goals as goal

pub way_from-requires : goal.way_from-requires
way_from-requires c =
    let a = c.args in
    record {
      low = c.requires;
      off = λ g. own_no_goal a.subjects a.objects a.x c.requires (subst (λ (l : Label). Goal a.objects l a.x) c.in-Some.ensures.1 g);
    }

pub returns-in-Some : goal.returns-in-Some
returns-in-Some c = live_found c.args.subjects _ c.requires c.in-Some.ensures.0 c.in-Some.ensures.1 c.way_from.ensures

pub returns-in-None : goal.returns-in-None
returns-in-None c = idle_found c.args.subjects _ c.in-None.ensures c.no_way.ensures
