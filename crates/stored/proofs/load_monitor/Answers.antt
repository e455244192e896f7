-- `stored::load_monitor` meets its contract. Assumes nothing.
use Rattle.std.proofs.Common.{◌≡◌, ◌-◌, ◌∙◌, List, ℕ}
use Rattle.stored.specs.State.{state_bytes, objects_at, handles_at, needs_at, numbers_at, groups_at, subjects_of, objects_of, handles_of, freeze_of, needs_of, numbers_of, groups_of}
use Rattle.stored.proofs.Loading.{in_part}
use Rattle.stored.proofs.load_monitor.Goals as goal

pub returns : goal.returns
unfolding subjects_of objects_of handles_of freeze_of needs_of numbers_of groups_of
returns c =
    let s : List ℕ = c.args.state.now in
    let numbers : c.load_part.result ≡ numbers_of s = c.load_part.ensures ∙ in_part _ _ _ numbers_at (state_bytes - numbers_at) s c.told-state in
    let subjects : c.load_part-2.result ≡ subjects_of s = c.load_part-2.ensures ∙ in_part _ _ _ 0 state_bytes s c.told-state in
    let objects : c.load_part-3.result ≡ objects_of s = c.load_part-3.ensures ∙ in_part _ _ _ objects_at (state_bytes - objects_at) s c.told-state in
    let handles : c.load_part-4.result ≡ handles_of s = c.load_part-4.ensures ∙ in_part _ _ _ handles_at (state_bytes - handles_at) s c.told-state in
    let needs : c.load_part-5.result ≡ needs_of s = c.load_part-5.ensures ∙ in_part _ _ _ needs_at (state_bytes - needs_at) s c.told-state in
    let groups : c.load_part-6.result ≡ groups_of s = c.load_part-6.ensures ∙ in_part _ _ _ groups_at (state_bytes - groups_at) s c.told-state in
    λ i. record {
      numbers = numbers i;
      subjects = subjects i;
      objects = objects i;
      handles = handles i;
      freeze = freeze_of s;
      needs = needs i;
      groups = groups i;
      sure = 0;
    }
