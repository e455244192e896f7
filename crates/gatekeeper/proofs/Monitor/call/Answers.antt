-- `gatekeeper::Monitor::call` meets its contract. Assumes nothing.
use mathlib.Core.Path.{sym, subst₂}
use mathlib.Core.List.{List}
use Prim.Native.Nat.{ℕ}
use lib.ListN.{get_or}
use Rattle.model.specs.Calls.{decode}
use Rattle.model.specs.Tables.Numbers.{Distinct}
use Rattle.tables.specs.declared.Object.{Object}
use Rattle.tables.specs.Slots.{slot_used}
use Rattle.gatekeeper.specs.View.{direct_of, once}
use Rattle.gatekeeper.specs.Numbering.{Lift}
use Rattle.gatekeeper.proofs.Numbered.{once_long, meets, once_apart}
use Rattle.gatekeeper.proofs.Owned.{owned_long, reply_long}
use Rattle.gatekeeper.proofs.Keeping.{read_wf}
use Rattle.gatekeeper.proofs.Lifting.{lifted}
use Rattle.gatekeeper.proofs.Monitor.call.Goals as goal

pub returns : goal.returns
returns c =
    let m = c.args.self in
    let k = c.readied-t.ensures in
    let s = c.located-s.result in
    let l = c.located-s.ensures in
    let n = c.args.call.numbers in
    let g = owned_long m c.well_formed.0 in
    let d = c.dispatch-r.ensures in
    meets m _ (decode (direct_of c.args.call)) (decode (direct_of s.call)) c.dispatch-r.result g.objects
    (reply_long c.dispatch-r.result c.dispatch-r.type_inv) (read_wf (once m) (once_long m g))
    (λ h. record {
      tables = λ v. k.tables h;
      needs = k.needs;
      sure = k.sure;
      objects = λ v. k.objects h;
      lift = λ d v. subst₂ (λ (os : List Object) (ns : List ℕ). Lift os ns (decode (direct_of c.args.call)) (decode (direct_of s.call)) s.numbers)
          (k.objects h) k.numbers (lifted _ _ _ c.args.call s.call l.rest (l.lift n.e n.f
          (subst₂ (λ (os : List Object) (ns : List ℕ). Distinct (slot_used os) (λ i. get_or ns i 0) 64) (sym (k.objects h)) (sym k.numbers) (once_apart m))));
      acts = d.acts;
      keeps = d.keeps;
    }) c.settle.result c.settle.ensures
