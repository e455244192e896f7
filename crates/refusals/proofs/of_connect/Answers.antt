-- `refusals::of_connect` meets its contract. Assumes nothing.
use mathlib.Core.Path.{refl}
use mathlib.Core.Bool.{true, false}
use Rattle.std.proofs.Common.{rules}
use Rattle.refusals.proofs.Asking.{of_connect}
use Rattle.refusals.proofs.of_connect.Goals as goal

pub returns-then-x-eq0 : goal.returns-then-x-eq0
returns-then-x-eq0 c = let a = c.args in of_connect a.s a.u a.a a.b a.p a.q a.x a.z a.y a.v a.h a.k a.i a.j {b2 = true} (search rules) refl refl refl refl

pub returns-then-s-u : goal.returns-then-s-u
returns-then-s-u c = let a = c.args in of_connect a.s a.u a.a a.b a.p a.q a.x a.z a.y a.v a.h a.k a.i a.j {b2 = false} {b16 = true} (search rules) (search rules) refl refl refl

pub returns-then-is_object_used : goal.returns-then-is_object_used
returns-then-is_object_used c =
    let a = c.args in
    of_connect a.s a.u a.a a.b a.p a.q a.x a.z a.y a.v a.h a.k a.i a.j {b2 = false} {b16 = false} {b3 = true} (search rules) (search rules) (search rules) refl refl

pub returns-then-a-ge-OBJECT_NUMBERS : goal.returns-then-a-ge-OBJECT_NUMBERS
returns-then-a-ge-OBJECT_NUMBERS c =
    let a = c.args in
    of_connect a.s a.u a.a a.b a.p a.q a.x a.z a.y a.v a.h a.k a.i a.j {b2 = false} {b16 = false} {b3 = false} {b17 = true} (search rules) (search rules) (search rules) (search rules)
    refl

pub returns-then-are_ends_used : goal.returns-then-are_ends_used
returns-then-are_ends_used c =
    let a = c.args in
    of_connect a.s a.u a.a a.b a.p a.q a.x a.z a.y a.v a.h a.k a.i a.j {b2 = false} {b16 = false} {b3 = false} {b17 = false} {b7 = true} (search rules) (search rules) (search rules)
    (search rules) (search rules)

pub returns : goal.returns
returns c =
    let a = c.args in
    of_connect a.s a.u a.a a.b a.p a.q a.x a.z a.y a.v a.h a.k a.i a.j {b2 = false} {b16 = false} {b3 = false} {b17 = false} {b7 = false} (search rules) (search rules) (search rules)
    (search rules) (search rules)
