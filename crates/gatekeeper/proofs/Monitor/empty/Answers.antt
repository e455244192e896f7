-- `gatekeeper::Monitor::empty` meets its contract. Assumes nothing.
use borrow.Author.Rules.{rules}
use mathlib.Core.Path.{◌≡◌, refl, sym, ◌∙◌, ap, ap₂, subst, fun_ext}
use mathlib.Core.Bool.{not, ◌||◌, ◌&&◌, or-false}
use Prim.Native.Nat.{ℕ, ◌<◌}
use native.Mathlib.Omega.{arith}
use native.Mathlib.Decide.{dec_lt}
use lib.Dec.{eqb}
use Rattle.model.specs.Tables.{empty, with_kin, clean}
use Rattle.model.specs.Figures.{Ready}
use Rattle.tables.specs.Needs.{figure_of}
use Rattle.gatekeeper.specs.View.{slots, view, Right, Honest}
use lib.ListN.{get_or, replicate, length-replicate, get_or-replicate, get_or-eq_default}
use Rattle.tables.specs.declared.Subject.{Subject}
use Rattle.tables.specs.declared.Object.{Object}
use Rattle.tables.specs.declared.Handle.{Handle}
use Rattle.groups.specs.Groups.{stands, kin_of}
use Rattle.tables.specs.Records.{no_subject, no_object, no_handle, tables_of}
use Rattle.gatekeeper.specs.declared.Monitor.{Monitor}
use Rattle.tables.specs.Records.Laws.{empty_tables}
use Rattle.gatekeeper.proofs.Numbered.{empty_view, apart_empty}
use Rattle.gatekeeper.proofs.Keeping.{empty_right, empty_honest}
use Rattle.gatekeeper.proofs.Monitor.empty.Goals as goal

-- nobody is live, and so nobody is in a group with another

abbrev begun : Subject → Object → Handle → Monitor
begun x y h = record { subjects = replicate 32 x; objects = replicate 64 y; handles = replicate 512 h; freeze = 16; needs = replicate 96 0; groups = replicate 32 0; sure = 1; numbers = replicate 64 0 }

abbrev start : Monitor
start = begun no_subject no_object no_handle

record Begun (m : Monitor) : Type 0 where
  tables : view m ≡ empty
  needs : Right m
  honest : Honest m

none_yet : slots start ≡ empty
unfolding tables_of
none_yet = ap₂ with_kin empty_tables (fun_ext (λ a. fun_ext (λ b. alone a b)))
  where
    first : (a : ℕ) → Dec (a < 32) → get_or (replicate 32 no_subject) a no_subject ≡ no_subject
    first a (yes l) = get_or-replicate 32 a no_subject no_subject l
    first a (no h) = get_or-eq_default (replicate 32 no_subject) no_subject {n = a} (omega (arith, length-replicate 32 no_subject))

    alone : (a b : ℕ) → kin_of (replicate 32 no_subject) (replicate 32 0) a b ≡ eqb a b
    alone a b = ap (λ (x : Subject). eqb a b || (not (eqb x.live 0) && (stands (replicate 32 no_subject) b && eqb (get_or (replicate 32 0) a 0) (get_or (replicate 32 0) b 0))))
        (first a (dec_lt a 32)) ∙ or-false (eqb a b)

begins : Begun start
begins = let v = empty_view start refl none_yet in let k = empty_honest _ (replicate 96 0) none_yet in record {
  tables = v.1;
  needs = subst (λ (n : Monitor). Ready (clean (slots n)) (figure_of (replicate 96 0))) (sym v.0) (empty_right _ (replicate 96 0) none_yet);
  honest = λ q. (apart_empty start refl, k.0, k.1);
}

pub returns : goal.returns
returns c =
    let s : c.default.result ≡ no_subject = search rules in
    let o : c.default-2.result ≡ no_object = search rules in
    let h : c.default-3.result ≡ no_handle = search rules in
    let e : begun c.default.result c.default-2.result c.default-3.result ≡ start = rw (s, o, h) refl in
    let z : Begun (begun c.default.result c.default-2.result c.default-3.result) = subst Begun (sym e) begins in
    record { tables = z.tables; needs = z.needs; honest = z.honest; sure = refl }
