-- What a host that starts from the empty state is told of its refusals 9: behind each of them a chain, and behind nothing else one. Assumes nothing.
use Rattle.std.specs.Prelude.{◌≡◌, List, ℕ, ◌<◌}
use Rattle.std.proofs.Common.{subst}
use Rattle.model.specs.Tables.{Tables, empty}
use Rattle.model.specs.Calls.{Raw, decode, Answer, refused, answer, after}
use Rattle.model.proofs.Calls.Kept.{always_kept}
use Rattle.model.proofs.Calls.Refusals.{answered_refused}
use Rattle.why.specs.declared.Chain.{Chain}
use Rattle.why.specs.Why.{Shown}
use Rattle.stored.specs.State.{Blank}
use Rattle.host.specs.declared.lent.State.{State}
use Rattle.host.specs.Typing.{Session}
use Rattle.host.specs.Typing.Laws.{session_size, session_tables}
use Rattle.host.specs.Lending.{Begins, Lendings}
use Rattle.host.specs.Lending.Laws.{lent_sure, lent_tables}
use Rattle.host.specs.Behind.{Left, Tells, WhyBytes, WhyLent}

-- RULES A12, A14: after the calls rs from empty tables, n was returned for the call r, with the chain k lent and k' left there
pub record Told (rs : List Raw) (r : Raw) (k : Chain) (n : ℕ) (k' : Chain) : Type 0 where
  pub some : answer (after empty rs) (decode r) ≡ refused 9 → (0 < n) × (n ≡ k'.count) × Shown (after empty rs) (decode r) k'
  pub none : (answer (after empty rs) (decode r) ≡ refused 9 → ⊥) → (n ≡ 0) × (k' ≡ k)

told : (rs : List Raw) (r : Raw) (k : Chain) (n : ℕ) (k' : Chain) → Left k n k' → Tells (after empty rs) (decode r) n k' → Told rs r k n k'
told rs r k n k' l e =
    let t = after empty rs in
    let i = answered_refused t (decode r) 9 in
    record {
      some = λ h. let z = e.some (i.0 h) (always_kept rs).safe (always_kept rs).even in (z.0, l.count z.0, z.1);
      none = λ h. let z = e.none (λ q. h (i.1 q)) in (z, l.same z);
    }

-- a host that keeps nothing but the bytes, after any list of calls and lines
pub session_told : (s s' : List ℕ) (rs : List Raw) (l : List Answer) → Blank s → Session s rs l s' → (r : Raw) (k : Chain) (n : ℕ) (k' : Chain) → WhyBytes s' r k n k'
    → Told rs r k n k'
session_told s s' rs l b c r k n k' w = told rs r k n k' w.left
    (subst (λ (t : Tables). Tells t (decode r) n k') (session_tables s s' rs l b c) (w.tells (session_size s s' rs l b.size c)))

-- and one that keeps nothing but the struct
pub lent_told : (x y : State) (rs : List Raw) (l : List Answer) → Begins x → Lendings x rs l y → (r : Raw) (k : Chain) (n : ℕ) (k' : Chain) → WhyLent y r k n k'
    → Told rs r k n k'
lent_told x y rs l b c r k n k' w = told rs r k n k' w.left
    (subst (λ (t : Tables). Tells t (decode r) n k') (lent_tables x y rs l b c) (w.tells (lent_sure x y rs l b c).0))
