-- Demand 3 of a host's calls and lines on bytes, and the needs that then stand in them. States RULES L16. Assumes nothing.
use Rattle.std.specs.Prelude.{◌≡◌, refl, Bool, true, false, List, [], ◌∷◌, ◌++◌, ℕ}
use Rattle.std.proofs.Common.{sym, ◌∙◌, ap, ap₂, subst, subst₂}
use Rattle.model.specs.Tables.{Tables, empty, clean}
use Rattle.model.specs.Invariant.{Kept}
use Rattle.model.proofs.Invariant.Laws.{clean_same}
use Rattle.model.specs.Calls.{Raw, decode, next, Answer, answer, answers, after}
use Rattle.model.proofs.Calls.Kept.{next_kept, after_kept, empty_kept, always_kept}
use Rattle.model.specs.Demand3.{Demand3}
use Rattle.model.proofs.Demand3.Laws.{rules_demand3, meets_next}
use Rattle.stored.specs.State.{Sized, state_view, state_right, stored_kind, Blank}
use Rattle.lines.specs.Calls.{calls_of}
use Rattle.typed.specs.declared.Outcome.{Outcome}
use Rattle.typed.specs.Typed.{moves}
use Rattle.host.specs.Typing.{read_tables, Leaves, Session, ended, called, lined, unlined}

-- some calls, and then others
after_then : (t : Tables) (rs ss : List Raw) → after t (rs ++ ss) ≡ after (after t rs) ss
after_then t [] ss = refl
after_then t (r ∷ rs) ss = after_then (next t (decode r)) rs ss

answers_then : (t : Tables) (rs ss : List Raw) → answers t (rs ++ ss) ≡ answers t rs ++ answers (after t rs) ss
answers_then t [] ss = refl
answers_then t (r ∷ rs) ss = ap (λ (l : List Answer). answer t (decode r) ∷ l) (answers_then (next t (decode r)) rs ss)

-- the calls of a line, on bytes that stand for tables that calls lead to
module _ (s s' : List ℕ) (cs : List Raw) (out : Outcome) (t : Tables) (e : state_view s ≡ t) (k : Kept t) (p : Leaves s cs out s') where
  read_is : read_tables s ≡ t
  read_is = ap clean e ∙ clean_same t k.wf

  line_tables : state_view s' ≡ after t cs
  line_tables = by (moves (answers (read_tables s) cs)) refl
    where
      by : (b : Bool) → moves (answers (read_tables s) cs) ≡ b → state_view s' ≡ after t cs
      by true q = (p.moved q).0 ∙ ap (λ (u : Tables). after u cs) read_is
      by false q =
          let z = p.same q in
          ap state_view z ∙ e ∙ sym read_is ∙ ap read_tables (sym z) ∙ p.tables ∙ ap (λ (u : Tables). after u cs) read_is

session_rules : (s s' : List ℕ) (rs : List Raw) (l : List Answer) (t : Tables) → Sized s → state_view s ≡ t → Kept t → Session s rs l s'
    → (l ≡ answers t rs) × (state_view s' ≡ after t rs)
session_rules s s' rs l t h e k ended = (refl, e)
session_rules s s' rs l t h e k (called {s' = x} {r = r} {rs = rest} {l = m} p q) =
    let w = p.stored h in
    let f = meets_next stored_kind s (decode r) _ x t e k tt w.meets in
    let g = session_rules x s' rest m (next t (decode r)) w.size f.1 (next_kept t (decode r) k) q in
    (ap₂ (λ a b. a ∷ b) (p.told h ∙ f.0) g.0, g.1)
session_rules s s' rs l t h e k (lined {s' = x} {shell = a} {child = b} {pipe = c} {out = out} {rs = rest} {l = m} p g w u q) =
    let cs = calls_of a b c g in
    let r = p.ran h g w u in
    let f = session_rules x s' rest m (after t cs) r.size (line_tables s x cs out t e k r) (after_kept t cs k) q in
    (ap₂ (λ y z. y ++ z) (ap (λ (v : Tables). answers v cs) (read_is s x cs out t e k r)) f.0 ∙ sym (answers_then t cs rest), f.1 ∙ sym (after_then t cs rest))
session_rules s s' rs l t h e k (unlined {s' = x} z q) = session_rules x s' rs l t (subst Sized (sym z) h) (ap state_view z ∙ e) k q

module _ (s s' : List ℕ) (rs : List Raw) (l : List Answer) (b : Blank s) (c : Session s rs l s') where
  -- a host that keeps nothing but the bytes, and starts from the empty state, has demand 3 for every list of calls and lines
  pub session_demand3 : Demand3 rs l (state_view s')
  session_demand3 = let r = session_rules s s' rs l empty b.size b.tables empty_kept c in
      subst₂ (λ x y. Demand3 rs x y) (sym r.0) (sym r.1) (rules_demand3 rs)

  -- the tables are the rules' after these calls
  pub session_tables : clean (state_view s') ≡ after empty rs
  session_tables = ap clean (session_rules s s' rs l empty b.size b.tables empty_kept c).1 ∙ clean_same (after empty rs) (always_kept rs).wf

-- bytes of the length stay bytes of the length
pub session_size : (s s' : List ℕ) (rs : List Raw) (l : List Answer) → Sized s → Session s rs l s' → Sized s'
session_size s s' rs l h ended = h
session_size s s' rs l h (called {s' = x} {rs = rest} {l = m} p q) = session_size x s' rest m (p.stored h).size q
session_size s s' rs l h (lined {s' = x} {rs = rest} {l = m} p g w u q) = session_size x s' rest m (p.ran h g w u).size q
session_size s s' rs l h (unlined {s' = x} z q) = session_size x s' rs l (subst Sized (sym z) h) q

-- RULES F12: and the kept needs that then stand in the bytes are right
pub session_right : (s s' : List ℕ) (rs : List Raw) (l : List Answer) → Sized s → state_right s → Session s rs l s' → state_right s'
session_right s s' rs l h r ended = r
session_right s s' rs l h r (called {s' = x} {rs = rest} {l = m} p q) = let w = p.stored h in session_right x s' rest m w.size (w.meets.kept tt r) q
session_right s s' rs l h r (lined {s' = x} {rs = rest} {l = m} p g w u q) = let f = p.ran h g w u in session_right x s' rest m f.size (f.right r) q
session_right s s' rs l h r (unlined {s' = x} z q) = session_right x s' rs l (subst Sized (sym z) h) (subst state_right (sym z) r) q
