-- Demand 3 holds of any monitor whose single calls keep their promise towards the rules. First of what the rules say; then of a monitor,
-- which is any type with a view of it as tables, and calls that are answered and that move it as `Meets` says. Assumes nothing.
use Rattle.std.specs.Prelude.{◌≡◌, refl, not, List, [], ◌∷◌, ◌++◌, ℕ, length, T, ltb}
use Rattle.std.proofs.Common.{sym, ◌∙◌, ap, ap₂, subst, subst₂, inl, inr, lt→ltb}
use Rattle.std.proofs.Math.Option.{Option, none, some, none-ne-some, some-injective}
use Rattle.std.proofs.Math.ListN.{get_elem?}
use Rattle.model.specs.Bools.{nor, yes_not_not}
use Rattle.model.specs.Lists.{In}
use Rattle.model.specs.Flow.{subject}
use Rattle.model.specs.Tables.{Dir, reading, writing, Handle, Tables, empty, places, is_some, live, clean}
use Rattle.model.proofs.Tables.Laws.{some_is}
use Rattle.model.specs.Invariant.{Ends, Wf, Kept}
use Rattle.model.proofs.Invariant.Laws.{clean_same}
use Rattle.model.specs.Calls.{Call, access, Raw, decode, Test, faces, turned, broken, tests, refusal, effect, next, Answer, refused, answer, answers, after}
use Rattle.model.proofs.Calls.Refusals.{allowed_iff, answered_refused}
use Rattle.model.proofs.Calls.Kept.{next_kept, empty_kept, always_kept}
use Rattle.model.specs.Book.{Handling, Outside, book}
use Rattle.model.proofs.Book.Laws.{book_tables, book_answered, unmoved}
use Rattle.model.proofs.Promise.Laws.{handed_back}
use Rattle.model.specs.Promise.{Kind, Meets, Runs, done, then}
use Rattle.model.specs.Demand3.{Held, Demand3}

-- ── a held handle is never refused ──
faces_self : (d : Dir) → T (faces d d)
faces_self reading = tt
faces_self writing = tt

pub held_allowed : (t : Tables) → Wf t → (s p : ℕ) (k : Handle) → t.hand s p ≡ some k → refusal t (access k.dir s p) ≡ none
held_allowed t w s p k q = (allowed_iff t (access k.dir s p)).1 each
  where
    f : Ends t s p k
    f = w.ends s p k q

    each : (e : Test) → In e (tests (access k.dir s p)) → T (not (broken t e))
    each e (inl z) = subst (λ (x : Test). T (not (broken t x))) z (yes_not_not (live t (subject s)) f.from)
    each e (inr (inl z)) = subst (λ (x : Test). T (not (broken t x))) z
        (nor (not (ltb p places)) (not (is_some (t.hand s p))) (yes_not_not (ltb p places) (lt→ltb p places f.place))
        (yes_not_not (is_some (t.hand s p)) (some_is q)))
    each e (inr (inr (inl z))) = subst (λ (x : Test). T (not (broken t x))) z
        (subst (λ (o : Option Handle). T (not (turned k.dir o))) (sym q) (yes_not_not (faces k.dir k.dir) (faces_self k.dir)))
    each e (inr (inr (inr z))) = absurd z

not_refused : (t : Tables) (c : Call) (n : ℕ) → refusal t c ≡ none → answer t c ≡ refused n → ⊥
not_refused t c n q e = none-ne-some n (sym q ∙ (answered_refused t c n).0 e)

-- ── the rules ──
-- the answer at a position is the answer to the call there, in the tables just before
answer_at : (t : Tables) (before : List Raw) (r : Raw) (rest : List Raw) → get_elem? (answers t (before ++ r ∷ rest)) (length before) ≡ some
    (answer (after t before) (decode r))
answer_at t [] r rest = refl
answer_at t (b ∷ before) r rest = answer_at (next t (decode b)) before r rest

none_cut : (h : Handling) (out : Outside) (before : List Raw) (r : Raw) → Held (book h out before) r → (n : ℕ) → answer (after empty before)
    (decode r) ≡ refused n → ⊥
none_cut h out before r w n = subst (λ (c : Call). answer t c ≡ refused n → ⊥)
    (ap (λ (d : Dir). access d w.caller w.place) w.that_direction ∙ sym w.is_access)
    (not_refused t (access w.handle.dir w.caller w.place) n
    (held_allowed t (always_kept before).wf w.caller w.place w.handle
    (ap (λ (u : Tables). u.hand w.caller w.place) (sym (book_tables h out before)) ∙ w.at_place)))
  where
    t : Tables
    t = after empty before

pub rules_demand3 : (rs : List Raw) → Demand3 rs (answers empty rs) (after empty rs)
rules_demand3 rs = record {
  answers_are_the_book's = λ h out. sym (book_answered h out rs);
  end_is_the_book's = λ h out. sym (book_tables h out rs);
  none_cut_off = λ h out before r rest q w n e. none_cut h out before r w n
      (some-injective _ _ (sym (answer_at empty before r rest) ∙ ap (λ (l : List Raw). get_elem? (answers empty l) (length before))
      (sym q) ∙ e));
  contents_unmoved = λ ℓ h p q w. (unmoved ℓ h p q rs w).same_at;
}

-- one more call
pub after_more : (t : Tables) (rs : List Raw) (r : Raw) → after t (rs ++ r ∷ []) ≡ next (after t rs) (decode r)
after_more t [] r = refl
after_more t (k ∷ rs) r = after_more (next t (decode k)) rs r

pub answers_more : (t : Tables) (rs : List Raw) (r : Raw) → answers t (rs ++ r ∷ []) ≡ answers t rs ++ answer (after t rs) (decode r) ∷ []
answers_more t [] r = refl
answers_more t (k ∷ rs) r = ap (λ (l : List Answer). answer t (decode k) ∷ l) (answers_more (next t (decode k)) rs r)

-- ── a monitor ──
module _ {M : Type 0} (K : Kind M) where
  -- one more call, of a monitor whose tables are those that the list led to
  pub meets_next : (m : M) (c : Call) (a : Answer) (n : M) (t : Tables) → K.view m ≡ t → Kept t → K.honest m → Meets K m c a n
      → (a ≡ answer t c) × (K.view n ≡ next t c)
  meets_next m c a n t e v h k = (k.answered h ∙ ap (λ (u : Tables). answer u c) cleaned, go (refusal t c) refl)
    where
      cleaned : clean (K.view m) ≡ t
      cleaned = ap clean e ∙ clean_same t v.wf

      go : (o : Option ℕ) → refusal t c ≡ o → K.view n ≡ elim o as (λ _. Tables) [ none ↦ effect t c | some j ↦ t ]
      go none q = k.moved h (ap (λ (u : Tables). refusal u c) cleaned ∙ q) ∙ ap (λ (u : Tables). effect u c) cleaned
      go (some j) q = ap K.view (handed_back K m n c a h k j (ap (λ (u : Tables). refusal u c) cleaned ∙ q)) ∙ e

  runs_rules : (m : M) (rs : List Raw) (l : List Answer) (n : M) (t : Tables) → K.view m ≡ t → Kept t → K.honest m → Runs K m rs l n →
      (l ≡ answers t rs) × (K.view n ≡ after t rs)
  runs_rules m rs l n t e v h done = (refl, e)
  runs_rules m rs l n t e v h (then {n = m'} {r = r} {rs = rs'} {a = a} {l = l'} k s) = let f = meets_next m (decode r) a m' t e v h k in
      let g = runs_rules m' rs' l' n (next t (decode r)) f.1 (next_kept t (decode r) v) (k.stays h) s in
      (ap₂ (λ x y. x ∷ y) f.0 g.0, g.1)

  -- DEMAND 3: for every list of calls from empty tables, by any monitor whose calls keep their promise
  pub demand3 : (m : M) → K.view m ≡ empty → K.honest m → (rs : List Raw) (l : List Answer) (n : M) → Runs K m rs l n → Demand3 rs l (K.view n)
  demand3 m e h rs l n s = let r = runs_rules m rs l n empty e empty_kept h s in subst₂ (λ x y. Demand3 rs x y) (sym r.0) (sym r.1) (rules_demand3 rs)
