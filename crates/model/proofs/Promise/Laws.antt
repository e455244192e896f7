-- What follows from the promise of single calls for any honest monitor, made up or not: nothing goes by the free part, a list of calls goes by the
-- rules on the tables as RULES T17 and T18 read them, and what is kept beside them stays right. Assumes nothing.
use Rattle.std.specs.Prelude.{◌≡◌, refl, List, ◌∷◌, ℕ}
use Rattle.std.proofs.Common.{sym, ◌∙◌, ap, ap₂, subst}
use Rattle.std.proofs.Math.Option.{Option, none, some}
use Rattle.model.specs.Tables.{Tables, clean}
use Rattle.model.specs.Invariant.{Wf}
use Rattle.model.proofs.Invariant.Laws.{clean_same}
use Rattle.model.specs.Calls.{Call, Raw, decode, refusal, effect, next, Answer, answer, answers, after}
use Rattle.model.proofs.Calls.Refusals.{answered_refused}
use Rattle.model.proofs.Calls.Dangling.{effect_wf, next_wf}
use Rattle.model.specs.Promise.{SameButFree, Kind, Meets, Runs, done, then}

module _ {M : Type 0} (K : Kind M) where
  -- a call that the rules refuse hands an honest monitor back
  pub handed_back : (m n : M) (c : Call) (a : Answer) → K.honest m → Meets K m c a n → (j : ℕ) → refusal (clean (K.view m)) c ≡ some j → n ≡ m
  handed_back m n c a h k j q = k.unchanged j (k.answered h ∙ (answered_refused (clean (K.view m)) c j).1 q)

  -- ── the free part ──
  -- one call on monitors that differ in the free part alone
  free_next : (m m' n n' : M) (c : Call) (a a' : Answer) → SameButFree K.view m m' → K.honest m → K.honest m' → Meets K m c a n
      → Meets K m' c a' n' → (a ≡ a') × SameButFree K.view n n'
  free_next m m' n n' c a a' e h h' k k' =
      (k.answered h ∙ ap (λ (t : Tables). answer (clean t) c) e ∙ sym (k'.answered h'), go (refusal (clean (K.view m)) c) refl)
    where
      other : (o : Option ℕ) → refusal (clean (K.view m)) c ≡ o → refusal (clean (K.view m')) c ≡ o
      other o q = ap (λ (t : Tables). refusal (clean t) c) (sym e) ∙ q

      go : (o : Option ℕ) → refusal (clean (K.view m)) c ≡ o → K.view n ≡ K.view n'
      go none q = k.moved h q ∙ ap (λ (t : Tables). effect (clean t) c) e ∙ sym (k'.moved h' (other none q))
      go (some j) q = ap K.view (handed_back m n c a h k j q) ∙ e ∙ ap K.view (sym (handed_back m' n' c a' h' k' j (other (some j) q)))

  -- RULES T23, F14: no answer and no later tables go by the free part
  pub free_unseen : (rs : List Raw) (m m' n n' : M) (l l' : List Answer) → SameButFree K.view m m' → K.honest m → K.honest m' → Runs K m rs l n
      → Runs K m' rs l' n' → (l ≡ l') × SameButFree K.view n n'
  free_unseen rs m m' n n' l l' e h h' done done = (refl, e)
  free_unseen rs m m' n n' l l' e h h' (then {n = x} {r = r} {rs = rest} {a = a} {l = k} p s) (then {n = x'} {a = a'} {l = k'} p' s') =
      let f = free_next m m' x x' (decode r) a a' e h h' p p' in
      let g = free_unseen rest x x' n n' k k' f.1 (p.stays h) (p'.stays h') s s' in
      (ap₂ (λ y z. y ∷ z) f.0 g.0, g.1)

  -- ── tables that no calls made ──
  cleaned_next : (m n : M) (c : Call) (a : Answer) → Wf (clean (K.view m)) → K.honest m → Meets K m c a n
      → clean (K.view n) ≡ next (clean (K.view m)) c
  cleaned_next m n c a w h k = go (refusal t c) refl
    where
      t : Tables
      t = clean (K.view m)

      go : (o : Option ℕ) → refusal t c ≡ o → clean (K.view n) ≡ elim o as (λ _. Tables) [ none ↦ effect t c | some j ↦ t ]
      go none q = ap clean (k.moved h q) ∙ clean_same (effect t c) (effect_wf t c w q)
      go (some j) q = ap (λ (x : M). clean (K.view x)) (handed_back m n c a h k j q)

  -- RULES T16, over a list of calls: every honest value of the monitor goes by the rules
  pub cleaned_runs : (rs : List Raw) (m n : M) (l : List Answer) → Wf (clean (K.view m)) → K.honest m → Runs K m rs l n
      → (l ≡ answers (clean (K.view m)) rs) × (clean (K.view n) ≡ after (clean (K.view m)) rs)
  cleaned_runs rs m n l w h done = (refl, refl)
  cleaned_runs rs m n l w h (then {n = x} {r = r} {rs = rest} {a = a} {l = k} p s) =
      let e = cleaned_next m x (decode r) a w h p in
      let g = cleaned_runs rest x n k (subst Wf (sym e) (next_wf (clean (K.view m)) (decode r) w)) (p.stays h) s in
      (ap₂ (λ y z. y ∷ z) (p.answered h) (g.0 ∙ ap (λ (t : Tables). answers t rest) e), g.1 ∙ ap (λ (t : Tables). after t rest) e)

  -- ── what is kept beside the tables ──
  -- RULES F12, over a list of calls
  pub runs_right : (rs : List Raw) (m n : M) (l : List Answer) → K.tidy m → Runs K m rs l n → K.right m → K.right n
  runs_right rs m n l h done r = r
  runs_right rs m n l h (then {n = x} {rs = rest} {l = k} p s) r = runs_right rest x n k (p.neat h) s (p.kept h r)

  -- RULES F20, over a list of calls: an honest monitor stays honest, and a tidy one claims what it claimed
  pub runs_honest : (rs : List Raw) (m n : M) (l : List Answer) → K.honest m → Runs K m rs l n → K.honest n
  runs_honest rs m n l h done = h
  runs_honest rs m n l h (then {n = x} {rs = rest} {l = k} p s) = runs_honest rest x n k (p.stays h) s

  pub runs_claim : (rs : List Raw) (m n : M) (l : List Answer) → K.tidy m → Runs K m rs l n → K.claim n ≡ K.claim m
  runs_claim rs m n l h done = refl
  runs_claim rs m n l h (then {n = x} {rs = rest} {l = k} p s) = runs_claim rest x n k (p.neat h) s ∙ p.says h
