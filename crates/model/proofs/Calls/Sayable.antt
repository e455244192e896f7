-- Every answer from empty tables gives a level of 0 to 15, that to a freeze 0 to 16, or the number of a refusal that calls have. Assumes nothing.
use Rattle.std.specs.Prelude.{◌≡◌, refl, Bool, true, false, List, [], ◌∷◌, ℕ, ◌≤◌, T, ltb}
use Rattle.std.proofs.Common.{inl, arith, ltb-false}
use Rattle.std.proofs.Math.Option.{Option, none, some}
use Rattle.model.specs.Bools.{is_false}
use Rattle.model.specs.Label.{highest, level, in_scale, bot}
use Rattle.model.proofs.Label.Laws.{bot_in_scale, level_in_scale, lost_in_scale}
use Rattle.model.specs.Flow.{Thing, subject, object}
use Rattle.model.specs.Tables.{reading, writing, Entry, Tables, empty, no_freeze, cell}
use Rattle.model.specs.Invariant.{Kept, topmost, Sayable, AllSayable}
use Rattle.model.specs.Calls.{Call, admit, register, create, make_pipe, opens, access, fork, thread, exec, close, exit, retire, maps, mark, freeze, connect, unknown, Raw, decode}
use Rattle.model.specs.Calls.{target, effect, next, freezable, refusal, level_at, shown, Answer, refused, lowers, last_label, fewer, outcome, said, answer, answers}
use Rattle.model.proofs.Calls.Refusals.{allowed_iff, refused_listed}
use Rattle.model.proofs.Calls.Kept.{effect_kept, next_kept, empty_kept}

-- the level of a thing
level_sayable : (t u : Tables) (c : Call) (x : Thing) → highest ≤ topmost c → Kept t → Kept u → Sayable c (said t u (level_at x))
level_sayable t u c x h v w = made (lowers t u) (level (last_label (t.at x) (u.at x))) (fewer (t.at x) (u.at x)) (low (t.at x) (u.at x) (v.scaled.within x) (w.scaled.within x))
    (few (t.at x) (u.at x) (v.scaled.within x))
  where
    Low : Option Entry → Type 0
    Low o = (e : Entry) → o ≡ some e → T (in_scale e.label)

    low : (b a : Option Entry) → Low b → Low a → level (last_label b a) ≤ highest
    low none none lb la = level_in_scale bot bot_in_scale
    low (some b) none lb la = level_in_scale b.label (lb b refl)
    low b (some a) lb la = level_in_scale a.label (la a refl)

    few : (b a : Option Entry) → Low b → fewer b a ≤ 8
    few none a lb = omega arith
    few (some b) none lb = omega arith
    few (some b) (some a) lb = lost_in_scale b.label a.label (lb b refl)

    made : (f : Bool) (n k : ℕ) → n ≤ highest → k ≤ 8 → Sayable c (outcome f n k)
    made true n k l j = (l, j)
    made false n k l j = omega (arith, h)

answer_sayable : (t : Tables) (c : Call) → Kept t → Sayable c (answer t c)
unfolding answer
answer_sayable t c v = go (refusal t c) refl
  where
    thing : (c : Call) (x : Thing) → highest ≤ topmost c → refusal t c ≡ none → Sayable c (said t (effect t c) (level_at x))
    thing c x h q = level_sayable t (effect t c) c x h v (effect_kept t c v q)

    shows : (c : Call) → refusal t c ≡ none → Sayable c (said t (effect t c) (shown t c))
    shows (admit s n) q = thing (admit s n) (subject s) (omega arith) q
    shows (register o n) q = thing (register o n) (object o) (omega arith) q
    shows (create s o) q = thing (create s o) (object o) (omega arith) q
    shows (make_pipe s o r w) q = thing (make_pipe s o r w) (object o) (omega arith) q
    shows (opens d s o p) q = thing (opens d s o p) (object o) (omega arith) q
    shows (access reading s p) q = thing (access reading s p) (cell t s) (omega arith) q
    shows (access writing s p) q = thing (access writing s p) (target (t.hand s p)) (omega arith) q
    shows (fork s c) q = thing (fork s c) (subject c) (omega arith) q
    shows (thread s c) q = thing (thread s c) (subject c) (omega arith) q
    shows (exec s o) q = thing (exec s o) (cell t s) (omega arith) q
    shows (close s p) q = thing (close s p) (cell t s) (omega arith) q
    shows (exit s) q = thing (exit s) (cell t s) (omega arith) q
    shows (retire o) q = thing (retire o) (object o) (omega arith) q
    shows (maps s o p) q = thing (maps s o p) (cell t s) (omega arith) q
    shows (mark s p) q = thing (mark s p) (cell t s) (omega arith) q
    shows (freeze n) q = ltb-false no_freeze n (is_false (ltb no_freeze n) ((allowed_iff t (freeze n)).0 q (freezable n) (inl refl)))
    shows (connect s u a b p r) q = thing (connect s u a b p r) (cell t s) (omega arith) q
    shows unknown q = omega arith

    go : (o : Option ℕ) → refusal t c ≡ o → Sayable c (elim o as (λ _. Answer) [ none ↦ said t (effect t c) (shown t c) | some n ↦ refused n ])
    go none q = shows c q
    go (some n) q = refused_listed t c n q

-- RULES T27, R112: every answer from empty tables gives a level of 0 to 15, that to a freeze 0 to 16, or the number of a refusal that calls have
pub always_sayable : (rs : List Raw) → AllSayable rs (answers empty rs)
always_sayable rs = from empty rs empty_kept
  where
    from : (t : Tables) (rs : List Raw) → Kept t → AllSayable rs (answers t rs)
    from t [] v = tt
    from t (r ∷ rs) v = (answer_sayable t (decode r) v, from (next t (decode r)) rs (next_kept t (decode r) v))
