-- Refusal 9, both ways: an open, a map or a connect that is otherwise in order is refused with 9 if and only if after it some live thing reaches, through
-- open handles, a file of a higher level; an exec if and only if the file's level is below the subject's need, that is, if and only if
-- the subject reaches a file of a higher level than the program's. Refusals 15 and 17, likewise; and which of the two is said of an open. For every tables, also those that no calls made. Assumes nothing.
use Rattle.std.specs.Prelude.{◌≡◌, refl, Bool, true, false, not, ◌&&◌, cond, ◌↔◌, ℕ, ◌+◌, ◌<◌, length, T, eqb, ltb, leb}
use Rattle.std.proofs.Common.{sym, ◌∙◌, ap, subst, inl, inr, T_not, eqb→eq, ltb→lt, lt→ltb, leb→le, le→leb}
use Rattle.std.proofs.Math.Option.{Option, none, some}
use Rattle.std.proofs.Math.Dec.{not_T, eqb_refl}
use Rattle.model.specs.Bools.{test, cond_yes, both, both_of}
use Rattle.model.specs.Lists.{In}
use Rattle.model.specs.Label.{Label, level, leq, ◌⊑◌, bot}
use Rattle.model.proofs.Label.Laws.{⊑_trans, bot_least}
use Rattle.model.specs.Flow.{Thing, subject, object, Reaches}
use Rattle.model.proofs.Flow.Laws.{need_upper, need_over}
use Rattle.model.specs.Tables.{Dir, reading, writing, Entry, Tables, no_freeze, is_some, in_range, used, live, label_of, is_file, cell, handles, open_on, things, edges, demand, needs, safe}
use Rattle.model.proofs.Tables.Laws.{some_of, thing_listed, listed_live, not_safe}
use Rattle.model.specs.Steps.{applies}
use Rattle.model.specs.Calls.{Call, register, create, make_pipe, opens, exec, maps, connect, sheds, channel, Test, number, alive, present, vacant, enough, suits, thawed, others, roomy, shut, broken, tests, order, earlier, InOrder, refusal}
use Rattle.model.proofs.Calls.Sound.{idle_need}
use Rattle.model.proofs.Calls.Refusals.{refused_is, refused_by, only}
use Rattle.model.specs.Demand2.{Leaks, Offends, opened, Named, Closed}

-- ── a need that a label does not reach up to, as a chain of flows ──
pub over_leaks : (u : Tables) (a : Label) (x : Thing) → T (not (leq (needs u x) a)) → Leaks u a x
over_leaks u a x h = let r = need_over (edges u) (λ y. demand y (u.at y)) x a h in found r.0 r.1 (u.at r.0) refl r.2
  where
    found : (y : Thing) → Reaches (edges u) x y → (o : Option Entry) → u.at y ≡ o → T (not (leq (demand y o) a)) → Leaks u a x
    found y c none q n = absurd (T_not (leq bot a) n bot_least.tested)
    found y c (some e) q n = kind (is_file y e.kind) refl n
      where
        kind : (b : Bool) → is_file y e.kind ≡ b → T (not (leq (cond b e.label bot) a)) → Leaks u a x
        kind true z m = record { high = y; high_entry = e; high_live = q; high_file = subst T (sym z) tt; higher = m; reaches = c }
        kind false z m = absurd (T_not (leq bot a) m bot_least.tested)

pub leaks_over : (u : Tables) (a : Label) (x : Thing) → Leaks u a x → T (not (leq (needs u x) a))
leaks_over u a x l = not_T (leq (needs u x) a) (λ t. T_not (leq l.high_entry.label a) l.higher (⊑_trans demanded (record { tested = t })).tested)
  where
    demand_is : demand l.high (u.at l.high) ≡ l.high_entry.label
    demand_is = ap (demand l.high) l.high_live ∙ cond_yes (is_file l.high l.high_entry.kind) l.high_entry.label bot l.high_file

    demanded : l.high_entry.label ⊑ needs u x
    demanded = subst (λ (b : Label). b ⊑ needs u x) demand_is (need_upper (edges u) (λ y. demand y (u.at y)) l.reaches)

pub unsafe_iff : (u : Tables) → T (not (safe u)) ↔ Offends u
unfolding used
unsafe_iff u = (
  λ h. (let r = (not_safe u).0 h in record { low = r.0; low_live = listed_live u r.0 r.1; leaks = over_leaks u (label_of (u.at r.0)) r.0 r.2 }),
  λ o. (not_safe u).1 (o.low, listed o.low o.low_live o.leaks, leaks_over u (label_of (u.at o.low)) o.low o.leaks),
)
  where
    -- an object on which no handle is reaches nothing else
    listed : (x : Thing) → T (live u x) → Leaks u (label_of (u.at x)) x → In x (things u)
    listed (subject n) v l = let b = both_of (in_range (subject n)) (is_some (u.at (subject n))) v in
        let e = some_of (u.at (subject n)) b.1 in thing_listed u (subject n) e.0 b.0 e.1
    listed (object n) v l = let e = some_of (u.at (object n)) (both_of (in_range (object n)) (is_some (u.at (object n))) v).1 in
        elim (test (open_on (handles u) n)) [
          | inl g ↦ thing_listed u (object n) e.0 g e.1
          | inr g ↦ absurd (T_not (leq (needs u (object n)) (label_of (u.at (object n)))) (leaks_over u (label_of (u.at (object n))) (object n) l)
              (subst (λ (o : Option Entry). T (leq (needs u (object n)) (label_of o))) (sym e.1) (idle_need u n e.0 e.1 g).tested))
        ]

-- ── the flow rule ──
-- RULES R9, R109: an open
pub open_refused_iff : (t : Tables) (d : Dir) (s o p : ℕ) → (refusal t (opens d s o p) ≡ some 9) ↔ (InOrder t (opens d s o p) 9 × Offends (opened t d s o p))
open_refused_iff t d s o p = (
  λ q. (let r = refused_by t (opens d s o p) 9 q in (
    r.1,
    (unsafe_iff (opened t d s o p)).0
        (only t (enough (opens d s o p)) (tests (opens d s o p)) (inl tt, (inl tt, (inl tt, (inr refl, (inl tt, tt))))) r.0),
  )),
  λ r. refused_is t (opens d s o p) (enough (opens d s o p)) (inr (inr (inr (inl refl)))) ((unsafe_iff (opened t d s o p)).1 r.1) r.0,
)

-- RULES R9, R109, R119: a map, as the open for reading
pub map_refused_iff : (t : Tables) (s o p : ℕ) → (refusal t (maps s o p) ≡ some 9) ↔ (InOrder t (maps s o p) 9 × Offends (opened t reading s o p))
map_refused_iff t s o p = (
  λ q. (let r = refused_by t (maps s o p) 9 q in (
    r.1,
    (unsafe_iff (opened t reading s o p)).0
        (only t (enough (opens reading s o p)) (tests (maps s o p)) (inl tt, (inl tt, (inl tt, (inl tt, (inr refl, tt))))) r.0),
  )),
  λ r. refused_is t (maps s o p) (enough (opens reading s o p)) (inr (inr (inr (inr (inl refl))))) ((unsafe_iff (opened t reading s o p)).1 r.1) r.0,
)

-- RULES R9, R109, R121: a connect, with both pipes and all four handles
pub connect_refused_iff : (t : Tables) (s u a b p q : ℕ) → (refusal t (connect s u a b p q) ≡ some 9) ↔
    (InOrder t (connect s u a b p q) 9 × Offends (applies (channel t s u a b p q) t))
connect_refused_iff t s u a b p q = (
  λ r. (let k = refused_by t (connect s u a b p q) 9 r in (
    k.1,
    (unsafe_iff (applies (channel t s u a b p q) t)).0 (only t (enough (connect s u a b p q)) (tests (connect s u a b p q))
        (inl tt, (inl tt, (inl tt, (inl tt, (inl tt, (inl tt, (inl tt, (inl tt, (inl tt, (inl tt, (inl tt, (inr refl, (inl tt, tt))))))))))))) k.0),
  )),
  λ r. refused_is t (connect s u a b p q) (enough (connect s u a b p q)) (inr (inr (inr (inr (inr (inr (inr (inr (inr (inr (inr (inl refl))))))))))))
      ((unsafe_iff (applies (channel t s u a b p q) t)).1 r.1) r.0,
)

-- RULES R16, R120: it is refused with 16 if and only if both subjects are live and are the same
pub connect_same_iff : (t : Tables) (s u a b p q : ℕ) → (refusal t (connect s u a b p q) ≡ some 16) ↔ (InOrder t (connect s u a b p q) 16 × (s ≡ u))
connect_same_iff t s u a b p q = (
  λ r. (let k = refused_by t (connect s u a b p q) 16 r in (
    k.1,
    eqb→eq s u (only t (others s u) (tests (connect s u a b p q))
        (inl tt, (inl tt, (inr refl, (inl tt, (inl tt, (inl tt, (inl tt, (inl tt, (inl tt, (inl tt, (inl tt, (inl tt, (inl tt, tt))))))))))))) k.0),
  )),
  λ r. refused_is t (connect s u a b p q) (others s u) (inr (inr (inl refl))) (subst (λ (z : ℕ). T (eqb s z)) r.1 (eqb_refl s)) r.0,
)

-- RULES R9, R110: an exec. The need is taken in the tables that are left once the exec dropped the marked handles and the mappings of s
pub exec_refused_iff : (t : Tables) (s o : ℕ) → (refusal t (exec s o) ≡ some 9) ↔
    (InOrder t (exec s o) 9 × T (not (leq (needs (applies (sheds t s) t) (cell t s)) (label_of (t.at (object o))))))
exec_refused_iff t s o = (
  λ q. (let r = refused_by t (exec s o) 9 q in (r.1, only t (suits s o) (tests (exec s o)) (inl tt, (inl tt, (inl tt, (inr refl, tt)))) r.0)),
  λ r. refused_is t (exec s o) (suits s o) (inr (inr (inr (inl refl)))) r.1 r.0,
)

-- RULES R9, R110: the same, by a chain of flows
pub exec_leaks_iff : (t : Tables) (s o : ℕ) → (refusal t (exec s o) ≡ some 9) ↔
    (InOrder t (exec s o) 9 × Leaks (applies (sheds t s) t) (label_of (t.at (object o))) (cell t s))
exec_leaks_iff t s o = (
  λ q. (let r = (exec_refused_iff t s o).0 q in
      (r.0, over_leaks u l (cell t s) r.1)),
  λ r. (exec_refused_iff t s o).1 (r.0, leaks_over u l (cell t s) r.1),
)
  where
    u : Tables
    u = applies (sheds t s) t

    l : Label
    l = label_of (t.at (object o))

-- ── the freeze ──
shut_iff : (t : Tables) (d : Dir) (o : ℕ) → T (broken t (thawed d o)) ↔ ((d ≡ writing) × Closed t o)
shut_iff t d o = (λ h. to d (t.at (object o)) refl h, λ r. from r)
  where
    to : (d : Dir) (v : Option Entry) → t.at (object o) ≡ v → T (shut t.freeze d (object o) v) → (d ≡ writing) × Closed t o
    to reading v q h = absurd h
    to writing none q h = absurd h
    to writing (some e) q h =
        let a = both_of (ltb t.freeze no_freeze) (is_file (object o) e.kind && leb t.freeze (level e.label)) h in
        let b = both_of (is_file (object o) e.kind) (leb t.freeze (level e.label)) a.1 in
        (refl, record { entry = e; there = q; is_a_file = b.0; set = ltb→lt t.freeze no_freeze a.0; at_or_above = leb→le t.freeze (level e.label) b.1 })

    from : (d ≡ writing) × Closed t o → T (shut t.freeze d (object o) (t.at (object o)))
    from (q, r) = subst (λ (z : Dir). T (shut t.freeze z (object o) (t.at (object o)))) (sym q)
        (subst (λ (v : Option Entry). T (shut t.freeze writing (object o) v)) (sym r.there)
        (both (ltb t.freeze no_freeze) (is_file (object o) r.entry.kind && leb t.freeze (level r.entry.label))
        (lt→ltb t.freeze no_freeze r.set)
        (both (is_file (object o) r.entry.kind) (leb t.freeze (level r.entry.label)) r.is_a_file
        (le→leb t.freeze (level r.entry.label) r.at_or_above))))

-- RULES R15, R118: an open that is otherwise in order is refused with 15 if and only if it is for writing, and on a file at or above the freeze
pub frozen_refused_iff : (t : Tables) (d : Dir) (s o p : ℕ) → (refusal t (opens d s o p) ≡ some 15) ↔
    (InOrder t (opens d s o p) 15 × (d ≡ writing) × Closed t o)
frozen_refused_iff t d s o p = (
  λ q. (let r = refused_by t (opens d s o p) 15 q in
      let c = (shut_iff t d o).0 (only t (thawed d o) (tests (opens d s o p)) (inl tt, (inl tt, (inl tt, (inl tt, (inr refl, tt))))) r.0) in (r.1, c.0, c.1)),
  λ r. refused_is t (opens d s o p) (thawed d o) (inr (inr (inr (inr (inl refl))))) ((shut_iff t d o).1 (r.1, r.2)) r.0,
)

-- ── room ──
module _ (t : Tables) (c : Call) (k : ℕ) where
  -- RULES R17, R122, R123: a call that is in order so far, and is to make k objects, is refused with 17 if and only if more than 64 would be live
  roomy_iff : In (roomy k) (tests c) → (((e : Test) × In e (tests c) × (number e ≡ 17) × T (broken t e)) → T (broken t (roomy k)))
      → (refusal t c ≡ some 17) ↔ (InOrder t c 17 × (64 < length t.numbers + k))
  roomy_iff i f = (
    λ q. (let r = refused_by t c 17 q in (r.1, ltb→lt 64 (length t.numbers + k) (f r.0))),
    λ r. refused_is t c (roomy k) i (lt→ltb 64 (length t.numbers + k) r.1) r.0,
  )

pub register_crowded_iff : (t : Tables) (o : ℕ) (n : Label) → (refusal t (register o n) ≡ some 17) ↔ (InOrder t (register o n) 17 × (64 < length t.numbers + 1))
register_crowded_iff t o n = roomy_iff t (register o n) 1 (inr (inr (inl refl))) (only t (roomy 1) (tests (register o n)) (inl tt, (inl tt, (inr refl, tt))))

pub create_crowded_iff : (t : Tables) (s o : ℕ) → (refusal t (create s o) ≡ some 17) ↔ (InOrder t (create s o) 17 × (64 < length t.numbers + 1))
create_crowded_iff t s o = roomy_iff t (create s o) 1 (inr (inr (inl refl))) (only t (roomy 1) (tests (create s o)) (inl tt, (inl tt, (inr refl, tt))))

pub pipe_crowded_iff : (t : Tables) (s o r w : ℕ) → (refusal t (make_pipe s o r w) ≡ some 17) ↔ (InOrder t (make_pipe s o r w) 17 × (64 < length t.numbers + 1))
pipe_crowded_iff t s o r w = roomy_iff t (make_pipe s o r w) 1 (inr (inr (inr (inr (inr (inl refl))))))
    (only t (roomy 1) (tests (make_pipe s o r w)) (inl tt, (inl tt, (inl tt, (inl tt, (inl tt, (inr refl, tt)))))))

pub connect_crowded_iff : (t : Tables) (s u a b p q : ℕ) → (refusal t (connect s u a b p q) ≡ some 17) ↔
    (InOrder t (connect s u a b p q) 17 × (64 < length t.numbers + 2))
connect_crowded_iff t s u a b p q = roomy_iff t (connect s u a b p q) 2 (inr (inr (inr (inr (inr (inr (inr (inr (inr (inr (inr (inr (inl refl)))))))))))))
    (only t (roomy 2) (tests (connect s u a b p q))
    (inl tt, (inl tt, (inl tt, (inl tt, (inl tt, (inl tt, (inl tt, (inl tt, (inl tt, (inl tt, (inl tt, (inl tt, (inr refl, tt))))))))))))))

-- ── which of the two is said ──
-- RULES R15, R117: an open is refused with 15 if and only if no number of it is wrong, it is for writing and the file is frozen, whatever flow it would make
pub frozen_said_iff : (t : Tables) (d : Dir) (s o p : ℕ) → (refusal t (opens d s o p) ≡ some 15) ↔ (Named t s o p × (d ≡ writing) × Closed t o)
frozen_said_iff t d s o p = (
  λ q. (let r = (frozen_refused_iff t d s o p).0 q in (named r.0, r.1, r.2)),
  λ r. (frozen_refused_iff t d s o p).1 (passed r.0, r.1, r.2),
)
  where
    named : InOrder t (opens d s o p) 15 → Named t s o p
    named f = record { caller = f (alive s) (inl refl) tt; file = f (present o) (inr (inl refl)) tt; place = f (vacant s p) (inr (inr (inl refl))) tt }

    passed : Named t s o p → InOrder t (opens d s o p) 15
    passed n e (inl z) h = subst (λ (k : Test). T (not (broken t k))) z n.caller
    passed n e (inr (inl z)) h = subst (λ (k : Test). T (not (broken t k))) z n.file
    passed n e (inr (inr (inl z))) h = subst (λ (k : Test). T (not (broken t k))) z n.place
    passed n e (inr (inr (inr (inl z)))) h = absurd (subst (λ (k : Test). T (earlier (number k) 15 order)) (sym z) h)
    passed n e (inr (inr (inr (inr (inl z))))) h = absurd (subst (λ (k : Test). T (earlier (number k) 15 order)) (sym z) h)
    passed n e (inr (inr (inr (inr (inr z))))) h = absurd z

-- RULES R9, R117: and with 9 if and only if no number of it is wrong, it is for reading or the file is not frozen, and some thing would have a level below its need
pub flow_said_iff : (t : Tables) (d : Dir) (s o p : ℕ) → (refusal t (opens d s o p) ≡ some 9) ↔
    (Named t s o p × ((d ≡ writing) × Closed t o → ⊥) × Offends (opened t d s o p))
flow_said_iff t d s o p = (
  λ q. (let r = (open_refused_iff t d s o p).0 q in (named r.0, thaws r.0, r.1)),
  λ r. (open_refused_iff t d s o p).1 (passed r.0 r.1, r.2),
)
  where
    named : InOrder t (opens d s o p) 9 → Named t s o p
    named f = record { caller = f (alive s) (inl refl) tt; file = f (present o) (inr (inl refl)) tt; place = f (vacant s p) (inr (inr (inl refl))) tt }

    thaws : InOrder t (opens d s o p) 9 → (d ≡ writing) × Closed t o → ⊥
    thaws f c = T_not (broken t (thawed d o)) (f (thawed d o) (inr (inr (inr (inr (inl refl))))) tt) ((shut_iff t d o).1 c)

    passed : Named t s o p → ((d ≡ writing) × Closed t o → ⊥) → InOrder t (opens d s o p) 9
    passed n f e (inl z) h = subst (λ (k : Test). T (not (broken t k))) z n.caller
    passed n f e (inr (inl z)) h = subst (λ (k : Test). T (not (broken t k))) z n.file
    passed n f e (inr (inr (inl z))) h = subst (λ (k : Test). T (not (broken t k))) z n.place
    passed n f e (inr (inr (inr (inl z)))) h = absurd (subst (λ (k : Test). T (earlier (number k) 9 order)) (sym z) h)
    passed n f e (inr (inr (inr (inr (inl z))))) h =
        subst (λ (k : Test). T (not (broken t k))) z (not_T (broken t (thawed d o)) (λ b. f ((shut_iff t d o).0 b)))
    passed n f e (inr (inr (inr (inr (inr z))))) h = absurd z
