-- Made minus gone is the number of handles in the tables, modulo 2 to the 64th, after every list of calls from empty tables; from any tables in
-- which nothing dangles it moves as that number does (RULES Y10, Y11). How many handles a step places or removes; then call by call; then
-- the list. Assumes nothing.
use Rattle.std.specs.Prelude.{◌≡◌, Bool, true, false, not, cond, ◌⊎◌, List, [], ◌∷◌, ◌++◌, ℕ, zero, suc, ◌+◌, ◌*◌, ◌/◌, ◌^◌, ◌<◌, length, T, eqb, ltb}
use Rattle.std.proofs.Math.Path.{refl}
use Rattle.std.proofs.Common.{◌∙◌, ap, subst, inl, inr, mod-lt, arith, length-append, T_not, eqb→eq, ltb→lt, lit<}
use Rattle.std.proofs.Math.Option.{Option, none, some}
use Rattle.std.proofs.Math.Dec.{not_T, eqb_refl}
use Rattle.model.specs.Bools.{test, neither, not_not, cond_yes, cond_no, is_true, is_false}
use Rattle.model.specs.Lists.{In, each}
use Rattle.model.specs.Flow.{Thing, subject, object, same}
use Rattle.model.specs.Tables.{running, pipe, Dir, reading, writing, Entry, entry, Handle, handle, mapping, Tables, empty, with_at, subjects, places, is_some, label_of, cell, mates, one, handles_of, handles}
use Rattle.model.proofs.Tables.Laws.{some_of, live_of, used_is, handles_by, handles_at}
use Rattle.model.specs.Steps.{blank, copied, writes, runs, enter, quits, hold, holds, mix, freezes, put, apply, applies, reap}
use Rattle.model.proofs.Steps.Laws.{place_other, place_apart, applies_append}
use Rattle.model.specs.Invariant.{Wf}
use Rattle.model.proofs.Invariant.Laws.{empty_wf}
use Rattle.model.specs.Calls.{Call, admit, register, create, make_pipe, opens, access, fork, thread, exec, close, exit, retire, maps, mark, freeze, connect, unknown, Raw, decode, target, moves, followed, marking, ends_at_exec, lasting, sheds, channel, steps, effect, Test, alive, new, vacant, taken, apart, others, broken, tests, refusal, next, after}
use Rattle.model.proofs.Calls.Refusals.{allowed_iff}
use Rattle.model.proofs.Calls.Passed.{is_alive, is_new, is_place, not_own_mate}
use Rattle.model.proofs.Calls.Moving.{rereads_keep}
use Rattle.model.proofs.Calls.Dangling.{next_wf}
use Rattle.model.proofs.Calls.Renaming.{Renumbers, joined, ren, held as renamed}
use Rattle.model.specs.Tally.{held, dropped, drops, makes, removes, wrapped, Tally, zeroed, tallied, tally, difference, ousted}

-- ── lengths of lists made for the numbers below a bound ──
module _ {A : Type 0} where
  each_same : (n : ℕ) (f g : ℕ → List A) → ((j : ℕ) → j < n → length (g j) ≡ length (f j)) → length (each n g) ≡ length (each n f)
  each_same zero f g h = refl
  each_same (suc n) f g h = let a : length (each n g) ≡ length (each n f) = each_same n f g (λ j l. h j (omega arith)) in let b : length
      (g n) ≡ length (f n) = h n (omega arith) in
      omega (arith, length-append (each n g) (g n), length-append (each n f) (f n))

  -- one of them changed
  each_swap : (n i : ℕ) (f g : ℕ → List A) → i < n → ((j : ℕ) → T (not (eqb i j)) → length (g j) ≡ length (f j)) → length
      (each n g) + length (f i) ≡ length (each n f) + length (g i)
  each_swap zero i f g lt h = absurd (omega arith)
  each_swap (suc n) i f g lt h = go (test (eqb i n)) (each_swap n i f g)
    where
      ga : length (each n g ++ g n) ≡ length (each n g) + length (g n)
      ga = length-append (each n g) (g n)

      fa : length (each n f ++ f n) ≡ length (each n f) + length (f n)
      fa = length-append (each n f) (f n)

      go : T (eqb i n) ⊎ T (not (eqb i n)) → (i < n → ((j : ℕ) → T (not (eqb i j)) → length (g j) ≡ length (f j)) → length
          (each n g) + length (f i) ≡ length (each n f) + length (g i))
          → length (each n g ++ g n) + length (f i) ≡ length (each n f ++ f n) + length (g i)
      go (inl q) ih = let e : i ≡ n = eqb→eq i n q in
          let a : length (each n g) ≡ length (each n f) = each_same n f g (λ j l. h j (not_T (eqb i j) (λ t. let z : i ≡ j = eqb→eq i j t in omega arith))) in
          let b : length (f i) ≡ length (f n) = ap (λ (z : ℕ). length (f z)) e in let c : length (g i) ≡ length (g n) = ap (λ (z : ℕ). length (g z)) e in
          omega (arith, ga, fa)
      go (inr q) ih = let ne : (i ≡ n → ⊥) = (λ e. T_not (eqb i n) q (subst (λ (z : ℕ). T (eqb i z)) e (eqb_refl i))) in
          let a : length (each n g) + length (f i) ≡ length (each n f) + length (g i) = ih (omega (arith, ne)) h in let b : length
          (g n) ≡ length (f n) = h n q in
          omega (arith, ga, fa)

-- ── steps ──
abbrev count : Tables → ℕ
count t = length (handles t)

-- all places of s changed
count_row : (t : Tables) (s : ℕ) (r : ℕ → Option Handle) → s < subjects → count (apply (holds s r) t) + held t s ≡ count t + length
    (each places (λ p. one (r p)))
unfolding handles
count_row t s r l = each_swap subjects s (handles_of t) (handles_of (apply (holds s r) t)) l
    (λ j n. ap (λ (b : Bool). length (each places (λ p. one (cond b (r p) (t.hand j p))))) (is_false (eqb s j) n))
    ∙ ap (λ (m : ℕ). count t + m) (ap (λ (b : Bool). length (each places (λ p. one (cond b (r p) (t.hand s p))))) (is_true (eqb s s) (eqb_refl s)))

-- place p of s changed
count_hold : (t : Tables) (s p : ℕ) (v : Option Handle) → s < subjects → p < places → count (apply (hold s p v) t) + length
    (one (t.hand s p)) ≡ count t + length (one v)
count_hold t s p v ls lp = let a : count (apply (hold s p v) t) + held t s ≡ count t + length (each places (λ q. one (r q))) = count_row t s r ls in
    let b : length (each places (λ q. one (r q))) + length (one (t.hand s p)) ≡ held t s + length (one (r p)) = each_swap places p
    (λ q. one (t.hand s q)) (λ q. one (r q)) lp (λ q n. ap (λ (o : Option Handle). length (one o))
    (cond_no (eqb p q) v (t.hand s q) n)) in
    let c : length (one (r p)) ≡ length (one v) = ap (λ (o : Option Handle). length (one o)) (cond_yes (eqb p p) v (t.hand s p) (eqb_refl p)) in
    omega arith
  where
    r : ℕ → Option Handle
    r q = cond (eqb p q) v (t.hand s q)

count_at : (t : Tables) (a : Thing → Option Entry) → count (with_at t a) ≡ count t
count_at t a = ap length (handles_at t a)

-- an empty place takes a handle; a taken one is emptied
count_placed : (t : Tables) (s p : ℕ) (k : Handle) → s < subjects → p < places → t.hand s p ≡ none → count (apply (hold s p (some k)) t) ≡ count t + 1
count_placed t s p k ls lp q = let a : count (apply (hold s p (some k)) t) + length (one (t.hand s p)) ≡ count t + 1 = count_hold t s p (some k) ls lp in
    let b : length (one (t.hand s p)) ≡ 0 = ap (λ (o : Option Handle). length (one o)) q in omega arith

count_emptied : (t : Tables) (s p : ℕ) (k : Handle) → s < subjects → p < places → t.hand s p ≡ some k → count (apply (hold s p none) t) + 1 ≡ count t
count_emptied t s p k ls lp q = let a : count (apply (hold s p none) t) + length (one (t.hand s p)) ≡ count t + 0 = count_hold t s p none ls lp in
    let b : length (one (t.hand s p)) ≡ 1 = ap (λ (o : Option Handle). length (one o)) q in omega arith

-- each handle of s is dropped at an exec or lasts
pub each_parts : (n : ℕ) (h : ℕ → Option Handle) → length (each n (λ p. one (h p))) ≡
    length (each n (λ p. one (dropped (h p)))) + length (each n (λ p. one (lasting (h p))))
each_parts zero h = refl
each_parts (suc n) h = let a = each_parts n h in let b = parts (h n) in omega (
  arith,
  length-append (each n (λ p. one (h p))) (one (h n)),
  length-append (each n (λ p. one (dropped (h p)))) (one (dropped (h n))),
  length-append (each n (λ p. one (lasting (h p)))) (one (lasting (h n))),
)
  where
    parts : (o : Option Handle) → length (one o) ≡ length (one (dropped o)) + length (one (lasting o))
    parts none = refl
    parts (some k) = go (ends_at_exec k)
      where
        go : (b : Bool) → 1 ≡ length (one (cond b (some k) none)) + length (one (cond b none (some k)))
        go true = refl
        go false = refl

pub each_none : (n : ℕ) (f : ℕ → List Handle) → ((j : ℕ) → length (f j) ≡ 0) → length (each n f) ≡ 0
each_none zero f h = refl
each_none (suc n) f h = let a : length (each n f) ≡ 0 = each_none n f h in let b : length (f n) ≡ 0 = h n in omega (arith, length-append (each n f) (f n))

-- subjects end
count_quits : (t : Tables) (g : Thing → Bool) → count (apply (quits g) t) + length (each subjects (λ m. cond (g (subject m)) (handles_of t m) [])) ≡ count t
unfolding handles
count_quits t g = all subjects
  where
    u : Tables
    u = apply (quits g) t

    one_by : (m : ℕ) (b : Bool) → length (each places (λ p. one (cond b none (t.hand m p)))) + length (cond b (handles_of t m) []) ≡ length (handles_of t m)
    one_by m true = let a : length (each places (λ p. one {A = Handle} none)) ≡ 0 = each_none places (λ p. one none) (λ j. refl) in omega arith
    one_by m false = omega arith

    all : (n : ℕ) → length (each n (handles_of u)) + length (each n (λ m. cond (g (subject m)) (handles_of t m) [])) ≡ length (each n (handles_of t))
    all zero = refl
    all (suc n) = let a = all n in let b : length (handles_of u n) + length (cond (g (subject n)) (handles_of t n) []) ≡ length (handles_of t n) = one_by n (g (subject n)) in
        omega (
          arith,
          length-append (each n (handles_of u)) (handles_of u n),
          length-append (each n (λ m. cond (g (subject m)) (handles_of t m) [])) (cond (g (subject n)) (handles_of t n) []),
          length-append (each n (handles_of t)) (handles_of t n),
        )

-- what an exec drops
count_sheds : (t : Tables) (s : ℕ) → s < subjects → count (applies (sheds t s) t) + (drops t s + ousted t s) ≡ count t
unfolding sheds
count_sheds t s l = omega (arith, count_row u s (λ p. lasting (t.hand s p)) l, each_parts places (t.hand s), own, count_quits t (mates t s))
  where
    u : Tables
    u = apply (quits (mates t s)) t

    own : held u s ≡ held t s
    own = ap (λ (b : Bool). length (each places (λ p. one (cond b none (t.hand s p))))) (is_false (mates t s (subject s)) (not_own_mate t s))

marking_one : (o : Option Handle) → length (one (marking o)) ≡ length (one o)
marking_one none = refl
marking_one (some k) = refl

-- ── calls ──
pub none_of : (o : Option Handle) → T (not (is_some o)) → o ≡ none
none_of none h = refl
none_of (some k) h = absurd h

empty_place : (t : Tables) (s p : ℕ) → T (not (broken t (vacant s p))) → t.hand s p ≡ none
empty_place t s p h = none_of (t.hand s p) (neither (not (ltb p places)) (is_some (t.hand s p)) h).1

row_of : (t : Tables) (s : ℕ) → T (not (broken t (alive s))) → s < subjects
row_of t s h = ltb→lt s subjects (live_of t (subject s) (is_alive t s h)).0

-- a number not in use holds nothing
holds_none : (t : Tables) → Wf t → (c : ℕ) → t.at (subject c) ≡ none → held t c ≡ 0
holds_none t v c n = each_none places (λ p. one (t.hand c p))
    (λ p. ap (λ (o : Option Handle). length (one o)) (none_of (t.hand c p)
    (not_T (is_some (t.hand c p)) (λ h. unheld p (some_of (t.hand c p) h)))))
  where
    unheld : (p : ℕ) → (k : Handle) × (t.hand c p ≡ some k) → ⊥
    unheld p r = subst (λ (o : Option Entry). T (is_some o)) n (subst T (used_is t (subject c)) (live_of t (subject c) (v.ends c p r.0 r.1).from).1)

-- the handles that an allowed call makes and removes are those placed and emptied
module _ (t : Tables) (v : Wf t) where
  entered_count : (a : Thing → Option Entry) → count (with_at t a) + 0 ≡ count t + 0
  entered_count a = ap (λ (k : ℕ). k + 0) (count_at t a)

  pipe_count : (s o r w : ℕ) → ((e : Test) → In e (tests (make_pipe s o r w)) → T (not (broken t e))) → count
      (applies (steps t (make_pipe s o r w)) t) + 0 ≡ count t + 2
  pipe_count s o r w m = let a : count u₁ ≡ count u + 1 = count_placed u s r (handle reading o) ls (is_place t s r hr) (empty_place t s r hr) in
      let b : count (apply (hold s w (some (handle writing o))) u₁) ≡ count u₁ + 1 = count_placed u₁ s w (handle writing o) ls (is_place t s w hw) still in
      let c : count u ≡ count t = count_at t (put t.at (object o) (some e)) in
      omega arith
    where
      ls : s < subjects
      ls = row_of t s (m (alive s) (inl refl))

      hr : T (not (broken t (vacant s r)))
      hr = m (vacant s r) (inr (inr (inl refl)))

      hw : T (not (broken t (vacant s w)))
      hw = m (vacant s w) (inr (inr (inr (inl refl))))

      e : Entry
      e = entry pipe (label_of (t.at (cell t s)))

      u : Tables
      u = apply (enter (object o) e blank) t

      u₁ : Tables
      u₁ = apply (hold s r (some (handle reading o))) u

      still : u₁.hand s w ≡ none
      still = place_other t.hand s r (some (handle reading o)) w (m (apart r w) (inr (inr (inr (inr (inl refl)))))) ∙ empty_place t s w hw

  connect_count : (s r a b p q : ℕ) → ((e : Test) → In e (tests (connect s r a b p q)) → T (not (broken t e))) → count (applies (channel t s r a b p q) t) + 0 ≡ count t + 4
  connect_count s r a b p q m =
      let c₀ : count u ≡ count t = count_at t _ ∙ count_at t _ in
      let c₁ : count u₁ ≡ count u + 1 = count_placed u s p (handle reading b) ls (is_place t s p sp) (empty_place t s p sp) in
      let c₂ : count u₂ ≡ count u₁ + 1 = count_placed u₁ s q (handle writing a) ls (is_place t s q sq)
      (place_other t.hand s p (some (handle reading b)) q pq ∙ empty_place t s q sq) in
      let c₃ : count u₃ ≡ count u₂ + 1 = count_placed u₂ r p (handle reading a) lr (is_place t r p rp) (still p ∙ empty_place t r p rp) in
      let c₄ : count (apply (hold r q (some (handle writing b))) u₃) ≡ count u₃ + 1 = count_placed u₃ r q (handle writing b) lr (is_place t r q rq)
      (place_other u₂.hand r p (some (handle reading a)) q pq ∙ still q ∙ empty_place t r q rq) in
      omega arith
    where
      ls : s < subjects
      ls = row_of t s (m (alive s) (inl refl))

      lr : r < subjects
      lr = row_of t r (m (alive r) (inr (inl refl)))

      sp : T (not (broken t (vacant s p)))
      sp = m (vacant s p) (inr (inr (inr (inr (inr (inr (inl refl)))))))

      sq : T (not (broken t (vacant s q)))
      sq = m (vacant s q) (inr (inr (inr (inr (inr (inr (inr (inl refl))))))))

      rp : T (not (broken t (vacant r p)))
      rp = m (vacant r p) (inr (inr (inr (inr (inr (inr (inr (inr (inl refl)))))))))

      rq : T (not (broken t (vacant r q)))
      rq = m (vacant r q) (inr (inr (inr (inr (inr (inr (inr (inr (inr (inl refl))))))))))

      pq : T (not (eqb p q))
      pq = m (apart p q) (inr (inr (inr (inr (inr (inr (inr (inr (inr (inr (inl refl)))))))))))

      u : Tables
      u = apply (enter (object b) (entry pipe (label_of (t.at (cell t r)))) blank) (apply (enter (object a) (entry pipe (label_of (t.at (cell t s)))) blank) t)

      u₁ : Tables
      u₁ = apply (hold s p (some (handle reading b))) u

      u₂ : Tables
      u₂ = apply (hold s q (some (handle writing a))) u₁

      u₃ : Tables
      u₃ = apply (hold r p (some (handle reading a))) u₂

      -- the places of r are as they were
      still : (j : ℕ) → u₂.hand r j ≡ t.hand r j
      still j = place_apart u₁.hand s q (some (handle writing a)) r j sr ∙ place_apart t.hand s p (some (handle reading b)) r j sr
        where
          sr : T (not (eqb s r))
          sr = m (others s r) (inr (inr (inl refl)))

  fork_count : (s c : ℕ) → ((e : Test) → In e (tests (fork s c)) → T (not (broken t e))) → count (applies (steps t (fork s c)) t) + 0 ≡ count t + held t s
  fork_count s c m = let n = is_new t (subject c) (m (new (subject c)) (inr (inl refl))) in
      let a : count (apply (holds c (t.hand s)) u) + held u c ≡ count u + held t s = count_row u c (t.hand s) (ltb→lt c subjects n.0) in
      let b : held u c ≡ 0 = holds_none t v c n.1 in
      let d : count u ≡ count t = count_at t (put t.at (subject c) (some e)) in
      omega arith
    where
      e : Entry
      e = entry running (label_of (t.at (cell t s)))

      u : Tables
      u = apply (enter (subject c) e (copied (cell t s))) t

  exec_count : (s o : ℕ) → T (not (broken t (alive s))) → count (applies (steps t (exec s o)) t) + (drops t s + ousted t s) ≡ count t + 0
  exec_count s o h = ap (λ (u : Tables). count u + (drops t s + ousted t s)) (applies_append (sheds t s) (mix runs (subject s) (object o) (cell t s) (object o) ∷ []) t)
      ∙ ap (λ (k : ℕ). k + (drops t s + ousted t s)) (count_at (applies (sheds t s) t) _) ∙ omega (arith, count_sheds t s (row_of t s h))

  mark_count : (s p : ℕ) → T (not (broken t (alive s))) → T (not (broken t (taken s p))) → count (applies (steps t (mark s p)) t) + 0 ≡ count t + 0
  mark_count s p h g = omega (
    arith,
    count_hold t s p (marking (t.hand s p)) (row_of t s h)
        (ltb→lt p places (not_not (ltb p places) (neither (not (ltb p places)) (not (is_some (t.hand s p))) g).0)),
    marking_one (t.hand s p),
  )

  close_count : (s p : ℕ) → ((e : Test) → In e (tests (close s p)) → T (not (broken t e))) → count (applies (steps t (close s p)) t) + 1 ≡ count t + 0
  close_count s p m = let h = neither (not (ltb p places)) (not (is_some (t.hand s p))) (m (taken s p) (inr (inl refl))) in
      let r = some_of (t.hand s p) (not_not (is_some (t.hand s p)) h.1) in
      let a = count_emptied t s p r.0 (row_of t s (m (alive s) (inl refl))) (ltb→lt p places (not_not (ltb p places) h.0)) r.1 in
      omega arith

  exit_count : (s : ℕ) → ((e : Test) → In e (tests (exit s)) → T (not (broken t e))) → count (applies (steps t (exit s)) t) + held t s ≡ count t + 0
  exit_count s m = let a : count u + held t s ≡ count t + length (each places (λ p. one {A = Handle} none)) = count_row t s (λ p. none)
      (row_of t s (m (alive s) (inl refl))) in
      let b : count (apply (quits (same (subject s))) t) ≡ count u = ap length (handles_by (apply (quits (same (subject s))) t) u refl) in
      let c : length (each places (λ p. one {A = Handle} none)) ≡ 0 = each_none places (λ p. one none) (λ j. refl) in
      omega arith
    where
      u : Tables
      u = apply (holds s (λ p. none)) t

  access_count : (d : Dir) (x c y : Thing) → count (applies (moves d x c y ∷ followed t d y) t) + 0 ≡ count t + 0
  access_count reading x c y = entered_count _
  access_count writing x c y = rereads_keep (λ u. count u + 0 ≡ count t + 0) t y (λ m h u q. ap (λ (k : ℕ). k + 0) (count_at u _) ∙ q)
      (apply (mix writes y x y c) t) (entered_count _)

  placed_count : (s p : ℕ) (k : Handle) → T (not (broken t (alive s))) → T (not (broken t (vacant s p))) → count (apply (hold s p (some k)) t) + 0 ≡ count t + 1
  placed_count s p k a h = let b = count_placed t s p k (row_of t s a) (is_place t s p h) (empty_place t s p h) in omega arith

  stepped_count : (c : Call) → ((e : Test) → In e (tests c) → T (not (broken t e))) → count (applies (steps t c) t) + removes t c ≡ count t + makes t c
  stepped_count (admit s n) m = entered_count _
  stepped_count (register o n) m = entered_count _
  stepped_count (create s o) m = entered_count _
  stepped_count (make_pipe s o r w) m = pipe_count s o r w m
  stepped_count (opens d s o p) m = placed_count s p (handle d o) (m (alive s) (inl refl)) (m (vacant s p) (inr (inr (inl refl))))
  stepped_count (access d s p) m = access_count d (subject s) (cell t s) (target (t.hand s p))
  stepped_count (fork s c) m = fork_count s c m
  stepped_count (thread s c) m = ap (λ (l : List Handle). length l + 0) (handles_by (applies (steps t (thread s c)) t) t refl)
  stepped_count (exec s o) m = exec_count s o (m (alive s) (inl refl))
  stepped_count (close s p) m = close_count s p m
  stepped_count (exit s) m = exit_count s m
  stepped_count (retire o) m = entered_count _
  stepped_count (maps s o p) m = ap (λ (k : ℕ). k + 0) (count_at (apply (hold s p (some (mapping o))) t) _)
      ∙ placed_count s p (mapping o) (m (alive s) (inl refl)) (m (vacant s p) (inr (inr (inr (inl refl)))))
  stepped_count (mark s p) m = mark_count s p (m (alive s) (inl refl)) (m (taken s p) (inr (inl refl)))
  stepped_count (freeze n) m = ap (λ (l : List Handle). length l + 0) (handles_by (apply (freezes n) t) t refl)
  stepped_count (connect s r a b p q) m = connect_count s r a b p q m
  stepped_count unknown m = refl

pub effect_count : (t : Tables) (c : Call) → Wf t → refusal t c ≡ none → length (handles (effect t c)) + removes t c ≡ length (handles t) + makes t c
unfolding effect
effect_count t c v q = ap (λ (l : List Handle). length l + removes t c) (handles_by (effect t c) (reap (handles t) (applies (steps t c) t)) refl) ∙ ap (λ (k : ℕ). k + removes t c) (count_at (applies (steps t c) t) _) ∙ stepped_count t v c ((allowed_iff t c).0 q)

-- ── lists of calls ──
-- equal modulo 2 to the 64th
infix 20 ◌≈◌
record ◌≈◌ (a b : ℕ) : Type 0 where
  times_left : ℕ
  times_right : ℕ
  sums : a + 2 ^ 64 * times_left ≡ b + 2 ^ 64 * times_right

-- from t and y to u and z what was made, less what is gone, moves as the number of handles does
record Moves (t : Tables) (y : Tally) (u : Tables) (z : Tally) : Type 0 where
  moved : (z.made + y.gone + count t) ≈ (y.made + z.gone + count u)
  gone_wrapped : y.gone < 2 ^ 64 → z.gone < 2 ^ 64

moves_next : (t : Tables) (c : Call) (y : Tally) → Wf t → Moves t y (next t c) (tallied t c y)
unfolding tallied
moves_next t c y v = go (refusal t c) refl
  where
    go : (o : Option ℕ) → refusal t c ≡ o → Moves t y (elim o as (λ _. Tables) [ none ↦ effect t c | some n ↦ t ])
        (elim o as (λ _. Tally) [ none ↦ record { made = wrapped (y.made + makes t c); gone = wrapped (y.gone + removes t c) } | some n ↦ y ])
    go none q = record {
      moved = record {
        times_left = (y.made + makes t c) / 2 ^ 64;
        times_right = (y.gone + removes t c) / 2 ^ 64;
        sums = sum y.made y.gone (makes t c) (removes t c) (count t) (count (effect t c)) (effect_count t c v q);
      };
      gone_wrapped = λ g. mod-lt (y.gone + removes t c) (lit< tt);
    }
      where
        sum : (m n a b h k : ℕ) → k + b ≡ h + a → wrapped (m + a) + n + h + 2 ^ 64 * ((m + a) / 2 ^ 64) ≡ m + wrapped (n + b) + k + 2 ^ 64 * ((n + b) / 2 ^ 64)
        sum m n a b h k e = omega arith
    go (some n) q = record { moved = record { times_left = 0; times_right = 0; sums = omega arith }; gone_wrapped = λ g. g }

list_moves : (t : Tables) (y : Tally) (rs : List Raw) → Wf t → Moves t y (after t rs) (tally t y rs)
list_moves t y [] v = record { moved = record { times_left = 0; times_right = 0; sums = omega arith }; gone_wrapped = λ g. g }
list_moves t y (r ∷ rs) v = chain (moves_next t (decode r) y v) (list_moves (next t (decode r)) (tallied t (decode r) y) rs (next_wf t (decode r) v))
  where
    chain : {t u w : Tables} {x y z : Tally} → Moves t x u y → Moves u y w z → Moves t x w z
    chain a b = record {
      moved = record {
        times_left = a.moved.times_left + b.moved.times_left;
        times_right = a.moved.times_right + b.moved.times_right;
        sums = omega (arith, a.moved.sums, b.moved.sums);
      };
      gone_wrapped = λ g. b.gone_wrapped (a.gone_wrapped g);
    }

-- what was made less what is gone moves as the number of handles does, from any tables in which nothing dangles and any tally
pub tally_moves : (t : Tables) (y : Tally) (rs : List Raw) → Wf t →
    let z = tally t y rs in
    wrapped (z.made + y.gone + length (handles t)) ≡ wrapped (y.made + z.gone + length (handles (after t rs)))
tally_moves t y rs v = let m = (list_moves t y rs v).moved in omega (arith, m.sums)

-- RULES Y10: made minus gone is the number of handles in the tables
pub made_minus_gone : (rs : List Raw) → difference (tally empty zeroed rs) ≡ wrapped (length (handles (after empty rs)))
made_minus_gone rs = let m = list_moves empty zeroed rs empty_wf in
    go (tally empty zeroed rs) (count empty) (count (after empty rs)) none_open (m.gone_wrapped (lit< tt)) m.moved
  where
    none_open : count empty ≡ 0
    none_open = unfold handles in refl

    go : (y : Tally) (o h : ℕ) → o ≡ 0 → y.gone < 2 ^ 64 → (y.made + 0 + o) ≈ (0 + y.gone + h) → difference y ≡ wrapped h
    go y o h z g e = omega (arith, e.sums)

-- ── renumbered ──
-- which numbers objects have is of no matter to how many handles a subject holds, nor to how many an exec drops
module _ (ρ σ : ℕ → ℕ) (v : Renumbers ρ σ) (l : List ℕ) (t : Tables) (s : ℕ) where
  pub held_ren : held (ren ρ σ v l t) s ≡ held t s
  held_ren = each_same places (λ p. one (t.hand s p)) (λ p. one ((ren ρ σ v l t).hand s p)) (λ p low. go (t.hand s p))
    where
      go : (o : Option Handle) → length (one (renamed ρ σ v l o)) ≡ length (one o)
      go none = refl
      go (some k) = refl

  pub drops_ren : drops (ren ρ σ v l t) s ≡ drops t s
  drops_ren = each_same places (λ p. one (dropped (t.hand s p))) (λ p. one (dropped ((ren ρ σ v l t).hand s p))) (λ p low. go (t.hand s p))
    where
      kept : (b : Bool) (k : Handle) → length (one (cond b (some (joined ρ σ v l k)) none)) ≡ length (one (cond b (some k) none))
      kept true k = refl
      kept false k = refl

      go : (o : Option Handle) → length (one (dropped (renamed ρ σ v l o))) ≡ length (one (dropped o))
      go none = refl
      go (some k) = kept (ends_at_exec k) k
