-- Nothing dangles after an allowed call, whichever tables it was made on (RULES T19). Assumes nothing.
use Rattle.std.specs.Prelude.{◌≡◌, refl, not, ◌⊎◌, [], ◌∷◌, ℕ, T, eqb}
use Rattle.std.proofs.Common.{sym, subst, inl, inr, T_not, eqb→eq}
use Rattle.std.proofs.Math.Option.{Option, none, some}
use Rattle.std.proofs.Math.Dec.{not_T}
use Rattle.model.specs.Flow.{Thing, subject, object, same}
use Rattle.model.specs.Tables.{running, file, pipe, Dir, reading, writing, Entry, entry, Handle, handle, mapping, with_mark, Tables, in_range, live}
use Rattle.model.specs.Tables.{label_of, cell, handles, open_on}
use Rattle.model.proofs.Tables.Laws.{open_here}
use Rattle.model.specs.Steps.{Origin, outside, blank, copied, reads, writes, runs, enter, hold, mix, row, place, apply, applies, reap}
use Rattle.model.proofs.Steps.Laws.{row_cases, live_hand, applies_append}
use Rattle.model.specs.Invariant.{Ends, Wf}
use Rattle.model.proofs.Invariant.Laws.{row_below, less_close, less_quits, less_freeze, less_wf, wf_enter, wf_hand, wf_hold, wf_without, wf_reap, wf_mix, less_numbers, wf_binds}
use Rattle.model.specs.Calls.{Call, admit, register, create, make_pipe, opens, access, fork, exec, close, exit, retire, maps, mark, freeze, connect, unknown, thread}
use Rattle.model.specs.Calls.{target, marking, sheds, channel, steps, effect, next, alive, present, new, vacant, taken, idle, broken, InOrder, refusal}
use Rattle.model.proofs.Calls.Refusals.{allowed_iff}
use Rattle.model.proofs.Calls.Moving.{rereads_keep}
use Rattle.model.proofs.Calls.Passed.{is_alive, is_present, is_new, is_place, is_taken, Passed, entered_live, old_live, sheds_less}

-- ── the steps of an allowed call ──
module _ (t : Tables) (w : Wf t) where
  pub placed_wf : (s p : ℕ) (k : Handle) → T (not (broken t (alive s))) → T (not (broken t (present k.to))) → T (not (broken t (vacant s p)))
      → Wf (apply (hold s p (some k)) t)
  placed_wf s p k a b c = wf_hold t s p k w (record { from = is_alive t s a; to = is_present t k.to b; place = is_place t s p c })

  pub open_wf : (d : Dir) (s o p : ℕ) → Passed t (opens d s o p) → Wf (applies (steps t (opens d s o p)) t)
  open_wf d s o p m = placed_wf s p (handle d o) (m (alive s) (inl refl)) (m (present o) (inr (inl refl))) (m (vacant s p) (inr (inr (inl refl))))

  access_wf : (d : Dir) (s p : ℕ) → Wf (applies (steps t (access d s p)) t)
  access_wf reading s p = wf_mix t reads (subject s) (target (t.hand s p)) (cell t s) (target (t.hand s p)) w
  access_wf writing s p = rereads_keep Wf t x (λ m h u v. wf_mix u reads (subject m) x (cell t m) x v) (apply (mix writes x (subject s) x (cell t s)) t)
      (wf_mix t writes x (subject s) x (cell t s) w)
    where
      x : Thing
      x = target (t.hand s p)

  pub map_wf : (s o p : ℕ) → Passed t (maps s o p) → Wf (apply (hold s p (some (mapping o))) t)
  map_wf s o p m = placed_wf s p (mapping o) (m (alive s) (inl refl)) (m (present o) (inr (inl refl))) (m (vacant s p) (inr (inr (inr (inl refl)))))

  pub exec_wf : (s o : ℕ) → Wf (applies (steps t (exec s o)) t)
  exec_wf s o = subst Wf (sym (applies_append (sheds t s) (mix runs (subject s) (object o) (cell t s) (object o) ∷ []) t))
      (wf_mix (applies (sheds t s) t) runs (subject s) (object o) (cell t s) (object o) (less_wf (sheds_less t s) w))

  exit_wf : (s : ℕ) → Wf (applies (steps t (exit s)) t)
  exit_wf s = less_wf (less_quits t (same (subject s)) (λ o. tt)) w

  retire_wf : (o : ℕ) → T (not (broken t (idle o))) → Wf (applies (steps t (retire o)) t)
  retire_wf o h = wf_without (same (object o)) t w (λ s p k q. (tt, unheld s p k q)) (λ s. tt)
    where
      unheld : (s p : ℕ) (k : Handle) → t.hand s p ≡ some k → T (not (eqb o k.to))
      unheld s p k q =
          let f = w.ends s p k q in
          let held = open_here t s p k (row_below f) f.place q in
          not_T (eqb o k.to) (λ e. T_not (open_on (handles t) o) h (subst (λ (z : ℕ). T (open_on (handles t) z)) (sym (eqb→eq o k.to e)) held))

  mark_wf : (s p : ℕ) → T (not (broken t (taken s p))) → Wf (applies (steps t (mark s p)) t)
  mark_wf s p h = let r = is_taken t s p h in let f = w.ends s p r.0 r.1 in
      subst (λ (v : Option Handle). Wf (apply (hold s p (marking v)) t)) (sym r.1)
      (wf_hold t s p (with_mark r.0) w (record { from = f.from; to = f.to; place = f.place }))

  fork_wf : (s c : ℕ) → T (not (broken t (new (subject c)))) → Wf (applies (steps t (fork s c)) t)
  fork_wf s c h = wf_hand u (row t.hand c (t.hand s)) (wf_enter t (subject c) e g n.0 w) ends'
    where
      n : T (in_range (subject c)) × (t.at (subject c) ≡ none)
      n = is_new t (subject c) h

      e : Entry
      e = entry running (label_of (t.at (cell t s)))

      g : Origin
      g = copied (cell t s)

      u : Tables
      u = apply (enter (subject c) e g) t

      ends' : (s' p : ℕ) (k : Handle) → row t.hand c (t.hand s) s' p ≡ some k → (t.hand s' p ≡ some k) ⊎ Ends u s' p k
      ends' s' p k q = elim (row_cases t.hand c (t.hand s) s' p (some k) q) [
        | inl z ↦ (let f = w.ends s p k z.1 in inr (record {
          from = subst (λ (j : ℕ). T (live u (subject j))) z.0 (entered_live t (subject c) e g n.0);
          to = old_live t (subject c) e g (object k.to) f.to;
          place = f.place;
        }))
        | inr z ↦ inl z.1
      ]

  thread_wf : (s c : ℕ) → Passed t (thread s c) → Wf (applies (steps t (thread s c)) t)
  thread_wf s c m = wf_binds u c s (entered_live t (subject c) e g r) (old_live t (subject c) e g (subject s) (is_alive t s (m (alive s) (inl refl))))
      (wf_enter t (subject c) e g r w)
    where
      r : T (in_range (subject c))
      r = (is_new t (subject c) (m (new (subject c)) (inr (inl refl)))).0

      e : Entry
      e = entry running (label_of (t.at (cell t s)))

      g : Origin
      g = copied (cell t s)

      u : Tables
      u = apply (enter (subject c) e g) t

  -- an end that joins stays one where another handle is placed
  still_ends : (u : Tables) (s p : ℕ) (v : Option Handle) (s' p' : ℕ) (k : Handle) → Ends u s' p' k → Ends (apply (hold s p v) u) s' p' k
  still_ends u s p v s' p' k f = record {
    from = live_hand u (place u.hand s p v) (subject s') f.from;
    to = live_hand u (place u.hand s p v) (object k.to) f.to;
    place = f.place;
  }

  pub pipe_wf : (s o r p : ℕ) → Passed t (make_pipe s o r p) → Wf (applies (steps t (make_pipe s o r p)) t)
  pipe_wf s o r p m = wf_hold u₁ s p (handle writing o)
      (wf_hold u s r (handle reading o) (wf_enter t (object o) e blank ranged w) (ends' reading r (m (vacant s r) (inr (inr (inl refl))))))
      (still_ends u s r (some (handle reading o)) s p (handle writing o) (ends' writing p (m (vacant s p) (inr (inr (inr (inl refl)))))))
    where
      ranged : T (in_range (object o))
      ranged = (is_new t (object o) (m (new (object o)) (inr (inl refl)))).0

      e : Entry
      e = entry pipe (label_of (t.at (cell t s)))

      u : Tables
      u = apply (enter (object o) e blank) t

      u₁ : Tables
      u₁ = apply (hold s r (some (handle reading o))) u

      ends' : (d : Dir) (q : ℕ) → T (not (broken t (vacant s q))) → Ends u s q (handle d o)
      ends' d q h = record {
        from = old_live t (object o) e blank (subject s) (is_alive t s (m (alive s) (inl refl)));
        to = entered_live t (object o) e blank ranged;
        place = is_place t s q h;
      }

  -- (its flow test is asked of these tables)
  pub connect_wf : (s r a b p q : ℕ) → InOrder t (connect s r a b p q) 15 → Wf (applies (channel t s r a b p q) t)
  connect_wf s r a b p q m = wf_hold u₃ r q (handle writing b) w₃ (still_ends u₂ r p (some (handle reading a)) r q (handle writing b)
      (beyond r q (handle writing b) (ends' r q (handle writing b) in_r at_b (m (vacant r q) (inr (inr (inr (inr (inr (inr (inr (inr (inr (inl refl)))))))))) tt))))
    where
      e : Entry
      e = entry pipe (label_of (t.at (cell t s)))

      f : Entry
      f = entry pipe (label_of (t.at (cell t r)))

      u₀ : Tables
      u₀ = apply (enter (object a) e blank) t

      u : Tables
      u = apply (enter (object b) f blank) u₀

      u₁ : Tables
      u₁ = apply (hold s p (some (handle reading b))) u

      u₂ : Tables
      u₂ = apply (hold s q (some (handle writing a))) u₁

      u₃ : Tables
      u₃ = apply (hold r p (some (handle reading a))) u₂

      in_s : T (live u (subject s))
      in_s = old_live u₀ (object b) f blank (subject s) (old_live t (object a) e blank (subject s) (is_alive t s (m (alive s) (inl refl) tt)))

      in_r : T (live u (subject r))
      in_r = old_live u₀ (object b) f blank (subject r) (old_live t (object a) e blank (subject r) (is_alive t r (m (alive r) (inr (inl refl)) tt)))

      new_a : T (in_range (object a))
      new_a = (is_new t (object a) (m (new (object a)) (inr (inr (inr (inl refl)))) tt)).0

      new_b : T (in_range (object b))
      new_b = (is_new t (object b) (m (new (object b)) (inr (inr (inr (inr (inl refl))))) tt)).0

      at_a : T (live u (object a))
      at_a = old_live u₀ (object b) f blank (object a) (entered_live t (object a) e blank new_a)

      at_b : T (live u (object b))
      at_b = entered_live u₀ (object b) f blank new_b

      ends' : (z j : ℕ) (k : Handle) → T (live u (subject z)) → T (live u (object k.to)) → T (not (broken t (vacant z j))) → Ends u z j k
      ends' z j k x y h = record { from = x; to = y; place = is_place t z j h }

      -- an end stays one beyond the two of s
      beyond : (z j : ℕ) (k : Handle) → Ends u z j k → Ends u₂ z j k
      beyond z j k h = still_ends u₁ s q (some (handle writing a)) z j k (still_ends u s p (some (handle reading b)) z j k h)

      w₁ : Wf u₁
      w₁ = wf_hold u s p (handle reading b) (wf_enter u₀ (object b) f blank new_b (wf_enter t (object a) e blank new_a w))
          (ends' s p (handle reading b) in_s at_b (m (vacant s p) (inr (inr (inr (inr (inr (inr (inl refl))))))) tt))

      w₂ : Wf u₂
      w₂ = wf_hold u₁ s q (handle writing a) w₁ (still_ends u s p (some (handle reading b)) s q (handle writing a)
          (ends' s q (handle writing a) in_s at_a (m (vacant s q) (inr (inr (inr (inr (inr (inr (inr (inl refl)))))))) tt)))

      w₃ : Wf u₃
      w₃ = wf_hold u₂ r p (handle reading a) w₂ (beyond r p (handle reading a) (ends' r p (handle reading a) in_r at_a (m (vacant r p) (inr (inr (inr (inr (inr (inr (inr (inr (inl refl))))))))) tt)))

  pub call_wf : (c : Call) → Passed t c → Wf (applies (steps t c) t)
  call_wf (admit s n) m = wf_enter t (subject s) (entry running n) outside (is_new t (subject s) (m (new (subject s)) (inl refl))).0 w
  call_wf (register o n) m = wf_enter t (object o) (entry file n) outside (is_new t (object o) (m (new (object o)) (inl refl))).0 w
  call_wf (create s o) m = wf_enter t (object o) (entry file (label_of (t.at (cell t s)))) blank
      (is_new t (object o) (m (new (object o)) (inr (inl refl)))).0 w
  call_wf (make_pipe s o r p) m = pipe_wf s o r p m
  call_wf (opens d s o p) m = open_wf d s o p m
  call_wf (access d s p) m = access_wf d s p
  call_wf (fork s c) m = fork_wf s c (m (new (subject c)) (inr (inl refl)))
  call_wf (thread s c) m = thread_wf s c m
  call_wf (exec s o) m = exec_wf s o
  call_wf (close s p) m = less_wf (less_close t s p) w
  call_wf (exit s) m = exit_wf s
  call_wf (retire o) m = retire_wf o (m (idle o) (inr (inr (inl refl))))
  call_wf (maps s o p) m = wf_mix (apply (hold s p (some (mapping o))) t) reads (subject s) (object o) (cell t s) (object o) (map_wf s o p m)
  call_wf (mark s p) m = mark_wf s p (m (taken s p) (inr (inl refl)))
  call_wf (freeze n) m = less_wf (less_freeze t n) w
  call_wf (connect s r a b p q) m = connect_wf s r a b p q (λ e i h. m e i)
  call_wf unknown m = w

-- ── calls ──
-- RULES T19: nothing dangles in the tables after an allowed call, whichever tables it was made on
pub effect_wf : (t : Tables) (c : Call) → Wf t → refusal t c ≡ none → Wf (effect t c)
unfolding effect
effect_wf t c w q = less_wf (less_numbers (reap (handles t) (applies (steps t c) t)) _) (wf_reap (handles t) (applies (steps t c) t) (call_wf t w c ((allowed_iff t c).0 q)))

pub next_wf : (t : Tables) (c : Call) → Wf t → Wf (next t c)
next_wf t c w = go (refusal t c) refl
  where
    go : (o : Option ℕ) → refusal t c ≡ o → Wf (elim o as (λ _. Tables) [ none ↦ effect t c | some n ↦ t ])
    go none q = effect_wf t c w q
    go (some n) q = w
