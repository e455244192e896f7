-- Every call keeps the invariant, so every state from empty tables has it: each live thing's level is at least its need, no handle
-- dangles, a pipe has a handle, levels are 0 to 15 and the freeze 0 to 16, and who has a file mapped is not above it (RULES F8, T25, T26, T27,
-- T34, T38). Call by call, then the list. That nothing dangles is in `Dangling`, levels and the freeze are in `Scale`, mappings in `Mapped`.
-- Assumes nothing.
use Rattle.std.specs.Prelude.{◌≡◌, refl, Bool, true, false, not, cond, ◌⊎◌, List, [], ◌∷◌, ℕ, T, eqb}
use Rattle.std.proofs.Common.{sym, ◌∙◌, subst, inl, inr, T_not, eqb→eq}
use Rattle.std.proofs.Math.Option.{Option, none, some}
use Rattle.std.proofs.Math.Dec.{not_T, eqb_refl}
use Rattle.model.specs.Bools.{test}
use Rattle.model.specs.Label.{in_scale, ◌⊑◌}
use Rattle.model.specs.Flow.{Thing, subject, object, same}
use Rattle.model.specs.Tables.{running, file, pipe, Dir, reading, writing, Entry, entry, Handle, handle, mapping, Tables, empty, label_of, is_pipe, cell, handles, open_on, with_numbers, needs}
use Rattle.model.proofs.Tables.Laws.{handles_at, open_here, cell_same, handles_by}
use Rattle.model.specs.Steps.{Origin, outside, blank, Access, reads, writes, runs, enter, leave, hold, mix, quits, freezes, put, fall, sink, apply, applies, ended, reap}
use Rattle.model.proofs.Steps.Laws.{put_cases, sink_cases, place_same, place_other, applies_append, ended_last}
use Rattle.model.specs.Invariant.{Wf, Piped, Kept}
use Rattle.model.proofs.Invariant.Laws.{pot_safe, row_below, less_quits, empty_wf, wf_reap, empty_pot, needs_pot, less_numbers, less_wf, less_pot}
use Rattle.model.proofs.Invariant.Laws.{empty_scaled, empty_frozen, labelled_without}
use Rattle.model.specs.Calls.{Call, admit, register, create, make_pipe, opens, access, fork, thread, exec, close, exit, retire, maps, mark, freeze, connect, unknown, Raw, decode}
use Rattle.model.specs.Calls.{target, sheds, channel, steps, stepped, effect, next, after, apart, refusal}
use Rattle.model.proofs.Calls.Refusals.{allowed_iff}
use Rattle.model.proofs.Calls.Passed.{is_new, is_facing, Passed, sheds_less}
use Rattle.model.proofs.Calls.Moving.{rereads_keep}
use Rattle.model.proofs.Calls.Mapped.{empty_mapped, mapped_reap, call_mapped}
use Rattle.model.proofs.Calls.Groups.{empty_even, even_reap, call_even}
use Rattle.model.proofs.Calls.Dangling.{pipe_wf, connect_wf, call_wf}
use Rattle.model.proofs.Calls.Scale.{call_scaled, call_frozen}
use Rattle.model.proofs.Calls.Sound.{kept_sound, stepped_pot}
pub use Rattle.model.proofs.Calls.Passed.{is_new, is_facing}

-- ── pipes: what the steps of an allowed call make of them, before some end ──
-- a pipe of u has a handle there, or had one in t
abbrev Pipes : Tables → Tables → Type 0
Pipes t u = (o : ℕ) → T (is_pipe (object o) (u.at (object o))) → T (open_on (handles t) o) ⊎ T (open_on (handles u) o)

-- one entry changed: the pipes are the old ones but for it
put_pipes : (t : Tables) (x : Thing) (v : Option Entry) (o : ℕ) → T (is_pipe (object o) (put t.at x v (object o))) →
    ((x ≡ object o) × T (is_pipe (object o) v)) ⊎ T (is_pipe (object o) (t.at (object o)))
put_pipes t x v o h = elim (put_cases t.at x v (object o) (put t.at x v (object o)) refl) [
  | inl c ↦ inl (c.0, subst (λ (z : Option Entry). T (is_pipe (object o) z)) (sym c.1) h)
  | inr c ↦ inr (subst (λ (z : Option Entry). T (is_pipe (object o) z)) (sym c.1) h)
]

module _ (t : Tables) (v : Piped t) where
  -- no pipe is new
  old_pipes : (u : Tables) → ((o : ℕ) → T (is_pipe (object o) (u.at (object o))) → T (is_pipe (object o) (t.at (object o)))) → Pipes t u
  old_pipes u f o h = inl (v.joined o (f o h))

  -- handles and places alone change, or nothing does
  same_pipes : (u : Tables) → ((o : ℕ) → u.at (object o) ≡ t.at (object o)) → Pipes t u
  same_pipes u f = old_pipes u (λ o h. subst (λ (z : Option Entry). T (is_pipe (object o) z)) (f o) h)

  -- admit, register, create
  enter_pipes : (x : Thing) (e : Entry) (g : Origin) → ((o : ℕ) → T (not (is_pipe (object o) (some e)))) → Pipes t (apply (enter x e g) t)
  enter_pipes x e g n = old_pipes (apply (enter x e g) t) (λ o p. elim
      (put_pipes t x (some e) o p) [ inl c ↦ absurd (T_not (is_pipe (object o) (some e)) (n o) c.1) | inr c ↦ c ])

  retire_pipes : (o : ℕ) → Pipes t (apply (leave (object o)) t)
  retire_pipes o = old_pipes (apply (leave (object o)) t) (λ m p. elim (put_pipes t (object o) none m p) [ inl c ↦ absurd c.1 | inr c ↦ c ])

  -- what takes something in keeps its kind
  mix_pipes : (m : Access) (a b y x : Thing) (u : Tables) → Pipes t u → Pipes t (apply (mix m a b y x) u)
  mix_pipes m a b y x u k o h = subst (λ (hs : List Handle). T (open_on (handles t) o) ⊎ T (open_on hs o)) (sym (handles_at u (sink u y (u.at x)))) (k o (same_pipe o h))
    where
      kind_kept : (o : ℕ) (c d : Option Entry) → T (is_pipe (object o) (fall (object o) c d)) → T (is_pipe (object o) c)
      kind_kept o none d h = h
      kind_kept o (some c) none h = h
      kind_kept o (some c) (some d) h = h

      same_pipe : (o : ℕ) → T (is_pipe (object o) (sink u y (u.at x) (object o))) → T (is_pipe (object o) (u.at (object o)))
      same_pipe o h = elim (sink_cases u y (u.at x) (object o) (sink u y (u.at x) (object o)) refl) [
        | inl c ↦ kind_kept o (u.at (object o)) (u.at x) (subst (λ (z : Option Entry). T (is_pipe (object o) z)) (sym c.1) h)
        | inr c ↦ subst (λ (z : Option Entry). T (is_pipe (object o) z)) (sym c.1) h
      ]

  access_pipes : (d : Dir) (s p : ℕ) → Pipes t (applies (steps t (access d s p)) t)
  access_pipes reading s p = let x = target (t.hand s p) in mix_pipes reads (subject s) x (cell t s) x t (same_pipes t (λ o. refl))
  access_pipes writing s p = let x = target (t.hand s p) in
      rereads_keep (Pipes t) t x (λ m h u g. mix_pipes reads (subject m) x (cell t m) x u g) (apply (mix writes x (subject s) x (cell t s)) t)
      (mix_pipes writes x (subject s) x (cell t s) t (same_pipes t (λ o. refl)))

  exec_pipes : (s o : ℕ) → Pipes t (applies (steps t (exec s o)) t)
  exec_pipes s o = subst (Pipes t) (sym (applies_append (sheds t s) (mix runs (subject s) (object o) (cell t s) (object o) ∷ []) t))
      (mix_pipes runs (subject s) (object o) (cell t s) (object o) (applies (sheds t s) t) (same_pipes (applies (sheds t s) t) (sheds_less t s).objects_stay))

  -- a new pipe has the handles that come with it
  pipe_pipes : Wf t → (s o r w : ℕ) → Passed t (make_pipe s o r w) → Pipes t (applies (steps t (make_pipe s o r w)) t)
  pipe_pipes wf s o r w m j h = elim (put_pipes t (object o) (some e) j h) [ inl c ↦ inr (open_now j c.0) | inr c ↦ inl (v.joined j c) ]
    where
      e : Entry
      e = entry pipe (label_of (t.at (cell t s)))

      u₁ : Tables
      u₁ = apply (hold s r (some (handle reading o))) (apply (enter (object o) e blank) t)

      u₂ : Tables
      u₂ = apply (hold s w (some (handle writing o))) u₁

      open_now : (j : ℕ) → object o ≡ object j → T (open_on (handles u₂) j)
      open_now j q = let f = (pipe_wf t wf s o r w m).ends s w (handle writing o) held in
          subst number_open q (open_here u₂ s w (handle writing o) (row_below f) f.place held)
        where
          number_open : Thing → Type 0
          number_open (subject j) = Unit {0}
          number_open (object j) = T (open_on (handles u₂) j)

          held : u₂.hand s w ≡ some (handle writing o)
          held = place_same u₁.hand s w (some (handle writing o))

  connect_pipes : Wf t → (s r a b p q : ℕ) → Passed t (connect s r a b p q) → Pipes t (applies (channel t s r a b p q) t)
  connect_pipes wf s r a b p q m o h = elim (put_pipes u₀ (object b) (some f) o h) [
    | inl c ↦ inr (subst open_number c.0 (open_at_place r q (handle writing b) (place_same u₁.hand r q (some (handle writing b)))))
    | inr c ↦ elim (put_pipes t (object a) (some e) o c) [
      | inl d ↦ inr (subst open_number d.0 (open_at_place r p (handle reading a)
          (place_other u₁.hand r q (some (handle writing b)) p (flip p q (m (apart p q) (inr (inr (inr (inr (inr (inr (inr (inr (inr (inr (inl refl)))))))))))))
          ∙ place_same u₂.hand r p (some (handle reading a)))))
      | inr d ↦ inl (v.joined o d)
    ]
  ]
    where
      e : Entry
      e = entry pipe (label_of (t.at (cell t s)))

      f : Entry
      f = entry pipe (label_of (t.at (cell t r)))

      u₀ : Tables
      u₀ = apply (enter (object a) e blank) t

      -- before the last two handles, and before the last
      u₂ : Tables
      u₂ = apply (hold s q (some (handle writing a))) (apply (hold s p (some (handle reading b))) (apply (enter (object b) f blank) u₀))

      u₁ : Tables
      u₁ = apply (hold r p (some (handle reading a))) u₂

      u : Tables
      u = applies (channel t s r a b p q) t

      w : Wf u
      w = connect_wf t wf s r a b p q (λ e i h. m e i)

      open_number : Thing → Type 0
      open_number (subject j) = Unit {0}
      open_number (object j) = T (open_on (handles u) j)

      flip : (i j : ℕ) → T (not (eqb i j)) → T (not (eqb j i))
      flip i j n = not_T (eqb j i) (λ h. T_not (eqb i j) n (subst (λ (k : ℕ). T (eqb i k)) (sym (eqb→eq j i h)) (eqb_refl i)))

      open_at_place : (z j : ℕ) (k : Handle) → u.hand z j ≡ some k → T (open_on (handles u) k.to)
      open_at_place z j k h = let g = w.ends z j k h in open_here u z j k (row_below g) g.place h

  call_pipes : Wf t → (c : Call) → Passed t c → Pipes t (applies (steps t c) t)
  call_pipes w (admit s n) m = enter_pipes (subject s) (entry running n) outside (λ o. tt)
  call_pipes w (register o n) m = enter_pipes (object o) (entry file n) outside (λ o. tt)
  call_pipes w (create s o) m = enter_pipes (object o) (entry file (label_of (t.at (cell t s)))) blank (λ o. tt)
  call_pipes w (make_pipe s o r v) m = pipe_pipes w s o r v m
  call_pipes w (opens d s o p) m = same_pipes (apply (hold s p (some (handle d o))) t) (λ o. refl)
  call_pipes w (access d s p) m = access_pipes d s p
  call_pipes w (fork s c) m = old_pipes (applies (steps t (fork s c)) t) (λ o h. h)
  call_pipes w (thread s c) m = old_pipes (applies (steps t (thread s c)) t) (λ o h. h)
  call_pipes w (exec s o) m = exec_pipes s o
  call_pipes w (close s p) m = same_pipes (apply (hold s p none) t) (λ o. refl)
  call_pipes w (exit s) m = same_pipes (apply (quits (same (subject s))) t) (less_quits t (same (subject s)) (λ o. tt)).objects_stay
  call_pipes w (retire o) m = retire_pipes o
  call_pipes w (maps s o p) m = mix_pipes reads (subject s) (object o) (cell t s) (object o) (apply (hold s p (some (mapping o))) t)
      (same_pipes (apply (hold s p (some (mapping o))) t) (λ o. refl))
  call_pipes w (mark s p) m = same_pipes (applies (steps t (mark s p)) t) (λ o. refl)
  call_pipes w (freeze n) m = same_pipes (apply (freezes n) t) (λ o. refl)
  call_pipes w (connect s r a b p q) m = connect_pipes w s r a b p q m
  call_pipes w unknown m = same_pipes t (λ o. refl)

-- ── pipes end ──
reap_piped : (t u : Tables) → Pipes t u → Piped (reap (handles t) u)
reap_piped t u k = record {
  joined = λ o h. subst (λ (hs : List Handle). T (open_on hs o)) (sym (handles_at u (λ x. cond (gone x) none (u.at x))))
      (still o (gone (object o)) refl h);
}
  where
    gone : Thing → Bool
    gone x = ended (handles t) (handles u) x (u.at x)

    -- a pipe that is still there had a handle, or has one, and did not end: so it has one
    still : (o : ℕ) (b : Bool) → gone (object o) ≡ b → T (is_pipe (object o) (cond b none (u.at (object o)))) → T (open_on (handles u) o)
    still o true q h = absurd h
    still o false q h = elim (test (open_on (handles u) o)) [
      | inl y ↦ y
      | inr n ↦ (elim (k o h) [
        | inl y ↦ absurd (T_not (gone (object o)) (subst (λ (b : Bool). T (not b)) (sym q) tt) (ended_last (handles t) (handles u) o (u.at (object o)) h y n))
        | inr y ↦ y
      ])
    ]

-- ── calls and lists of calls ──
-- the list of numbers is of no matter to the rest
numbers_kept : (u : Tables) (n : List ℕ) → Kept u → Kept (with_numbers u n)
numbers_kept u n v = record {
  wf = less_wf (less_numbers u n) v.wf;
  safe = pot_safe (less_pot (needs u) (less_numbers u n) (needs_pot v.wf v.safe));
  scaled = record { within = v.scaled.within };
  frozen = record { bounded = v.frozen.bounded };
  mapped = record {
    each = λ s p k q m. let r = v.mapped.each s p k q m in record {
      for_reading = r.for_reading;
      on_file = r.on_file;
      under = subst (λ (x : Thing). label_of (u.at x) ⊑ label_of (u.at (object k.to))) (cell_same u (with_numbers u n) s) r.under;
    };
  };
  piped = record { joined = λ o h. subst (λ (hs : List Handle). T (open_on hs o)) (handles_by u (with_numbers u n) refl) (v.piped.joined o h) };
  even = record { one_level = v.even.one_level };
}

pub effect_kept : (t : Tables) (c : Call) → Kept t → refusal t c ≡ none → Kept (effect t c)
unfolding effect
effect_kept t c v q = let m = (allowed_iff t c).0 q in let u = applies (steps t c) t in let w = call_wf t v.wf c m in
    numbers_kept (stepped t c) _ (record {
      wf = wf_reap (handles t) u w;
      safe = pot_safe (stepped_pot t c (kept_sound v) q);
      piped = reap_piped t u (call_pipes t v.piped v.wf c m);
      scaled = labelled_without (λ a. T (in_scale a)) (λ x. ended (handles t) (handles u) x (u.at x)) u (call_scaled t v.scaled c m);
      frozen = record { bounded = (call_frozen t v.frozen c m).bounded };
      mapped = mapped_reap (handles t) u w (call_mapped t v.wf v.mapped c m);
      even = even_reap (handles t) u (call_even t v.wf v.even c m);
    })

pub next_kept : (t : Tables) (c : Call) → Kept t → Kept (next t c)
next_kept t c v = go (refusal t c) refl
  where
    go : (o : Option ℕ) → refusal t c ≡ o → Kept (elim o as (λ _. Tables) [ none ↦ effect t c | some n ↦ t ])
    go none q = effect_kept t c v q
    go (some n) q = v

pub empty_kept : Kept empty
unfolding handles
empty_kept = record {
  wf = empty_wf;
  safe = pot_safe empty_pot;
  piped = record { joined = λ o h. absurd h };
  scaled = empty_scaled;
  frozen = empty_frozen;
  mapped = empty_mapped;
  even = empty_even;
}

pub after_kept : (t : Tables) (rs : List Raw) → Kept t → Kept (after t rs)
after_kept t [] v = v
after_kept t (r ∷ rs) v = after_kept (next t (decode r)) rs (next_kept t (decode r) v)

-- RULES F8, T25, T26, T27, T34, T38, T45, T48: after every list of calls from empty tables no level is below its need, no handle dangles, a pipe has a handle,
-- levels are 0 to 15, the freeze is 0 to 16, who has a file mapped is not above it, and each live subject is in one group, whose members have one level.
pub always_kept : (rs : List Raw) → Kept (after empty rs)
always_kept rs = after_kept empty rs empty_kept
