-- The members of a group have one content in the book, whatever it is fed. States RULES B31. One law for each step, then call by call, then the list. Assumes nothing.
use Rattle.std.specs.Prelude.{◌≡◌, Bool, not, cond, List, [], ◌∷◌, ◌++◌, ℕ, suc, T, eqb}
use Rattle.std.proofs.Math.Path.{refl}
use Rattle.std.proofs.Common.{sym, ◌∙◌, ap, subst, inl, inr, eqb→eq}
use Rattle.std.proofs.Math.Option.{Option, none, some, none-ne-some}
use Rattle.std.proofs.Math.Dec.{not_T}
use Rattle.model.specs.Bools.{test, cond_no, cond_yes}
use Rattle.model.specs.Lists.{In}
use Rattle.model.specs.Flow.{Thing, subject, same}
use Rattle.model.proofs.Flow.Laws.{same→eq, same_refl}
use Rattle.model.specs.Tables.{running, Dir, reading, writing, Entry, entry, Tables, label_of, cell, whole}
use Rattle.model.proofs.Tables.Laws.{step_entry, cell_self}
use Rattle.model.specs.Steps.{copied, reads, writes, Step, enter, leave, hold, holds, mix, quits, binds, freezes, stand_in, apply, applies}
use Rattle.model.specs.Invariant.{Teams, Wf, Kept}
use Rattle.model.proofs.Invariant.Laws.{mates_live, parted_cases, stand_in_cases, wf_mix}
use Rattle.model.specs.Calls.{Call, admit, register, create, make_pipe, opens, access, fork, thread, exec, close, exit, retire, maps, mark, freeze, connect, unknown, Raw, decode, target, rereads, sheds, steps, effect, alive, new, broken, refusal}
use Rattle.model.proofs.Calls.Refusals.{allowed_iff}
use Rattle.model.proofs.Calls.Passed.{is_alive, is_new, Passed, sheds_less}
use Rattle.model.proofs.Calls.Moving.{reread_of}
use Rattle.model.proofs.Calls.Groups.{whole_mates}
use Rattle.model.proofs.Calls.Dangling.{map_wf}
use Rattle.model.proofs.Calls.Kept.{effect_kept, empty_kept}
use Rattle.model.specs.Book.{Contents, Book, blank_book, Handling, Outside, store, born, carry, carries, turn, book_from, book}

-- members have one content
pub record Shared (t : Tables) (c : Contents) : Type 0 where
  pub one_content : (a b : ℕ) → T (t.kin a b) → c (subject a) ≡ c (subject b)

-- what each step asks, so that they go on having one: what comes is by itself, who joins has the content of the group
abbrev Fits : Tables → Contents → Step → Type 0
Fits t c (enter x e g) = (a b : ℕ) → T (t.kin a b) → T (not (eqb a b)) → T (not (same x (subject a))) × T (not (same x (subject b)))
Fits t c (leave x) = Unit {0}
Fits t c (hold s p v) = Unit {0}
Fits t c (holds s r) = Unit {0}
Fits t c (mix m a b y x) = Teams t
Fits t c (quits g) = Unit {0}
Fits t c (binds d s) = c (subject d) ≡ c (subject s)
Fits t c (freezes n) = Unit {0}

module _ (h : Handling) (i o : ℕ) where
  step_shared : (t : Tables) (c : Contents) (k : Step) → Fits t c k → Shared t c → Shared (apply k t) (carry h i o t k c)
  step_shared t c (enter x e g) f v = record {
    one_content = λ a b q. elim (test (eqb a b)) [
      | inl z ↦ ap (λ (d : ℕ). store c x (born g o c) (subject d)) (eqb→eq a b z)
      | inr n ↦ (let r = f a b q n in cond_no (same x (subject a)) (born g o c) (c (subject a)) r.0 ∙ v.one_content a b q
          ∙ sym (cond_no (same x (subject b)) (born g o c) (c (subject b)) r.1))
    ];
  }
  step_shared t c (leave x) f v = record { one_content = v.one_content }
  step_shared t c (hold s p w) f v = record { one_content = v.one_content }
  step_shared t c (holds s r) f v = record { one_content = v.one_content }
  step_shared t c (mix m n d y x) f v = record {
    one_content = λ a b q. poured a b (whole t y (subject a)) (whole t y (subject b)) (whole_mates t f y a b q) (v.one_content a b q);
  }
    where
      poured : (a b : ℕ) (p q : Bool) → p ≡ q → c (subject a) ≡ c (subject b)
          → cond p (h i m n d (c (subject a)) (c x)) (c (subject a)) ≡ cond q (h i m n d (c (subject b)) (c x)) (c (subject b))
      poured a b p q e z = ap (λ (k : Bool). cond k (h i m n d (c (subject a)) (c x)) (c (subject a))) e
          ∙ ap (λ (k : ℕ). cond q (h i m n d k (c x)) k) z
  step_shared t c (quits g) f v = record {
    one_content = λ a b q. elim (parted_cases g t.kin a b q) [ inl z ↦ ap (λ (d : ℕ). c (subject d)) z | inr r ↦ v.one_content a b r.2 ];
  }
  step_shared t c (binds d s) f v = record { one_content = λ a b q. sym (alike a) ∙ v.one_content (stand_in d s a) (stand_in d s b) q ∙ alike b }
    where
      alike : (a : ℕ) → c (subject (stand_in d s a)) ≡ c (subject a)
      alike a = elim (stand_in_cases d s a) [
        | inl r ↦ ap (λ (z : ℕ). c (subject z)) r.1 ∙ sym f ∙ ap (λ (z : ℕ). c (subject z)) r.0
        | inr r ↦ ap (λ (z : ℕ). c (subject z)) r.1
      ]
  step_shared t c (freezes n) f v = record { one_content = v.one_content }

  abbrev AllFit : Tables → Contents → List Step → Type 0
  AllFit t c [] = Unit {0}
  AllFit t c (k ∷ ks) = Fits t c k × AllFit (apply k t) (carry h i o t k c) ks

  steps_shared : (t : Tables) (c : Contents) (ks : List Step) → AllFit t c ks → Shared t c → Shared (applies ks t) (carries h i o t ks c)
  steps_shared t c [] f v = v
  steps_shared t c (k ∷ ks) f v = steps_shared (apply k t) (carry h i o t k c) ks f.1 (step_shared t c k f.0 v)

  fit_append : (t : Tables) (c : Contents) (xs ys : List Step) → AllFit t c xs → ((d : Contents) → AllFit (applies xs t) d ys) → AllFit t c (xs ++ ys)
  fit_append t c [] ys f g = g c
  fit_append t c (k ∷ xs) ys f g = (f.0, fit_append (apply k t) (carry h i o t k c) xs ys f.1 g)

  fit_keep : (ks : List Step) → ((k : Step) → In k ks → (u : Tables) (c : Contents) → Wf u → Fits u c k × Wf (apply k u)) → (u : Tables) (c : Contents) → Wf u → AllFit u c ks
  fit_keep [] f u c w = tt
  fit_keep (k ∷ ks) f u c w = let r = f k (inl refl) u c w in (r.0, fit_keep ks (λ j z. f j (inr z)) (apply k u) (carry h i o u k c) r.1)

  module _ (t : Tables) (w : Wf t) (c : Contents) where
    -- what comes is by itself
    new_fits : (x : Thing) → T (not (broken t (new x))) → (a b : ℕ) → T (t.kin a b) → T (not (eqb a b)) → T (not (same x (subject a))) × T (not (same x (subject b)))
    new_fits x n a b q d = let l = mates_live w.teams a b q d in (apart a (step_entry t a l.0), apart b (step_entry t b l.1))
      where
        apart : (a : ℕ) → (e : Entry) × (t.at (subject a) ≡ some e) → T (not (same x (subject a)))
        apart a r = not_T (same x (subject a)) (λ s. none-ne-some r.0 (sym (is_new t x n).1 ∙ ap t.at (same→eq x (subject a) s) ∙ r.1))

    thread_fits : (s d : ℕ) (e : Entry) → Passed t (thread s d) → AllFit t c (enter (subject d) e (copied (cell t s)) ∷ binds d s ∷ [])
    thread_fits s d e m = (new_fits (subject d) fresh, (here ∙ sym there, tt))
      where
        fresh : T (not (broken t (new (subject d))))
        fresh = m (new (subject d)) (inr (inl refl))

        own : (f : Entry) × (t.at (subject s) ≡ some f)
        own = step_entry t s (is_alive t s (m (alive s) (inl refl)))

        here : store c (subject d) (c (cell t s)) (subject d) ≡ c (subject s)
        here = cond_yes (same (subject d) (subject d)) (c (cell t s)) (c (subject d)) (same_refl (subject d)) ∙ ap c (cell_self t s)

        there : store c (subject d) (c (cell t s)) (subject s) ≡ c (subject s)
        there = cond_no (same (subject d) (subject s)) (c (cell t s)) (c (subject s)) (not_T (same (subject d) (subject s))
            (λ q. none-ne-some own.0 (sym (is_new t (subject d) fresh).1 ∙ ap t.at (same→eq (subject d) (subject s) q) ∙ own.1)))

    access_fits : (d : Dir) (s p : ℕ) → AllFit t c (steps t (access d s p))
    access_fits reading s p = (w.teams, tt)
    access_fits writing s p = (
      w.teams,
      fit_keep (rereads t x) (λ k z u d v. let r = reread_of t x k z in
          subst (λ (j : Step). Fits u d j × Wf (apply j u)) r.is (v.teams, wf_mix u reads (subject r.by) x (cell t r.by) x v))
          (apply (mix writes x (subject s) x (cell t s)) t) _ (wf_mix t writes x (subject s) x (cell t s) w),
    )
      where
        x : Thing
        x = target (t.hand s p)

    exec_fits : (s o : ℕ) → AllFit t c (steps t (exec s o))
    unfolding sheds
    exec_fits s n = (tt, (tt, ((sheds_less t s).teamed w.teams, tt)))

    fits : (k : Call) → Passed t k → AllFit t c (steps t k)
    fits (admit s n) m = (new_fits (subject s) (m (new (subject s)) (inl refl)), tt)
    fits (register p n) m = ((λ a b q d. (tt, tt)), tt)
    fits (create s p) m = ((λ a b q d. (tt, tt)), tt)
    fits (make_pipe s p r q) m = ((λ a b q d. (tt, tt)), (tt, (tt, tt)))
    fits (opens d s n p) m = (tt, tt)
    fits (access d s p) m = access_fits d s p
    fits (fork s d) m = (new_fits (subject d) (m (new (subject d)) (inr (inl refl))), (tt, tt))
    fits (thread s d) m = thread_fits s d (entry running (label_of (t.at (cell t s)))) m
    fits (exec s n) m = exec_fits s n
    fits (close s p) m = (tt, tt)
    fits (exit s) m = (tt, tt)
    fits (retire n) m = (tt, tt)
    fits (maps s n p) m = (tt, ((map_wf t w s n p m).teams, tt))
    fits (mark s p) m = (tt, tt)
    fits (freeze n) m = (tt, tt)
    fits (connect s u x y p q) m = ((λ a b q d. (tt, tt)), ((λ a b q d. (tt, tt)), (tt, (tt, (tt, (tt, tt))))))
    fits unknown m = tt

-- ── lists of calls ──
module _ (h : Handling) (out : Outside) where
  turn_shared : (i : ℕ) (b : Book) (k : Call) → Kept b.tables → Shared b.tables b.content
      → Kept (turn h out i b k).tables × Shared (turn h out i b k).tables (turn h out i b k).content
  unfolding effect
  turn_shared i b k v z = go (refusal t k) refl
    where
      t : Tables
      t = b.tables

      to : Option ℕ → Book
      to r = elim r as (λ _. Book) [ none ↦ record { tables = effect t k; content = carries h i (out i) t (steps t k) b.content } | some n ↦ b ]

      go : (r : Option ℕ) → refusal t k ≡ r → Kept (to r).tables × Shared (to r).tables (to r).content
      go (some n) q = (v, z)
      go none q = (effect_kept t k v q, record { one_content = (steps_shared h i (out i) t b.content (steps t k) (fits h i (out i) t v.wf b.content k ((allowed_iff t k).0 q)) z).one_content })

  shared_from : (i : ℕ) (b : Book) (rs : List Raw) → Kept b.tables → Shared b.tables b.content → Shared (book_from h out i b rs).tables (book_from h out i b rs).content
  shared_from i b [] v z = z
  shared_from i b (r ∷ rs) v z = let n = turn_shared i b (decode r) v z in shared_from (suc i) (turn h out i b (decode r)) rs n.0 n.1

  -- RULES B31: the members of a group have one content after every list of calls
  pub always_shared : (rs : List Raw) → Shared (book h out rs).tables (book h out rs).content
  always_shared rs = shared_from 0 blank_book rs empty_kept (record { one_content = λ a b q. refl })
