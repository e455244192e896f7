-- The laws of the book: its tables and answers are those of the rules, whichever contents and handling it is fed; and contents brought
-- in under labels not at least ℓ leave every thing at or above ℓ the same (non-interference). One law for each step. Assumes nothing.
use Rattle.std.specs.Prelude.{◌≡◌, Bool, true, false, not, cond, List, [], ◌∷◌, ◌++◌, ℕ, suc, T}
use Rattle.std.proofs.Math.Path.{refl, ap}
use Rattle.std.proofs.Common.{sym, ◌∙◌, ap₂, subst, subst₂, inl, inr}
use Rattle.std.proofs.Math.Option.{Option, none, some, none-ne-some, some-injective}
use Rattle.model.specs.Lists.{In}
use Rattle.model.specs.Label.{Label, ◌⊑◌}
use Rattle.model.proofs.Label.Laws.{⊑_refl, ⊑_trans}
use Rattle.model.specs.Flow.{Thing, subject, same}
use Rattle.model.specs.Tables.{Dir, reading, writing, Entry, Handle, Tables, empty, label_of, cell, whole, handles, arc, needs, with_numbers}
use Rattle.model.proofs.Tables.Laws.{cell_entry}
use Rattle.model.specs.Steps.{outside, blank, copied, writes, Step, enter, leave, hold, holds, mix, quits, freezes, put, fall, apply, applies, ended, reap, binds}
use Rattle.model.proofs.Steps.Laws.{put_cases, fell}
use Rattle.model.specs.Invariant.{Safe, Kept}
use Rattle.model.proofs.Invariant.Laws.{Pot, pot_whole, pot_safe, needs_pot, Less, less_wf, less_pot, Feeds}
use Rattle.model.specs.Calls.{Call, admit, register, create, make_pipe, opens, access, fork, thread, exec, close, exit, retire, maps, mark, freeze, connect, unknown, Raw, decode, target, rereads, sheds, steps, effect, Test, alive, present, taken, facing, suits, broken, tests, refusal, next, Answer, answer, answers, after}
use Rattle.model.proofs.Calls.Refusals.{allowed_iff}
use Rattle.model.proofs.Calls.Passed.{is_alive, is_facing, sheds_less}
use Rattle.model.proofs.Calls.Moving.{reread_of}
use Rattle.model.proofs.Calls.Sound.{mapped_read, access_feeds, exec_feeds, Going, going_written, reread_feeds, going_next, map_feeds}
use Rattle.model.proofs.Calls.Kept.{next_kept, empty_kept}
use Rattle.model.specs.Book.{Contents, Book, blank_book, Handling, Outside, store, carry, carries, turn, book_from, answers_from, brought_by, brought, AlikeFrom, Alike, book, book_answers}

-- ── the book's tables and answers are those of the rules ──
turn_tables : (h : Handling) (out : Outside) (i : ℕ) (b : Book) (c : Call) → (turn h out i b c).tables ≡ next b.tables c
turn_tables h out i b c = go (refusal b.tables c)
  where
    go : (o : Option ℕ) → (elim o as (λ _. Book) [
      | none ↦ record {
        tables = effect b.tables c;
        content = carries h i (out i) b.tables
            (steps b.tables c) b.content;
      }
      | some n ↦ b
    ]).tables
        ≡ elim o as (λ _. Tables) [ none ↦ effect b.tables c | some n ↦ b.tables ]
    go none = refl
    go (some n) = refl

tables_from : (h : Handling) (out : Outside) (i : ℕ) (b : Book) (rs : List Raw) → (book_from h out i b rs).tables ≡ after b.tables rs
tables_from h out i b [] = refl
tables_from h out i b (r ∷ rs) = tables_from h out (suc i) (turn h out i b (decode r)) rs ∙ ap (λ (t : Tables). after t rs) (turn_tables h out i b (decode r))

pub book_tables : (h : Handling) (out : Outside) (rs : List Raw) → (book h out rs).tables ≡ after empty rs
book_tables h out rs = tables_from h out 0 blank_book rs

from_answers : (h : Handling) (out : Outside) (i : ℕ) (b : Book) (rs : List Raw) → answers_from h out i b rs ≡ answers b.tables rs
from_answers h out i b [] = refl
from_answers h out i b (r ∷ rs) = ap {B = List Answer} (λ l. answer b.tables (decode r) ∷ l)
    (from_answers h out (suc i) (turn h out i b (decode r)) rs ∙ ap (λ (t : Tables). answers t rs) (turn_tables h out i b (decode r)))

pub book_answered : (h : Handling) (out : Outside) (rs : List Raw) → book_answers h out rs ≡ answers empty rs
book_answered h out rs = from_answers h out 0 blank_book rs

-- ── contents that agree at and above ℓ ──
pub record Agree (ℓ : Label) (t : Tables) (c d : Contents) : Type 0 where
  pub same_at : (x : Thing) (e : Entry) → t.at x ≡ some e → ℓ ⊑ e.label → c x ≡ d x

-- what each step asks, so that they go on agreeing; o₁ and o₂ are what is brought in
abbrev Guard : Label → ℕ → ℕ → Tables → Step → Type 0
Guard ℓ o₁ o₂ t (enter x e outside) = ℓ ⊑ e.label → o₁ ≡ o₂
Guard ℓ o₁ o₂ t (enter x e blank) = Unit {0}
Guard ℓ o₁ o₂ t (enter x e (copied y)) = (d : Entry) × (t.at y ≡ some d) × (e.label ⊑ d.label)
Guard ℓ o₁ o₂ t (leave x) = Unit {0}
Guard ℓ o₁ o₂ t (hold s p v) = Unit {0}
Guard ℓ o₁ o₂ t (holds s r) = Unit {0}
Guard ℓ o₁ o₂ t (mix m a b y x) = (φ : Thing → Label) × Pot t φ × Feeds t φ y x
Guard ℓ o₁ o₂ t (quits g) = Unit {0}
Guard ℓ o₁ o₂ t (binds a s) = Unit {0}
Guard ℓ o₁ o₂ t (freezes n) = Unit {0}

abbrev Guards : Label → ℕ → ℕ → Tables → List Step → Type 0
Guards ℓ o₁ o₂ t [] = Unit {0}
Guards ℓ o₁ o₂ t (k ∷ ks) = Guard ℓ o₁ o₂ t k × Guards ℓ o₁ o₂ (apply k t) ks

guards_append : (ℓ : Label) (o₁ o₂ : ℕ) (xs ys : List Step) (t : Tables) → Guards ℓ o₁ o₂ t xs → Guards ℓ o₁ o₂ (applies xs t) ys → Guards ℓ o₁ o₂ t (xs ++ ys)
guards_append ℓ o₁ o₂ [] ys t g f = f
guards_append ℓ o₁ o₂ (k ∷ xs) ys t g f = (g.0, guards_append ℓ o₁ o₂ xs ys (apply k t) g.1 f)

-- where each step of a list has what it asks and keeps what makes it so, the list has it
guards_keep : (ℓ : Label) (o₁ o₂ : ℕ) (P : Tables → Type 0) (ks : List Step) → ((k : Step) → In k ks → (u : Tables) → P u → Guard ℓ o₁ o₂ u k × P (apply k u))
    → (u : Tables) → P u → Guards ℓ o₁ o₂ u ks
guards_keep ℓ o₁ o₂ P [] f u p = tt
guards_keep ℓ o₁ o₂ P (k ∷ ks) f u p = let r = f k (inl refl) u p in (r.0, guards_keep ℓ o₁ o₂ P ks (λ j i. f j (inr i)) (apply k u) r.1)

-- one thing changed
store_agree : (ℓ : Label) (t : Tables) (c d : Contents) (x : Thing) (n : Option Entry) (v w : ℕ) → Agree ℓ t c d
    → ((e : Entry) → n ≡ some e → ℓ ⊑ e.label → v ≡ w) → (y : Thing) (e : Entry) → put t.at x n y ≡ some e → ℓ ⊑ e.label → store c x v y ≡ store d x w y
store_agree ℓ t c d x n v w a h y e q l = go (same x y) q
  where
    go : (b : Bool) → cond b n (t.at y) ≡ some e → cond b v (c y) ≡ cond b w (d y)
    go true q = h e q l
    go false q = a.same_at y e q l

module _ (ℓ : Label) (h : Handling) (i o₁ o₂ : ℕ) where
  step_agree : (t : Tables) (c d : Contents) (k : Step) → Guard ℓ o₁ o₂ t k → Agree ℓ t c d → Agree ℓ (apply k t) (carry h i o₁ t k c) (carry h i o₂ t k d)
  step_agree t c d (enter x e outside) g a = record {
    same_at = store_agree ℓ t c d x (some e) o₁ o₂ a
        (λ f q l. g (subst (λ (z : Entry). ℓ ⊑ z.label) (sym (some-injective e f q)) l));
  }
  step_agree t c d (enter x e blank) g a = record { same_at = store_agree ℓ t c d x (some e) 0 0 a (λ f q l. refl) }
  step_agree t c d (enter x e (copied y)) g a = record {
    same_at = store_agree ℓ t c d x (some e) (c y) (d y) a
        (λ f q l. a.same_at y g.0 g.1 (⊑_trans (subst (λ (z : Entry). ℓ ⊑ z.label) (sym (some-injective e f q)) l) g.2));
  }
  step_agree t c d (leave x) g a = record {
    same_at = λ y e q l. elim
        (put_cases t.at x none y (some e) q) [ inl p ↦ absurd (none-ne-some e p.1) | inr p ↦ a.same_at y e p.1 l ];
  }
  step_agree t c d (hold s p v) g a = record { same_at = a.same_at }
  step_agree t c d (holds s r) g a = record { same_at = a.same_at }
  step_agree t c d (binds n s) g a = record { same_at = a.same_at }
  step_agree t c d (freezes n) g a = record { same_at = a.same_at }
  step_agree t c d (quits g) r a = record { same_at = λ y e q l. left (g y) y e q l }
    where
      left : (b : Bool) (y : Thing) (e : Entry) → cond b none (t.at y) ≡ some e → ℓ ⊑ e.label → c y ≡ d y
      left true y e q l = absurd (none-ne-some e q)
      left false y e q l = a.same_at y e q l
  step_agree t c d (mix m n o y x) g a = record { same_at = λ z r q l. poured z r l (whole t y z) (pot_whole g.1 y z) q }
    where
      w : Feeds t g.0 y x
      w = g.2

      equal : (z : Thing) (r : Entry) → g.0 z ⊑ g.0 y → fall z (t.at z) (t.at x) ≡ some r → ℓ ⊑ r.label → h i m n o (c z) (c x) ≡ h i m n o (d z) (d x)
      equal z r b q l = let f = fell z (t.at z) (t.at x) w.source r w.source_is q in
          let own : c z ≡ d z = a.same_at z f.was f.was_is (⊑_trans l f.under_was) in
          let fed : c x ≡ d x = a.same_at x w.source w.source_is
          (⊑_trans l (f.under_source (⊑_trans (g.1.low z) (⊑_trans b w.under)))) in
          ap₂ (λ u v. h i m n o u v) own fed

      poured : (z : Thing) (r : Entry) → ℓ ⊑ r.label → (b : Bool) → (T b → g.0 z ⊑ g.0 y) → cond b (fall z (t.at z) (t.at x)) (t.at z) ≡ some r
          → cond b (h i m n o (c z) (c x)) (c z) ≡ cond b (h i m n o (d z) (d x)) (d z)
      poured z r l true e q = equal z r (e tt) q l
      poured z r l false e q = a.same_at z r q l

  steps_agree : (t : Tables) (c d : Contents) (ks : List Step) → Guards ℓ o₁ o₂ t ks → Agree ℓ t c d → Agree ℓ (applies ks t)
      (carries h i o₁ t ks c) (carries h i o₂ t ks d)
  steps_agree t c d [] g a = a
  steps_agree t c d (k ∷ ks) g a = steps_agree (apply k t) (carry h i o₁ t k c) (carry h i o₂ t k d) ks g.1 (step_agree t c d k g.0 a)

reap_agree : (ℓ : Label) (before : List Handle) (t : Tables) (c d : Contents) → Agree ℓ t c d → Agree ℓ (reap before t) c d
reap_agree ℓ before t c d a = record { same_at = λ y e q l. go (ended before (handles t) y (t.at y)) y e q l }
  where
    go : (b : Bool) (y : Thing) (e : Entry) → cond b none (t.at y) ≡ some e → ℓ ⊑ e.label → c y ≡ d y
    go true y e q l = absurd (none-ne-some e q)
    go false y e q l = a.same_at y e q l

numbers_agree : (ℓ : Label) (t : Tables) (n : List ℕ) (c d : Contents) → Agree ℓ t c d → Agree ℓ (with_numbers t n) c d
numbers_agree ℓ t n c d a = record { same_at = λ y e q l. a.same_at y e q l }

-- ── an allowed call's steps have what they ask ──
sheds_guards : (ℓ : Label) (o₁ o₂ : ℕ) (t : Tables) (s : ℕ) → Guards ℓ o₁ o₂ t (sheds t s)
unfolding sheds
sheds_guards ℓ o₁ o₂ t s = (tt, (tt, tt))

module _ (ℓ : Label) (o₁ o₂ : ℕ) (t : Tables) (v : Kept t) where
  guarded : (k : Call) → ((l : Label) → brought_by (steps t k) ≡ some l → ℓ ⊑ l → o₁ ≡ o₂) →
      ((e : Test) → In e (tests k) → T (not (broken t e))) → Guards ℓ o₁ o₂ t (steps t k)
  guarded (admit s n) b m = (b _ refl, tt)
  guarded (register o n) b m = (b _ refl, tt)
  guarded (create s o) b m = (tt, tt)
  guarded (make_pipe s o r w) b m = (tt, (tt, (tt, tt)))
  guarded (opens d s o p) b m = (tt, tt)
  guarded (access d s p) b m = went d (let r = is_facing t d s p (m (taken s p) (inr (inl refl)))
      (m (facing d s p) (inr (inr (inl refl)))) in access_feeds t (needs t) v.wf pot d s p r.0 r.1 r.2)
    where
      x : Thing
      x = target (t.hand s p)

      pot : Pot t (needs t)
      pot = needs_pot v.wf v.safe

      went : (d : Dir) → Feeds t (needs t) (arc d (cell t s) x).dst (arc d (cell t s) x).src → Guards ℓ o₁ o₂ t (steps t (access d s p))
      went reading f = ((needs t, pot, f), tt)
      went writing f = (
        (needs t, pot, f),
        guards_keep ℓ o₁ o₂ (Going t (needs t)) (rereads t x) (λ k i u g. let r = reread_of t x k i in
            subst (λ (j : Step). Guard ℓ o₁ o₂ u j × Going t (needs t) (apply j u)) r.is (
              (needs t, g.pot, reread_feeds t (needs t) (mapped_read v.mapped) x r.by r.through u g),
              going_next t (needs t) (mapped_read v.mapped) x r.by r.through u g,
            )) (apply (mix writes x (subject s) x (cell t s)) t) (going_written t (needs t) v.wf pot s x f),
      )
  guarded (fork s c) b m = let r = cell_entry t s (is_alive t s (m (alive s) (inl refl))) in
      ((r.0, r.1, subst (λ (o : Option Entry). label_of o ⊑ r.0.label) (sym r.1) ⊑_refl), (tt, tt))
  guarded (thread s c) b m = let r = cell_entry t s (is_alive t s (m (alive s) (inl refl))) in
      ((r.0, r.1, subst (λ (o : Option Entry). label_of o ⊑ r.0.label) (sym r.1) ⊑_refl), (tt, tt))
  guarded (exec s o) b m = guards_append ℓ o₁ o₂ (sheds t s) _ t (sheds_guards ℓ o₁ o₂ t s) (
    (
      needs u,
      needs_pot (less_wf l v.wf) safe,
      exec_feeds t s o (m (present o) (inr (inl refl)))
          (m (suits s o) (inr (inr (inr (inl refl))))),
    ),
    tt,
  )
    where
      u : Tables
      u = applies (sheds t s) t

      l : Less t u
      l = sheds_less t s

      safe : Safe u
      safe = pot_safe (less_pot (needs t) l (needs_pot v.wf v.safe))
  guarded (close s p) b m = (tt, tt)
  guarded (exit s) b m = (tt, tt)
  guarded (retire o) b m = (tt, tt)
  guarded (maps s o p) b m = let r = map_feeds t s o p v.wf m in (tt, ((r.potential, r.pot, r.feeds), tt))
  guarded (mark s p) b m = (tt, tt)
  guarded (freeze n) b m = (tt, tt)
  guarded (connect s u x y p q) b m = (tt, (tt, (tt, (tt, (tt, (tt, tt))))))
  guarded unknown b m = tt

-- ── lists of calls ──
abbrev opened : Tables → Contents → Book
opened t c = record { tables = t; content = c }

abbrev content_next : Handling → Outside → ℕ → Tables → Contents → Call → Contents
content_next h out i t c k = elim (refusal t k) as (λ _. Contents) [ none ↦ carries h i (out i) t (steps t k) c | some n ↦ c ]

turn_is : (h : Handling) (out : Outside) (i : ℕ) (t : Tables) (c : Contents) (k : Call) → turn h out i (opened t c) k ≡ opened (next t k)
    (content_next h out i t c k)
turn_is h out i t c k = go (refusal t k)
  where
    go : (o : Option ℕ) → (elim o as (λ _. Book) [ none ↦ opened (effect t k) (carries h i (out i) t (steps t k) c) | some n ↦ opened t c ])
        ≡ opened (elim o as (λ _. Tables) [ none ↦ effect t k | some n ↦ t ])
        (elim o as (λ _. Contents) [ none ↦ carries h i (out i) t (steps t k) c | some n ↦ c ])
    go none = refl
    go (some n) = refl

module _ (ℓ : Label) (h : Handling) (p q : Outside) where
  next_agree : (i : ℕ) (t : Tables) (c d : Contents) (k : Call) → Kept t → ((l : Label) → brought t k ≡ some l → ℓ ⊑ l → p i ≡ q i)
      → Agree ℓ t c d → Agree ℓ (next t k) (content_next h p i t c k) (content_next h q i t d k)
  unfolding effect
  next_agree i t c d k v b a = go (refusal t k) refl
    where
      go : (o : Option ℕ) → refusal t k ≡ o → Agree ℓ (elim o as (λ _. Tables) [ none ↦ effect t k | some n ↦ t ])
          (elim o as (λ _. Contents) [ none ↦ carries h i (p i) t (steps t k) c | some n ↦ c ])
          (elim o as (λ _. Contents) [ none ↦ carries h i (q i) t (steps t k) d | some n ↦ d ])
      go none r = numbers_agree ℓ (reap (handles t) (applies (steps t k) t)) _ _ _ (reap_agree ℓ (handles t) (applies (steps t k) t) _ _
          (steps_agree ℓ h i (p i) (q i) t c d (steps t k) (guarded ℓ (p i) (q i) t v k (λ l z. b l (brings ∙ z)) ((allowed_iff t k).0 r)) a))
        where
          brings : brought t k ≡ brought_by (steps t k)
          brings = ap (λ (o : Option ℕ). elim o as (λ _. Option Label) [ none ↦ brought_by (steps t k) | some n ↦ none ]) r
      go (some n) r = a

  agree_from : (i : ℕ) (t : Tables) (c d : Contents) (rs : List Raw) → Kept t → AlikeFrom ℓ p q i t rs → Agree ℓ t c d
      → Agree ℓ (book_from h p i (opened t c) rs).tables (book_from h p i (opened t c) rs).content (book_from h q i (opened t d) rs).content
  agree_from i t c d [] v w a = a
  agree_from i t c d (r ∷ rs) v w a = subst₂ (λ x y. Agree ℓ (book_from h p (suc i) x rs).tables (book_from h p (suc i) x rs).content
      (book_from h q (suc i) y rs).content)
      (sym (turn_is h p i t c (decode r))) (sym (turn_is h q i t d (decode r)))
      (agree_from (suc i) (next t (decode r)) (content_next h p i t c (decode r)) (content_next h q i t d (decode r)) rs
      (next_kept t (decode r) v) w.1 (next_agree i t c d (decode r) v w.0 a))

  -- RULES B28: two books whose outside contents are alike from ℓ on agree on each live thing that is at ℓ or above at the end
  pub unmoved : (rs : List Raw) → Alike ℓ p q rs → Agree ℓ (book h p rs).tables (book h p rs).content (book h q rs).content
  unmoved rs w = agree_from 0 empty (λ x. 0) (λ x. 0) rs empty_kept w (record { same_at = λ x e r l. refl })
