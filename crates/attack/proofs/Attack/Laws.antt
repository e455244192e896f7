-- No needless refusals: behind every answer 9 in calls from empty tables there is an attack. Proves RULES A1 and A9.
--
-- What is said of one call is in `Attack.Sought`, `Attack.Carrying` and `Attack.Short`. Here, over lists of calls; then the same in the book's terms. Assumes nothing.
use Rattle.std.specs.Prelude.{◌≡◌, refl, Bool, cond, List, [], ◌∷◌, ℕ, suc, ◌+◌, ◌≤◌, ◌<◌, length, ltb}
use Rattle.std.proofs.Common.{◌∙◌, ap, le_refl, arith, lt-ltb, le-ltb}
use Rattle.std.proofs.Math.Option.{none, some}
use Rattle.model.specs.Flow.{Thing}
use Rattle.model.specs.Tables.{Tables, empty}
use Rattle.model.specs.Steps.{Access, Step, enter, leave, hold, holds, mix, quits, binds, freezes, apply}
use Rattle.model.specs.Invariant.{Kept}
use Rattle.model.specs.Calls.{Call, Raw, decode, steps, effect, refusal, refused, answer, after}
use Rattle.model.proofs.Calls.Refusals.{answered_refused}
use Rattle.model.proofs.Calls.Listed.{always_listed, always_few}
use Rattle.model.proofs.Calls.Kept.{always_kept}
use Rattle.model.specs.Book.{Contents, Book, Handling, Outside, blank_book, pour, carry, carries, turn, book_from, book}
use Rattle.model.proofs.Book.Laws.{book_tables}
use Rattle.attack.specs.Attack.{copying, let_through, book_of, Attack, Behind, acts}
pub use Rattle.attack.proofs.Attack.Sought.{sought_wf}
pub use Rattle.attack.proofs.Attack.Carrying.{chain_attack}
pub use Rattle.attack.proofs.Attack.Short.{Short, chain_exists}

-- ── over lists of calls ──
-- RULES A1: NO NEEDLESS REFUSAL, in calls from empty tables, behind every answer 9
pub no_needless : (rs : List Raw) (r : Raw) → answer (after empty rs) (decode r) ≡ refused 9 → Behind (after empty rs) (decode r)
no_needless rs r q = record { low = s.low; high = s.high; list = acts (effect t c) s.l; attack = chain_attack t v.wf v.safe c n s.low s.high s.l s.chain s.few }
  where
    t : Tables
    t = after empty rs

    c : Call
    c = decode r

    v : Kept t
    v = always_kept rs

    n : refusal t c ≡ some 9
    n = (answered_refused t c 9).0 q

    s : Short t c
    s = chain_exists t v.wf v.safe v.even (always_listed rs) (always_few rs) c n

-- ── in the book's terms ──
-- what a handling does elsewhere in the list is not looked at
carry_same : (h k : Handling) (i o : ℕ) → h i ≡ k i → (t : Tables) (s : Step) (c : Contents) → carry h i o t s c ≡ carry k i o t s c
carry_same h k i o q t (enter x e g) c = refl
carry_same h k i o q t (leave x) c = refl
carry_same h k i o q t (hold s p v) c = refl
carry_same h k i o q t (holds s r) c = refl
carry_same h k i o q t (mix m a b y x) c = ap (λ (g : Access → Thing → Thing → ℕ → ℕ → ℕ). pour t c y (λ v. g m a b v (c x))) q
carry_same h k i o q t (quits g) c = refl
carry_same h k i o q t (binds a s) c = refl
carry_same h k i o q t (freezes n) c = refl

carries_same : (h k : Handling) (i o : ℕ) → h i ≡ k i → (t : Tables) (ss : List Step) (c : Contents) → carries h i o t ss c ≡ carries k i o t ss c
carries_same h k i o q t [] c = refl
carries_same h k i o q t (s ∷ ss) c = carries_same h k i o q (apply s t) ss (carry h i o t s c) ∙ ap (carries k i o (apply s t) ss) (carry_same h k i o q t s c)

turn_same : (h k : Handling) (out : Outside) (i : ℕ) (b : Book) (c : Call) → h i ≡ k i → turn h out i b c ≡ turn k out i b c
turn_same h k out i b c q = ap (λ (d : Contents). elim (refusal b.tables c) as (λ _. Book) [ none ↦ book_of (effect b.tables c) d | some n ↦ b ])
    (carries_same h k i (out i) q b.tables (steps b.tables c) b.content)

book_same : (h k : Handling) (out : Outside) (i : ℕ) (b : Book) (rs : List Raw) → ((j : ℕ) → i ≤ j → j < i + length rs → h j ≡ k j) → book_from h out i b rs ≡ book_from k out i b rs
book_same h k out i b [] f = refl
book_same h k out i b (r ∷ rs) f = book_same h k out (suc i) (turn h out i b (decode r)) rs (λ j a l. f j (omega arith) (omega arith))
    ∙ ap (λ (d : Book). book_from k out (suc i) d rs) (turn_same h k out i b (decode r) (f i (le_refl i) (omega arith)))

-- RULES A9: any handling before position n, copying from there on
abbrev pub copying_from : Handling → ℕ → Handling
copying_from h n i = cond (ltb i n) (h i) (copying i)

-- RULES A9: NO NEEDLESS REFUSAL, in the book's terms: whatever the handling of data was before the call, and whatever came in from outside
pub carried_on : (h : Handling) (out : Outside) (rs : List Raw) (c : Call) (low high : Thing) (list : List Raw) → Attack (after empty rs) c low high list →
    let k : Handling = copying_from h (length rs) in
    (book_from k out (suc (length rs)) (let_through k out (length rs) (book k out rs) c) list).content high ≡ (book h out rs).content low
carried_on h out rs c low high list a = ap (λ (b : Book). (book_from k out (suc n) b list).content high) (ap (λ (b : Book). let_through k out n b c) start ∙ same)
    ∙ ap (λ (b : Book). b.content high) (book_same k copying out (suc n) (let_through copying out n past c) list (λ j l m. later j (omega arith)))
    ∙ a.carried out n (book h out rs).content
  where
    n : ℕ
    n = length rs

    k : Handling
    k = copying_from h n

    later : (j : ℕ) → n ≤ j → k j ≡ copying j
    later j l = ap (λ (b : Bool). cond b (h j) (copying j)) (le-ltb j n l)

    past : Book
    past = book_of (after empty rs) (book h out rs).content

    start : book k out rs ≡ past
    start = book_same k h out 0 blank_book rs (λ j l m. ap (λ (b : Bool). cond b (h j) (copying j)) (lt-ltb j n (omega arith)))
        ∙ ap (λ (t : Tables). book_of t (book h out rs).content) (book_tables h out rs)

    same : let_through k out n past c ≡ let_through copying out n past c
    same = ap (λ (d : Contents). book_of (effect (after empty rs) c) d)
        (carries_same k copying n (out n) (later n (le_refl n)) (after empty rs) (steps (after empty rs) c) (book h out rs).content)
