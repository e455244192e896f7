-- The tally: what a call of a code makes and removes, by its code and by how many handles its first subject and the mates of that one hold. Assumes nothing.
use Rattle.std.proofs.Common.{◌≡◌, ℕ, zero, suc, ◌+◌, ◌-◌, ◌*◌, ◌<◌, ◌≤◌, Bool, true, false, cond, not, ◌&&◌, T, eqb, ltb, List, [], ◌++◌, length, get_or, take, sym, refl, ap, ◌∙◌, subst, ap₂, add-one, arith, ltb→lt, length-append, lt-ltb, ne_eqb}
use Rattle.std.specs.List.{count_by}
use Rattle.std.proofs.lemmas.List.{take_all, get_or_past}
use Rattle.std.proofs.lemmas.List.Sums.{count_by_more_no, count_by_more_yes}
use mathlib.Core.Path.{fun_ext}
use mathlib.Core.Option.{Option, none, some}
use Rattle.tally.proofs.Pick.{past}
use Rattle.model.specs.Bools.{both_of}
use Rattle.model.specs.Lists.{each}
use Rattle.model.specs.Flow.{subject}
use Rattle.model.specs.Tables.{Tables, empty, with_hand, mates, one, handles_of, clean}
use Rattle.model.proofs.Tables.Laws.{live_of}
use Rattle.model.specs.Invariant.{Wf}
use Rattle.model.specs.Calls.{Call, lasting, decode, refusal, Answer, allowed, lowered, refused, answer}
use Rattle.model.proofs.Calls.Codes.{decode_by}
use Rattle.model.proofs.Calls.Refusals.{answered_refused}
use Rattle.model.specs.Tally.{held, dropped, drops, ousted, makes, removes, wrapped, tallied}
use Rattle.model.proofs.Tally.Laws.{each_parts, each_none}
use Rattle.model.specs.Tables.{Handle as Held}
use Rattle.model.specs.Tally.{Tally as Counts}
use Rattle.tables.specs.declared.Subject.{Subject}
use Rattle.tables.specs.declared.Object.{Object}
use Rattle.tables.specs.declared.Handle.{Handle}
use Rattle.tables.specs.Records.{held as held_at}
use Rattle.tables.specs.Records.{no_handle, joins, hands, along, tables_of}
use Rattle.answers.specs.Telling.{refuses}
use Rattle.gatekeeper.specs.View.{direct}
use Rattle.tally.specs.Counting.{made_by, gone_by}

-- ── what a code makes and removes ──
pub makes_is : (t : Tables) (code a b c d e f : ℕ) → makes t (decode (direct code a b c d e f)) ≡ made_by code (held t a)
makes_is t code a b c d e f = decode_by (λ (k : Call). makes t k ≡ made_by code (held t a)) (direct code a b c d e f)
    (λ e. rw e, (λ e. rw e, (λ e. rw e, (λ e. rw e, (λ e. rw e, (λ e. rw e, (λ e. rw e, (λ e. rw e, (λ e. rw e, (λ e. rw e, (λ e. rw e, (λ e. rw e, (λ e. rw e, (λ e. rw e, (λ e. rw e, (λ e. rw e, (λ e. rw e, (λ e. rw e, tt))))))))))))))))))
    (λ m. past (eqb code 4) 2 _ (ne_eqb code 4 m.1.1.1.0) (past (eqb code 5) 1 _ (ne_eqb code 5 m.1.1.1.1.0)
    (past (eqb code 6) 1 _ (ne_eqb code 6 m.1.1.1.1.1.0) (past (eqb code 9) (held t a) _ (ne_eqb code 9 m.1.1.1.1.1.1.1.1.0)
    (past (eqb code 14) 1 _ (ne_eqb code 14 m.1.1.1.1.1.1.1.1.1.1.1.1.1.0)
    (past (eqb code 17) 4 _ (ne_eqb code 17 m.1.1.1.1.1.1.1.1.1.1.1.1.1.1.1.1.0) refl))))))

pub removes_is : (t : Tables) (code a b c d e f : ℕ) → removes t (decode (direct code a b c d e f)) ≡ gone_by code (held t a) (drops t a + ousted t a)
removes_is t code a b c d e f = decode_by (λ (k : Call). removes t k ≡ gone_by code (held t a) (drops t a + ousted t a)) (direct code a b c d e f)
    (λ e. rw e, (λ e. rw e, (λ e. rw e, (λ e. rw e, (λ e. rw e, (λ e. rw e, (λ e. rw e, (λ e. rw e, (λ e. rw e, (λ e. rw e, (λ e. rw e, (λ e. rw e, (λ e. rw e, (λ e. rw e, (λ e. rw e, (λ e. rw e, (λ e. rw e, (λ e. rw e, tt))))))))))))))))))
    (λ m. past (eqb code 10) (drops t a + ousted t a) _ (ne_eqb code 10 m.1.1.1.1.1.1.1.1.1.0) (past (eqb code 11) 1 _ (ne_eqb code 11 m.1.1.1.1.1.1.1.1.1.1.0)
    (past (eqb code 12) (held t a) _ (ne_eqb code 12 m.1.1.1.1.1.1.1.1.1.1.1.0) refl)))

-- ── the handles of a subject ──
abbrev pub held_below : (ℕ → Option Held) → ℕ → ℕ
held_below f p = length (each p (λ q. one (f q)))

pub one_short : (o : Option Held) → length (one o) ≤ 1
one_short none = omega arith
one_short (some k) = omega arith

pub held_few : (f : ℕ → Option Held) (p : ℕ) → held_below f p ≤ p
held_few f zero = omega arith
held_few f (suc p) = omega (arith, length-append (each p (λ q. one (f q))) (one (f p)), held_few f p, one_short (f p))

-- the handles of one subject more
pub rows_more : {A : Type 0} (f : ℕ → List A) (n a k : ℕ) → a ≡ length (each n f) → k ≡ length (f n) → a + k ≡ length (each (n + 1) f)
rows_more f n a k e g = omega (arith, length-append (each n f) (f n)) ∙ ap (λ (m : ℕ). length (each m f)) (sym (add-one n))

-- the places that are taken, counted
abbrev pub full : Handle → Bool
full h = not (eqb h.way 0)

one_full : (h : Handle) → length (one (held_at h)) ≡ cond (full h) 1 0
one_full h = go (eqb h.way 0)
  where
    go : (b : Bool) → length (one (cond b none (some (joins h)))) ≡ cond (not b) 1 0
    go true = refl
    go false = refl

taken : (row : List Handle) (p : ℕ) → p ≤ 16 → p ≤ length row → count_by full (take p row) ≡ held_below (along row) p
taken row zero h l = refl
taken row (suc p) h l = subst (λ (n : ℕ). count_by full (take n row) ≡ held_below (along row) n) (add-one p)
    (by (full at) refl ∙ rows_more (λ q. one (along row q)) p _ _ (taken row p (omega arith) (omega arith)) (sym here))
  where
    at : Handle
    at = get_or row p no_handle

    here : length (one (along row p)) ≡ cond (full at) 1 0
    here = ap (λ (b : Bool). length (one (cond b (held_at at) none))) (lt-ltb p 16 (omega arith)) ∙ one_full at

    by : (b : Bool) → full at ≡ b → count_by full (take (p + 1) row) ≡ count_by full (take p row) + cond (full at) 1 0
    by true e = count_by_more_yes full row p no_handle (omega arith) e ∙ ap (λ (b : Bool). count_by full (take p row) + cond b 1 0) (sym e)
    by false e = count_by_more_no full row p no_handle (omega arith) e ∙ none_more ∙ ap (λ (b : Bool). count_by full (take p row) + cond b 1 0) (sym e)
      where
        none_more : count_by full (take p row) ≡ count_by full (take p row) + 0
        none_more = omega arith

pub taken_all : (row : List Handle) → length row ≡ 16 → count_by full row ≡ held_below (along row) 16
taken_all row h = ap (count_by full) (sym (take_all 16 row (omega arith))) ∙ taken row 16 (omega arith) (omega arith)

-- a subject out of range holds none
pub none_held : (hs : List Handle) → length hs ≡ 512 → (s : ℕ) → 32 ≤ s → (p : ℕ) → hands hs s p ≡ none
none_held hs n s h p = go (ltb p 16)
  where
    go : (b : Bool) → cond b (held_at (get_or hs (s * 16 + p) no_handle)) none ≡ none
    go true = let past : length hs ≤ s * 16 + p = omega arith in rw (get_or_past hs (s * 16 + p) no_handle past)
    go false = refl

-- the places of s, counted, and those that an exec leaves
module _ (t : Tables) (s : ℕ) (row : List Handle) (e : (p : ℕ) → along row p ≡ t.hand s p) where
  pub held_is : (n : ℕ) → n ≡ length (each 16 (λ p. one (along row p))) → n ≡ held t s
  held_is n q = q ∙ ap (λ (g : ℕ → Option Held). length (each 16 (λ p. one (g p)))) (fun_ext e)

  module _ (left : List Handle) (all rest : ℕ) (f : (p : ℕ) → along left p ≡ lasting (along row p)) (qa : all ≡ length (each 16 (λ p. one (along row p))))
      (qr : rest ≡ length (each 16 (λ p. one (along left p)))) where
    parts : all ≡ drops t s + rest
    parts = held_is all qa ∙ each_parts 16 (t.hand s) ∙ ap (λ (k : ℕ). drops t s + k)
        (sym (qr ∙ ap (λ (g : ℕ → Option Held). length (each 16 (λ p. one (g p)))) (fun_ext (λ p. f p ∙ ap lasting (e p)))))

    pub rest_within : rest ≤ all
    rest_within = omega (arith, parts)

    pub drops_few : all - rest ≤ 16
    drops_few = omega (arith, qa, held_few (along row) 16)

    pub drops_is : all - rest ≡ drops t s
    drops_is = omega (arith, parts)

-- ── the handles of several subjects ──
module _ {A : Type 0} where
  each_as : (n : ℕ) (f g : ℕ → List A) → ((j : ℕ) → j < n → f j ≡ g j) → each n f ≡ each n g
  each_as zero f g h = refl
  each_as (suc n) f g h = ap₂ (λ (l m : List A). l ++ m) (each_as n f g (λ j l. h j (omega arith))) (h n (omega arith))

  each_long : (n : ℕ) (f g : ℕ → List A) → ((j : ℕ) → length (f j) ≡ length (g j)) → length (each n f) ≡ length (each n g)
  each_long zero f g h = refl
  each_long (suc n) f g h = omega (arith, each_long n f g h, h n, length-append (each n f) (f n), length-append (each n g) (g n))

-- the handles of subject a, where it goes
abbrev pub held_of : List Handle → List Bool → ℕ → List Held
held_of hs gone a = cond (get_or gone a false) (each 16 (λ p. one (hands hs a p))) []

module _ (hs : List Handle) (gone : List Bool) (a : ℕ) where
  pub row_not : get_or gone a false ≡ false → 0 ≡ length (held_of hs gone a)
  row_not e = ap (λ (b : Bool). length (cond b (each 16 (λ p. one (hands hs a p))) [])) (sym e)

  module _ (row : List Handle) (r : (p : ℕ) → along row p ≡ hands hs a p) (n : ℕ) (q : n ≡ length (each 16 (λ p. one (along row p)))) where
    pub row_held : get_or gone a false ≡ true → n ≡ length (held_of hs gone a)
    row_held e = q ∙ ap (λ (f : ℕ → Option Held). length (each 16 (λ p. one (f p)))) (fun_ext r)
        ∙ ap (λ (b : Bool). length (cond b (each 16 (λ p. one (hands hs a p))) [])) (sym e)

    pub held_within : n ≤ 16
    held_within = omega (arith, q, held_few (along row) 16)

-- the handles that a subject holds and drops are those of tables that have them
module _ (t : Tables) (hs : List Handle) (e : (s p : ℕ) → hands hs s p ≡ t.hand s p) (s : ℕ) where
  pub held_as : held (with_hand empty (hands hs)) s ≡ held t s
  held_as = ap length (each_as 16 _ _ (λ p l. ap one (e s p)))

  pub drops_as : drops (with_hand empty (hands hs)) s ≡ drops t s
  drops_as = ap length (each_as 16 _ _ (λ p l. ap (λ (o : Option Held). one (dropped o)) (e s p)))

-- those of the mates of s
pub ousted_is : (t : Tables) (s : ℕ) (hs : List Handle) (gone : List Bool) → ((a p : ℕ) → hands hs a p ≡ t.hand a p)
    → ((a : ℕ) → a < 32 → get_or gone a false ≡ mates t s (subject a))
    → length (each 32 (λ a. cond (get_or gone a false) (each 16 (λ p. one (hands hs a p))) [])) ≡ ousted t s
ousted_is t s hs gone h m = ap length (each_as 32 _ _ (λ a l. ap₂ (λ (b : Bool) (g : ℕ → Option Held). cond b (each 16 (λ p. one (g p))) []) (m a l) (fun_ext (h a))))

-- a subject out of range has no mates
pub none_ousted : (t : Tables) → Wf t → (s : ℕ) → 32 ≤ s → 0 ≡ ousted t s
none_ousted t w s h = sym (each_none 32 (λ a. cond (mates t s (subject a)) (handles_of t a) []) (λ a. go a (mates t s (subject a)) refl))
  where
    go : (a : ℕ) (b : Bool) → mates t s (subject a) ≡ b → length (cond b (handles_of t a) []) ≡ 0
    go a false e = refl
    go a true e = let (n, k) = both_of (not (eqb s a)) (t.kin s a) (subst T (sym e) tt) in
        absurd (omega (arith, ltb→lt s 32 (live_of t (subject s) (w.teams.only s a k n)).0))

-- by which numbers objects go is of no matter to them
pub ousted_same : (t u : Tables) (s : ℕ) → t.kin ≡ u.kin → ((a : ℕ) → held t a ≡ held u a) → ousted t s ≡ ousted u s
ousted_same t u s k h = each_long 32 (λ a. cond (mates t s (subject a)) (handles_of t a) []) (λ a. cond (mates u s (subject a)) (handles_of u a) [])
    (λ a. ap (λ (f : ℕ → ℕ → Bool). length (cond (not (eqb s a) && f s a) (handles_of t a) [])) k ∙ go a (mates u s (subject a)))
  where
    go : (a : ℕ) (b : Bool) → length (cond b (handles_of t a) []) ≡ length (cond b (handles_of u a) [])
    go a true = h a
    go a false = refl

-- ── the tally after a call ──
false_true : false ≡ true → ⊥
false_true e = subst T (sym e) tt

pub not_refused : (x : Answer) (n : ℕ) → x ≡ refused n → refuses x ≡ false → ⊥
not_refused x n e q = false_true (sym q ∙ ap refuses e)

pub tally_same : (x : Answer) (t : Tables) (c : Call) (y : Counts) → x ≡ answer t c → refuses x ≡ true → y ≡ tallied t c y
unfolding tallied
tally_same (allowed l) t c y e q = absurd (false_true q)
tally_same (lowered l k) t c y e q = absurd (false_true q)
tally_same (refused n) t c y e q = rw ((answered_refused t c n).0 (sym e), tallied)

pub tally_moved : (x : Answer) (t : Tables) (c : Call) (y : Counts) (m g : ℕ) → x ≡ answer t c → refuses x ≡ false → m ≡ wrapped (y.made + makes t c)
    → g ≡ wrapped (y.gone + removes t c) → ◌≡◌ {A = Counts} (record { made = m; gone = g }) (tallied t c y)
unfolding tallied
tally_moved x t c y m g e q em eg = go (refusal t c) refl
  where
    go : (o : Option ℕ) → refusal t c ≡ o → ◌≡◌ {A = Counts} (record { made = m; gone = g }) (elim o as (λ _. Counts) [
      | none ↦ record { made = wrapped (y.made + makes t c); gone = wrapped (y.gone + removes t c) }
      | some n ↦ y
    ])
    go none z = ap₂ (λ (u v : ℕ). record { made = u; gone = v }) em eg
    go (some n) z = absurd (false_true (sym q ∙ ap refuses (e ∙ (answered_refused t c n).1 z)))

-- the handles as they are read
pub hands_are : (rest : Tables) (ss : List Subject) (os : List Object) (hs kept : List Handle) → tables_of rest ss os kept ≡ clean (tables_of rest ss os hs)
    → (s p : ℕ) → hands kept s p ≡ (clean (tables_of rest ss os hs)).hand s p
unfolding tables_of
hands_are rest ss os hs kept e s p = ap (λ (u : Tables). u.hand s p) e
