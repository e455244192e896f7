-- The book: the rules' term for what demand 3 is measured by. (A reference model of the tables with contents.) States RULES B1 to B21, B29 and B30, and
-- of B28 which outside contents differ only where they are brought in under a label that is not at least a given one.
--
-- What is kept; the handling of data; what each step does to contents; the book run over a list of calls; where contents are
-- brought in. The book is fed the calls, the outside contents and the handling, and nothing else. Assumes nothing.
use Rattle.std.specs.Prelude.{◌≡◌, cond, List, [], ◌∷◌, ℕ, suc}
use Rattle.std.proofs.Math.Option.{Option, none, some}
use Rattle.model.specs.Label.{Label, ◌⊑◌}
use Rattle.model.specs.Flow.{Thing, same}
use Rattle.model.specs.Tables.{Tables, empty, whole}
use Rattle.model.specs.Steps.{Origin, outside, blank, copied, Access, Step, enter, leave, hold, holds, mix, quits, binds, freezes, apply}
use Rattle.model.specs.Calls.{Call, Raw, decode, steps, refusal, effect, next, Answer, answer}

-- RULES B4: a whole number for each live thing; what stands at other things is never looked at
abbrev pub Contents : Type 0
Contents = Thing → ℕ

-- RULES B2, B3, B4, B5: the live things, the handles and the freeze are in the tables; nothing is kept that can be worked out
pub record Book : Type 0 where
  pub tables : Tables
  pub content : Contents

-- RULES B6
abbrev pub blank_book : Book
blank_book = record { tables = empty; content = λ x. 0 }

-- RULES B19: any one function, of the position in the list, refused calls counted; whether it reads, writes or runs; the receiver and the
-- source; the receiver's content and the source's
abbrev pub Handling : Type 0
Handling = ℕ → Access → Thing → Thing → ℕ → ℕ → ℕ

-- RULES B1: the outside contents, by position in the list
abbrev pub Outside : Type 0
Outside = ℕ → ℕ

abbrev pub store : Contents → Thing → ℕ → Contents
store c x v y = cond (same x y) v (c y)

-- RULES B30: what x takes in, and who takes in what x does, each from its own content
abbrev pub pour : Tables → Contents → Thing → (ℕ → ℕ) → Contents
pour t c x f y = cond (whole t x y) (f (c y)) (c y)

-- RULES B11, B12, B16: a new thing's content, by where it comes from
abbrev pub born : Origin → ℕ → Contents → ℕ
born outside o c = o
born blank o c = 0
born (copied y) o c = c y

-- RULES B13, B14, B15, B29: where data moves, the receiver's content is worked out from its own and the source's; RULES B17, B18: the source
-- keeps its own, and no other step changes a content
abbrev pub carry : Handling → ℕ → ℕ → Tables → Step → Contents → Contents
carry h i o t (enter x e g) c = store c x (born g o c)
carry h i o t (leave x) c = c
carry h i o t (hold s p v) c = c
carry h i o t (holds s r) c = c
carry h i o t (mix m a b y x) c = pour t c y (λ v. h i m a b v (c x))
carry h i o t (quits g) c = c
carry h i o t (binds a s) c = c
carry h i o t (freezes n) c = c

abbrev pub carries : Handling → ℕ → ℕ → Tables → List Step → Contents → Contents
carries h i o t [] c = c
carries h i o t (k ∷ ks) c = carries h i o (apply k t) ks (carry h i o t k c)

-- RULES B7, B8, B9, B10: refused by the book's own tables, a call changes nothing; any other has its effect on them. It stands at
-- position i.
abbrev pub turn : Handling → Outside → ℕ → Book → Call → Book
turn h out i b c = elim (refusal b.tables c) [
  | none ↦ record { tables = effect b.tables c; content = carries h i (out i) b.tables (steps b.tables c) b.content }
  | some n ↦ b
]

-- RULES B1, B20: the book after a list, and its answers; positions count from i on, refused calls too
abbrev pub book_from : Handling → Outside → ℕ → Book → List Raw → Book
book_from h out i b [] = b
book_from h out i b (r ∷ rs) = book_from h out (suc i) (turn h out i b (decode r)) rs

abbrev pub answers_from : Handling → Outside → ℕ → Book → List Raw → List Answer
answers_from h out i b [] = []
answers_from h out i b (r ∷ rs) = answer b.tables (decode r) ∷ answers_from h out (suc i) (turn h out i b (decode r)) rs

abbrev pub book : Handling → Outside → List Raw → Book
book h out rs = book_from h out 0 blank_book rs

abbrev pub book_answers : Handling → Outside → List Raw → List Answer
book_answers h out rs = answers_from h out 0 blank_book rs

-- ── where contents are brought in ──
-- RULES B11: the label at which the steps bring a content in from outside
abbrev pub brought_by : List Step → Option Label
brought_by [] = none
brought_by (enter x e outside ∷ ks) = some e.label
brought_by (enter x e blank ∷ ks) = brought_by ks
brought_by (enter x e (copied y) ∷ ks) = brought_by ks
brought_by (leave x ∷ ks) = brought_by ks
brought_by (hold s p v ∷ ks) = brought_by ks
brought_by (holds s r ∷ ks) = brought_by ks
brought_by (mix m a b y x ∷ ks) = brought_by ks
brought_by (quits g ∷ ks) = brought_by ks
brought_by (binds c s ∷ ks) = brought_by ks
brought_by (freezes n ∷ ks) = brought_by ks

-- RULES B21: a refused call brings nothing in
abbrev pub brought : Tables → Call → Option Label
brought t c = elim (refusal t c) [ none ↦ brought_by (steps t c) | some n ↦ none ]

-- RULES B28: outside contents that are equal at each position whose call brings one in at ℓ or above. (The tables do not depend on
-- contents: `Book.Laws`, `book_tables`.)
abbrev pub AlikeFrom : Label → Outside → Outside → ℕ → Tables → List Raw → Type 0
AlikeFrom ℓ p q i t [] = Unit {0}
AlikeFrom ℓ p q i t (r ∷ rs) = ((l : Label) → brought t (decode r) ≡ some l → ℓ ⊑ l → p i ≡ q i) × AlikeFrom ℓ p q (suc i) (next t (decode r)) rs

abbrev pub Alike : Label → Outside → Outside → List Raw → Type 0
Alike ℓ p q rs = AlikeFrom ℓ p q 0 empty rs
