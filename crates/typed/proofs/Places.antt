-- The stages of a pipeline that are left to be read, and what is opened for one. Assumes nothing.
use Rattle.std.proofs.Common.{◌≡◌, ℕ, ◌+◌, ◌<◌, List, [], ◌∷◌, ◌++◌, length, get_or, sym, refl, ap, ◌∙◌, subst, append_assoc, arith, rules, length-append, IsSome, IsSomeAnd, MatchOption, Some, None}
use mathlib.Core.Option.{Option, some, none-ne-some, some-injective}
use Rattle.lines.specs.Line.{all, Pipeline, Stage}
use Rattle.lines.specs.Reading.{End, at_bar, at_semicolon, at_end, behind, Staged, staged, Pipelined, closed, parted, joined}
use Rattle.lines.specs.Calls.{no_stage, open_call}
use Rattle.model.specs.Calls.{Raw}
use Rattle.typed.specs.declared.LineCall.{LineCall}
use Rattle.lines.specs.Told.{optional, staged_of}
use Rattle.lines.specs.declared.Stage.{Stage as Read}
use Rattle.lines.specs.declared.End.{End as Ended}
use Rattle.lines.proofs.Reading.Laws.{pipelined_one}
use Rattle.std.specs.Prelude.{Option as Maybe}
use Rattle.typed.specs.Working.{raw_of, raws_of, Left, some_left, none_left}

at_seam : (l k : List Stage) (s : Stage) → get_or (l ++ s ∷ k) (length l) no_stage ≡ s
at_seam [] k s = refl
at_seam (x ∷ l) k s = at_seam l k s

pub left_all : (p : Pipeline) (e : Option (List ℕ)) (bs : List ℕ) → Pipelined bs p e → Left p e 0 bs
left_all p e bs w = some_left [] p refl refl w

abbrev ended : Stage → End → Option Staged
ended s f = some (record { stage = s; end = f })

module _ (p : Pipeline) (e : Option (List ℕ)) (i : ℕ) (bs : List ℕ) where
  -- the stage is the next one, where it is the first of what is left
  is_next : (l k : List Stage) (s : Stage) → all p ≡ l ++ s ∷ k → length l ≡ i → s ≡ get_or (all p) i no_stage
  is_next l k s a n = sym (at_seam l k s) ∙ ap (λ (m : ℕ). get_or (l ++ s ∷ k) m no_stage) n ∙ ap (λ (m : List Stage). get_or m i no_stage) (sym a)

  -- a stage is next
  pub data Next : Type 0 where
    last_one : (s : Stage) (f : End) → staged bs ≡ ended s f → s ≡ get_or (all p) i no_stage → i + 1 ≡ length (all p) → Next
    one_more : (s : Stage) (l : List ℕ) → staged bs ≡ ended s (at_bar l) → s ≡ get_or (all p) i no_stage → Left p e (i + 1) l → Next

  last_next : (l : List Stage) (s : Stage) (f : End) → all p ≡ l ++ s ∷ [] → length l ≡ i → staged bs ≡ ended s f → Next
  last_next l s f a n v = last_one s f v (is_next l [] s a n) (sym (ap length a ∙ length-append l (s ∷ []) ∙ ap (λ (m : ℕ). m + 1) n))

  next_of : Left p e i bs → i < length (all p) → Next
  next_of (none_left z) h = absurd (omega (arith, z, h))
  next_of (some_left l q a n w) h = go q e refl a w
    where
      go : (q : Pipeline) (f : Option (List ℕ)) → e ≡ f → all p ≡ l ++ all q → Pipelined bs q f → Next
      go q f z a (closed {s = s} v) = last_next l s at_end a n v
      go q f z a (parted {rest = b} {s = s} v) = last_next l s (at_semicolon b) a n v
      go q f z a (joined {rest = b} {s = s} {p = k} v u) =
          one_more s b v (is_next l (all k) s a n)
          (some_left (l ++ s ∷ []) k (a ∙ sym (append_assoc l (s ∷ []) (all k))) (length-append l (s ∷ []) ∙ ap (λ (m : ℕ). m + 1) n)
          (subst (λ (g : Option (List ℕ)). Pipelined b k g) (sym z) u))

  -- so that one is read
  pub next_read : Left p e i bs → i < length (all p) → (x : Staged) × (staged bs ≡ some x)
  next_read k h = go (next_of k h)
    where
      go : Next → (x : Staged) × (staged bs ≡ some x)
      go (last_one s f v a n) = (_, v)
      go (one_more s l v a n) = (_, v)

  -- and what was read is the next one, with the rest behind its bar
  module _ (s : Stage) (f : End) (v : staged bs ≡ ended s f) where
    pub next_is : Left p e i bs → i < length (all p) → s ≡ get_or (all p) i no_stage
    next_is k h = go (next_of k h)
      where
        go : Next → s ≡ get_or (all p) i no_stage
        go (last_one t g w a n) = ap (λ (x : Staged). x.stage) (some-injective _ _ (sym v ∙ w)) ∙ a
        go (one_more t l w a n) = ap (λ (x : Staged). x.stage) (some-injective _ _ (sym v ∙ w)) ∙ a

    pub left_next : Left p e i bs → i < length (all p) → Left p e (i + 1) (behind f)
    left_next k h = go (next_of k h)
      where
        go : Next → Left p e (i + 1) (behind f)
        go (last_one t g w a n) = none_left n
        go (one_more t l w a n) = subst (λ (m : List ℕ). Left p e (i + 1) m) (ap (λ (x : Staged). behind x.end) (some-injective _ _ (sym w ∙ v))) n

-- the reader's answer, where one is read
pub is_read : (o : Maybe (Read × Ended)) (x : Staged) → staged_of o ≡ some x → IsSome o
is_read None x e = absurd (none-ne-some _ e)
is_read (Some r) x e = search rules

pub same_many : (bs : List ℕ) (p q : Pipeline) (e f : Option (List ℕ)) → Pipelined bs p e → Pipelined bs q f → length (all p) ≡ length (all q)
same_many bs p q e f w v = ap (λ (r : Pipeline). length (all r)) (pipelined_one w v).0

-- what stands behind a sign, opened by a call
pub opens_by : (o : Maybe ℕ) (m : Maybe LineCall) {P : ℕ → LineCall → Type 0} → MatchOption o (m ≡ None) (λ x. IsSomeAnd m (P x)) → (code child place : ℕ)
    → ((x : ℕ) (r : LineCall) → P x r → raw_of r ≡ record { code = code; numbers = child ∷ x ∷ place ∷ [] }) → raws_of m ≡ open_call code child place (optional o)
opens_by None m e code child place h = ap raws_of e
opens_by (Some x) None e code child place h = absurd e
opens_by (Some x) (Some r) e code child place h = ap (λ (q : Raw). q ∷ []) (h x r e)
