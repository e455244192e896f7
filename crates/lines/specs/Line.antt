-- A typed line. States RULES L1 to L6, R18, R19 and R125. The laws are in Line/Laws: bytes have one reading at most, and a reading that is written out has that reading. Assumes
-- nothing.
use Rattle.std.specs.Prelude.{◌≡◌, Bool, ◌&&◌, cond, List, [], ◌∷◌, ◌++◌, ℕ, ◌≤◌, length, leb}
use Rattle.std.proofs.Math.Option.{Option, none, some}
use Rattle.text.specs.Decimal.{decimal}

-- one thing or several
pub data Several (A : Type 0) : Type 0 where
  one : A → Several A
  more : A → Several A → Several A

abbrev pub all : {A : Type 0} → Several A → List A
all (one x) = x ∷ []
all (more x l) = x ∷ all l

-- RULES L3: a program's object number, and those of `<` and `>` where the stage has them
pub record Stage : Type 0 where
  pub program : ℕ
  pub from : Option ℕ
  pub into : Option ℕ

-- RULES L2, L1
abbrev pub Pipeline : Type 0
Pipeline = Several Stage

abbrev pub Reading : Type 0
Reading = Several Pipeline

-- ── what stands in a line ──
pub data Token : Type 0 where
  number : ℕ → Token
  less greater bar semicolon : Token

-- RULES L3
abbrev pub given : Token → Option ℕ → List Token
given sign none = []
given sign (some n) = sign ∷ number n ∷ []

abbrev pub stage_tokens : Stage → List Token
stage_tokens s = number s.program ∷ (given less s.from ++ given greater s.into)

-- the tokens of several things, with a sign between each two
abbrev pub between : {A : Type 0} → Token → (A → List Token) → Several A → List Token
between sign f (one x) = f x
between sign f (more x l) = f x ++ sign ∷ between sign f l

-- RULES L2, L1
abbrev pub pipeline_tokens : Pipeline → List Token
pipeline_tokens p = between bar stage_tokens p

abbrev pub tokens : Reading → List Token
tokens l = between semicolon pipeline_tokens l

-- ── and how it is spelled ──
-- RULES L4
abbrev pub largest : ℕ
largest = 18446744073709551615

abbrev pub Fits : Token → Type 0
Fits (number n) = n ≤ largest
Fits less = Unit {0}
Fits greater = Unit {0}
Fits bar = Unit {0}
Fits semicolon = Unit {0}

abbrev pub spelled : Token → List ℕ
spelled (number n) = decimal n
spelled less = 60 ∷ []
spelled greater = 62 ∷ []
spelled bar = 124 ∷ []
spelled semicolon = 59 ∷ []

-- RULES L5: the bytes are the tokens, with spaces before and behind them. No two numbers are neighbours among the tokens of a line, so that nothing has to stand between two tokens
pub data Spaced : List Token → List ℕ → Type 0 where
  ends : Spaced [] []
  space : {ts : List Token} {bs : List ℕ} → Spaced ts bs → Spaced ts (32 ∷ bs)
  token : {ts : List Token} {bs : List ℕ} (t : Token) → Fits t → Spaced ts bs → Spaced (t ∷ ts) (spelled t ++ bs)

-- RULES L1 to L5, R18: the bytes are a line, and this is how it is read
abbrev pub Line : Reading → List ℕ → Type 0
Line l bs = Spaced (tokens l) bs

-- RULES L6: a reading, written out without spaces
abbrev pub spelled_out : List Token → List ℕ
spelled_out [] = []
spelled_out (t ∷ ts) = spelled t ++ spelled_out ts

-- RULES L4: each number fits
abbrev pub AllFit : List Token → Type 0
AllFit [] = Unit {0}
AllFit (t ∷ ts) = Fits t × AllFit ts

abbrev pub written : Reading → List ℕ
written l = spelled_out (tokens l)

-- RULES R19: no pipeline has more than eight stages
abbrev pub most_stages : ℕ
most_stages = 8

abbrev pub short : Reading → Bool
short (one p) = leb (length (all p)) most_stages
short (more p l) = leb (length (all p)) most_stages && short l

-- RULES R18, R19, R125: what is said of bytes before any call: 18 where they are no line, else 19 where it has a pipeline that is too long, else 0
pub data Judges (bs : List ℕ) (r : ℕ) : Type 0 where
  no_line : ((l : Reading) → Line l bs → ⊥) → r ≡ 18 → Judges bs r
  a_line : (l : Reading) → Line l bs → r ≡ cond (short l) 0 19 → Judges bs r
