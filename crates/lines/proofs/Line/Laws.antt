-- Laws of lines. States RULES L6: bytes have one reading at most, and a reading whose numbers fit, written out without spaces, is a line that has that reading. Assumes
-- nothing.
use Rattle.std.specs.Prelude.{◌≡◌, List, [], ◌∷◌, ℕ}
use Rattle.lines.specs.Line.{Reading, Token, tokens, Spaced, ends, space, token, Line, spelled_out, AllFit, written}
use Rattle.lines.proofs.Reading.Laws.{line_lined, lined_one}

pub one_reading : (bs : List ℕ) (l k : Reading) → Line l bs → Line k bs → l ≡ k
one_reading bs l k d e = lined_one (line_lined bs l d) (line_lined bs k e)

spelled_spaced : (ts : List Token) → AllFit ts → Spaced ts (spelled_out ts)
spelled_spaced [] f = ends
spelled_spaced (t ∷ ts) f = token t f.0 (spelled_spaced ts f.1)

-- the numbers of a line fit
pub all_fit : {ts : List Token} {bs : List ℕ} → Spaced ts bs → AllFit ts
all_fit ends = tt
all_fit (space d) = all_fit d
all_fit (token t f d) = (f, all_fit d)

pub written_line : (l : Reading) → AllFit (tokens l) → Line l (written l)
written_line l f = spelled_spaced (tokens l) f

pub written_again : (l k : Reading) (bs : List ℕ) → Line l bs → Line k (written l) → k ≡ l
written_again l k bs d e = one_reading (written l) k l e (written_line l (all_fit d))
