-- What is read from left to right is a line, and every line is read so; bytes are read in one way at most. In order: pipelines; the line; one way.
-- What they stand on is in Numbers, Tokens and Stages. Assumes nothing.
use Rattle.std.specs.Prelude.{◌≡◌, refl, List, [], ◌∷◌, ◌++◌, ℕ}
use Rattle.std.proofs.Common.{sym, ◌∙◌, ap, ap₂, subst, append_assoc, append-nil}
use Rattle.std.proofs.Math.Option.{Option, none, some, some-injective}
use Rattle.lines.specs.Line.{one, more, Stage, Pipeline, Reading, Token, bar, semicolon, stage_tokens, pipeline_tokens, tokens, Spaced, Line}
use Rattle.lines.specs.Reading.{End, at_bar, at_semicolon, at_end, Staged, staged, Pipelined, closed, parted, joined, Lined, last, then}
use Rattle.lines.proofs.Reading.Numbers.{clash}
use Rattle.lines.proofs.Reading.Stages.{Behind, nothing, a_bar, a_semicolon, Stops, with_nothing, with_bar, with_semicolon, staged_spaced, spaced_staged}

-- ── pipelines ──
-- what stands behind a pipeline
data Follows : List Token → Option (List ℕ) → Type 0 where
  no_more : Follows [] none
  a_rest : {ts : List Token} {bs : List ℕ} → Spaced ts bs → Follows (semicolon ∷ ts) (some bs)

pipelined_spaced : {bs : List ℕ} {p : Pipeline} {e : Option (List ℕ)} {ts : List Token} → Pipelined bs p e → Follows ts e → Spaced (pipeline_tokens p ++ ts) bs
pipelined_spaced (closed {bs = bs} {s = s} q) no_more = staged_spaced bs s at_end [] q nothing
pipelined_spaced (parted {bs = bs} {rest = rest} {s = s} q) (a_rest {ts = ts} d) = staged_spaced bs s (at_semicolon rest) (semicolon ∷ ts) q (a_semicolon d)
pipelined_spaced {ts = ts} (joined {bs = bs} {rest = rest} {s = s} {p = p} q r) h =
    subst (λ (l : List Token). Spaced l bs) (sym (append_assoc (stage_tokens s) (bar ∷ pipeline_tokens p) ts))
    (staged_spaced bs s (at_bar rest) (bar ∷ (pipeline_tokens p ++ ts)) q (a_bar (pipelined_spaced r h)))

-- what may stand behind a pipeline
data Closes : List Token → Type 0 where
  by_nothing : Closes []
  by_semicolon : {ts : List Token} → Closes (semicolon ∷ ts)

spaced_pipelined : (p : Pipeline) (bs : List ℕ) {ts : List Token} → Closes ts → Spaced (pipeline_tokens p ++ ts) bs
    → (e : Option (List ℕ)) × Pipelined bs p e × Follows ts e
spaced_pipelined (one s) bs {ts} c d = let (e, q, h) = spaced_staged bs s ts (stops c) d in ending c q h
  where
    stops : {us : List Token} → Closes us → Stops us
    stops by_nothing = with_nothing
    stops by_semicolon = with_semicolon

    ending : {us : List Token} {e : End} → Closes us → staged bs ≡ some (record { stage = s; end = e }) → Behind us e
        → (r : Option (List ℕ)) × Pipelined bs (one s) r × Follows us r
    ending by_nothing q nothing = (none, closed q, no_more)
    ending by_semicolon q (a_semicolon {bs = rest} d) = (some rest, parted q, a_rest d)
spaced_pipelined (more s p) bs {ts} c d =
    let (e, q, h) = spaced_staged bs s (bar ∷ (pipeline_tokens p ++ ts)) with_bar
    (subst (λ (l : List Token). Spaced l bs) (append_assoc (stage_tokens s) (bar ∷ pipeline_tokens p) ts) d) in
    going (λ rest f. spaced_pipelined p rest c f) q h
  where
    going : {e : End} → ((rest : List ℕ) → Spaced (pipeline_tokens p ++ ts) rest → (r : Option (List ℕ)) × Pipelined rest p r × Follows ts r)
        → staged bs ≡ some (record { stage = s; end = e }) → Behind (bar ∷ (pipeline_tokens p ++ ts)) e
        → (r : Option (List ℕ)) × Pipelined bs (more s p) r × Follows ts r
    going on q (a_bar {bs = rest} f) = let (r, t, h) = on rest f in (r, joined q t, h)

-- ── the line ──
pub lined_line : (bs : List ℕ) (l : Reading) → Lined bs l → Line l bs
lined_line bs l (last {p = p} r) = subst (λ (ts : List Token). Spaced ts bs) (append-nil (pipeline_tokens p)) (pipelined_spaced r no_more)
lined_line bs l (then {rest = rest} {l = k} r d) = pipelined_spaced r (a_rest (lined_line rest k d))

pub line_lined : (bs : List ℕ) (l : Reading) → Line l bs → Lined bs l
line_lined bs (one p) d =
    let (e, r, h) = spaced_pipelined p bs by_nothing (subst (λ (ts : List Token). Spaced ts bs) (sym (append-nil (pipeline_tokens p))) d) in
    ending r h
  where
    ending : {e : Option (List ℕ)} → Pipelined bs p e → Follows [] e → Lined bs (one p)
    ending r no_more = last r
line_lined bs (more p l) d = let (e, r, h) = spaced_pipelined p bs by_semicolon d in going (λ rest f. line_lined rest l f) r h
  where
    going : {e : Option (List ℕ)} → ((rest : List ℕ) → Line l rest → Lined rest l) → Pipelined bs p e → Follows (semicolon ∷ tokens l) e → Lined bs (more p l)
    going on r (a_rest {bs = rest} f) = then r (on rest f)

-- ── one way ──
staged_one : {o : Option Staged} {s t : Stage} {e f : End} → o ≡ some (record { stage = s; end = e })
    → o ≡ some (record { stage = t; end = f }) → (s ≡ t) × (e ≡ f)
staged_one {s = s} {t = t} {e = e} {f = f} q r =
    let same = some-injective (record { stage = s; end = e }) (record { stage = t; end = f }) (sym q ∙ r) in
    (ap (λ (x : Staged). x.stage) same, ap (λ (x : Staged). x.end) same)

pub pipelined_one : {bs : List ℕ} {p q : Pipeline} {e f : Option (List ℕ)} → Pipelined bs p e → Pipelined bs q f → (p ≡ q) × (e ≡ f)
pipelined_one (closed q) (closed r) = (ap one (staged_one q r).0, refl)
pipelined_one (closed q) (parted r) = let h = (staged_one q r).1 in clash (cc)
pipelined_one (closed q) (joined r d) = let h = (staged_one q r).1 in clash (cc)
pipelined_one (parted q) (closed r) = let h = (staged_one q r).1 in clash (cc)
pipelined_one (parted {rest = l} q) (parted {rest = m} r) =
    let (s, h) = staged_one q r in
    let same : l ≡ m = cc in
    (ap one s, ap some same)
pipelined_one (parted q) (joined r d) = let h = (staged_one q r).1 in clash (cc)
pipelined_one (joined q c) (closed r) = let h = (staged_one q r).1 in clash (cc)
pipelined_one (joined q c) (parted r) = let h = (staged_one q r).1 in clash (cc)
pipelined_one (joined {rest = l} q c) (joined {rest = m} {p = p} {e = e} r d) =
    let (s, h) = staged_one q r in
    let same : m ≡ l = cc in
    let (t, g) = pipelined_one c (subst (λ (x : List ℕ). Pipelined x p e) same d) in
    (ap₂ more s t, g)

pub lined_one : {bs : List ℕ} {l k : Reading} → Lined bs l → Lined bs k → l ≡ k
lined_one (last q) (last r) = ap one (pipelined_one q r).0
lined_one (last q) (then r d) = let h = (pipelined_one q r).1 in clash (cc)
lined_one (then q c) (last r) = let h = (pipelined_one q r).1 in clash (cc)
lined_one (then {rest = x} q c) (then {rest = y} {l = l} r d) =
    let (p, h) = pipelined_one q r in
    let same : y ≡ x = cc in
    ap₂ more p (lined_one c (subst (λ (z : List ℕ). Lined z l) same d))
