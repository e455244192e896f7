-- A monitor and its tally as the struct that a host lends: what a call leaves there and returns, what the empty state is, and a list of calls. States RULES H12, H23,
-- H25, H29, L14, L16, R18, R19, R125, T12, T15, F12, F19 to F21, Y8, Y9, R102, R103 and B24 of it.
--
-- Every value of the struct is a state, and there is no length that could be another: nothing is asked of what is lent but that it is honest, and of any other a refused call
-- still leaves every field (RULES R102, R103). Assumes nothing.
use Rattle.std.specs.Prelude.{◌≡◌, true, List, [], ◌∷◌, ◌++◌, ℕ}
use Rattle.model.specs.Tables.{Tables, empty, clean}
use Rattle.model.specs.Calls.{Raw, decode, Answer}
use Rattle.model.specs.Promise.{Kind, Meets}
use Rattle.model.specs.Tally.{zeroed, tallied}
use Rattle.gatekeeper.specs.View.{view, Honest, Whole, Tidy, Right, Assured}
use Rattle.tally.specs.Counting.{counts_of}
use Rattle.typed.specs.declared.Outcome.{Outcome}
use Rattle.lines.specs.Line.{Reading, Line, short}
use Rattle.lines.specs.Calls.{calls_of}
use Rattle.typed.specs.Typed.{Stays, Typed}
use Rattle.quick.specs.Parts.{Done}
use Rattle.host.specs.declared.lent.State.{State}
use Rattle.host.specs.Numbers.{answer_number, answer_in}
pub mod Laws

-- the tables of a state; that what it says of itself is so; that its kept needs are right
abbrev pub lent_view : State → Tables
lent_view x = view x.monitor

abbrev pub lent_honest : State → Type 0
lent_honest x = Honest x.monitor

abbrev pub lent_right : State → Type 0
lent_right x = Right x.monitor

-- RULES F20: the struct as a kind of monitor
abbrev pub lent_kind : Kind State
lent_kind = record { view = lent_view; honest = lent_honest; whole = λ x. Whole x.monitor; tidy = λ x. Tidy x.monitor; right = lent_right; claim = λ x. x.monitor.sure }

-- `gatekeeper_monitor_call` of the call r on the state x returned n, and left the state y
pub record Lends (x : State) (r : Raw) (n : ℕ) (y : State) : Type 0 where
  -- RULES H12: n is the number of the answer that the header's three functions read off it
  pub number : n ≡ answer_number (answer_in n)
  -- RULES T15, F12, F20, R102, R103: and that answer and the state left are what the rules promise of a call
  pub meets : Meets lent_kind x (decode r) (answer_in n) y
  -- RULES Y9: the tally left is the history's
  pub counts : lent_honest x → counts_of y.tally ≡ tallied (clean (lent_view x)) (decode r) (counts_of x.tally)

-- RULES H29, L14, R18, R19, R125: `gatekeeper_monitor_line` of the bytes bs on the state x, with the numbers of the shell, of the first child and of the first pipe, returned out, and left
-- the state y
abbrev pub LendsLine : State → List ℕ → ℕ → ℕ → ℕ → Outcome → State → Type 0
LendsLine x bs shell child pipe out y = Typed x.monitor x.tally bs shell child pipe out y.monitor y.tally

-- RULES T12, F12, F19, Y8: `gatekeeper_monitor_empty` leaves empty tables, kept needs that are right, counts of 0, and a monitor that says that it is sure, as it is
pub record Begins (x : State) : Type 0 where
  pub tables : lent_view x ≡ empty
  pub honest : lent_honest x
  pub sure : x.monitor.sure ≡ 1
  pub right : lent_right x
  pub counts : counts_of x.tally ≡ zeroed

-- RULES F21, H25: `gatekeeper_monitor_assure` of the state x returned n, and left the state y: what dangled is gone, the kept needs are right, and it says that it is sure, as
-- n does, exactly where it has earned that. The tally stays
pub record Assures (x : State) (n : ℕ) (y : State) : Type 0 where
  pub assured : Assured x.monitor y.monitor
  pub tally : y.tally ≡ x.tally
  pub number : n ≡ y.monitor.sure

-- RULES B24: a list of calls, each on the state that the one before left, by `gatekeeper_monitor_call`, done in place or as those of a typed line, with their answers (RULES L16)
pub data Lendings : State → List Raw → List Answer → State → Type 0 where
  done : {x : State} → Lendings x [] [] x
  called : {x y z : State} {r : Raw} {rs : List Raw} {n : ℕ} {l : List Answer} → Lends x r n y → Lendings y rs l z → Lendings x (r ∷ rs) (answer_in n ∷ l) z
  lined : {x y z : State} {bs : List ℕ} {shell child pipe : ℕ} {out : Outcome} {rs : List Raw} {l : List Answer} (t : LendsLine x bs shell child pipe out y) (k : Reading) (e : Line k bs)
      (s : short k ≡ true) → Lendings y rs l z → Lendings x (calls_of shell child pipe k ++ rs) ((t.ran k e s).answers ++ l) z
  unlined : {x y z : State} {rs : List Raw} {l : List Answer} {out : Outcome} {k : ℕ} → Stays x.monitor x.tally k out y.monitor y.tally → Lendings y rs l z → Lendings x rs l z
  quickly : {x y z : State} {r : Raw} {rs : List Raw} {n : ℕ} {l : List Answer} → Done x.monitor x.tally r n y.monitor y.tally → Lendings y rs l z
      → Lendings x (r ∷ rs) (answer_in n ∷ l) z
