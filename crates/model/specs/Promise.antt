-- What one call of a monitor promises towards the rules. States RULES T15, T16, T19, T23, F12 to F14, F20 and R102.
--
-- A monitor is a value of any type with a view of it as tables. What of it the view does not read is its *free part*: of the struct of arrays,
-- the label and the kept need of a subject that is not live, those and the number of a free slot, the slot and mark at an empty place, for the tables have none
-- there; which slot an object stands in, for the tables have it by its number; and which of the bytes that mean the same (RULES T29 to T31, T36) a record has. What
-- an allowed call leaves in the free part is not promised, nor what the empty monitor has there. The kept needs of live things are free likewise in a monitor that
-- is not right, and only there (RULES F13). On honest monitors no answer and no later tables go by any of it (`free_unseen` in Promise/Laws), and a refused call
-- leaves it as it was, on any. Assumes nothing.
use Rattle.std.specs.Prelude.{◌≡◌, List, [], ◌∷◌, ℕ}
use Rattle.std.proofs.Math.Option.{none}
use Rattle.model.specs.Tables.{Tables, clean}
use Rattle.model.specs.Calls.{Call, Raw, decode, refusal, effect, Answer, refused, answer}

-- RULES T23: monitors m and n differ in the free part alone
abbrev pub SameButFree : {M : Type 0} → (M → Tables) → M → M → Type 0
SameButFree view m n = view m ≡ view n

-- RULES F11, F12, F19: a kind of monitor, whose values are of type M
pub record Kind (M : Type 0) : Type 1 where
  -- its tables
  pub view : M → Tables
  -- what it claims of itself is so
  pub honest : M → Type 0
  -- nothing dangles in it, whatever it claims
  pub whole : M → Type 0
  -- of what it claims, that nothing dangles is so
  pub tidy : M → Type 0
  -- what it keeps beside the tables is right
  pub right : M → Type 0
  -- what it claims, as a number
  pub claim : M → ℕ

-- RULES T15: call c on monitor m, of kind k, is answered a, and monitor n is handed back
pub record Meets {M : Type 0} (k : Kind M) (m : M) (c : Call) (a : Answer) (n : M) : Type 0 where
  -- RULES R102: a refused call hands the same monitor back, whatever that is
  pub unchanged : (j : ℕ) → a ≡ refused j → n ≡ m
  -- RULES T16: the answer is the rules' on the tables as T17, T18 and T41 read them
  pub answered : k.honest m → a ≡ answer (clean (k.view m)) c
  -- any other hands back the rules' next tables; the free part is any
  pub moved : k.honest m → refusal (clean (k.view m)) c ≡ none → k.view n ≡ effect (clean (k.view m)) c
  -- RULES T19: and nothing dangles in what it hands back
  pub emptied : k.tidy m → ((j : ℕ) → a ≡ refused j → ⊥) → k.whole n
  -- RULES F20: what is honest stays so
  pub stays : k.honest m → k.honest n
  -- RULES F12, F20: what is tidy stays so, and claims what it claimed; and where what is kept is right, it still is, whether the call is refused or not
  pub neat : k.tidy m → k.tidy n
  pub says : k.tidy m → k.claim n ≡ k.claim m
  pub kept : k.tidy m → k.right m → k.right n

-- the calls of a list, made one after the other
pub data Runs {M : Type 0} (k : Kind M) : M → List Raw → List Answer → M → Type 0 where
  done : {m : M} → Runs k m [] [] m
  then : {m n o : M} {r : Raw} {rs : List Raw} {a : Answer} {l : List Answer} → Meets k m (decode r) a n → Runs k n rs l o → Runs k m (r ∷ rs) (a ∷ l) o
