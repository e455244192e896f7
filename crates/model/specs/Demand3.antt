-- Demand 3, as one claim about a list of direct calls. States RULES B22 and B24 to B28.
--
-- The claim is a record over the list, the answers that a monitor gave and the tables that it ended with. Each field is a
-- sentence of the rules and speaks of the book. `Demand3.Laws` proves it for any monitor whose single calls keep their promise.
-- Assumes nothing.
use Rattle.std.specs.Prelude.{◌≡◌, List, ◌∷◌, ◌++◌, ℕ, length}
use Rattle.std.proofs.Math.Option.{some}
use Rattle.std.proofs.Math.ListN.{get_elem?}
use Rattle.model.specs.Label.{Label, ◌⊑◌}
use Rattle.model.specs.Flow.{Thing}
use Rattle.model.specs.Tables.{Dir, Entry, Handle, Tables}
use Rattle.model.specs.Calls.{Raw, decode, access, Answer, refused}
use Rattle.model.specs.Book.{Book, Handling, Outside, book, book_answers, Alike}

-- RULES B10, B27: the call is a read or a write whose caller has, in the book, a handle for that direction at that place
pub record Held (b : Book) (r : Raw) : Type 0 where
  pub dir : Dir
  pub caller : ℕ
  pub place : ℕ
  pub handle : Handle
  pub is_access : decode r ≡ access dir caller place
  pub at_place : b.tables.hand caller place ≡ some handle
  pub that_direction : handle.dir ≡ dir

-- RULES B22, B24: one claim about a whole list, of any codes and numbers
pub record Demand3 (calls : List Raw) (answers : List Answer) (end : Tables) : Type 0 where
  -- RULES B25: the answers are the book's, for all contents and every handling
  pub answers_are_the_book's : (h : Handling) (out : Outside) → answers ≡ book_answers h out calls
  -- RULES B26: the tables at the end are the book's
  pub end_is_the_book's : (h : Handling) (out : Outside) → end ≡ (book h out calls).tables
  -- RULES B27: a read or write for which the book has the handle just before it is not refused
  pub none_cut_off : (h : Handling) (out : Outside) (before : List Raw) (r : Raw) (rest : List Raw) → calls ≡ before ++ r ∷ rest
      → Held (book h out before) r → (n : ℕ) → get_elem? answers (length before) ≡ some (refused n) → ⊥
  -- RULES B28: where the outside contents are alike from ℓ on, the two books agree on each live thing that is at ℓ or above at the end
  pub contents_unmoved : (ℓ : Label) (h : Handling) (p q : Outside) → Alike ℓ p q calls
      → (x : Thing) (e : Entry) → (book h p calls).tables.at x ≡ some e → ℓ ⊑ e.label → (book h p calls).content x ≡ (book h q calls).content x
