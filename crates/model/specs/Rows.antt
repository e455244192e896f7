-- Every row of RULES C1 to C18, and of R1 to R10 and R15 to R17, tried once: lists of calls from empty tables with the answer to each, and
-- the contents and the tally after a few short lists. Not cases of the rules' own: they pin the definitions down where no law does, so that
-- a slip in a row does not go unseen. Assumes nothing.
use Rattle.std.specs.Prelude.{◌≡◌, refl, Bool, true, ◌&&◌, cond, List, [], ◌∷◌, ◌++◌, ℕ, zero, suc, ◌+◌, ◌*◌, ltb, eqb}
use Rattle.std.proofs.Math.Option.{Option, none, some}
use Rattle.model.specs.Lists.{each}
use Rattle.model.specs.Label.{Label, label, level, in_scale, leq, meet, join, bot, marks_lost}
use Rattle.std.specs.Int.Count.{ones, ones_in}
use Rattle.model.specs.Flow.{Thing, subject, object, need}
use Rattle.model.specs.Tables.{Kind, running, file, pipe, writing, Entry, entry, Handle, handle, mapping, Tables, no_freeze, label_of, empty, used, cell, whole, speaks, things, handles, edges, safe}
use Rattle.model.specs.Steps.{Access, reads, writes, runs, mix, ended}
use Rattle.model.specs.Calls.{access, Raw, decode, rereads, sheds, effect, refusal, next, Answer, allowed, lowered, lowers, answer, after}
use Rattle.model.specs.Tally.{tally, tallied, zeroed}
use Rattle.model.specs.Book.{Handling, Outside, book}
use Rattle.model.specs.Cases.{call, A, L, R, equal}

pub record Line : Type 0 where
  pub given : Raw
  pub answered : Answer

abbrev pub line : ℕ → List ℕ → Answer → Line
line c ns a = record { given = call c ns; answered = a }

abbrev M : ℕ → ℕ → Answer
M n k = lowered n k

-- ── answers ──
-- Five lists, four of them from empty tables: what a list costs to compute grows faster than its length.

-- the thirteen calls of the base
unfoldable pub base_lines : List Line
base_lines =
    line 0 [] (R 1) ∷ line 19 [] (R 1)
    ∷ line 1 (31 ∷ 15 ∷ 255 ∷ []) (A 15) ∷ line 1 (32 ∷ 0 ∷ 255 ∷ []) (R 3) ∷ line 1 (31 ∷ 16 ∷ 255 ∷ []) (R 3) ∷ line 1 (30 ∷ 16 ∷ 255 ∷ []) (R 6) ∷ line 1 (4 ∷ []) (A 0)
    ∷ line 2 (63 ∷ 15 ∷ 255 ∷ []) (A 15) ∷ line 2 (63 ∷ 1 ∷ 255 ∷ []) (R 3) ∷ line 2 (0 ∷ 16 ∷ 255 ∷ []) (R 6) ∷ line 2 (0 ∷ 2 ∷ 255 ∷ []) (A 2)
    ∷ line 1 (1 ∷ 7 ∷ 255 ∷ []) (A 7) ∷ line 3 (1 ∷ 6 ∷ []) (A 7) ∷ line 3 (32 ∷ 64 ∷ []) (R 2) ∷ line 3 (1 ∷ 6 ∷ []) (R 3)
    ∷ line 4 (1 ∷ 7 ∷ 0 ∷ 15 ∷ []) (A 7) ∷ line 4 (1 ∷ 8 ∷ 0 ∷ 1 ∷ []) (R 7) ∷ line 4 (1 ∷ 8 ∷ 1 ∷ 1 ∷ []) (R 7) ∷ line 4 (1 ∷ 8 ∷ 1 ∷ 16 ∷ []) (R 7)
    ∷ line 4 (1 ∷ 63 ∷ 16 ∷ 16 ∷ []) (R 3)
    ∷ line 5 (30 ∷ 62 ∷ 0 ∷ []) (R 2) ∷ line 5 (1 ∷ 62 ∷ 16 ∷ []) (R 4) ∷ line 6 (1 ∷ 63 ∷ 0 ∷ []) (R 7) ∷ line 6 (1 ∷ 63 ∷ 16 ∷ []) (R 7)
    ∷ line 6 (1 ∷ 63 ∷ 1 ∷ []) (R 9)
    ∷ line 7 (1 ∷ 1 ∷ []) (R 7) ∷ line 7 (1 ∷ 16 ∷ []) (R 7) ∷ line 7 (1 ∷ 15 ∷ []) (R 8) ∷ line 8 (1 ∷ 0 ∷ []) (R 8) ∷ line 7 (1 ∷ 0 ∷ []) (A 7)
    ∷ line 5 (1 ∷ 0 ∷ 2 ∷ []) (A 2) ∷ line 7 (1 ∷ 2 ∷ []) (L 2) ∷ line 8 (1 ∷ 15 ∷ []) (L 2) ∷ line 8 (1 ∷ 15 ∷ []) (A 2)
    ∷ line 1 (2 ∷ 9 ∷ 255 ∷ []) (A 9) ∷ line 6 (2 ∷ 6 ∷ 0 ∷ []) (A 7) ∷ line 8 (2 ∷ 0 ∷ []) (A 7) ∷ line 13 (6 ∷ []) (R 10) ∷ line 11 (2 ∷ 0 ∷ []) (A 9)
    ∷ line 11 (2 ∷ 0 ∷ []) (R 7)
    ∷ line 10 (2 ∷ 7 ∷ []) (R 5) ∷ line 10 (2 ∷ 64 ∷ []) (R 4) ∷ line 10 (2 ∷ 6 ∷ []) (L 7) ∷ line 10 (2 ∷ 63 ∷ []) (A 7)
    ∷ line 9 (2 ∷ 2 ∷ []) (R 3) ∷ line 9 (2 ∷ 32 ∷ []) (R 3) ∷ line 9 (1 ∷ 3 ∷ []) (A 2)
    ∷ line 13 (7 ∷ []) (R 5) ∷ line 12 (1 ∷ []) (A 2) ∷ line 12 (1 ∷ []) (R 2) ∷ line 8 (3 ∷ 15 ∷ []) (A 2) ∷ line 12 (3 ∷ []) (A 2)
    ∷ line 5 (2 ∷ 7 ∷ 0 ∷ []) (R 4) ∷ line 13 (6 ∷ []) (A 7) ∷ line 13 (6 ∷ []) (R 4)
    ∷ line 3 (31 ∷ 62 ∷ []) (A 15) ∷ line 13 (62 ∷ []) (A 15) ∷ line 9 (31 ∷ 30 ∷ []) (A 15) ∷ line 12 (31 ∷ []) (A 15)
    ∷ []

-- a freeze, and handles that are marked
unfoldable pub closed_lines : List Line
closed_lines =
    line 1 (30 ∷ 15 ∷ 255 ∷ []) (A 15) ∷ line 2 (0 ∷ 2 ∷ 255 ∷ []) (A 2)
    ∷ line 16 (17 ∷ []) (R 6) ∷ line 16 (16 ∷ []) (A 16) ∷ line 16 [] (A 0)
    ∷ line 3 (30 ∷ 20 ∷ []) (A 15) ∷ line 1 (5 ∷ 8 ∷ 255 ∷ []) (A 8) ∷ line 3 (5 ∷ 21 ∷ []) (A 8) ∷ line 2 (22 ∷ 7 ∷ 255 ∷ []) (A 7)
    ∷ line 4 (30 ∷ 23 ∷ 0 ∷ 1 ∷ []) (A 15)
    ∷ line 6 (5 ∷ 21 ∷ 0 ∷ []) (R 15) ∷ line 16 (9 ∷ []) (A 9) ∷ line 6 (5 ∷ 21 ∷ 0 ∷ []) (A 8) ∷ line 16 (8 ∷ []) (A 8) ∷ line 8 (5 ∷ 0 ∷ []) (A 8)
    ∷ line 6 (5 ∷ 21 ∷ 1 ∷ []) (R 15) ∷ line 6 (5 ∷ 20 ∷ 1 ∷ []) (R 15) ∷ line 6 (30 ∷ 20 ∷ 0 ∷ []) (R 7) ∷ line 6 (30 ∷ 20 ∷ 2 ∷ []) (R 15)
    ∷ line 6 (5 ∷ 22 ∷ 1 ∷ []) (A 7)
    ∷ line 6 (30 ∷ 23 ∷ 2 ∷ []) (A 15) ∷ line 5 (5 ∷ 20 ∷ 2 ∷ []) (A 15) ∷ line 16 (17 ∷ []) (R 6) ∷ line 9 (30 ∷ 6 ∷ []) (A 15)
    ∷ line 3 (30 ∷ 24 ∷ []) (A 15)
    ∷ line 10 (6 ∷ 20 ∷ []) (A 15) ∷ line 11 (6 ∷ 0 ∷ []) (A 15) ∷ line 12 (6 ∷ []) (A 15) ∷ line 13 (24 ∷ []) (A 15)
    ∷ line 6 (5 ∷ 21 ∷ 3 ∷ []) (R 15) ∷ line 16 (15 ∷ []) (A 15) ∷ line 6 (30 ∷ 20 ∷ 3 ∷ []) (R 15) ∷ line 16 (16 ∷ []) (A 16)
    ∷ line 6 (5 ∷ 21 ∷ 3 ∷ []) (A 8)
    ∷ line 15 (32 ∷ 0 ∷ []) (R 2) ∷ line 15 (5 ∷ 16 ∷ []) (R 7) ∷ line 15 (5 ∷ 4 ∷ []) (R 7) ∷ line 10 (5 ∷ 0 ∷ []) (R 9)
    ∷ line 15 (5 ∷ 0 ∷ []) (A 8) ∷ line 15 (5 ∷ 1 ∷ []) (A 8) ∷ line 10 (5 ∷ 0 ∷ []) (R 9) ∷ line 8 (5 ∷ 0 ∷ []) (A 8)
    ∷ line 15 (5 ∷ 3 ∷ []) (A 8) ∷ line 15 (5 ∷ 3 ∷ []) (A 8) ∷ line 9 (5 ∷ 6 ∷ []) (A 8) ∷ line 10 (5 ∷ 0 ∷ []) (L 2)
    ∷ line 8 (5 ∷ 0 ∷ []) (R 7) ∷ line 7 (5 ∷ 2 ∷ []) (A 2) ∷ line 8 (6 ∷ 0 ∷ []) (A 8) ∷ line 10 (6 ∷ 0 ∷ []) (L 2)
    ∷ line 15 (30 ∷ 0 ∷ []) (A 15) ∷ line 15 (30 ∷ 1 ∷ []) (A 15) ∷ line 15 (30 ∷ 2 ∷ []) (A 15) ∷ line 10 (30 ∷ 20 ∷ []) (A 15)
    ∷ line 5 (30 ∷ 23 ∷ 0 ∷ []) (R 4) ∷ line 6 (30 ∷ 20 ∷ 0 ∷ []) (A 15) ∷ line 10 (30 ∷ 0 ∷ []) (R 9)
    ∷ []

-- maps
unfoldable pub mapped_lines : List Line
mapped_lines =
    line 1 (30 ∷ 15 ∷ 255 ∷ []) (A 15) ∷ line 3 (30 ∷ 20 ∷ []) (A 15) ∷ line 2 (21 ∷ 8 ∷ 255 ∷ []) (A 8) ∷ line 2 (22 ∷ 7 ∷ 255 ∷ []) (A 7)
    ∷ line 6 (30 ∷ 20 ∷ 0 ∷ []) (A 15)
    ∷ line 16 [] (A 0) ∷ line 14 (32 ∷ 64 ∷ 16 ∷ []) (R 2) ∷ line 14 (30 ∷ 64 ∷ 16 ∷ []) (R 4) ∷ line 4 (30 ∷ 23 ∷ 1 ∷ 2 ∷ []) (A 15)
    ∷ line 14 (30 ∷ 23 ∷ 16 ∷ []) (R 5)
    ∷ line 14 (30 ∷ 21 ∷ 0 ∷ []) (R 7) ∷ line 14 (30 ∷ 21 ∷ 16 ∷ []) (R 7) ∷ line 14 (30 ∷ 21 ∷ 3 ∷ []) (R 9) ∷ line 11 (30 ∷ 0 ∷ []) (A 15)
    ∷ line 14 (30 ∷ 21 ∷ 3 ∷ []) (L 8) ∷ line 14 (30 ∷ 20 ∷ 4 ∷ []) (A 8) ∷ line 7 (30 ∷ 3 ∷ []) (A 8) ∷ line 8 (30 ∷ 3 ∷ []) (R 8)
    ∷ line 13 (20 ∷ []) (R 10)
    ∷ line 16 (16 ∷ []) (A 16) ∷ line 15 (30 ∷ 4 ∷ []) (A 8) ∷ line 9 (30 ∷ 7 ∷ []) (A 8) ∷ line 6 (7 ∷ 21 ∷ 5 ∷ []) (A 8) ∷ line 8 (7 ∷ 5 ∷ []) (A 8)
    ∷ line 11 (7 ∷ 4 ∷ []) (A 8) ∷ line 7 (7 ∷ 4 ∷ []) (R 7)
    ∷ line 10 (7 ∷ 22 ∷ []) (R 9) ∷ line 7 (7 ∷ 3 ∷ []) (A 8) ∷ line 10 (30 ∷ 22 ∷ []) (R 9) ∷ line 7 (30 ∷ 3 ∷ []) (A 8)
    ∷ line 11 (7 ∷ 5 ∷ []) (A 8) ∷ line 10 (7 ∷ 22 ∷ []) (L 7) ∷ line 7 (30 ∷ 3 ∷ []) (A 8) ∷ line 7 (7 ∷ 3 ∷ []) (R 7) ∷ line 7 (7 ∷ 1 ∷ []) (A 7)
    ∷ line 12 (7 ∷ []) (A 7)
    ∷ line 10 (30 ∷ 22 ∷ []) (L 7) ∷ line 7 (30 ∷ 3 ∷ []) (R 7) ∷ line 7 (30 ∷ 1 ∷ []) (A 7)
    ∷ []

-- channels
unfoldable pub channel_lines : List Line
channel_lines =
    line 2 (0 ∷ 2 ∷ 255 ∷ []) (A 2)
    ∷ line 1 (8 ∷ 6 ∷ 255 ∷ []) (A 6) ∷ line 1 (9 ∷ 3 ∷ 255 ∷ []) (A 3) ∷ line 2 (40 ∷ 3 ∷ 255 ∷ []) (A 3) ∷ line 2 (41 ∷ 6 ∷ 255 ∷ []) (A 6)
    ∷ line 17 (32 ∷ 32 ∷ 0 ∷ 0 ∷ 16 ∷ 16 ∷ []) (R 2) ∷ line 17 (8 ∷ 32 ∷ 0 ∷ 0 ∷ 16 ∷ 16 ∷ []) (R 2) ∷ line 17 (31 ∷ 8 ∷ 0 ∷ 0 ∷ 16 ∷ 16 ∷ []) (R 2)
    ∷ line 17 (8 ∷ 8 ∷ 0 ∷ 0 ∷ 16 ∷ 16 ∷ []) (R 16) ∷ line 17 (8 ∷ 9 ∷ 0 ∷ 42 ∷ 16 ∷ 16 ∷ []) (R 3) ∷ line 17 (8 ∷ 9 ∷ 42 ∷ 64 ∷ 16 ∷ 16 ∷ []) (R 7)
    ∷ line 17 (8 ∷ 9 ∷ 42 ∷ 42 ∷ 16 ∷ 16 ∷ []) (R 3) ∷ line 17 (8 ∷ 9 ∷ 42 ∷ 43 ∷ 16 ∷ 1 ∷ []) (R 7) ∷ line 17 (8 ∷ 9 ∷ 42 ∷ 43 ∷ 0 ∷ 16 ∷ []) (R 7)
    ∷ line 17 (8 ∷ 9 ∷ 42 ∷ 43 ∷ 0 ∷ 0 ∷ []) (R 7) ∷ line 6 (8 ∷ 41 ∷ 2 ∷ []) (A 6) ∷ line 5 (9 ∷ 41 ∷ 3 ∷ []) (A 6)
    ∷ line 17 (8 ∷ 9 ∷ 42 ∷ 43 ∷ 2 ∷ 1 ∷ []) (R 7)
    ∷ line 17 (8 ∷ 9 ∷ 42 ∷ 43 ∷ 1 ∷ 2 ∷ []) (R 7) ∷ line 17 (8 ∷ 9 ∷ 42 ∷ 43 ∷ 3 ∷ 1 ∷ []) (R 7) ∷ line 17 (8 ∷ 9 ∷ 42 ∷ 43 ∷ 1 ∷ 3 ∷ []) (R 7)
    ∷ line 17 (8 ∷ 9 ∷ 42 ∷ 43 ∷ 0 ∷ 1 ∷ []) (R 9) ∷ line 17 (9 ∷ 8 ∷ 42 ∷ 43 ∷ 0 ∷ 1 ∷ []) (R 9) ∷ line 5 (8 ∷ 42 ∷ 0 ∷ []) (R 4)
    ∷ line 11 (8 ∷ 2 ∷ []) (A 6)
    ∷ line 6 (9 ∷ 40 ∷ 2 ∷ []) (A 3) ∷ line 17 (8 ∷ 9 ∷ 42 ∷ 43 ∷ 0 ∷ 1 ∷ []) (A 6) ∷ line 8 (8 ∷ 0 ∷ []) (R 8) ∷ line 7 (9 ∷ 1 ∷ []) (R 8)
    ∷ line 8 (8 ∷ 1 ∷ []) (A 6) ∷ line 7 (9 ∷ 0 ∷ []) (A 3) ∷ line 3 (8 ∷ 43 ∷ []) (R 3) ∷ line 8 (9 ∷ 1 ∷ []) (A 3)
    ∷ line 7 (8 ∷ 0 ∷ []) (L 3) ∷ line 8 (8 ∷ 1 ∷ []) (L 3) ∷ line 10 (8 ∷ 40 ∷ []) (A 3) ∷ line 10 (9 ∷ 40 ∷ []) (A 3)
    ∷ line 7 (8 ∷ 0 ∷ []) (A 3) ∷ line 8 (8 ∷ 1 ∷ []) (A 3) ∷ line 7 (9 ∷ 0 ∷ []) (A 3) ∷ line 8 (9 ∷ 1 ∷ []) (A 3) ∷ line 11 (8 ∷ 0 ∷ []) (A 3)
    ∷ line 11 (9 ∷ 1 ∷ []) (A 3) ∷ line 13 (43 ∷ []) (R 4) ∷ line 13 (42 ∷ []) (R 5)
    ∷ []

-- 62 files of level 2, numbers 0 to 61, and two subjects of level 9: no calls made these tables, and the list from them is short
abbrev crowd : Tables
crowd = record {
  at = λ x. elim x as (λ _. Option Entry) [
    | subject n ↦ cond (ltb n 2) (some (entry running (label 9 255))) none
    | object n ↦ cond (ltb n 62) (some (entry file (label 2 255))) none
  ];
  hand = λ s p. none;
  freeze = no_freeze;
  numbers = each 62 (λ o. o ∷ []);
  kin = eqb;
}

-- numbers of 64 bits, and 64 live: a connect is one too many with 63, everything is with 64; an ended pipe and a retired file make space
unfoldable pub crowded_lines : List Line
crowded_lines =
    line 2 (18446744073709551615 ∷ 4 ∷ 255 ∷ []) (A 4) ∷ line 2 (18446744073709551615 ∷ 4 ∷ 255 ∷ []) (R 3)
    ∷ line 17 (0 ∷ 1 ∷ 62 ∷ 62 ∷ 0 ∷ 1 ∷ []) (R 3) ∷ line 17 (0 ∷ 1 ∷ 62 ∷ 63 ∷ 0 ∷ 0 ∷ []) (R 17) ∷ line 17 (0 ∷ 0 ∷ 62 ∷ 63 ∷ 0 ∷ 1 ∷ []) (R 16)
    ∷ line 4 (0 ∷ 4294967296 ∷ 0 ∷ 1 ∷ []) (A 9) ∷ line 2 (61 ∷ 4 ∷ 255 ∷ []) (R 3) ∷ line 2 (62 ∷ 16 ∷ 255 ∷ []) (R 17) ∷ line 3 (2 ∷ 62 ∷ []) (R 2) ∷ line 3 (0 ∷ 62 ∷ []) (R 17)
    ∷ line 4 (0 ∷ 62 ∷ 0 ∷ 0 ∷ []) (R 17) ∷ line 11 (0 ∷ 0 ∷ []) (A 9) ∷ line 3 (0 ∷ 62 ∷ []) (R 17) ∷ line 11 (0 ∷ 1 ∷ []) (A 9) ∷ line 3 (0 ∷ 62 ∷ []) (A 9)
    ∷ line 3 (0 ∷ 4294967296 ∷ []) (R 17) ∷ line 13 (5 ∷ []) (A 2) ∷ line 13 (18446744073709551615 ∷ []) (A 4) ∷ line 13 (18446744073709551615 ∷ []) (R 4)
    ∷ line 17 (0 ∷ 1 ∷ 18446744073709551615 ∷ 5 ∷ 0 ∷ 1 ∷ []) (A 9) ∷ line 5 (1 ∷ 18446744073709551615 ∷ 2 ∷ []) (A 9) ∷ line 2 (63 ∷ 4 ∷ 255 ∷ []) (R 17)
    ∷ []

-- threads: 0, 1 and 2 share a level; what 3 reads 4 may not write on, and an exec of either ends the other; a fork's child is by itself; who exits leaves the others
unfoldable pub thread_lines : List Line
thread_lines =
    line 18 (0 ∷ 1 ∷ []) (R 2) ∷ line 1 (0 ∷ 9 ∷ 255 ∷ []) (A 9) ∷ line 18 (32 ∷ 32 ∷ []) (R 2) ∷ line 18 (0 ∷ 32 ∷ []) (R 3) ∷ line 18 (0 ∷ 0 ∷ []) (R 3) ∷ line 18 (0 ∷ 1 ∷ []) (A 9)
    ∷ line 18 (0 ∷ 1 ∷ []) (R 3) ∷ line 18 (1 ∷ 2 ∷ []) (A 9) ∷ line 2 (10 ∷ 4 ∷ 255 ∷ []) (A 4) ∷ line 2 (11 ∷ 9 ∷ 255 ∷ []) (A 9) ∷ line 5 (1 ∷ 10 ∷ 0 ∷ []) (A 4)
    ∷ line 7 (2 ∷ 0 ∷ []) (R 7) ∷ line 7 (1 ∷ 0 ∷ []) (L 4) ∷ line 3 (0 ∷ 13 ∷ []) (A 4) ∷ line 18 (2 ∷ 31 ∷ []) (A 4) ∷ line 6 (31 ∷ 11 ∷ 0 ∷ []) (R 9)
    ∷ line 1 (3 ∷ 9 ∷ 255 ∷ []) (A 9) ∷ line 18 (3 ∷ 4 ∷ []) (A 9) ∷ line 5 (3 ∷ 10 ∷ 0 ∷ []) (A 4) ∷ line 6 (4 ∷ 11 ∷ 0 ∷ []) (R 9) ∷ line 11 (3 ∷ 0 ∷ []) (A 9) ∷ line 6 (4 ∷ 11 ∷ 0 ∷ []) (A 9)
    ∷ line 5 (3 ∷ 10 ∷ 0 ∷ []) (R 9) ∷ line 10 (4 ∷ 10 ∷ []) (R 9) ∷ line 15 (3 ∷ 0 ∷ []) (R 7) ∷ line 10 (3 ∷ 10 ∷ []) (L 4) ∷ line 11 (4 ∷ 0 ∷ []) (R 2) ∷ line 13 (11 ∷ []) (A 9)
    ∷ line 1 (5 ∷ 9 ∷ 255 ∷ []) (A 9) ∷ line 18 (5 ∷ 6 ∷ []) (A 9) ∷ line 9 (5 ∷ 7 ∷ []) (A 9) ∷ line 5 (7 ∷ 10 ∷ 0 ∷ []) (A 4) ∷ line 7 (7 ∷ 0 ∷ []) (L 4) ∷ line 3 (5 ∷ 20 ∷ []) (A 9)
    ∷ line 12 (5 ∷ []) (A 9) ∷ line 3 (6 ∷ 21 ∷ []) (A 9) ∷ line 18 (6 ∷ 5 ∷ []) (A 9) ∷ line 12 (6 ∷ []) (A 9) ∷ line 14 (5 ∷ 10 ∷ 0 ∷ []) (L 4) ∷ line 18 (5 ∷ 6 ∷ []) (A 4)
    ∷ line 17 (5 ∷ 6 ∷ 30 ∷ 31 ∷ 2 ∷ 3 ∷ []) (A 4) ∷ line 8 (5 ∷ 3 ∷ []) (A 4) ∷ line 10 (6 ∷ 21 ∷ []) (A 4) ∷ line 7 (5 ∷ 2 ∷ []) (R 2) ∷ line 7 (6 ∷ 2 ∷ []) (A 4) ∷ line 5 (6 ∷ 31 ∷ 4 ∷ []) (A 4)
    ∷ []

-- labels: a set above 255; a set that falls short by itself, of a higher level too, and a level; what is lost at a read, a write, an exec and a map, of labels that do not compare, too;
-- a freeze, which asks for no set; a need of two files, and without one of them
unfoldable pub label_lines : List Line
label_lines =
    line 1 (0 ∷ 9 ∷ 256 ∷ []) (R 6) ∷ line 1 (0 ∷ 16 ∷ 256 ∷ []) (R 6) ∷ line 1 (0 ∷ 9 ∷ []) (A 9) ∷ line 1 (0 ∷ 9 ∷ 256 ∷ []) (R 3) ∷ line 2 (0 ∷ 16 ∷ 0 ∷ []) (R 6) ∷ line 2 (0 ∷ 15 ∷ 256 ∷ []) (R 6) ∷ line 2 (0 ∷ 15 ∷ 255 ∷ []) (A 15) ∷ line 13 (0 ∷ []) (A 15)
    ∷ line 2 (1 ∷ 9 ∷ 3 ∷ []) (A 9) ∷ line 2 (2 ∷ 9 ∷ 5 ∷ []) (A 9) ∷ line 6 (0 ∷ 1 ∷ 0 ∷ []) (R 9) ∷ line 1 (1 ∷ 9 ∷ 7 ∷ []) (A 9) ∷ line 6 (1 ∷ 1 ∷ 0 ∷ []) (A 9) ∷ line 5 (1 ∷ 2 ∷ 1 ∷ []) (R 9) ∷ line 10 (1 ∷ 2 ∷ []) (R 9) ∷ line 14 (1 ∷ 2 ∷ 1 ∷ []) (R 9) ∷ line 11 (1 ∷ 0 ∷ []) (A 9)
    ∷ line 5 (1 ∷ 2 ∷ 1 ∷ []) (A 9) ∷ line 7 (1 ∷ 1 ∷ []) (M 9 1) ∷ line 7 (1 ∷ 1 ∷ []) (A 9) ∷ line 4 (1 ∷ 3 ∷ 2 ∷ 3 ∷ []) (A 9) ∷ line 5 (1 ∷ 1 ∷ 4 ∷ []) (A 9) ∷ line 7 (1 ∷ 4 ∷ []) (M 9 1) ∷ line 8 (1 ∷ 3 ∷ []) (M 9 1) ∷ line 8 (1 ∷ 3 ∷ []) (A 9)
    ∷ line 2 (4 ∷ 3 ∷ 254 ∷ []) (A 3) ∷ line 6 (0 ∷ 4 ∷ 0 ∷ []) (R 9) ∷ line 10 (1 ∷ 4 ∷ []) (M 3 1) ∷ line 3 (1 ∷ 5 ∷ []) (A 3) ∷ line 6 (1 ∷ 5 ∷ 5 ∷ []) (A 3) ∷ line 16 (3 ∷ []) (A 3) ∷ line 6 (0 ∷ 5 ∷ 0 ∷ []) (R 15) ∷ line 16 (4 ∷ []) (A 4) ∷ line 6 (0 ∷ 5 ∷ 0 ∷ []) (A 3) ∷ line 12 (1 ∷ []) (A 3)
    ∷ line 1 (3 ∷ 9 ∷ 255 ∷ []) (A 9) ∷ line 2 (6 ∷ 2 ∷ 2 ∷ []) (A 2) ∷ line 2 (7 ∷ 3 ∷ 1 ∷ []) (A 3) ∷ line 6 (3 ∷ 6 ∷ 0 ∷ []) (A 2) ∷ line 6 (3 ∷ 7 ∷ 1 ∷ []) (A 3) ∷ line 2 (8 ∷ 3 ∷ 2 ∷ []) (A 3) ∷ line 5 (3 ∷ 8 ∷ 2 ∷ []) (R 9) ∷ line 2 (9 ∷ 2 ∷ 3 ∷ []) (A 2) ∷ line 5 (3 ∷ 9 ∷ 2 ∷ []) (R 9)
    ∷ line 2 (10 ∷ 3 ∷ 3 ∷ []) (A 3) ∷ line 5 (3 ∷ 10 ∷ 2 ∷ []) (A 3) ∷ line 7 (3 ∷ 2 ∷ []) (M 3 6) ∷ line 9 (3 ∷ 4 ∷ []) (A 3) ∷ line 11 (3 ∷ 0 ∷ []) (A 3) ∷ line 11 (3 ∷ 2 ∷ []) (A 3) ∷ line 2 (11 ∷ 3 ∷ 1 ∷ []) (A 3) ∷ line 5 (3 ∷ 11 ∷ 2 ∷ []) (A 3) ∷ line 5 (4 ∷ 11 ∷ 3 ∷ []) (R 9) ∷ line 14 (3 ∷ 11 ∷ 3 ∷ []) (M 3 1) ∷ line 18 (3 ∷ 5 ∷ []) (A 3) ∷ line 3 (5 ∷ 12 ∷ []) (A 3) ∷ line 6 (5 ∷ 10 ∷ 0 ∷ []) (R 9)
    ∷ []

abbrev pub answered_so : Tables → List Line → Bool
answered_so t [] = true
answered_so t (l ∷ ls) = equal (answer t (decode l.given)) l.answered && answered_so (next t (decode l.given)) ls

pub rows_right : (answered_so empty base_lines && answered_so empty closed_lines && answered_so empty mapped_lines && answered_so empty channel_lines && answered_so crowd crowded_lines) ≡ true
unfolding base_lines closed_lines mapped_lines channel_lines crowded_lines Label in_scale marks_lost ones ones_in label level leq meet join bot need used cell whole speaks things handles edges safe decode rereads sheds ended effect refusal lowers answer
rows_right = refl

pub thread_rows_right : answered_so empty thread_lines ≡ true
unfolding thread_lines Label in_scale marks_lost ones ones_in label level leq meet join bot need used cell whole speaks things handles edges safe decode rereads sheds ended effect refusal lowers answer
thread_rows_right = refl

pub label_rows_right : answered_so empty label_lines ≡ true
unfolding label_lines Label in_scale marks_lost ones ones_in label level leq meet join bot need used cell whole speaks things handles edges safe decode rereads sheds ended effect refusal lowers answer
label_rows_right = refl

-- ── contents ──
abbrev way : Access → ℕ
way reads = 1
way writes = 2
way runs = 3

abbrev name : Thing → ℕ
name (subject n) = n
name (object n) = 40 + n

-- a handling that tells what it was told, in digits: position, way, receiver, source, receiver's content, source's
abbrev telling : Handling
telling i m a b x y = i * 10000000000 + way m * 1000000000 + name a * 10000000 + name b * 100000 + x * 100 + y

abbrev from_10 : Outside
from_10 i = 10 + i

-- register 1, admit 2 (and again, refused), open for reading, read
abbrev reading_list : List Raw
reading_list = call 2 (1 ∷ 2 ∷ 255 ∷ []) ∷ call 1 (2 ∷ 9 ∷ 255 ∷ []) ∷ call 1 (2 ∷ 9 ∷ 255 ∷ []) ∷ call 5 (2 ∷ 1 ∷ 0 ∷ []) ∷ call 7 (2 ∷ 0 ∷ []) ∷ []

-- register 1, admit 2, open for writing, write
abbrev writing_list : List Raw
writing_list = call 2 (1 ∷ 2 ∷ 255 ∷ []) ∷ call 1 (2 ∷ 9 ∷ 255 ∷ []) ∷ call 6 (2 ∷ 1 ∷ 0 ∷ []) ∷ call 8 (2 ∷ 0 ∷ []) ∷ []

-- register 1, admit 2, exec, fork to 3
abbrev running_list : List Raw
running_list = call 2 (1 ∷ 2 ∷ 255 ∷ []) ∷ call 1 (2 ∷ 9 ∷ 255 ∷ []) ∷ call 10 (2 ∷ 1 ∷ []) ∷ call 9 (2 ∷ 3 ∷ []) ∷ []

-- admit 2, register 1, map it, fork to 3, which maps it a second time and opens it for writing
abbrev mapping_list : List Raw
mapping_list = call 1 (2 ∷ 2 ∷ 255 ∷ []) ∷ call 2 (1 ∷ 2 ∷ 255 ∷ []) ∷ call 14 (2 ∷ 1 ∷ 0 ∷ []) ∷ call 9 (2 ∷ 3 ∷ []) ∷ call 14 (3 ∷ 1 ∷ 1 ∷ []) ∷ call 6 (3 ∷ 1 ∷ 2 ∷ []) ∷ []

-- then 3 writes, and both read once
abbrev mapped_list : List Raw
mapped_list = mapping_list ++ call 8 (3 ∷ 2 ∷ []) ∷ []

-- admit 0 and 1, a file, a pipe, connect
abbrev blank_list : List Raw
blank_list = call 1 (0 ∷ 9 ∷ 255 ∷ []) ∷ call 1 (1 ∷ 9 ∷ 255 ∷ []) ∷ call 3 (1 ∷ 3 ∷ []) ∷ call 4 (1 ∷ 4 ∷ 0 ∷ 1 ∷ []) ∷ call 17 (0 ∷ 1 ∷ 5 ∷ 6 ∷ 2 ∷ 3 ∷ []) ∷ []

-- register 1, admit 2, thread 3, which opens it and reads: both have what 3 read
abbrev thread_list : List Raw
thread_list = call 2 (1 ∷ 2 ∷ 255 ∷ []) ∷ call 1 (2 ∷ 9 ∷ 255 ∷ []) ∷ call 18 (2 ∷ 3 ∷ []) ∷ call 5 (3 ∷ 1 ∷ 0 ∷ []) ∷ call 7 (3 ∷ 0 ∷ []) ∷ []

-- admit 2, register 1, thread 3; both map it; 4 writes it: both read, 2 first
abbrev thread_mapped_list : List Raw
thread_mapped_list = call 1 (2 ∷ 2 ∷ 255 ∷ []) ∷ call 2 (1 ∷ 2 ∷ 255 ∷ []) ∷ call 18 (2 ∷ 3 ∷ []) ∷ call 14 (3 ∷ 1 ∷ 0 ∷ []) ∷ call 14 (2 ∷ 1 ∷ 0 ∷ []) ∷ call 1 (4 ∷ 2 ∷ 255 ∷ []) ∷ call 6 (4 ∷ 1 ∷ 0 ∷ []) ∷ call 8 (4 ∷ 0 ∷ []) ∷ []

pub thread_contents_right : ((book telling from_10 thread_list).content (subject 2) ≡ 41034101110) × ((book telling from_10 thread_list).content (subject 3) ≡ 41034101110)
    × ((book telling from_10 thread_mapped_list).content (subject 2) ≡ 31458828905722615) × ((book telling from_10 thread_mapped_list).content (subject 3) ≡ 31458828905722615)
unfolding Label in_scale marks_lost ones ones_in label level leq meet join bot need used cell whole speaks things handles edges safe decode rereads sheds ended effect refusal lowers answer
thread_contents_right = (refl, refl, refl, refl)

pub contents_right : ((book telling from_10 reading_list).content (subject 2) ≡ 41024101110) × ((book telling from_10 reading_list).content (object 1) ≡ 10)
    × ((book telling from_10 writing_list).content (object 1) ≡ 32410201011) × ((book telling from_10 writing_list).content (subject 2) ≡ 11)
    × ((book telling from_10 running_list).content (subject 3) ≡ 23024101110)
    × ((book telling from_10 mapped_list).content (object 1) ≡ 2205854502211) × ((book telling from_10 mapped_list).content (subject 2) ≡ 4369288703311)
    × ((book telling from_10 mapped_list).content (subject 3) ≡ 216611308713311)
    × ((book telling from_10 blank_list).content (object 3) ≡ 0) × ((book telling from_10 blank_list).content (object 4) ≡ 0)
    × ((book telling from_10 blank_list).content (object 5) ≡ 0) × ((book telling from_10 blank_list).content (object 6) ≡ 0)
unfolding Label in_scale marks_lost ones ones_in label level leq meet join bot need used cell whole speaks things handles edges safe decode rereads sheds ended effect refusal lowers answer
contents_right = (refl, refl, refl, refl, refl, refl, refl, refl, refl, refl, refl, refl)

-- the reads that follow the write, in their order; a marked mapping is one, and a handle that is no mapping is none
abbrev marked_list : List Raw
marked_list = mapping_list ++ call 15 (2 ∷ 0 ∷ []) ∷ call 1 (4 ∷ 2 ∷ 255 ∷ []) ∷ call 5 (4 ∷ 1 ∷ 0 ∷ []) ∷ []

pub rereads_right : rereads (after empty marked_list) (object 1) ≡
    mix reads (subject 2) (object 1) (subject 2) (object 1) ∷ mix reads (subject 3) (object 1) (subject 3) (object 1) ∷ []
unfolding Label in_scale marks_lost ones ones_in label level leq meet join bot need used cell whole speaks things handles edges safe decode rereads sheds ended effect refusal
rereads_right = refl

-- ── tables that no calls made ──
-- subject 0 writes object 0, of level 2, which subject 1, of level 9, has mapped
abbrev above : Kind → Tables
above k = record {
  at = λ x. elim x as (λ _. Option Entry) [ subject n ↦ some (entry running (label 9 255)) | object n ↦ some (entry k (label 2 255)) ];
  hand = λ s p. elim s as (λ _. Option Handle) [ zero ↦ elim p as (λ _. Option Handle) [ zero ↦ some (handle writing 0) | suc p ↦ none ] | suc s ↦ some (mapping 0) ];
  freeze = no_freeze;
  numbers = [];
  kin = eqb;
}

abbrev level_after : Tables → ℕ
level_after t = level (label_of (t.at (subject 1)))

-- a write to the file lowers who has it mapped, and says so; a write to a pipe of that level is followed by no read
pub above_right : (answer (above file) (access writing 0 0) ≡ lowered 2 0) × (level_after (effect (above file) (access writing 0 0)) ≡ 2)
    × (answer (above pipe) (access writing 0 0) ≡ allowed 2) × (level_after (effect (above pipe) (access writing 0 0)) ≡ 9)
unfolding Label in_scale marks_lost ones ones_in label level leq meet join bot need used cell whole speaks things handles edges safe decode rereads sheds ended effect refusal lowers answer
above_right = (refl, refl, refl, refl)

-- ── the tally ──
-- RULES K17: its last line, `end 1 0 1`; and a pipe, a fork, a close and an exit
abbrev counting_list : List Raw
counting_list = call 1 (0 ∷ 9 ∷ 255 ∷ []) ∷ call 4 (0 ∷ 5 ∷ 0 ∷ 1 ∷ []) ∷ call 9 (0 ∷ 1 ∷ []) ∷ call 4 (0 ∷ 5 ∷ 2 ∷ 3 ∷ []) ∷ call 11 (0 ∷ 0 ∷ []) ∷ call 12 (1 ∷ []) ∷ []

-- register 1, admit 0, two opens, one of them marked, exec
abbrev marking_list : List Raw
marking_list = call 2 (1 ∷ 9 ∷ 255 ∷ []) ∷ call 1 (0 ∷ 9 ∷ 255 ∷ []) ∷ call 5 (0 ∷ 1 ∷ 0 ∷ []) ∷ call 6 (0 ∷ 1 ∷ 1 ∷ []) ∷ call 15 (0 ∷ 1 ∷ []) ∷ call 10 (0 ∷ 1 ∷ []) ∷ []

-- three opens, one of them a map and one marked, exec
abbrev mapped_away_list : List Raw
mapped_away_list = call 2 (1 ∷ 9 ∷ 255 ∷ []) ∷ call 1 (0 ∷ 9 ∷ 255 ∷ []) ∷ call 5 (0 ∷ 1 ∷ 0 ∷ []) ∷ call 14 (0 ∷ 1 ∷ 1 ∷ []) ∷ call 6 (0 ∷ 1 ∷ 2 ∷ []) ∷ call 15 (0 ∷ 2 ∷ []) ∷ call 10 (0 ∷ 1 ∷ []) ∷ []

-- admit 0 and 1, connect them, exit
abbrev channel_list : List Raw
channel_list = call 1 (0 ∷ 9 ∷ 255 ∷ []) ∷ call 1 (1 ∷ 9 ∷ 255 ∷ []) ∷ call 17 (0 ∷ 1 ∷ 5 ∷ 6 ∷ 2 ∷ 3 ∷ []) ∷ call 17 (0 ∷ 1 ∷ 7 ∷ 8 ∷ 2 ∷ 4 ∷ []) ∷ call 12 (1 ∷ []) ∷ []

-- register 1, admit 0, thread 1 opens twice, 0 once, exec of 0
abbrev ousting_list : List Raw
ousting_list = call 2 (1 ∷ 9 ∷ 255 ∷ []) ∷ call 1 (0 ∷ 9 ∷ 255 ∷ []) ∷ call 18 (0 ∷ 1 ∷ []) ∷ call 5 (1 ∷ 1 ∷ 0 ∷ []) ∷ call 6 (1 ∷ 1 ∷ 1 ∷ []) ∷ call 5 (0 ∷ 1 ∷ 0 ∷ []) ∷ call 10 (0 ∷ 1 ∷ []) ∷ []

pub tally_right : (tally empty zeroed reading_list ≡ record { made = 1; gone = 0 }) × (tally empty zeroed counting_list ≡ record { made = 4; gone = 3 })
    × (tally empty zeroed marking_list ≡ record { made = 2; gone = 1 }) × (tally empty zeroed mapped_away_list ≡ record { made = 3; gone = 2 })
    × (tally empty zeroed channel_list ≡ record { made = 4; gone = 2 }) × (tally empty zeroed ousting_list ≡ record { made = 3; gone = 2 })
unfolding tallied Label in_scale marks_lost ones ones_in label level leq meet join bot need used cell whole speaks things handles edges safe decode rereads sheds ended effect refusal lowers answer
tally_right = (refl, refl, refl, refl, refl, refl)
