-- The records of bytes, and arrays of them, seen as the tables of the rules: the only bridge between the code's arrays and the model.
-- States RULES T13, T14, T28 to T31 and T36; what of a record is not read here is the free part of RULES T23. Assumes nothing.
use Rattle.std.specs.Prelude.{Bool, not, ◌||◌, cond, List, ℕ, ◌+◌, ◌*◌, get_or, ltb, eqb}
use Rattle.std.proofs.Math.Option.{Option, none, some}
use Rattle.model.specs.Label.{label}
use Rattle.model.specs.Flow.{Thing, subject, object}
use Rattle.model.specs.Tables.{running, file, pipe, reading, writing, Entry, entry, Tables, with_at, with_hand, places}
use Rattle.model.specs.Tables.{Handle as Held}
use Rattle.tables.specs.declared.Subject.{Subject}
use Rattle.tables.specs.declared.Object.{Object}
use Rattle.tables.specs.declared.Handle.{Handle}
pub mod Laws

-- ── one record ──
-- RULES T29: live 0 is free, any other is live
abbrev pub subject_entry : Subject → Option Entry
subject_entry x = cond (eqb x.live 0) none (some (entry running (label x.level x.shops)))

-- RULES T30: kind 0 is free, 1 a file, any other a pipe
abbrev pub object_entry : Object → Option Entry
object_entry x = cond (eqb x.kind 0) none (some (entry (cond (eqb x.kind 1) file pipe) (label x.level x.shops)))

-- RULES T31, T36: way 0 is an empty place, 1 reads, 3 is a mapping and reads, any other writes; mark 0 is not marked, any other is
abbrev pub reads_by : ℕ → Bool
reads_by w = eqb w 1 || eqb w 3

abbrev pub joins : Handle → Held
joins h = record { dir = cond (reads_by h.way) reading writing; to = h.object; marked = not (eqb h.mark 0); mapped = eqb h.way 3 }

abbrev pub held : Handle → Option Held
held h = cond (eqb h.way 0) none (some (joins h))

-- what stands where an array ends
abbrev pub no_subject : Subject
no_subject = record { live = 0; level = 0; shops = 0 }

abbrev pub no_object : Object
no_object = record { kind = 0; level = 0; shops = 0 }

abbrev pub no_handle : Handle
no_handle = record { way = 0; object = 0; mark = 0 }

-- ── arrays ──
abbrev pub entries : List Subject → List Object → Thing → Option Entry
entries ss os (subject n) = subject_entry (get_or ss n no_subject)
entries ss os (object n) = object_entry (get_or os n no_object)

-- RULES T14: the places of subject s are the handles from 16 s on
abbrev pub hands : List Handle → ℕ → ℕ → Option Held
hands hs s p = cond (ltb p places) (held (get_or hs (s * 16 + p) no_handle)) none

-- RULES T13: the three arrays as tables, which have of `rest` what the arrays do not say
unfoldable pub tables_of : Tables → List Subject → List Object → List Handle → Tables
tables_of rest ss os hs = with_hand (with_at rest (entries ss os)) (hands hs)

-- the places of one subject alone
abbrev pub along : List Handle → ℕ → Option Held
along hs p = cond (ltb p places) (held (get_or hs p no_handle)) none
