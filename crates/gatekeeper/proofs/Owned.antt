-- What owning a monitor tells of its arrays: how long they are. Assumes nothing.
use mathlib.Core.Path.{◌≡◌, sym, ◌∙◌}
use mathlib.Core.List.{List, map}
use Prim.Native.Nat.{ℕ}
use lib.ListN.{length, length-map}
use denote.Laws.{Is}
use denote.Struct.Declared.{row}
use denote.Struct.Laws as S
use borrow.Author.Rules.{rules}
use Rattle.gatekeeper.specs.declared.Monitor.{Monitor}
use Rattle.gatekeeper.specs.declared.Reply.{Reply}
use Rattle.groups.specs.declared.Remains.{Remains}
use Rattle.groups.specs.contracts.Remains as G
use Rattle.groups.proofs.Remains.TheLaws as G'
use Rattle.gatekeeper.specs.contracts.Reply as R
use Rattle.gatekeeper.proofs.Reply.TheLaws as R'
use Rattle.gatekeeper.specs.contracts.Monitor as K
use Rattle.gatekeeper.proofs.Monitor.TheLaws as K'

unmapped : (X Y : Type 0) (f : X → Y) (l : List X) (n : ℕ) → length (map f l) ≡ n → length l ≡ n
unmapped X Y f l n p = sym (length-map l f) ∙ p

abbrev pub Owned : Monitor → Type 0
Owned m = Is (row K.the_type) m (S.vals K.the_type K'.the_laws m)

pub subjects_long : (m : Monitor) → Owned m → length m.subjects ≡ 32
subjects_long m g = search (rules, unmapped)

pub objects_long : (m : Monitor) → Owned m → length m.objects ≡ 64
objects_long m g = search (rules, unmapped)

pub handles_long : (m : Monitor) → Owned m → length m.handles ≡ 512
handles_long m g = search (rules, unmapped)

pub needs_long : (m : Monitor) → Owned m → length m.needs ≡ 96
needs_long m g = search rules

pub groups_long : (m : Monitor) → Owned m → length m.groups ≡ 32
groups_long m g = search rules

-- the arrays have the lengths of the struct's
pub record Long (m : Monitor) : Type 0 where
  pub subjects : length m.subjects ≡ 32
  pub objects : length m.objects ≡ 64
  pub handles : length m.handles ≡ 512
  pub needs : length m.needs ≡ 96
  pub groups : length m.groups ≡ 32

pub owned_long : (m : Monitor) → Owned m → Long m
owned_long m g = record { subjects = subjects_long m g; objects = objects_long m g; handles = handles_long m g; needs = needs_long m g; groups = groups_long m g }

abbrev pub Replied : Reply → Type 0
Replied x = Is (row R.the_type) x (S.vals R.the_type R'.the_laws x)

pub reply_long : (x : Reply) → Replied x → length x.monitor.objects ≡ 64
reply_long x g = search (g, rules, unmapped)

-- what is left once mates are gone is as long as it was
abbrev pub Remained : Remains → Type 0
Remained x = Is (row G.the_type) x (S.vals G.the_type G'.the_laws x)

pub remains_long : (x : Remains) → Remained x → length x.subjects ≡ 32
remains_long x g = search (g, rules, unmapped)
