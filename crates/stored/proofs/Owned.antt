-- What owning a value tells: how long the arrays of a monitor are, and that the counts of a tally fit. Assumes nothing.
use mathlib.Core.Path.{◌≡◌, sym, ◌∙◌}
use mathlib.Core.List.{List, map}
use Prim.Native.Nat.{ℕ}
use lib.ListN.{length, length-map}
use denote.Laws.{Is}
use denote.Struct.Declared.{row}
use denote.Struct.Laws as S
use borrow.Author.Rules.{rules}
use Rattle.gatekeeper.specs.declared.Monitor.{Monitor}
use Rattle.tally.specs.declared.Tally.{Tally}
use Rattle.gatekeeper.specs.contracts.Monitor as K
use Rattle.gatekeeper.proofs.Monitor.TheLaws as K'
use Rattle.tally.specs.contracts.Tally as Y
use Rattle.tally.proofs.Tally.TheLaws as Y'
use Rattle.stored.specs.State.Laws.{Long, Slim, Fits, narrow_of}

pub unmapped : (X Y : Type 0) (f : X → Y) (l : List X) (n : ℕ) → length (map f l) ≡ n → length l ≡ n
unmapped X Y f l n p = sym (length-map l f) ∙ p

pub monitor_long : (m : Monitor) → Is (row K.the_type) m (S.vals K.the_type K'.the_laws m) → Long m
monitor_long m g = record { subjects = search (rules, unmapped); objects = search (rules, unmapped); handles = search (rules, unmapped); needs = search rules; numbers = search rules; groups = search rules }

pub monitor_slim : (m : Monitor) → Is (row K.the_type) m (S.vals K.the_type K'.the_laws m) → Slim m
monitor_slim m g = record { needs = narrow_of 16 m.needs (λ j l. search rules); numbers = narrow_of 64 m.numbers (λ j l. search rules) }

pub tally_fits : (y : Tally) → Is (row Y.the_type) y (S.vals Y.the_type Y'.the_laws y) → Fits y
tally_fits y g = record { made = search rules; gone = search rules }
