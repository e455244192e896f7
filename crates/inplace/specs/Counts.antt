-- How the two counts are lent. Assumes nothing.
use Rattle.std.specs.Prelude.{List, ℕ, Option}
use Rattle.std.specs.Borrow.{LendsIf, Array, MutBor, Fml, u64}

-- the slice ends as what is lent of it ends, and else as it was
abbrev pub LendsCounts : MutBor (List ℕ) → Option (MutBor (List ℕ)) → Fml
LendsCounts s r = LendsIf (Array u64 0) (Array u64 0) s r (λ ws. ws) s.now
