-- `text::write_decimal` meets its contract: a first byte, or one byte after what the call of itself put. Assumes nothing.
use Rattle.std.proofs.Common.{◌≡◌, ℕ, ◌+◌, ◌/◌, ◌%◌, ◌≤◌, ◌<◌, List, length, ap, ⊎_elim, arith}
use Rattle.number.specs.Leb.Laws.{split}
use Rattle.number.specs.Put.{put}
use Rattle.text.specs.Decimal.{decimal}
use Rattle.text.specs.Decimal.Laws.{decimal_one, decimal_more, length_more}
use Rattle.text.specs.Parts.{Over}
use Rattle.text.specs.Parts.Laws.{untouched, put_over, over_put, byte_after}
use Rattle.text.proofs.+write_decimal.Goals as goal

-- a tenth has no more digits
tenth_fits : (n : ℕ) → length (decimal (n / 10)) ≤ length (decimal n)
tenth_fits n =
    ⊎_elim (λ l. omega (arith, ap length (decimal_one n l), ap length (decimal_one (n / 10) (omega arith)))) (λ l. omega (arith, length_more n l)) (split n 10)

-- the call of itself put the digits before the last
begun : (n : ℕ) (b : List ℕ) → 10 ≤ n → length (decimal n) ≤ length b → (at : ℕ) → at ≡ length (decimal (n / 10)) → (out : List ℕ) → out ≡ put (decimal (n / 10)) b
    → Over b (decimal (n / 10)) at out × (at < length b)
begun n b h fits at count out wrote =
    let room : at < length b = omega (arith, count, length_more n h, fits) in
    (put_over _ _ _ _ count (omega arith) wrote, room)

pub returns-clause-count : goal.returns-clause-count
returns-clause-count t c = omega (arith, c.write_decimal-at.ensures.count, length_more c.args.n (omega arith))

pub returns-clause-buffer : goal.returns-clause-buffer
returns-clause-buffer t c =
    let w = c.write_decimal-at in
    let (o, room) = begun c.args.n c.args.out.now (omega arith) (omega arith) _ w.ensures.count _ w.ensures.buffer in
    rw (decimal_more c.args.n (omega arith)) (over_put (byte_after o (c.args.n % 10 + 48) room))

pub bounds-out-0 : goal.bounds-out-0
bounds-out-0 t c = omega (arith, ap length (decimal_one c.args.n (omega arith)))

pub returns-then-n-lt10-clause-count : goal.returns-then-n-lt10-clause-count
returns-then-n-lt10-clause-count t c = omega (arith, ap length (decimal_one c.args.n (omega arith)))

pub returns-then-n-lt10-clause-buffer : goal.returns-then-n-lt10-clause-buffer
returns-then-n-lt10-clause-buffer t c =
    let e = decimal_one c.args.n (omega arith) in
    rw e (over_put (byte_after (untouched 0 c.args.out.now (omega arith)) (c.args.n + 48) (omega (arith, ap length e))))

pub write_decimal-at-requires : goal.write_decimal-at-requires
write_decimal-at-requires t c = (omega arith, omega (arith, tenth_fits c.args.n))

pub bounds-out-at : goal.bounds-out-at
bounds-out-at t c =
    let w = c.write_decimal-at in
    let (o, room) = begun c.args.n c.args.out.now (omega arith) (omega arith) _ w.ensures.count _ w.ensures.buffer in
    omega (arith, o.size, room)

pub overflow_add-result : goal.overflow_add-result
overflow_add-result t c = omega (arith, c.write_decimal-at.ensures.count, tenth_fits c.args.n, c.well_formed)
