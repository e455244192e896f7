-- `journal::numbers_len` meets its contract: one more number takes as many bytes as it has, and at most `longest`. Assumes nothing.
use Rattle.std.proofs.Common.{refl, ap, ◌∙◌, take, get_or, length, arith, length-append}
use Rattle.number.specs.Leb.{encode}
use Rattle.number.specs.Leb.Laws.{encode_bytes}
use Rattle.journal.specs.Record.{encodes}
use Rattle.journal.specs.Record.Laws.{encodes_suc}
use Rattle.journal.proofs.numbers_len.Goals as goal

pub loop-n-init : goal.loop-n-init
unfolding encodes
loop-n-init c = (refl, omega arith)

pub overflow_add-sum : goal.overflow_add-sum
overflow_add-sum c =
    let a = c.args.numbers.now in
    let i = c.loop-n.n-index in
    let bytes = encode_bytes (get_or a i 0) (omega (arith, c.type_inv.numbers i)) in
    omega (arith, bytes, c.number_len-sum.ensures, c.requires)

pub loop-n-preserved : goal.loop-n-preserved
loop-n-preserved c =
    let a = c.args.numbers.now in
    let i = c.loop-n.n-index in
    let bytes = encode_bytes (get_or a i 0) (omega (arith, c.type_inv.numbers i)) in
    let more = encodes_suc a i c.loop-n-test.true in
    let next = ap length more ∙ length-append (encodes (take i a)) (encode (get_or a i 0)) in
    (omega (arith, next, c.number_len-sum.ensures), omega (arith, bytes, c.number_len-sum.ensures))
