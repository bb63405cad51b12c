use Rattle.std.proofs.Common.{arith}
use Rattle.ods_check.proofs.CountingStrays.{strays_none, strays_all}
use Rattle.ods_check.proofs.strays.count_strays.Goals as goal

pub loop-number-init : goal.loop-number-init
loop-number-init c = (omega arith, strays_none c.args.disk.now.image.now c.args.disk.now.layout.now)

pub returns : goal.returns
returns c =
    let words = c.header_end-number-end.ensures.words in
    let end = c.loop-number-test.false in
    let low = c.loop-number.auto.number-end in
    strays_all c.args.disk.now.image.now c.args.disk.now.layout.now c.loop-number.number c.loop-number.strays.count c.loop-number.strays.first c.loop-number.invariant.1
    (omega (arith, words, low)) (λ n small used. let less = c.header_end-number-end.ensures.in_use n small used in omega (arith, less, end))
