use Rattle.std.proofs.Common.{◌≡◌, min, arith}
use Rattle.ods_init.proofs.BitRuns.{no_bits, one_more_bit, all_bits}
use Rattle.ods_init.proofs.bits.bits_between.Goals as goal

pub loop-i-init : goal.loop-i-init
loop-i-init c = no_bits c.zeros-block.result c.args.from c.min-i.result c.zeros-block.ensures.value (omega (arith, c.min-i.ensures))

pub loop-i-preserved : goal.loop-i-preserved
loop-i-preserved c =
    one_more_bit c.loop-i.block c.set_bit.new.block c.args.from c.loop-i.i (omega (arith, c.loop-i.auto.i, c.min-i.ensures, c.loop-i-test.true)) c.loop-i.invariant c.set_bit.ensures.bits

pub returns : goal.returns
returns c =
    let last : c.loop-i.i ≡ min c.args.end 4096 = omega (arith, c.loop-i-test.false, c.loop-i.auto, c.min-i.ensures, c.min-end.ensures) in
    all_bits c.loop-i.block c.args.from c.args.end c.loop-i.i last c.loop-i.invariant
