use Rattle.std.proofs.Common.{refl, arith}
use Rattle.ods_init.proofs.Counting.{none_counted, one_more_counted, all_counted}
use Rattle.ods_init.proofs.control.control_block.Goals as goal

pub loop-k-init : goal.loop-k-init
loop-k-init c =
    none_counted c.args.blocks c.args.places c.zeros-block.result c.set_word.new.block _ c.zeros-block.ensures.value c.zeros-block.ensures.block c.set_word.ensures.stays c.set_word.ensures.changed refl

pub loop-k-preserved : goal.loop-k-preserved
loop-k-preserved c =
    one_more_counted c.args.blocks c.args.places c.loop-k.block c.set_word-in-loop-k.new.block c.set_word-in-loop-k-2.new.block c.loop-k.k _ _
    (omega (arith, c.loop-k-test.true, c.counted_blocks-count.ensures.few)) c.set_word-in-loop-k.ensures.stays c.set_word-in-loop-k-2.ensures.stays c.set_word-in-loop-k.ensures.changed c.set_word-in-loop-k-2.ensures.changed
    (omega (arith, c.saturating_sub-in-loop-k-2.ensures, c.min-end.ensures, c.saturating_sub-in-loop-k.ensures, c.min-first.ensures, c.saturating_sub.ensures))
    (omega (arith, c.min-first.ensures, c.saturating_sub.ensures)) c.loop-k.invariant

pub returns : goal.returns
returns c =
    all_counted c.args.blocks c.args.places c.loop-k.block c.set_word-2.new.block c.set_word-3.new.block c.loop-k.k c.counted_blocks-count.result _ _
    c.counted_blocks-count.ensures.value c.counted_blocks-count.ensures.few (omega (arith, c.loop-k-test.false, c.loop-k.auto)) c.set_word-2.ensures.stays c.set_word-2.ensures.changed c.set_word-3.ensures.changed refl refl c.loop-k.invariant
