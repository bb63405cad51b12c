use Rattle.std.proofs.Common.{◌≡◌, ◌<◌, arith}
use Rattle.ods_order.specs.Order.{block_count}
use Rattle.ods_order.proofs.Blocks.{one_more_put, all_put}
use Rattle.ods_order.proofs.reading.put_blocks.Goals as goal

pub loop-lbn-preserved : goal.loop-lbn-preserved
loop-lbn-preserved c =
    let low : c.loop-lbn.lbn < block_count c.args.order = omega (arith, c.loop-lbn-test.true, c.block_count-lbn-end.ensures.value) in
    one_more_put c.args.order c.args.container.now c.loop-lbn.image c.set_block.new.self c.loop-lbn.lbn c.block_of-block.result low c.block_of-block.ensures.value c.set_block.ensures c.loop-lbn.invariant

pub returns : goal.returns
returns c =
    let all : c.loop-lbn.lbn ≡ block_count c.args.order = omega (arith, c.loop-lbn-test.false, c.loop-lbn.auto.lbn-end, c.block_count-lbn-end.ensures.value) in
    all_put c.args.order c.args.container.now c.loop-lbn.image c.loop-lbn.lbn c.requires.size all c.len.ensures.image c.loop-lbn.invariant
