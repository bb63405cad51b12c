use Rattle.std.proofs.Common.{◌+◌, sym, subst, arith}
use Rattle.ods_repair.specs.Moved.{IsCopied}
use Rattle.ods_repair.proofs.MovedRun.{none_copied, one_copied}
use Rattle.ods_repair.proofs.run_moving.copy_blocks.Goals as goal

pub loop-k-init : goal.loop-k-init
loop-k-init c = none_copied c.args.image.now c.args.from c.args.to

pub overflow_add-from : goal.overflow_add-from
overflow_add-from c = let size = c.len.ensures.value in let small = c.len.type_inv in let inside = c.requires.inside in let few = c.loop-k-test.true in omega (arith, size, small, inside, few)

pub overflow_add-to : goal.overflow_add-to
overflow_add-to c = let size = c.len.ensures.value in let small = c.len.type_inv in let inside = c.requires.room in let few = c.loop-k-test.true in omega (arith, size, small, inside, few)

pub block-block-requires : goal.block-block-requires
block-block-requires c = let long = c.loop-k.invariant.long in let inside = c.requires.inside in let few = c.loop-k-test.true in omega (arith, long, inside, few)

pub set_block-requires : goal.set_block-requires
set_block-requires c = let long = c.loop-k.invariant.long in let inside = c.requires.room in let few = c.loop-k-test.true in omega (arith, long, inside, few)

pub loop-k-preserved : goal.loop-k-preserved
loop-k-preserved c =
    subst (IsCopied c.args.image.now c.args.from c.args.to (c.loop-k.k + 1)) (sym c.set_block.ensures)
    (one_copied c.args.image.now c.loop-k.image c.args.from c.args.to c.loop-k.k c.args.count c.block-block.result.now c.loop-k-test.true c.requires.room c.requires.apart c.loop-k.invariant c.block-block.ensures.value)

pub returns : goal.returns
returns c = subst (λ k. IsCopied c.args.image.now c.args.from c.args.to k c.loop-k.image) (let end = c.loop-k-test.false in let most = c.loop-k.auto.k-end in omega (arith, end, most)) c.loop-k.invariant
