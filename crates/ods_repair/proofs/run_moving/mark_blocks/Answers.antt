use Rattle.std.proofs.Common.{ℕ, ◌<◌, false, length, get_or, sym, subst, arith}
use Rattle.std.specs.List.{range_with_len}
use Rattle.ods_alloc.specs.Marks.{MarksBlocks}
use Rattle.ods_repair.proofs.Cleared.{none_cleared}
use Rattle.ods_repair.proofs.MovedRun.{one_marked}
use Rattle.ods_repair.proofs.run_moving.mark_blocks.Goals as goal

pub loop-k-init : goal.loop-k-init
loop-k-init c = none_cleared c.args.image.now c.args.layout.now c.requires.once

pub overflow_add-lbn : goal.overflow_add-lbn
overflow_add-lbn c = let size = c.len.ensures.value in let small = c.len.type_inv in let inside = c.requires.room in let few = c.loop-k-test.true in omega (arith, size, small, inside, few)

pub mark_one-requires : goal.mark_one-requires
mark_one-requires c = record { inside = subst (λ n. (j : ℕ) (d : ℕ) → j < length c.args.layout.now.bitmap → get_or c.args.layout.now.bitmap j d < n) (sym c.loop-k.invariant.size) c.requires.inside }

pub loop-k-preserved : goal.loop-k-preserved
loop-k-preserved c = one_marked c.args.image.now c.loop-k.image c.mark_one.new.image c.args.layout.now c.args.lbn c.loop-k.k c.requires.once c.loop-k.invariant c.mark_one.ensures

pub returns : goal.returns
returns c = subst (λ k. MarksBlocks c.args.image.now c.args.layout.now (range_with_len c.args.lbn k) false c.loop-k.image) (let end = c.loop-k-test.false in let most = c.loop-k.auto.k-end in omega (arith, end, most)) c.loop-k.invariant
