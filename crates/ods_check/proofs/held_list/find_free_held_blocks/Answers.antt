use Rattle.std.proofs.Common.{ℕ, ◌<◌, length, arith, subst, sym}
use Rattle.ods_check.specs.HeldFree.{IsHeldFree}
use Rattle.ods_check.proofs.HeldFree.{held_free_inside, none_rising, rising_more}
use Rattle.ods_check.proofs.ListedBelow.{AreBelow, none_below, more_below, all_below}
use Rattle.ods_check.proofs.held_list.find_free_held_blocks.Goals as goal

pub loop-lbn-init : goal.loop-lbn-init
loop-lbn-init c = record {
  below = subst (λ xs. AreBelow (IsHeldFree c.args.disk.now.image.now c.args.disk.now.layout.now) 0 xs) (sym c.new-blocks.ensures.items) (none_below (IsHeldFree c.args.disk.now.image.now c.args.disk.now.layout.now));
  rising = none_rising c.new-blocks.result.items c.new-blocks.ensures.items;
}

pub loop-lbn-preserved : goal.loop-lbn-preserved
loop-lbn-preserved c =
    let Is : ℕ → Type 0 = IsHeldFree c.args.disk.now.image.now c.args.disk.now.layout.now in
    let k = c.loop-lbn.lbn in
    let old = c.loop-lbn.blocks.items in
    let new = c.push_if_free.new.blocks.items in
    let below : AreBelow Is k old = c.loop-lbn.invariant.below in
    record {
      below = more_below Is k old new below c.in_ok-push_if_free.ensures;
      rising = rising_more (Is k) k old new c.loop-lbn.invariant.rising (λ n has. ((below n).0 has).0) c.in_ok-push_if_free.ensures;
    }

pub returns-clause-all : goal.returns-clause-all
returns-clause-all c =
    let I = c.args.disk.now.image.now in
    let L = c.args.disk.now.layout.now in
    let end = c.loop-lbn-test.false in
    let size = c.len-lbn-end.ensures.value in
    all_below (IsHeldFree I L) c.loop-lbn.lbn c.loop-lbn.blocks.items c.loop-lbn.invariant.below (λ n h. let inside : n < length I = held_free_inside I L n h in omega (arith, end, size, inside))
