use Rattle.std.proofs.Common.{arith, subst, sym}
use Rattle.ods_check.specs.Findings.{IsHeldByNone}
use Rattle.ods_check.proofs.ListedBelow.{AreBelow, none_below, more_below, all_below}
use Rattle.ods_check.proofs.unheld_list.find_unheld_blocks.Goals as goal

pub loop-lbn-init : goal.loop-lbn-init
loop-lbn-init c = subst (λ xs. AreBelow (IsHeldByNone c.args.disk.now.image.now c.args.disk.now.layout.now) 0 xs) (sym c.new-blocks.ensures.items) (none_below (IsHeldByNone c.args.disk.now.image.now c.args.disk.now.layout.now))

pub loop-lbn-preserved : goal.loop-lbn-preserved
loop-lbn-preserved c =
    more_below (IsHeldByNone c.args.disk.now.image.now c.args.disk.now.layout.now) c.loop-lbn.lbn c.loop-lbn.blocks.items c.push_if_unheld.new.blocks.items c.loop-lbn.invariant c.in_ok-push_if_unheld.ensures

pub returns : goal.returns
returns c =
    let end = c.loop-lbn-test.false in
    let size = c.len-lbn-end.ensures.value in
    all_below (IsHeldByNone c.args.disk.now.image.now c.args.disk.now.layout.now) c.loop-lbn.lbn c.loop-lbn.blocks.items c.loop-lbn.invariant (λ n h. let inside = h.marked.inside in omega (arith, end, size, inside))
