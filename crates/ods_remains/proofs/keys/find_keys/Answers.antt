use Rattle.std.proofs.Common.{◌≤◌, length, sym, subst, arith}
use Rattle.ods_remains.specs.Keys.{AreKeysBelow}
use Rattle.ods_remains.proofs.Keyed.{none_below, one_below_by}
use Rattle.ods_remains.proofs.keys.find_keys.Goals as goal

pub loop-lbn-init : goal.loop-lbn-init
loop-lbn-init c = subst (AreKeysBelow c.args.image.now 0) (sym c.new-keys.ensures.items) (none_below c.args.image.now)

pub loop-lbn-preserved : goal.loop-lbn-preserved
loop-lbn-preserved c =
    let size : length c.args.image.now ≤ 1048576 = c.len-lbn-end.ensures.image.size in
    let end = c.len-lbn-end.ensures.value in
    let below = c.loop-lbn-test.true in
    one_below_by c.args.image.now c.loop-lbn.lbn c.block.result.now c.loop-lbn.keys.items c.push_candidate.new.keys.items (omega (arith, size, end, below)) c.block.ensures.value c.loop-lbn.invariant c.in_ok-push_candidate.ensures
