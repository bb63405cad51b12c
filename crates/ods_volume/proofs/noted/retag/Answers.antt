use Rattle.std.proofs.Common.{◌≤◌, subst, arith}
use Rattle.ods_volume.proofs.Retagged.{set_all, set_first, set_next}
use Rattle.ods_volume.proofs.noted.retag.Goals as goal

pub set_tags-requires : goal.set_tags-requires
set_tags-requires c = c.loop-at.invariant.set.long

pub loop-at-init : goal.loop-at-init
loop-at-init c = record {
  size = c.len-end.ensures.value;
  most = c.next_change-at.ensures.below;
  set = set_first c.args.image.now c.args.draft.now c.args.blocks.now c.requires.inside c.args.tags.now.items c.next_change-at.result (λ x low. c.next_change-at.ensures.passed x (omega arith) low) c.requires.before;
}

pub loop-at-preserved : goal.loop-at-preserved
loop-at-preserved c =
    let next = c.next_change-at-in-loop-at.ensures in
    let above = next.above in
    record {
      size = c.loop-at.invariant.size;
      most = next.below;
      set = set_next c.args.image.now c.args.draft.now c.args.blocks.now c.requires.inside c.loop-at.tags.items c.set_tags.new.tags.items c.loop-at.at c.next_change-at-in-loop-at.result c.block_tags.result c.block.result.now
          c.loop-at.invariant.set (omega (arith, above)) (λ x from low. next.passed x (omega (arith, from)) low) c.block_tags.ensures c.block.ensures.value c.set_tags.ensures.long c.set_tags.ensures.own c.set_tags.ensures.others;
    }

pub returns : goal.returns
returns c =
    set_all c.args.image.now c.args.draft.now c.args.blocks.now c.requires.inside c.loop-at.tags.items c.loop-at.at (subst (λ n. n ≤ c.loop-at.at) c.loop-at.invariant.size c.loop-at-test.false) c.loop-at.invariant.set
