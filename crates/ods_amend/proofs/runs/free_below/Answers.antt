use Rattle.ods_amend.proofs.RunsFound.{free_more}
use Rattle.ods_amend.proofs.runs.free_below.Goals as goal

pub loop-at-preserved : goal.loop-at-preserved
loop-at-preserved c =
    free_more c.args.disk.now.image.now c.args.disk.now.layout.now c.loop-at.at c.loop-at.blocks.items c.push_if_free.new.blocks.items c.loop-at.invariant c.in_ok-push_if_free.ensures
