use Rattle.ods_check.specs.Findings.{LacksHeader}
use Rattle.ods_check.proofs.NoneSoFar.{none_more}
use Rattle.ods_check.proofs.unheld_list.find_missing_header.Goals as goal

pub loop-number-preserved : goal.loop-number-preserved
loop-number-preserved c = none_more (LacksHeader c.args.disk.now.image.now c.args.disk.now.layout.now) c.loop-number.number c.loop-number.invariant c.if-lacks_header.ensures
