use Rattle.ods_check.specs.Findings.{IsLostHeader}
use Rattle.ods_check.proofs.NoneSoFar.{none_more}
use Rattle.ods_check.proofs.unheld_list.first_lost.Goals as goal

pub loop-number-preserved : goal.loop-number-preserved
loop-number-preserved c = none_more (IsLostHeader c.args.disk.now.image.now c.args.disk.now.layout.now) c.loop-number.number c.loop-number.invariant c.if-is_lost_header.ensures
