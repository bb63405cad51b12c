use Rattle.ods_check.specs.Findings.{IsLostHeader}
use Rattle.ods_check.proofs.NoneSoFar.{NoneBelow}
use Rattle.ods_check.proofs.unheld_list.first_lost.Given as goal

abbrev pub invariant-loop-number : goal.invariant-loop-number
invariant-loop-number l = NoneBelow (IsLostHeader l.fn.disk.image.now l.fn.disk.layout.now) l.number
