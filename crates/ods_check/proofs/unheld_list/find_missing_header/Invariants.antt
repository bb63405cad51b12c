use Rattle.ods_check.specs.Findings.{LacksHeader}
use Rattle.ods_check.proofs.NoneSoFar.{NoneBelow}
use Rattle.ods_check.proofs.unheld_list.find_missing_header.Given as goal

abbrev pub invariant-loop-number : goal.invariant-loop-number
invariant-loop-number l = NoneBelow (LacksHeader l.fn.disk.image.now l.fn.disk.layout.now) l.number
