use Rattle.ods_check.specs.Findings.{IsHeldByNone}
use Rattle.ods_check.proofs.ListedBelow.{AreBelow}
use Rattle.ods_check.proofs.unheld_list.find_unheld_blocks.Given as goal

abbrev pub invariant-loop-lbn : goal.invariant-loop-lbn
invariant-loop-lbn l = AreBelow (IsHeldByNone l.fn.disk.image.now l.fn.disk.layout.now) l.lbn l.blocks.items
