use Rattle.ods_check.proofs.DanglingLines.{AreBelow}
use Rattle.ods_check.proofs.dangling_list.find_dangling.Given as goal

abbrev pub invariant-loop-number : goal.invariant-loop-number
invariant-loop-number l = AreBelow l.fn.disk.image.now l.fn.disk.layout.now l.number l.found.items
