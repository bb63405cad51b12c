use Rattle.ods_check.proofs.DanglingLines.{AreLostBelow}
use Rattle.ods_check.proofs.lost_list.find_lost.Given as goal

abbrev pub invariant-loop-number : goal.invariant-loop-number
invariant-loop-number l = AreLostBelow l.fn.disk.image.now l.fn.disk.layout.now l.number l.found.items
