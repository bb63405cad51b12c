use Rattle.ods_check.proofs.DanglingLines.{IsUpTo}
use Rattle.ods_check.proofs.dangling_list.push_unnamed.Given as goal

abbrev pub invariant-loop-i : goal.invariant-loop-i
invariant-loop-i l = IsUpTo l.fn.disk.image.now l.fn.disk.layout.now l.directory l.lines l.initial.found.items l.i l.found.items
