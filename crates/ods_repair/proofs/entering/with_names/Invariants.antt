use Rattle.ods_check.specs.Repairs.{AreLost}
use Rattle.ods_repair.proofs.NamedLost.{AreUpTo}
use Rattle.ods_repair.proofs.entering.with_names.Given as goal

abbrev pub invariant-loop-i : goal.invariant-loop-i
invariant-loop-i l = (are : AreLost l.fn.disk.image.now l.fn.disk.layout.now l.lost) → AreUpTo l.fn.disk.image.now l.fn.disk.layout.now l.lost are l.i l.found.items
