use Rattle.ods_remains.proofs.FormerFiles.{AreUpTo}
use Rattle.ods_remains.proofs.deletions.deleted_files.Given as goal

abbrev pub invariant-loop-before : goal.invariant-loop-before
invariant-loop-before l = AreUpTo l.fn.disk.image.now l.fn.disk.layout.now l.before l.numbers.items
