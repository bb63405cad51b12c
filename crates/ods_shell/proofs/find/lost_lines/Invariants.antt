-- The files are flagged that the entries of the directories up to this number name.
use Rattle.ods_shell.proofs.Unreached.{AreNoted}
use Rattle.ods_shell.proofs.find.lost_lines.Given as goal

abbrev pub invariant-loop-before : goal.invariant-loop-before
invariant-loop-before l = AreNoted l.disk.image.now l.disk.layout.now l.before l.is_named.items
