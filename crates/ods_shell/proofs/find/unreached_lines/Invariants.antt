-- The files are flagged that the lines so far name.
use Rattle.std.proofs.Common.{take}
use Rattle.ods_shell.specs.There.{AreFlags, IsAmong, ids_in}
use Rattle.ods_shell.proofs.find.unreached_lines.Given as goal

abbrev pub invariant-loop-line : goal.invariant-loop-line
invariant-loop-line l = AreFlags (IsAmong l.disk.image.now l.disk.layout.now (ids_in (take l.line-index l.line-items))) l.is_reached.items
