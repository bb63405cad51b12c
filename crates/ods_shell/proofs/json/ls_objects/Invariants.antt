-- The objects of the lines so far.
use Rattle.std.proofs.Common.{take}
use Rattle.std.specs.String.{string_bytes}
use Rattle.ods_shell.specs.Listed.{AreObjects}
use Rattle.ods_shell.proofs.json.ls_objects.Given as goal

abbrev pub invariant-loop-line : goal.invariant-loop-line
invariant-loop-line l = AreObjects l.disk.image.now l.disk.layout.now l.image l.found.directories.items (take l.line-index l.line-items) (string_bytes l.text)
