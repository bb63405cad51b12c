use Rattle.std.proofs.Common.{take}
use Rattle.ods_paths.specs.Views.{said_files}
use Rattle.ods_shell.specs.Found.{AreFound}
use Rattle.ods_shell.proofs.finding.find_open.Given as goal

abbrev pub invariant-loop-place : goal.invariant-loop-place
invariant-loop-place l = AreFound l.disk.image.now l.disk.layout.now (said_files l.files) l.unsaid 0 (take l.place l.found.items) l.lines.items
