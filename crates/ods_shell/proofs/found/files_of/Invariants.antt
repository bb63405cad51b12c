use Rattle.std.proofs.Common.{take}
use Rattle.ods_shell.specs.Named.{AreLines, AreWithin}
use Rattle.ods_shell.proofs.found.files_of.Given as goal

abbrev pub invariant-loop-line : goal.invariant-loop-line
invariant-loop-line l = AreWithin l.directories l.lines → AreLines l.disk.image.now l.disk.layout.now l.directories (take l.line-index l.lines) l.all.items
