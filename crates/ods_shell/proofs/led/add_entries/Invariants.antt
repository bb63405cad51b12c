use Rattle.std.proofs.Common.{◌≡◌, ◌++◌, List, take}
use Rattle.ods_shell.specs.declared.found.Found.{Found}
use Rattle.ods_shell.specs.Named.{AreEntries}
use Rattle.ods_shell.proofs.led.add_entries.Given as goal

abbrev pub invariant-loop-entry : goal.invariant-loop-entry
invariant-loop-entry l =
    (more : List Found) × (l.found.items ≡ l.initial.found.items ++ more) × AreEntries l.disk.image.now l.disk.layout.now l.directory (take l.entry-index l.entries) more
