use Rattle.std.proofs.Common.{◌≡◌, ◌++◌, List, take}
use Rattle.ods_shell.specs.declared.folders.Directory.{Directory}
use Rattle.ods_shell.specs.Ways.{AreNamedIn}
use Rattle.ods_shell.proofs.ways.add_named.Given as goal

abbrev pub invariant-loop-entry : goal.invariant-loop-entry
invariant-loop-entry l = (more : List Directory) × (l.found.items ≡ l.initial.found.items ++ more) × AreNamedIn l.names (take l.entry-index l.entries) more
