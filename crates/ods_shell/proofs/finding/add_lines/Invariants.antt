use Rattle.std.proofs.Common.{◌≡◌, ◌++◌, map, take}
use Rattle.ods_shell.specs.Found.{placed}
use Rattle.ods_shell.proofs.finding.add_lines.Given as goal

abbrev pub invariant-loop-entry : goal.invariant-loop-entry
invariant-loop-entry l = l.lines.items ≡ l.initial.lines.items ++ map (placed l.place) (take l.entry-index l.entries)
