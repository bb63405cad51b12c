-- The lines so far.
use Rattle.std.proofs.Common.{◌≡◌, take}
use Rattle.std.specs.List.{flat_map}
use Rattle.std.specs.String.{string_bytes}
use Rattle.ods_shell.specs.Deletions.{deletion_line}
use Rattle.ods_shell.proofs.deletions.deletion_lines.Given as goal

abbrev pub invariant-loop-deletion : goal.invariant-loop-deletion
invariant-loop-deletion l = string_bytes l.text ≡ flat_map (deletion_line l.long) (take l.deletion-index l.all)
