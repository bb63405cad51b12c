-- The lines of the files so far.
use Rattle.std.proofs.Common.{◌≡◌, take}
use Rattle.std.specs.List.{flat_map}
use Rattle.std.specs.String.{string_bytes}
use Rattle.ods_shell.specs.Usage.{file_use}
use Rattle.ods_shell.proofs.usage.file_lines.Given as goal

abbrev pub invariant-loop-used : goal.invariant-loop-used
invariant-loop-used l = string_bytes l.text ≡ flat_map (file_use l.json l.image l.directories) (take l.used-index l.uses)
