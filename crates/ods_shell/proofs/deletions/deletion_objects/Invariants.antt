-- The objects so far.
use Rattle.std.proofs.Common.{◌≡◌, take}
use Rattle.std.specs.List.{flat_map}
use Rattle.std.specs.String.{string_bytes}
use Rattle.ods_shell.specs.Deletions.{deletion_members}
use Rattle.ods_shell.specs.Json.{object_line}
use Rattle.ods_shell.proofs.deletions.deletion_objects.Given as goal

abbrev pub invariant-loop-deletion : goal.invariant-loop-deletion
invariant-loop-deletion l = string_bytes l.text ≡ flat_map (λ d. object_line (deletion_members l.image d)) (take l.deletion-index l.all)
