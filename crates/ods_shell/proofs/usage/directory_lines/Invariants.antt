-- The lines of the directories so far.
use Rattle.std.proofs.Common.{◌≡◌}
use Rattle.std.specs.Prelude.{slice_get}
use Rattle.std.specs.List.{flat_map, range_with_len}
use Rattle.std.specs.String.{string_bytes}
use Rattle.ods_shell.specs.Usage.{blocks_at, directory_use}
use Rattle.ods_shell.proofs.usage.directory_lines.Given as goal

abbrev pub invariant-loop-place : goal.invariant-loop-place
invariant-loop-place l = string_bytes l.text ≡ flat_map (λ place. directory_use l.json l.image (slice_get l.directories place) (blocks_at l.uses place)) (range_with_len 0 l.place)
