use Rattle.std.proofs.Common.{◌≡◌, ◌+◌, ◌≤◌, length, take}
use Rattle.std.specs.Prelude.{not}
use Rattle.std.specs.List.{suffix_len}
use Rattle.ods_upkeep.specs.Pieces.{ends_folder}
use Rattle.ods_upkeep.proofs.parts.last_part.Given as goal

abbrev pub invariant-loop-kept : goal.invariant-loop-kept
invariant-loop-kept l =
    (l.kept ≤ length l.path)
    × (l.kept + suffix_len (λ c. not (ends_folder c)) l.path ≡ length l.path + suffix_len (λ c. not (ends_folder c)) (take l.kept l.path))

abbrev pub decreases-loop-kept : goal.decreases-loop-kept
decreases-loop-kept l = l.kept
