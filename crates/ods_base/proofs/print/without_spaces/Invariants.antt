use Rattle.std.proofs.Common.{◌≡◌, ◌+◌, ◌≤◌, ◌==◌, length, take}
use Rattle.std.specs.List.{suffix_len}
use Rattle.ods_base.proofs.print.without_spaces.Given as goal

abbrev pub invariant-loop-kept : goal.invariant-loop-kept
invariant-loop-kept l =
    (l.kept ≤ length l.codes)
    × (l.kept + suffix_len (λ c. c == 0) l.codes ≡ length l.codes + suffix_len (λ c. c == 0) (take l.kept l.codes))

abbrev pub decreases-loop-kept : goal.decreases-loop-kept
decreases-loop-kept l = l.kept
