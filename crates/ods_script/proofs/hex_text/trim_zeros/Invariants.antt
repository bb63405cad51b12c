use Rattle.std.proofs.Common.{◌≡◌, ◌+◌, ◌≤◌, ◌==◌, length, take}
use Rattle.std.specs.List.{suffix_len}
use Rattle.ods_script.proofs.hex_text.trim_zeros.Given as goal

abbrev pub invariant-loop-kept : goal.invariant-loop-kept
invariant-loop-kept l =
    (l.kept ≤ length l.bytes)
    × (l.kept + suffix_len (λ b. b == 0) l.bytes ≡ length l.bytes + suffix_len (λ b. b == 0) (take l.kept l.bytes))

abbrev pub decreases-loop-kept : goal.decreases-loop-kept
decreases-loop-kept l = l.kept
