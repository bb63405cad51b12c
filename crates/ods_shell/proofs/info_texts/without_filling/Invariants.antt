use Rattle.std.proofs.Common.{◌≡◌, ◌+◌, ◌≤◌, length, take}
use Rattle.std.specs.List.{suffix_len}
use Rattle.ods_shell.specs.Info.{is_filling}
use Rattle.ods_shell.proofs.info_texts.without_filling.Given as goal

abbrev pub invariant-loop-kept : goal.invariant-loop-kept
invariant-loop-kept l =
    (l.kept ≤ length l.label)
    × (l.kept + suffix_len is_filling l.label ≡ length l.label + suffix_len is_filling (take l.kept l.label))

abbrev pub decreases-loop-kept : goal.decreases-loop-kept
decreases-loop-kept l = l.kept
