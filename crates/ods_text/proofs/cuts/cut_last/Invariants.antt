use Rattle.std.proofs.Common.{◌≡◌, ◌+◌, ◌≤◌, length, take}
use Rattle.std.specs.Prelude.{not}
use Rattle.std.specs.List.{suffix_len}
use Rattle.ods_text.specs.Cuts.{is}
use Rattle.ods_text.proofs.cuts.cut_last.Given as goal

abbrev pub invariant-loop-kept : goal.invariant-loop-kept
invariant-loop-kept l =
    (l.kept ≤ length l.text)
    × (l.kept + suffix_len (λ c. not (is l.byte c)) l.text ≡ length l.text + suffix_len (λ c. not (is l.byte c)) (take l.kept l.text))

abbrev pub decreases-loop-kept : goal.decreases-loop-kept
decreases-loop-kept l = l.kept
