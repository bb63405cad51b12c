use Rattle.std.proofs.Common.{◌≡◌, ◌≤◌, length}
use Rattle.std.specs.List.{filter, range_with_len}
use Rattle.ods_space.specs.Layout.{is_in_use}
use Rattle.ods_shell.proofs.space.numbers_in_use.Given as goal

abbrev pub invariant-loop-before : goal.invariant-loop-before
invariant-loop-before l = (l.count ≡ length (filter (is_in_use l.fn.disk.image.now l.fn.disk.layout.now.home) (range_with_len 1 l.before))) × (l.count ≤ l.before)
