use Rattle.std.proofs.Common.{◌≡◌, ◌*◌, length}
use Rattle.std.specs.List.{filter, range_with_len}
use Rattle.ods_alloc.specs.Counts.{is_low_bit}
use Rattle.ods_alloc.proofs.counting.bits_set.Given as goal

abbrev pub invariant-loop-j : goal.invariant-loop-j
invariant-loop-j l = l.count ≡ length (filter (is_low_bit l.few l.block) (range_with_len 0 (64 * l.j)))
