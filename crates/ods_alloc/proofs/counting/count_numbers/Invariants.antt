use Rattle.std.proofs.Common.{◌≡◌, map}
use Rattle.std.specs.List.{range_with_len}
use Rattle.ods_alloc.specs.Counts.{clear_in}
use Rattle.ods_alloc.proofs.counting.count_numbers.Given as goal

abbrev pub invariant-loop-k : goal.invariant-loop-k
invariant-loop-k l = l.counts.items ≡ map (clear_in l.image l.home) (range_with_len 0 l.k)
