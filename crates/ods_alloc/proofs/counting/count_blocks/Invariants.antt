use Rattle.std.proofs.Common.{◌≡◌, map}
use Rattle.std.specs.List.{range_with_len}
use Rattle.ods_alloc.specs.Counts.{free_in}
use Rattle.ods_alloc.proofs.counting.count_blocks.Given as goal

abbrev pub invariant-loop-k : goal.invariant-loop-k
invariant-loop-k l = l.counts.items ≡ map (free_in l.fn.disk.image.now l.fn.disk.layout.now) (range_with_len 0 l.k)
