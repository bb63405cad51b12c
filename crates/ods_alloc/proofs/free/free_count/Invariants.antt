use Rattle.std.proofs.Common.{◌≡◌, ◌*◌, length}
use Rattle.std.specs.List.{filter, range_with_len}
use Rattle.ods_space.specs.Free.{is_free_block}
use Rattle.ods_alloc.proofs.free.free_count.Given as goal

abbrev pub invariant-loop-k : goal.invariant-loop-k
invariant-loop-k l = l.count ≡ length (filter (is_free_block l.fn.disk.image.now l.fn.disk.layout.now) (range_with_len 0 (64 * l.k)))
