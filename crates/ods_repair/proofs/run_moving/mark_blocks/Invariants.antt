use Rattle.std.proofs.Common.{false}
use Rattle.std.specs.List.{range_with_len}
use Rattle.ods_alloc.specs.Marks.{MarksBlocks}
use Rattle.ods_repair.proofs.run_moving.mark_blocks.Given as goal

abbrev pub invariant-loop-k : goal.invariant-loop-k
invariant-loop-k l = MarksBlocks l.initial.image l.fn.layout (range_with_len l.lbn l.k) false l.image
