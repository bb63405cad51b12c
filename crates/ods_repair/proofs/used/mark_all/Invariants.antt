use Rattle.std.proofs.Common.{false, take}
use Rattle.ods_alloc.specs.Marks.{MarksBlocks}
use Rattle.ods_repair.proofs.used.mark_all.Given as goal

abbrev pub invariant-loop-lbn : goal.invariant-loop-lbn
invariant-loop-lbn l = MarksBlocks l.initial.image l.fn.layout (take l.lbn-index l.blocks) false l.image
