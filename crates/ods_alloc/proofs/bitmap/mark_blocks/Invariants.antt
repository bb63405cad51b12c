use Rattle.std.proofs.Common.{take}
use Rattle.ods_space.specs.Draft.{applied}
use Rattle.ods_alloc.specs.Marks.{MarksBlocks}
use Rattle.ods_alloc.proofs.bitmap.mark_blocks.Given as goal

abbrev pub invariant-loop-lbn : goal.invariant-loop-lbn
invariant-loop-lbn l = MarksBlocks (applied l.fn.disk.image.now l.initial.draft) l.fn.disk.layout.now (take l.lbn-index l.blocks) l.free (applied l.fn.disk.image.now l.draft)
