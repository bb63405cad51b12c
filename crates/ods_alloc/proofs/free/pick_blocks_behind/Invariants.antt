use Rattle.std.proofs.Common.{◌+◌, ◌++◌, length}
use Rattle.ods_space.specs.Free.{is_free_block}
use Rattle.ods_alloc.proofs.Scans.{AreFound}
use Rattle.ods_alloc.proofs.free.pick_blocks_behind.Given as goal

abbrev pub invariant-loop-k : goal.invariant-loop-k
invariant-loop-k l = AreFound (is_free_block l.fn.disk.image.now l.fn.disk.layout.now) 0 (length l.fn.disk.image.now) (l.fn.lowest ++ l.blocks.items) l.from (length l.fn.lowest + l._k)
