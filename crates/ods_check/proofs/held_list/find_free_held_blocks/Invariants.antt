use Rattle.std.specs.List.Sorted.{IsStrictlyIncreasing}
use Rattle.ods_check.specs.HeldFree.{IsHeldFree}
use Rattle.ods_check.proofs.ListedBelow.{AreBelow}
use Rattle.ods_check.proofs.held_list.find_free_held_blocks.Given as goal

abbrev pub invariant-loop-lbn : goal.invariant-loop-lbn
invariant-loop-lbn l = record {
  below : AreBelow (IsHeldFree l.fn.disk.image.now l.fn.disk.layout.now) l.lbn l.blocks.items;
  rising : IsStrictlyIncreasing l.blocks.items;
}
