use Rattle.ods_base.proofs.Images.{AreStored}
use Rattle.ods_base.proofs.read.store_whole_blocks.Given as goal

abbrev pub invariant-loop-i : goal.invariant-loop-i
invariant-loop-i l = AreStored l.initial.blocks.items l.blocks.items l.i l.bytes
