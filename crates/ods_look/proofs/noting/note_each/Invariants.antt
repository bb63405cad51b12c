use Rattle.std.proofs.Common.{◌≡◌, ◌++◌, length}
use Rattle.ods_space.specs.Files.{AreInside}
use Rattle.ods_look.specs.Blocks.{AreTaggedBlocks}
use Rattle.ods_look.proofs.noting.note_each.Given as goal

abbrev pub invariant-loop-lbn : goal.invariant-loop-lbn
invariant-loop-lbn l = record {
  inside : AreInside l.image l.lbns;
  noted : l.blocks.items ++ l.lbns ≡ l.initial.blocks.items ++ l.initial.lbns;
  tagged : AreTaggedBlocks l.image l.blocks.items l.tags.items;
}

abbrev pub decreases-loop-lbn : goal.decreases-loop-lbn
decreases-loop-lbn l = length l.lbns
