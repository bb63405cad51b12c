use Rattle.std.proofs.Common.{◌≡◌, take}
use Rattle.ods_mount.specs.Faults.{contents_of}
use Rattle.ods_repair.proofs.doubling.copied_blocks.Given as goal

abbrev pub invariant-loop-lbn : goal.invariant-loop-lbn
invariant-loop-lbn l = l.blocks.items ≡ contents_of l.fn.image (take l.lbn-index l.lbns)
