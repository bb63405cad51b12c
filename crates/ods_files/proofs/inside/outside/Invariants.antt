use Rattle.std.proofs.Common.{take}
use Rattle.ods_space.specs.Files.{AreInside}
use Rattle.ods_files.proofs.inside.outside.Given as goal

abbrev pub invariant-loop-lbn : goal.invariant-loop-lbn
invariant-loop-lbn l = AreInside l.image (take l.lbn-index l.lbns)
