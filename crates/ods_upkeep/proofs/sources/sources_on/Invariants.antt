use Rattle.std.proofs.Common.{take}
use Rattle.ods_upkeep.specs.Sources.{AreOfPaths}
use Rattle.ods_upkeep.proofs.sources.sources_on.Given as goal

abbrev pub invariant-loop-path : goal.invariant-loop-path
invariant-loop-path l = AreOfPaths l.disk.image.now l.disk.layout.now l.unsaid (take l.path-index l.paths) l.all.items
