use Rattle.std.proofs.Common.{take}
use Rattle.ods_upkeep.specs.Made.{AreMade}
use Rattle.ods_upkeep.proofs.directories.make_directories.Given as goal

abbrev pub invariant-loop-path : goal.invariant-loop-path
invariant-loop-path l = AreMade l.fn.owner l.fn.names l.fn.stamp (take l.path-index l.fn.paths) l.initial.filing l.filing
