use Rattle.std.proofs.Common.{take}
use Rattle.std.specs.List.{All}
use Rattle.ods_upkeep.specs.Emptied.{IsEmptyDirectory}
use Rattle.ods_upkeep.proofs.directories.check_all_empty.Given as goal

abbrev pub invariant-loop-found : goal.invariant-loop-found
invariant-loop-found l = All (IsEmptyDirectory l.volume.image l.volume.layout) (take l.found-index l.all)
