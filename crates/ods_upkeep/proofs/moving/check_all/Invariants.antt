use Rattle.ods_upkeep.specs.Moved.{MayNotMove}
use Rattle.ods_upkeep.proofs.Stopping.{IsPassed}
use Rattle.ods_upkeep.proofs.moving.check_all.Given as goal

abbrev pub invariant-loop-found : goal.invariant-loop-found
invariant-loop-found l = IsPassed (MayNotMove l.volume.image l.volume.layout l.target) l.all l.found-index
