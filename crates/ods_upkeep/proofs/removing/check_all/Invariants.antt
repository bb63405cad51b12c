use Rattle.std.specs.Prelude.{slice_index}
use Rattle.ods_upkeep.specs.Removed.{MayNotGo}
use Rattle.ods_upkeep.proofs.Stopping.{IsPassed}
use Rattle.ods_upkeep.proofs.removing.check_all.Given as goal

abbrev pub invariant-loop-found : goal.invariant-loop-found
invariant-loop-found l = IsPassed (MayNotGo l.removal.entry_alone (slice_index l.names)) l.all l.found-index
