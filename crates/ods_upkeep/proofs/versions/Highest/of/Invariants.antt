use Rattle.std.proofs.Common.{take}
use Rattle.ods_upkeep.specs.Versions.{AreHighestOf, version_in}
use Rattle.ods_upkeep.proofs.versions.Highest.of.Given as goal

abbrev pub invariant-loop-entry : goal.invariant-loop-entry
invariant-loop-entry l = AreHighestOf (take l.entry-index l.entry-items) (version_in l.highest)
