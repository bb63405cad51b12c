use Rattle.std.proofs.Common.{take}
use Rattle.ods_upkeep.specs.Before.{IsPicked}
use Rattle.ods_upkeep.proofs.keeping.pick.Given as goal

abbrev pub invariant-loop-entry : goal.invariant-loop-entry
invariant-loop-entry l = IsPicked l.said (take l.entry-index l.entries) l.picked
