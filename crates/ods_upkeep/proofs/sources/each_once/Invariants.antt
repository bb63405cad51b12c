use Rattle.std.proofs.Common.{[]}
use Rattle.ods_upkeep.specs.Once.{HasKeysOf}
use Rattle.ods_upkeep.specs.Sources.{AreFirst}
use Rattle.ods_upkeep.proofs.sources.each_once.Given as goal

abbrev pub invariant-loop-found : goal.invariant-loop-found
invariant-loop-found l = record { keys : HasKeysOf l.seen l.yielded; first : AreFirst [] l.yielded l.once.items }
