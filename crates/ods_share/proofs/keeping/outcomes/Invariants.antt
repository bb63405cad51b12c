use Rattle.std.proofs.Common.{◌≡◌, map}
use Rattle.ods_share.specs.Keeping.{outcome_of}
use Rattle.ods_share.proofs.keeping.outcomes.Given as goal

abbrev pub invariant-loop-one : goal.invariant-loop-one
invariant-loop-one l = l.outcomes.items ≡ map outcome_of l.yielded
